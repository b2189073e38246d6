-- What is told of a refusal: its number and its words.
use Rattle.std.specs.Prelude.{ℕ, List, codes}
use Rattle.oshi_zumo.specs.declared.OshiError.{OshiError}
use Rattle.oshi_zumo.specs.declared.OshiError.TheVariants.{SizeRange, CoinRange, LeastRange, PlaceRange}

abbrev pub number_of : OshiError → ℕ
number_of SizeRange = 31
number_of CoinRange = 32
number_of LeastRange = 33
number_of PlaceRange = 34

abbrev pub words_of : OshiError → List ℕ
words_of SizeRange = codes "size range"
words_of CoinRange = codes "coin range"
words_of LeastRange = codes "least range"
words_of PlaceRange = codes "place range"
