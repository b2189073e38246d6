-- What is told of a refusal: its number and its words.
use Rattle.std.specs.Prelude.{ℕ, List, ◌++◌, codes, decimal}
use Rattle.text.specs.Texts.{side_word}
use Rattle.pursuit.specs.declared.PursuitError.{PursuitError}
use Rattle.pursuit.specs.declared.PursuitError.TheVariants.{NodesRange, EdgeOdd, EdgeRange, EdgeLoop, PlaceRange, RoundsRange}

abbrev pub number_of : PursuitError → ℕ
number_of NodesRange = 71
number_of EdgeOdd = 72
number_of (EdgeRange place) = 73
number_of (EdgeLoop place) = 74
number_of (PlaceRange side) = 75
number_of RoundsRange = 76

abbrev pub words_of : PursuitError → List ℕ
words_of NodesRange = codes "nodes range"
words_of EdgeOdd = codes "edge odd"
words_of (EdgeRange place) = codes "edge range " ++ decimal place
words_of (EdgeLoop place) = codes "edge loop " ++ decimal place
words_of (PlaceRange side) = codes "place range " ++ side_word side
words_of RoundsRange = codes "rounds range"
