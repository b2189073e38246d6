-- What is told of a refusal: its number and its words.
use Rattle.std.specs.Prelude.{ℕ, List, ◌∷◌, ◌++◌, codes, decimal}
use Rattle.text.specs.Texts.{side_word}
use Rattle.goofspiel.specs.declared.GoofspielError.{GoofspielError}
use Rattle.goofspiel.specs.declared.GoofspielError.TheVariants.{CardRange, CardTwice, Lengths, PrizeRange, ScoreRange}

abbrev pub number_of : GoofspielError → ℕ
number_of (CardRange side place) = 21
number_of (CardTwice side card) = 22
number_of (Lengths one two prizes) = 23
number_of (PrizeRange place) = 24
number_of ScoreRange = 25

abbrev pub words_of : GoofspielError → List ℕ
words_of (CardRange side place) = codes "card range " ++ (side_word side ++ 32 ∷ decimal place)
words_of (CardTwice side card) = codes "card twice " ++ (side_word side ++ 32 ∷ decimal card)
words_of (Lengths one two prizes) = codes "lengths " ++ (decimal one ++ 32 ∷ (decimal two ++ 32 ∷ decimal prizes))
words_of (PrizeRange place) = codes "prize range " ++ decimal place
words_of ScoreRange = codes "score range"
