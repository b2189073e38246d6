-- What is told of a refusal: its number and its words.
use Rattle.std.specs.Prelude.{ℕ, List, ◌++◌, codes, decimal}
use Rattle.tron.specs.declared.TronError.{TronError}
use Rattle.tron.specs.declared.TronError.TheVariants.{GridRange, CellRange, HeadInWall, HeadsMeet}

abbrev pub number_of : TronError → ℕ
number_of GridRange = 41
number_of (CellRange place) = 42
number_of HeadInWall = 43
number_of HeadsMeet = 44

abbrev pub words_of : TronError → List ℕ
words_of GridRange = codes "grid range"
words_of (CellRange place) = codes "cell range " ++ decimal place
words_of HeadInWall = codes "head in wall"
words_of HeadsMeet = codes "heads meet"
