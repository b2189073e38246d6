-- The texts of the program, each one line.
use Rattle.std.specs.Prelude.{ℕ, List, [], ◌∷◌, ◌++◌, codes, decimal}
use Rattle.position.specs.declared.games.InputError.{InputError}
use Rattle.position.specs.Games.{code_of, words_of}

abbrev pub usage_text : List ℕ
usage_text = codes "usage: dosolve solve, check, bounds, sample N, exploit SIDE or play COUNT SEED\n"

-- the number of the refusal, and the reason
abbrev pub input_text : InputError → List ℕ
input_text e = codes "input " ++ (decimal (code_of e) ++ 32 ∷ (words_of e ++ 10 ∷ []))
