use Rattle.std.proofs.Common.{◌≡◌, ℕ, ◌%◌, ◌≤◌, true, eqb, refl, sym, ap, ◌∙◌, arith}
use Rattle.std.proofs.lemmas.Bool.{agree_below, agree_below_at}
use Rattle.tron.specs.Cells.{is_taken}
use Rattle.tron.proofs.position.western_column.Goals as goal

-- each bit, compared with the column of its cell
column : (bits width known : ℕ) → width ≡ known → agree_below (is_taken bits) (λ cell. eqb (cell % known) 0) 37 ≡ true → (cell : ℕ) → cell ≤ 36 → is_taken bits cell ≡ eqb (cell % width) 0
column bits width known is agree cell l = agree_below_at (is_taken bits) (λ other. eqb (other % known) 0) 37 cell agree (omega arith) ∙ ap (λ (w : ℕ). eqb (cell % w) 0) (sym is)

pub returns-in-1 : goal.returns-in-1
returns-in-1 c = column 0x1fffffffff c.args.width 1 c.in-1.is refl

pub returns-in-2 : goal.returns-in-2
returns-in-2 c = column 0x1555555555 c.args.width 2 c.in-2.is refl

pub returns-in-3 : goal.returns-in-3
returns-in-3 c = column 0x1249249249 c.args.width 3 c.in-3.is refl

pub returns-in-4 : goal.returns-in-4
returns-in-4 c = column 0x1111111111 c.args.width 4 c.in-4.is refl

pub returns-in-5 : goal.returns-in-5
returns-in-5 c = column 0x0842108421 c.args.width 5 c.in-5.is refl

pub returns-in_default : goal.returns-in_default
returns-in_default c = let six : c.args.width ≡ 6 = omega arith in column 0x1041041041 c.args.width 6 six refl
