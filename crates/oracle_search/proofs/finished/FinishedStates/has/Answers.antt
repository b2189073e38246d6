use Rattle.std.proofs.Common.{◌≡◌, ℕ, Bool, true, false, eqb, List, MatchBool, sym, ap, ◌∙◌, arith}
use Rattle.std.proofs.lemmas.Bool.{eqb-true}
use Rattle.std.proofs.lemmas.Bool.Decides.{nat_tests}
use Rattle.std.proofs.lemmas.Map.Views.{Contains-from_any, list_any-from_Contains}
use Rattle.std.specs.Cmp.{IsEquivalence}
use Rattle.std.specs.List.{Contains, list_any}
use Rattle.oracle_search.specs.Finished.{FinishedView}
use Rattle.oracle_search.proofs.finished.FinishedStates.has.Goals as goal

same_key : IsEquivalence eqb
same_key = record { refl = λ x. grind (arith, nat_tests); symm = λ x y. grind (arith, nat_tests); congr = λ x y z e. ap (λ (k : ℕ). eqb k z) (eqb-true x y e) }

told : (b : Bool) (keys : List ℕ) (key : ℕ) → b ≡ list_any (eqb key) keys → MatchBool b (Contains keys key) (Contains keys key → ⊥)
told true keys key e = Contains-from_any eqb-true key keys (sym e)
told false keys key e = λ h. let found : list_any (eqb key) keys ≡ true = list_any-from_Contains same_key key keys h in let wrong : false ≡ true = e ∙ found in absurd (cc)

pub returns : goal.returns
returns c = told c.contains.result c.args.self.now.keys c.args.key (c.contains.ensures ∙ ap (λ (v : FinishedView). list_any (eqb c.args.key) v.keys) c.self.view_is)
