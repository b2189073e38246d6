use Rattle.std.proofs.Common.{rules, ◌≡◌, ℕ, Some}
use Rattle.std.proofs.lemmas.Result.{IfOk-weaker, on_err_weaker}
use Rattle.shared_board.specs.Passes.{known_key}
use Rattle.shared_board.proofs.SeenLemmas.{key_of_has, has_key_of}
use Rattle.shared_board.proofs.DeskLemmas.{ok_always, claim_later, claim_opened, claim_unseen, claim_full}
use Rattle.shared_board.proofs.desk.DeskBounds.claim.Goals as goal

pub returns : goal.returns
returns g c = let model = g.G.Game.model in let old = c.args.self.now in let new = c.claim_key.new.self in let did = c.claim_key.ensures in let is = did.view.1 in record {
  later = claim_later model old new did.view.0 is did.apart;
  entries = search rules;
  ok = IfOk-weaker c.claim_key.result _ (λ row. known_key new.pass.view.keys row ≡ Some c.args.key)
      (λ row h. key_of_has new.pass.view.keys row c.args.key (λ l t. did.apart.one_key row l c.args.key t h) h) did.ok;
  alone = IfOk-weaker c.claim_key.result _ (λ row. (other : ℕ) → known_key new.pass.view.keys other ≡ Some c.args.key → other ≡ row)
      (λ row h other e. did.apart.one_row other row c.args.key (has_key_of new.pass.view.keys other c.args.key e) h) did.ok;
  opened = ok_always c.claim_key.result _ (λ side. claim_opened model old new did.view.0 is did.apart side c.args.key);
  unseen = on_err_weaker c.claim_key.result (λ e. claim_unseen model old new did.view.0 is did.apart (g.met.G.Game.lawful old.board.game) e.2) did.err;
  full = on_err_weaker c.claim_key.result (λ e. claim_full model old new did.view.0 is did.apart c.args.key c.requires e.1 e.0) did.err;
  learns = did.view;
}
