use Rattle.std.proofs.Common.{◌∙◌, ap, sym, [], Bool, cond, inl, inr, refl}
use Rattle.std.specs.List.{flat_map}
use Rattle.std.proofs.lemmas.Bool.{eq-eqb, ne_eqb}
use Rattle.serde_json.specs.View.{view}
use Rattle.table_text.specs.States.{row_form_of}
use Rattle.table_text.proofs.StateLists.{kept_is}
use Rattle.table_text.proofs.lists.kept_rows.Goals as goal

pub returns-then-columns-eq0 : goal.returns-then-columns-eq0
returns-then-columns-eq0 c = record {
  cells =
      sym (ap (λ (b : Bool). cond b [] (flat_map (λ v. row_form_of (view v)) c.elements-rows.result.now)) (eq-eqb c.columns.result 0 c.if-columns-eq0.true))
      ∙ kept_is c.elements-rows.result.now (view c.args.state.now) c.columns.result c.elements-rows.ensures c.columns.ensures;
  rows = inl refl;
}

pub returns-else-columns-eq0 : goal.returns-else-columns-eq0
returns-else-columns-eq0 c = record {
  cells =
      sym (ap (λ (b : Bool). cond b [] (flat_map (λ v. row_form_of (view v)) c.elements-rows.result.now)) (ne_eqb c.columns.result 0 c.if-columns-eq0.false))
      ∙ kept_is c.elements-rows.result.now (view c.args.state.now) c.columns.result c.elements-rows.ensures c.columns.ensures;
  rows = inr c.elements-rows.ensures;
}
