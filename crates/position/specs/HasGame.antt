-- The positions that have a game.
use Rattle.std.specs.Prelude.{◌≡◌, ℕ, ℤ, List, [], ◌∷◌, false, is_some}
use Rattle.std.proofs.Props.{props}
use Rattle.fields.specs.declared.field.FieldKind.{FieldKind}
use Rattle.fields.specs.declared.field.FieldKind.TheVariants as holds
use Rattle.fields.specs.declared.field.Value.{Value}
use Rattle.fields.specs.declared.field.Value.TheVariants as values
use Rattle.sim_game.specs.declared.Limits.TheVariants.{Wide}
use Rattle.fields.specs.declared.positions.PositionText.{PositionText}
use Rattle.fields.specs.declared.positions.PositionText.TheVariants as texts
use Rattle.fields.specs.Fields.{Fits, AllFit}
use Rattle.fields.specs.Positions.{kind_of, kinds_of, values_of}
use Rattle.fields.specs.Ranges.{IsPositionInRange}
use Rattle.position.specs.Games.{fault_of, HasTotalsOf, IsFineTotal}

-- the position has a line and breaks no rule within the wide limits, so that a game is built of it
pub record HasGame (text : PositionText) : Type 0 where
  pub in_range : IsPositionInRange text
  pub builds : is_some (fault_of Wide text) ≡ false

-- ---- one proof of each
Fits-prop : (kind : FieldKind) (v : Value) → IsProp (Fits kind v)
Fits-prop (holds.Number low high) (values.Number z) = hlevel props
Fits-prop (holds.List most) (values.List ns) = hlevel props
Fits-prop (holds.Numbers low high most) (values.Numbers zs) = hlevel props
Fits-prop (holds.Optional low high most) (values.Optional zs) = hlevel props
Fits-prop (holds.Word choices) (values.Word w) = hlevel props
Fits-prop kind v = hlevel props

AllFit-prop : (kinds : List FieldKind) (vs : List Value) → IsProp (AllFit kinds vs)
AllFit-prop [] [] = hlevel props
AllFit-prop [] (v ∷ vs) = hlevel props
AllFit-prop (k ∷ ks) [] = hlevel props
AllFit-prop (k ∷ ks) (v ∷ vs) = hlevel (Fits-prop k v, AllFit-prop ks vs)

pub HasGame-prop : (text : PositionText) → IsProp (HasGame text)
HasGame-prop text = hlevel (props, AllFit-prop (kinds_of Wide (kind_of text)) (values_of text))

pub HasTotalsOf-prop : (text : PositionText) (totals : List ℤ) → IsProp (HasTotalsOf text totals)
HasTotalsOf-prop (texts.Table ranks moves values cells draws rewards) totals = hlevel props
HasTotalsOf-prop text totals = hlevel props

pub IsFineTotal-prop : (text : PositionText) (weight : ℕ) → IsProp (IsFineTotal text weight)
IsFineTotal-prop text weight = hlevel props
