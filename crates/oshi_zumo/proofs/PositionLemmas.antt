-- A position has one setting.
use Rattle.std.proofs.Common.{◌≡◌, ℕ, ℤ, sym, ◌∙◌}
use Rattle.oshi_zumo.specs.declared.Setting.{Setting}
use Rattle.oshi_zumo.specs.Position.{IsSettingOf}

pub one_setting : (size one two least : ℕ) (place : ℤ) (g h : Setting) → IsSettingOf size one two least place g → IsSettingOf size one two least place h → g ≡ h
one_setting size one two least place g h p q = p ∙ sym q
