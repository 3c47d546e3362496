-- How large the counts of a mesh are.
use Rattle.std.specs.Prelude.{ℕ, ◌-◌, ◌*◌, ◌≤◌}
use Rattle.std.proofs.Common.{arith}
use Rattle.std.proofs.lemmas.Nat.{mul-le}
use Rattle.std.proofs.lemmas.Bool.{and_parts, leb-true}
use Rattle.layouts.specs.Links.{InRange, level, upright}

module _ (w h : ℕ) (r : InRange w h) where
  pub sides : (2 ≤ w) × (w ≤ 8) × (2 ≤ h) × (h ≤ 8)
  sides =
      let width = and_parts _ _ r.0 in
      let height = and_parts _ _ r.1 in
      (leb-true _ _ width.0, leb-true _ _ width.1, leb-true _ _ height.0, leb-true _ _ height.1)

  pub level_le : level w h ≤ 56
  level_le = mul-le h (w - 1) 8 7 sides.3 (omega (arith, sides))

  pub level_ge : 2 ≤ level w h
  level_ge = mul-le 2 1 h (w - 1) sides.2 (omega (arith, sides))

  pub upright_le : upright w h ≤ 56
  upright_le = mul-le w (h - 1) 8 7 sides.1 (omega (arith, sides))

  pub tiles_le : w * h ≤ 64
  tiles_le = mul-le w h 8 8 sides.1 sides.3

  pub tiles_ge : 4 ≤ w * h
  tiles_ge = mul-le 2 2 w h sides.0 sides.2
