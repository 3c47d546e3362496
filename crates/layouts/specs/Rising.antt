-- Under each turn rule the height rises at a turn that is not barred.
use Rattle.std.specs.Prelude.{◌≡◌, ℕ, ◌<◌, false, ◌≢◌}
use Rattle.std.proofs.Common.{rules}
use Rattle.layouts.specs.declared.direction.Direction.{Direction}
use Rattle.layouts.specs.declared.direction.Direction.TheVariants.{East, West, North, South}
use Rattle.layouts.specs.declared.turn_rule.TurnRule.{TurnRule}
use Rattle.layouts.specs.declared.turn_rule.TurnRule.TheVariants.{Xy, WestFirst, NorthLast, NegativeFirst}
use Rattle.layouts.specs.Links.{column, row, Leaves}
use Rattle.layouts.specs.Rules.{barred, height_of}

abbrev pub back : Direction → Direction
back East = West
back West = East
back North = South
back South = North

abbrev pub Rising : TurnRule → Type 0
Rising rule =
    (d e : Direction) (x y : ℕ) → x < 8 → y < 8 → Leaves d x y → column d x < 8 → row d y < 8
    → (e ≢ back d) → barred rule d e (column d x) ≡ false
    → height_of rule d x y < height_of rule e (column d x) (row d y)

pub rising : (rule : TurnRule) → Rising rule
rising Xy = search rules
rising WestFirst = search rules
rising NorthLast = search rules
rising NegativeFirst = search rules
