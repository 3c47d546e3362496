-- The turn rules: which turns each bars, and how high a link lies under it.
use Rattle.std.specs.Prelude.{ℕ, ◌+◌, ◌-◌, ◌*◌, Bool, true, false, cond, not, ◌&&◌, ◌||◌, ◌==◌}
use Rattle.layouts.specs.declared.direction.Direction.{Direction}
use Rattle.layouts.specs.declared.direction.Direction.TheVariants.{East, West, North, South}
use Rattle.layouts.specs.declared.link.Span.{Span}
use Rattle.layouts.specs.declared.turn.Turn.{Turn}
use Rattle.layouts.specs.declared.turn.Turn.TheVariants.{Never, Free, Climb}
use Rattle.layouts.specs.declared.turn_rule.TurnRule.{TurnRule}
use Rattle.layouts.specs.declared.turn_rule.TurnRule.TheVariants.{Xy, WestFirst, NorthLast, NegativeFirst}

abbrev pub east : Direction → Bool
east East = true
east West = false
east North = false
east South = false

abbrev pub west : Direction → Bool
west East = false
west West = true
west North = false
west South = false

abbrev pub north : Direction → Bool
north East = false
north West = false
north North = true
north South = false

abbrev pub south : Direction → Bool
south East = false
south West = false
south North = false
south South = true

-- the turns from one direction to another that a rule bars at a tile of column x
abbrev pub barred : TurnRule → Direction → Direction → ℕ → Bool
barred Xy d e x = (north d || south d) && (east e || west e)
barred WestFirst d e x = (north d || south d) && west e
barred NorthLast d e x = north d && (east e || west e)
barred NegativeFirst d e x = (east d && south e) || (north d && west e)

-- What is told of a link p followed by a link q: *never* where p does not end where q starts, or where q leads back to the
-- start of p; *climb* where the rule bars the turn, at the tile where it is made; else *free*.
abbrev pub turn_of : TurnRule → Span → Span → Turn
turn_of rule p q =
    cond (p.end == q.start && not (q.end == p.start))
    (cond (barred rule p.link.direction q.link.direction q.link.x) Climb Free)
    Never

-- the height of a link that leaves column x and row y
abbrev pub height_of : TurnRule → Direction → ℕ → ℕ → ℕ
height_of Xy East x y = x
height_of Xy West x y = 7 - x
height_of Xy North x y = 100 + y
height_of Xy South x y = 100 + (7 - y)
height_of WestFirst East x y = 115 + 20 * x
height_of WestFirst West x y = 7 - x
height_of WestFirst North x y = 100 + 20 * x + y
height_of WestFirst South x y = 100 + 20 * x + (7 - y)
height_of NorthLast East x y = 20 * (7 - y) + x
height_of NorthLast West x y = 20 * (7 - y) + (7 - x)
height_of NorthLast North x y = 1000 + y
height_of NorthLast South x y = 20 * (7 - y) + 15
height_of NegativeFirst East x y = 100 + (x + y)
height_of NegativeFirst West x y = 14 - (x + y)
height_of NegativeFirst North x y = 100 + (x + y)
height_of NegativeFirst South x y = 14 - (x + y)
