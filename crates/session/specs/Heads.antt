-- The head under which the plan of a grid is written.
use Rattle.std.specs.Prelude.{◌≡◌, ℕ, ◌≤◌, IsSome, Ok}
use Rattle.layouts.specs.Links.{InRange}
use Rattle.layouts.specs.declared.turn_rule.TurnRule.{TurnRule}
use Rattle.layouts.specs.declared.turn_rule.TurnRule.TheVariants.{Xy, WestFirst, NorthLast, NegativeFirst}
use Rattle.codec.specs.declared.head.Head.{Head}
use Rattle.codec.specs.Heads.{rule_numbered, judged}
use Rattle.plan.specs.Verdicts.{sizes_in}

-- the number of each turn rule
abbrev pub rule_number : TurnRule → ℕ
rule_number Xy = 1
rule_number WestFirst = 2
rule_number NorthLast = 3
rule_number NegativeFirst = 4

-- version 1, and the numbers that a grid is made of
abbrev pub head_of : TurnRule → ℕ → ℕ → ℕ → ℕ → ℕ → Head
head_of rule w h lanes depth capacity = record {
  version = 1;
  rule = rule_number rule;
  width = w;
  height = h;
  lanes = lanes;
  depth = depth;
  capacity = capacity;
}

-- version, rule and size are those of a mesh
abbrev pub IsOfMesh : Head → Type 0
IsOfMesh h = (h.version ≡ 1) × IsSome (rule_numbered h.rule) × InRange h.width h.height

-- a head is accepted for the grid that it asks for, whatever streams are open
abbrev pub IsAllowed : Head → Type 0
IsAllowed h = (n : ℕ) → n ≤ 64 → judged h n (sizes_in h) ≡ Ok tt
