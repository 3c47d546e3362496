-- The head of a plan: version, rule, width, height, lanes, depth, capacity, count of streams.
use Rattle.std.specs.Prelude.{ℕ, Bool, true, cond, not, List, [], ◌∷◌, Some, None, Ok, Err, Option, Result, find, is_some, ◌==◌, nat_le, nat_lt}
use Rattle.refusals.specs.declared.refusal.Refusal.{Refusal}
use Rattle.refusals.specs.declared.refusal.Refusal.TheVariants.{MeshSize, GridSize, ZeroAmount, BadHead}
use Rattle.layouts.specs.declared.turn_rule.TurnRule.{TurnRule}
use Rattle.layouts.specs.declared.turn_rule.TurnRule.TheVariants.{Xy, WestFirst, NorthLast, NegativeFirst}
use Rattle.layouts.specs.Links.{side_allowed}
use Rattle.routes.specs.Routes.{lanes_allowed, depth_allowed}
use Rattle.routes.specs.Loads.{stream_count}
use Rattle.codec.specs.declared.number.ByteFault.{ByteFault}
use Rattle.codec.specs.declared.head.GridSizes.{GridSizes}
use Rattle.codec.specs.declared.head.Head.{Head}
use Rattle.codec.specs.declared.head.HeadFault.{HeadFault}
use Rattle.codec.specs.declared.head.HeadNumbers.{HeadNumbers}
use Rattle.codec.specs.declared.head.HeadPart.{HeadPart}
use Rattle.codec.specs.declared.head.HeadPart.TheVariants.{Version, Rule, Width, Height, Lanes, Depth, Capacity, Count}
use Rattle.codec.specs.Reads.{then}
use Rattle.codec.specs.Numbers.{number_at}

-- the turn rule of each number
abbrev pub rule_numbered : ℕ → Option TurnRule
rule_numbered n = cond (n == 1) (Some Xy) (cond (n == 2) (Some WestFirst) (cond (n == 3) (Some NorthLast) (cond (n == 4) (Some NegativeFirst) None)))

-- the numbers of a head, in their order, with the count of streams
unfoldable pub head_numbers : Head → ℕ → List ℕ
head_numbers h count = h.version ∷ (h.rule ∷ (h.width ∷ (h.height ∷ (h.lanes ∷ (h.depth ∷ (h.capacity ∷ (count ∷ [])))))))

-- the numbers of a head, one after another from the first byte on
abbrev pub head_at : List ℕ → Result HeadNumbers ByteFault
head_at plan =
    then (number_at plan 0) (λ version.
    then (number_at plan version.next) (λ rule.
    then (number_at plan rule.next) (λ width.
    then (number_at plan width.next) (λ height.
    then (number_at plan height.next) (λ lanes.
    then (number_at plan lanes.next) (λ depth.
    then (number_at plan depth.next) (λ capacity.
    then (number_at plan capacity.next) (λ count.
    Ok (record {
      version = version;
      rule = rule;
      width = width;
      height = height;
      lanes = lanes;
      depth = depth;
      capacity = capacity;
      count = count;
    })))))))))

-- the numbers themselves, but the count
abbrev pub values_of : HeadNumbers → Head
values_of n = record {
  version = n.version.value;
  rule = n.rule.value;
  width = n.width.value;
  height = n.height.value;
  lanes = n.lanes.value;
  depth = n.depth.value;
  capacity = n.capacity.value;
}

-- the byte at which a part starts
abbrev pub place_of : HeadNumbers → HeadPart → ℕ
place_of n Version = n.version.place
place_of n Rule = n.rule.place
place_of n Width = n.width.place
place_of n Height = n.height.place
place_of n Lanes = n.lanes.place
place_of n Depth = n.depth.place
place_of n Capacity = n.capacity.place
place_of n Count = n.count.place

-- the parts of a head, in their order
unfoldable pub parts : List HeadPart
parts = Version ∷ (Rule ∷ (Width ∷ (Height ∷ (Lanes ∷ (Depth ∷ (Capacity ∷ (Count ∷ [])))))))

-- the number in a part of the head of a plan of so many streams
abbrev pub number_of : Head → ℕ → HeadPart → ℕ
number_of h count Version = h.version
number_of h count Rule = h.rule
number_of h count Width = h.width
number_of h count Height = h.height
number_of h count Lanes = h.lanes
number_of h count Depth = h.depth
number_of h count Capacity = h.capacity
number_of h count Count = count

-- whether a number may stand in a part
abbrev pub allowed : HeadPart → ℕ → Bool
allowed Version n = n == 1
allowed Rule n = is_some (rule_numbered n)
allowed Width n = side_allowed n
allowed Height n = side_allowed n
allowed Lanes n = lanes_allowed n
allowed Depth n = depth_allowed n
allowed Capacity n = nat_lt 0 n
allowed Count n = nat_le n stream_count

-- the refusal of one that may not
abbrev pub refusal_of : HeadPart → Refusal
refusal_of Version = BadHead
refusal_of Rule = BadHead
refusal_of Width = MeshSize
refusal_of Height = MeshSize
refusal_of Lanes = GridSize
refusal_of Depth = GridSize
refusal_of Capacity = ZeroAmount
refusal_of Count = BadHead

-- lanes, depth and capacity are those of the grid; it has no concern with the others
abbrev pub fits : Head → GridSizes → HeadPart → Bool
fits h grid Version = true
fits h grid Rule = true
fits h grid Width = true
fits h grid Height = true
fits h grid Lanes = h.lanes == grid.lanes
fits h grid Depth = h.depth == grid.depth
fits h grid Capacity = h.capacity == grid.capacity
fits h grid Count = true

-- the first part that does not fit is refused, if there is one
abbrev pub misfit : Option HeadPart → Result (Unit {0}) HeadFault
misfit None = Ok tt
misfit (Some part) = Err (record { refusal = BadHead; part = part })

-- the first part that is not allowed is refused, if there is one; else the head has to fit
abbrev pub refused : Option HeadPart → Result (Unit {0}) HeadFault → Result (Unit {0}) HeadFault
refused None fitting = fitting
refused (Some part) fitting = Err (record { refusal = refusal_of part; part = part })

-- the judgement of the head of a plan of so many streams, for a grid of these sizes
abbrev pub judged : Head → ℕ → GridSizes → Result (Unit {0}) HeadFault
judged h count grid =
    refused (find (λ part. not (allowed part (number_of h count part))) parts) (misfit (find (λ part. not (fits h grid part)) parts))
