-- Worked examples. A mesh is 2 × 2 or 3 × 3, under the rule XY if no other one is told.
use Rattle.std.specs.Prelude.{◌≡◌, ℕ, List, [], ◌∷◌, Some, None, Ok, Err, Option, Result}
use Rattle.refusals.specs.declared.refusal.Refusal.TheVariants.{NoRoute, OverCapacity}
use Rattle.refusals.specs.Numbers.{refusal_number}
use Rattle.layouts.specs.Layout.{Meaning}
use Rattle.layouts.specs.Mesh.{mesh_meaning}
use Rattle.layouts.specs.declared.turn.Turn.TheVariants.{Never, Free, Climb}
use Rattle.layouts.specs.declared.turn_rule.TurnRule.{TurnRule}
use Rattle.layouts.specs.declared.turn_rule.TurnRule.TheVariants.{Xy, NegativeFirst}
use Rattle.routes.specs.declared.declined.Declined.{Declined}
use Rattle.routes.specs.declared.hop.Hop.{Hop}
use Rattle.routes.specs.declared.stream.Request.{Request}
use Rattle.routes.specs.Routes.{hop_on}
use Rattle.routes.specs.Checks.{no_hop}
use Rattle.model.specs.Grid.{Setting}
use Rattle.model.specs.Sums.{hops_ahead}
use Rattle.model.specs.Calls.{Call, opens, closes, sends, steps, Answer, declined, done, moved, out}
use Rattle.model.specs.Kinds.{on_layout}
use Rattle.model.specs.Runs.{History, start, ◌▸◌, after, answer_to, handed_out_since}
use Rattle.codec.specs.declared.number.ByteFault.TheVariants.{Form}
use Rattle.codec.specs.Numbers.{byte_refusal, number_bytes, number_at}
use Rattle.plan.specs.declared.fault.LoadFault.TheVariants as fault
use Rattle.plan.specs.Verdicts.{verdict_of}
use Rattle.search.specs.Scales.{Scale, total, peak}
use Rattle.search.specs.Finds.{values_needed, marks_needed}
use Rattle.search.specs.Seeks.{SeekFinds}

abbrev pub small : Meaning
small = mesh_meaning Xy 2 2

abbrev pub SmallTurns : Type 0
SmallTurns = (small.turn 0 5 ≡ Free) × (small.turn 5 3 ≡ Climb) × (small.turn 6 0 ≡ Climb) × (small.turn 0 2 ≡ Never)

-- the call that opens a stream of a number, from a tile to another, with a demand
abbrev pub open_call : ℕ → ℕ → ℕ → ℕ → List Hop → Call ℕ
open_call n from to demand hops = opens n (record { source = from; target = to; demand = demand }) hops

-- the number of a refusal, with the hop that it tells
abbrev pub refused_by : Answer ℕ → Option (ℕ × Option ℕ)
refused_by (declined d) = Some (refusal_number d.refusal, d.hop)
refused_by done = None
refused_by (moved n) = None
refused_by (out n x) = None

-- The 2 × 2 mesh with two lanes: by links 5 and 3 from tile 1 to tile 2 the lane has to climb.
abbrev pub two_lanes : Setting
two_lanes = on_layout small 2 1 100 0

abbrev pub SmallRoutes : Type 0
SmallRoutes =
    (refused_by (answer_to two_lanes start (open_call 0 1 2 1 (hop_on 5 0 ∷ (hop_on 3 0 ∷ [])))) ≡ Some (13, Some 1))
    × (answer_to two_lanes start (open_call 0 1 2 1 (hop_on 5 0 ∷ (hop_on 3 1 ∷ []))) ≡ done)

-- the 3 × 3 mesh under a rule, with so many lanes, where a link can bear 100
abbrev pub square : TurnRule → ℕ → Setting
square rule lanes = on_layout (mesh_meaning rule 3 3) lanes 1 100 0

-- With one lane, and a stream that asks for 80 open on links 0 and 13: on the same route there is space for 20 more, and not
-- for 21.
abbrev pub one_lane : Setting
one_lane = square Xy 1

abbrev pub corner : List Hop
corner = hop_on 0 0 ∷ (hop_on 13 0 ∷ [])

abbrev pub loaded : History ℕ
loaded = start ▸ open_call 0 0 4 80 corner

abbrev pub LoadedOpenings : Type 0
LoadedOpenings =
    (answer_to one_lane start (open_call 0 0 4 80 corner) ≡ done)
    × (answer_to one_lane loaded (open_call 1 0 4 20 corner) ≡ done)
    × (refused_by (answer_to one_lane loaded (open_call 1 0 4 21 corner)) ≡ Some (16, Some 0))

-- A run on the 2 × 2 mesh with one lane of depth 1. Stream 7 goes from tile 0 to tile 3 by links 0 and 5, and item 50 has
-- gone on to link 5 when item 51 is sent. Then the first lane is full, its item is held, and the stream does not close
-- before both are out.
abbrev pub narrow : Setting
narrow = on_layout small 1 1 100 8

abbrev pub sent_two : History ℕ
sent_two = start ▸ open_call 7 0 3 1 (hop_on 0 0 ∷ (hop_on 5 0 ∷ [])) ▸ sends 7 50 ▸ steps 0 0 ▸ sends 7 51

abbrev pub all_out : History ℕ
all_out = sent_two ▸ steps 5 0 ▸ steps 0 0 ▸ steps 5 0

abbrev pub ShortRun : Type 0
ShortRun =
    (refused_by (answer_to narrow start (sends 7 50)) ≡ Some (6, None))
    × (refused_by (answer_to narrow sent_two (sends 7 52)) ≡ Some (19, None))
    × (refused_by (answer_to narrow sent_two (steps 0 0)) ≡ Some (21, None))
    × (refused_by (answer_to narrow sent_two (closes 7)) ≡ Some (18, None))
    × (hops_ahead narrow (after narrow sent_two) ≡ 3)
    × (answer_to narrow sent_two (steps 5 0) ≡ out 7 50)
    × (refused_by (answer_to narrow (sent_two ▸ steps 5 0) (steps 5 0)) ≡ Some (20, None))
    × (answer_to narrow (sent_two ▸ steps 5 0) (steps 0 0) ≡ moved 7)
    × (handed_out_since narrow 7 all_out ≡ 50 ∷ (51 ∷ []))
    × (answer_to narrow all_out (closes 7) ≡ done)

-- Seeks on the 3 × 3 mesh, from tile 0 to tile 4 in its middle, for stream 5, beside the streams that are open after some calls.
abbrev pub to_middle : ℕ → Request
to_middle demand = record { source = 0; target = 4; demand = demand }

-- the other way to tile 4, by tile 3, with the lane of its second hop
abbrev pub detour : ℕ → List Hop
detour lane = hop_on 12 0 ∷ (hop_on 2 lane ∷ [])

-- what such a seek may find, with all the scratch that it needs
abbrev pub Found : {V : Type 0} → Scale V → TurnRule → ℕ → History ℕ → Request → Result (List Hop) Declined → Type 0
Found s rule lanes past q r =
    let m : Meaning = mesh_meaning rule 3 3 in
    SeekFinds s m lanes 100 (after (square rule lanes) past).streams 5 q (values_needed m.links lanes) (marks_needed m.links lanes) r

-- this is so of one thing, and of nothing else
abbrev pub Only : {A : Type 0} → (A → Type 0) → A → Type 0
Only {A} P a = P a × ((b : A) → P b → b ≡ a)

abbrev pub OnlyFinds : {V : Type 0} → Scale V → TurnRule → ℕ → History ℕ → Request → Result (List Hop) Declined → Type 0
OnlyFinds s rule lanes past q = Only (Found s rule lanes past q)

-- With the stream that asks for 80 open, links 0 and 13 cannot bear 30 more, and the other way has to climb. So with one lane a seek says
-- that there is no route, and with two lanes it goes the other way.
abbrev pub LoadedSeeks : Type 0
LoadedSeeks =
    (refusal_number NoRoute ≡ 17)
    × OnlyFinds total Xy 1 loaded (to_middle 30) (Err (no_hop NoRoute))
    × OnlyFinds total Xy 2 loaded (to_middle 30) (Ok (detour 1))
    × OnlyFinds peak Xy 2 loaded (to_middle 30) (Ok (detour 1))

-- Under the rule negative-first neither way has to climb. Link 0 has a load of 40 and link 13 none, links 12 and 2 have one
-- of 30 each: the first way has the least sum of loads, and the other one the lowest peak.
abbrev pub shared : History ℕ
shared =
    start ▸ open_call 0 0 1 40 (hop_on 0 0 ∷ []) ▸ open_call 1 0 3 30 (hop_on 12 0 ∷ []) ▸ open_call 2 3 4 30 (hop_on 2 0 ∷ [])

abbrev pub SharedSeeks : Type 0
SharedSeeks =
    OnlyFinds total NegativeFirst 1 shared (to_middle 10) (Ok corner) × OnlyFinds peak NegativeFirst 1 shared (to_middle 10) (Ok (detour 0))

-- Numbers of plans: two of one and of two bytes, the largest, one that is not written in the fewest bytes, and one that is too large.
abbrev pub PlanNumbers : Type 0
PlanNumbers =
    (number_bytes 127 ≡ 127 ∷ [])
    × (number_bytes 128 ≡ 128 ∷ (1 ∷ []))
    × (number_bytes 65535 ≡ 255 ∷ (255 ∷ (3 ∷ [])))
    × (number_at (128 ∷ (0 ∷ [])) 0 ≡ Err (Form 0))
    × (number_at (128 ∷ (128 ∷ (4 ∷ []))) 0 ≡ Err (Form 0))
    × (refusal_number (byte_refusal (Form 0)) ≡ 23)

-- A plan of two streams on the 3 × 3 mesh under XY, one lane, depth 2, by the capacity of its links: from tile 0 to 4 for a demand of 30, and from
-- tile 0 to 8 for one of 20, both by link 0.
abbrev pub two_streams : ℕ → List ℕ
two_streams capacity =
    1 ∷ (1 ∷ (3 ∷ (3 ∷ (1 ∷ (2 ∷ (capacity ∷ (2 ∷ (0 ∷ (0 ∷ (4 ∷ (30 ∷ (2 ∷ (0 ∷ (52 ∷ (1 ∷ (0 ∷ (8 ∷ (20 ∷ (4 ∷ (0 ∷ (4 ∷ (56 ∷ (68 ∷ [])))))))))))))))))))))))

abbrev pub PlanVerdicts : Type 0
PlanVerdicts =
    (verdict_of (two_streams 100) ≡ Ok (record { streams = 2; hops = 6; load = 50 }))
    × (verdict_of (two_streams 40) ≡ Err (fault.Grid (record { number = 1; fault = record { refusal = OverCapacity; hop = Some 0 } })))

abbrev pub WorkedExamples : Type 0
WorkedExamples = SmallTurns × SmallRoutes × LoadedOpenings × ShortRun × LoadedSeeks × SharedSeeks × PlanNumbers × PlanVerdicts
