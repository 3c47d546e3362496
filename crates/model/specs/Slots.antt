-- The item slots: which one an item takes, and what a call leaves in them.
use Rattle.std.specs.Prelude.{ℕ, ◌+◌, ◌*◌, cond, List, [], ◌∷◌, Some, None, Option, slice_set}
use Rattle.std.specs.Option.{option_map}
use Rattle.routes.specs.declared.hop.Hop.{Hop}
use Rattle.model.specs.Grid.{Setting, Queue, Grid, route_of}
use Rattle.model.specs.Calls.{Call, opens, closes, sends, steps, next_of, outcome}
use Rattle.model.specs.Runs.{History, start, ◌▸◌, after, is_declined}

-- a lane has `depth` slots in a row; lane follows on lane, and link on link
abbrev pub slot_of : Setting → Hop → ℕ → ℕ
slot_of S h place = (h.link * S.lanes + h.lane) * S.depth + place

-- an item that comes to the back of a lane is written into the slot of the lane's next place, and none else
abbrev pub stored : {T : Type 0} → Setting → Grid T → Option (Hop × T) → List T → List T
stored S g None slots = slots
stored S g (Some arrival) slots =
    let h : Hop = arrival.0 in
    slice_set slots (slot_of S h (g.places h.link h.lane)) arrival.1

-- the lane at whose back an item comes in by a call that is not declined, with the item
abbrev pub first_hop : List Hop → Option Hop
first_hop [] = None
first_hop (h ∷ hops) = Some h

abbrev pub front_arrival : {T : Type 0} → ((ℕ × T) → Option Hop) → Queue T → Option (Hop × T)
front_arrival next [] = None
front_arrival next (item ∷ rest) = option_map (λ h. (h, item.1)) (next item)

abbrev pub arrival : {T : Type 0} → Grid T → Call T → Option (Hop × T)
arrival g (opens n q hops) = None
arrival g (closes n) = None
arrival g (sends n x) = option_map (λ h. (h, x)) (first_hop (route_of (g.streams n)))
arrival g (steps link lane) = front_arrival (next_of g link) (g.contents link lane)

-- what a call leaves in the slots
abbrev pub slots_after : {T : Type 0} → Setting → Grid T → Call T → List T → List T
slots_after S g c slots = cond (is_declined (outcome S g c).answer) slots (stored S g (arrival g c) slots)

-- what a list of calls leaves in the slots
abbrev pub slots_left : {T : Type 0} → Setting → History T → List T → List T
slots_left S start slots = slots
slots_left S (past ▸ c) slots = slots_after S (after S past) c (slots_left S past slots)
