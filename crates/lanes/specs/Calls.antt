-- What the calls on lanes answer and leave.
use Rattle.std.specs.Prelude.{◌≡◌, ℕ, ◌<◌, ◌≤◌, true, cond, List, [], ◌∷◌, length, Some, None, Option, Result}
use Rattle.refusals.specs.declared.refusal.Refusal.{Refusal}
use Rattle.refusals.specs.declared.refusal.Refusal.TheVariants.{LaneFull}
use Rattle.routes.specs.declared.hop.Hop.{Hop}
use Rattle.routes.specs.Firsts.{first_of}
use Rattle.routes.specs.Checks.{unless}
use Rattle.model.specs.Grid.{Setting, Grid, enqueue, has_room}
use Rattle.model.specs.Calls.{Answer, done, moved, out, answer_of, Outcome, unless_declined, lane_refusal, step_front}
use Rattle.model.specs.Runs.{is_declined}
use Rattle.model.specs.Slots.{front_arrival, stored}
use Rattle.lanes.specs.declared.size.Size.{Size}
use Rattle.lanes.specs.declared.tables.Lanes.{Lanes}
use Rattle.lanes.specs.Sizes.{holds, lane_of, lane_count, slot_count, setting_of}
use Rattle.lanes.specs.Queues.{queues_of}

-- Nothing declines a call on the lane of a hop, which is lane k.
pub record Found (s : Size) (slots : ℕ) (h : Hop) (k : ℕ) : Type 0 where
  pub free : lane_refusal (setting_of s slots) h ≡ None
  pub lane : k ≡ lane_of s h
  pub on_grid : holds s h ≡ true
  pub there : k < lane_count s
  pub enough : slot_count s ≤ slots

-- an item comes to the back of a lane, unless the lane is full
abbrev pub pushing : {T : Type 0} → Setting → Grid T → Hop → (ℕ × T) → Outcome T
pushing S g h item =
    unless_declined (first_of (lane_refusal S h ∷ (unless (has_room S g h) LaneFull ∷ []))) g
    (record { answer = done; grid = enqueue S g h item })

-- the front of a lane goes out
abbrev pub popping : {T : Type 0} → Setting → Grid T → Hop → Outcome T
popping S g h = unless_declined (lane_refusal S h) g (step_front S g h (λ _. None) (g.contents h.link h.lane))

-- the front of a lane goes to the back of another, unless that is full
abbrev pub moving : {T : Type 0} → Setting → Grid T → Hop → Hop → Outcome T
moving S g h to =
    unless_declined (first_of (lane_refusal S h ∷ (lane_refusal S to ∷ []))) g
    (step_front S g h (λ _. Some to) (g.contents h.link h.lane))

-- the lane at whose back the front of a lane arrives, with the item
abbrev pub moving_arrival : {T : Type 0} → Grid T → Hop → Hop → Option (Hop × T)
moving_arrival g h to = front_arrival (λ _. Some to) (g.contents h.link h.lane)

-- A call on the lanes has its outcome: it answers so, and leaves the lanes so; the slots are as before but for the item
-- that arrives, if one does; the size stays; and if it is declined, all tables stay as they are.
pub record Handles {T : Type 0} (l : Lanes) (xs : List T) (o : Outcome T) (arrival : Option (Hop × T)) (a : Answer T) (l' : Lanes) (xs' : List T) : Type 0 where
  pub answer : a ≡ o.answer
  pub queues : queues_of l' xs' ≡ o.grid
  pub slots : xs' ≡ cond (is_declined a) xs (stored (setting_of l.size (length xs)) (queues_of l xs) arrival xs)
  pub size : l'.size ≡ l.size
  pub declined : is_declined a ≡ true → l' ≡ l

-- The calls: the front of a lane is told, or what declines taking it off; an item comes to the back of a lane; the front of
-- a lane goes out; the front of a lane goes to the back of another.
abbrev pub TellsFront : {T : Type 0} → Lanes → List T → Hop → Result (ℕ × T) Refusal → Type 0
TellsFront l xs h r = answer_of (λ f. out f.0 f.1) r ≡ (popping (setting_of l.size (length xs)) (queues_of l xs) h).answer

abbrev pub Pushes : {T : Type 0} → Lanes → List T → Hop → (ℕ × T) → Result (Unit {0}) Refusal → Lanes → List T → Type 0
Pushes l xs h item r l' xs' =
    Handles l xs (pushing (setting_of l.size (length xs)) (queues_of l xs) h item) (Some (h, item.1)) (answer_of (λ _. done) r) l' xs'

abbrev pub Pops : {T : Type 0} → Lanes → List T → Hop → Result (ℕ × T) Refusal → Lanes → Type 0
Pops l xs h r l' = Handles l xs (popping (setting_of l.size (length xs)) (queues_of l xs) h) None (answer_of (λ f. out f.0 f.1) r) l' xs

abbrev pub Shifts : {T : Type 0} → Lanes → List T → Hop → Hop → Result ℕ Refusal → Lanes → List T → Type 0
Shifts l xs h to r l' xs' =
    Handles l xs (moving (setting_of l.size (length xs)) (queues_of l xs) h to) (moving_arrival (queues_of l xs) h to) (answer_of (λ n. moved n) r) l' xs'
