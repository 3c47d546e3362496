-- The calls: what each answers, and the grid after it.
use Rattle.std.specs.Prelude.{ℕ, Bool, false, cond, List, [], ◌∷◌, is_some, Some, None, Ok, Err, Option, Result, ◌==◌, nat_lt}
use Rattle.std.specs.Option.{ok_or}
use Rattle.refusals.specs.declared.refusal.Refusal.{Refusal}
use Rattle.refusals.specs.declared.refusal.Refusal.TheVariants.{TooFewSlots, NoSuchStream, AlreadyOpen, NotOpen, OffGrid, ItemsOnGrid, LaneFull, LaneEmpty, Held}
use Rattle.routes.specs.declared.declined.Declined.{Declined}
use Rattle.routes.specs.declared.hop.Hop.{Hop}
use Rattle.routes.specs.declared.stream.Request.{Request}
use Rattle.routes.specs.Firsts.{first_of}
use Rattle.routes.specs.Routes.{OpenStream, hop_on, is_on_grid}
use Rattle.routes.specs.Loads.{stream_count}
use Rattle.routes.specs.Checks.{no_hop, unless}
use Rattle.model.specs.Grid.{Setting, Queue, Grid, with_stream, with_queue, enqueue, enough_slots, has_room, route_of, next_hop}
use Rattle.model.specs.Sums.{item_count_of}

-- Open a stream of a number, with its fields and hops; close a stream; send an item of a stream; step a lane of a link.
pub data Call (T : Type 0) : Type 0 where
  opens : ℕ → Request → List Hop → Call T
  closes : ℕ → Call T
  sends : ℕ → T → Call T
  steps : ℕ → ℕ → Call T

-- A call is declined, by a refusal and the hop that it tells if any, or it is done. A step that is done tells the
-- stream whose item moved, or the stream and the item that went out.
pub data Answer (T : Type 0) : Type 0 where
  declined : Declined → Answer T
  done : Answer T
  moved : ℕ → Answer T
  out : ℕ → T → Answer T

-- the answer that a result stands for
abbrev pub answer_of : {T A : Type 0} → (A → Answer T) → Result A Refusal → Answer T
answer_of f (Ok a) = f a
answer_of f (Err refusal) = declined (no_hop refusal)

-- what declines by a result that is a refusal
abbrev pub declines : {A : Type 0} → Result A Refusal → Option Declined
declines (Ok a) = None
declines (Err refusal) = Some (no_hop refusal)

pub record Outcome (T : Type 0) : Type 0 where
  pub answer : Answer T
  pub grid : Grid T

-- a call that is declined changes nothing
abbrev pub refuse : {T : Type 0} → Declined → Grid T → Outcome T
refuse d g = record { answer = declined d; grid = g }

-- what a call does if no check declines it
abbrev pub unless_declined : {T : Type 0} → Option Declined → Grid T → Outcome T → Outcome T
unless_declined None g outcome = outcome
unless_declined (Some d) g outcome = refuse d g

-- that a stream of a number can be opened, or why not
abbrev pub vacancy : (ℕ → Option OpenStream) → ℕ → Result (Unit {0}) Refusal
vacancy streams n = cond (nat_lt n stream_count) (cond (is_some (streams n)) (Err AlreadyOpen) (Ok tt)) (Err NoSuchStream)

-- Open.
unfoldable pub open_refusal : {T : Type 0} → Setting → Grid T → ℕ → Request → List Hop → Option Declined
open_refusal S g n q hops = first_of (declines (vacancy g.streams n) ∷ (S.judge g.streams q hops ∷ []))

abbrev pub opening : {T : Type 0} → Setting → Grid T → ℕ → Request → List Hop → Outcome T
opening S g n q hops =
    unless_declined (open_refusal S g n q hops) g
    (record { answer = done; grid = with_stream g n (Some (record { request = q; hops = hops })) })

-- the open stream of a number, or why there is none
abbrev pub open_stream : (ℕ → Option OpenStream) → ℕ → Result OpenStream Refusal
open_stream streams n = cond (nat_lt n stream_count) (ok_or (streams n) NotOpen) (Err NoSuchStream)

-- Close.
unfoldable pub close_refusal : {T : Type 0} → Setting → Grid T → ℕ → Option Declined
close_refusal S g n =
    first_of (declines (open_stream g.streams n) ∷ (unless (item_count_of S g n == 0) ItemsOnGrid ∷ []))

abbrev pub closing : {T : Type 0} → Setting → Grid T → ℕ → Outcome T
closing S g n = unless_declined (close_refusal S g n) g (record { answer = done; grid = with_stream g n None })

-- Send: an item enters at the back of the lane of its stream's first hop.
abbrev pub room_at_first : {T : Type 0} → Setting → Grid T → List Hop → Bool
room_at_first S g [] = false
room_at_first S g (h ∷ hops) = has_room S g h

abbrev pub enter : {T : Type 0} → Setting → Grid T → List Hop → (ℕ × T) → Grid T
enter S g [] item = g
enter S g (h ∷ hops) item = enqueue S g h item

unfoldable pub send_refusal : {T : Type 0} → Setting → Grid T → ℕ → Option Declined
send_refusal S g n =
    first_of (unless (enough_slots S) TooFewSlots ∷ (declines (open_stream g.streams n) ∷ (unless (room_at_first S g (route_of (g.streams n))) LaneFull ∷ [])))

abbrev pub sending : {T : Type 0} → Setting → Grid T → ℕ → T → Outcome T
sending S g n x =
    unless_declined (send_refusal S g n) g
    (record { answer = done; grid = enter S g (route_of (g.streams n)) (n, x) })

-- what declines a call that names a lane: too few item slots, or a link or a lane that is not there
unfoldable pub lane_refusal : Setting → Hop → Option Declined
lane_refusal S h = first_of (unless (enough_slots S) TooFewSlots ∷ (unless (is_on_grid S.links S.lanes h) OffGrid ∷ []))

-- Step: the front item of a lane goes out if it has no next hop. Else it goes to the back of that hop's lane, or is held
-- while that lane is full.
abbrev pub forward : {T : Type 0} → Setting → Grid T → Hop → (ℕ × T) → Queue T → Option Hop → Outcome T
forward S g h item rest None = record { answer = out item.0 item.1; grid = with_queue g h.link h.lane rest }
forward S g h item rest (Some next) =
    cond (has_room S g next) (record { answer = moved item.0; grid = enqueue S (with_queue g h.link h.lane rest) next item }) (refuse (no_hop Held) g)

abbrev pub step_front : {T : Type 0} → Setting → Grid T → Hop → ((ℕ × T) → Option Hop) → Queue T → Outcome T
step_front S g h next [] = refuse (no_hop LaneEmpty) g
step_front S g h next (item ∷ rest) = forward S g h item rest (next item)

-- the hop that follows the one over a link in the route of an item's stream
abbrev pub next_of : {T : Type 0} → Grid T → ℕ → (ℕ × T) → Option Hop
next_of g link item = next_hop link (route_of (g.streams item.0))

unfoldable pub stepping : {T : Type 0} → Setting → Grid T → ℕ → ℕ → Outcome T
stepping S g link lane =
    unless_declined (lane_refusal S (hop_on link lane)) g (step_front S g (hop_on link lane) (next_of g link) (g.contents link lane))

abbrev pub outcome : {T : Type 0} → Setting → Grid T → Call T → Outcome T
outcome S g (opens n q hops) = opening S g n q hops
outcome S g (closes n) = closing S g n
outcome S g (sends n x) = sending S g n x
outcome S g (steps link lane) = stepping S g link lane
