-- Send and step, by what they are on the lanes.
use Rattle.std.proofs.Common.{◌≡◌, ℕ, ◌*◌, ◌≤◌, ◌<◌, nat_le, true, false, List, [], ◌∷◌, length, Some, None, Ok, Err, Option, sym, refl, ap, ◌∙◌, arith}
use Rattle.std.proofs.lemmas.Bool.Decides.{nat_tests}
use Rattle.std.specs.Option.{option_map}
use Rattle.refusals.specs.declared.refusal.Refusal.{Refusal}
use Rattle.refusals.specs.declared.refusal.Refusal.TheVariants.{TooFewSlots, LaneFull}
use Rattle.model.specs.Kinds.{Kind}
use Rattle.routes.specs.declared.declined.Declined.{Declined}
use Rattle.routes.specs.declared.hop.Hop.{Hop}
use Rattle.routes.specs.Routes.{OpenStream}
use Rattle.routes.specs.Firsts.{first_of}
use Rattle.routes.specs.Checks.{no_hop, unless}
use Rattle.model.specs.Grid.{Setting, Queue, Grid, enqueue, enough_slots, has_room, route_of, next_hop}
use Rattle.model.specs.Calls.{sends, steps, Answer, declined, done, out, refuse, unless_declined, open_stream, send_refusal, sending, lane_refusal, step_front, next_of, stepping}
use Rattle.model.specs.Slots.{first_hop, arrival}
use Rattle.lanes.specs.Sizes.{holds, slot_count, setting_of}
use Rattle.lanes.specs.Queues.{queues_of}
use Rattle.lanes.specs.Calls.{pushing, popping, moving, moving_arrival, Handles}
use Rattle.lanes.proofs.LaneChecks.{free}
use Rattle.grid.specs.declared.tables.Tables.{Tables}
use Rattle.grid.specs.Views.{streams_in, view, setting}
use Rattle.grid.specs.Makes.{Makes, Starts}
use Rattle.grid.proofs.Lifted.{lift, SameButLanes, lifted, lift-unless_declined, lift-forward}

-- The front of a lane tells the call's refusal, or that nothing declines it and what the lane contains.
module _ {T : Type 0} (S S' : Setting) (g g' : Grid T) (h : Hop) (next : (ℕ × T) → Option Hop) where
  pub no_front : (d : Declined) (r : Option Declined) (queue : Queue T) → declined d ≡ (unless_declined r g (step_front S g h (λ _. None) queue)).answer
      → unless_declined r g' (step_front S' g' h next queue) ≡ refuse d g'
  no_front d (Some e) queue is = cc
  no_front d None [] is = cc
  no_front d None (item ∷ rest) is = cc

  pub front_is : (n : ℕ) (x : T) (r : Option Declined) (queue : Queue T) → out n x ≡ (unless_declined r g (step_front S g h (λ _. None) queue)).answer
      → (rest : Queue T) × (r ≡ None) × (queue ≡ (n, x) ∷ rest)
  front_is n x (Some e) queue is = cc
  front_is n x None [] is = cc
  front_is n x None ((k, y) ∷ rest) is = (rest, refl, cc)

-- A grid on a layout with as many links as its lanes have, and slots enough.
module _ {T : Type 0} (kind : Kind) (t : Tables) (links : kind.links ≡ t.lanes.size.links) (xs : List T) where
  abbrev S : Setting
  S = setting kind t (length xs)

  abbrev g : Grid T
  g = view t xs

  -- the same with the lanes alone
  abbrev SL : Setting
  SL = setting_of t.lanes.size (length xs)

  abbrev queues : Grid T
  queues = queues_of t.lanes xs

  enough_is : enough_slots S ≡ enough_slots SL
  enough_is = ap (λ k. nat_le (k * t.lanes.size.lanes * t.lanes.size.depth) (length xs)) links

  lane_refusal_is : (h : Hop) → lane_refusal S h ≡ lane_refusal SL h
  unfolding lane_refusal
  lane_refusal_is h = rw links refl

  -- Send.
  pub too_few : (n : ℕ) (x : T) → length xs < slot_count t.lanes.size → sending S g n x ≡ refuse (no_hop TooFewSlots) g
  unfolding send_refusal
  too_few n x few = let no : enough_slots SL ≡ false = grind (arith, nat_tests) in rw (enough_is, no) refl

  pub not_open : (n : ℕ) (x : T) (e : Refusal) → slot_count t.lanes.size ≤ length xs → open_stream (streams_in t) n ≡ Err e
      → sending S g n x ≡ refuse (no_hop e) g
  unfolding send_refusal
  not_open n x e enough is = let yes : enough_slots SL ≡ true = grind (arith, nat_tests) in rw (enough_is, yes, is) refl

  open_is : (s : OpenStream) (n : ℕ) → open_stream (streams_in t) n ≡ Ok s → streams_in t n ≡ Some s
  open_is s n is = grind (arith, nat_tests)

  -- a send is a push at the first hop
  pub sending_pushes : (n : ℕ) (x : T) (h : Hop) → slot_count t.lanes.size ≤ length xs → Starts t n h
      → sending S g n x ≡ lift (streams_in t) (pushing SL queues h (n, x))
  unfolding send_refusal
  sending_pushes n x h enough starts =
      let yes : enough_slots SL ≡ true = grind (arith, nat_tests) in
      let route : route_of (streams_in t n) ≡ h ∷ starts.rest = ap route_of (open_is _ n starts.stream) in
      rw (enough_is, yes, starts.stream, route, free t.lanes.size (length xs) h enough starts.on_grid)
      (lift-unless_declined (streams_in t) (first_of (unless (has_room SL queues h) LaneFull ∷ [])) queues (record { answer = done; grid = enqueue SL queues h (n, x) }))

  pub sending_arrival : (n : ℕ) (x : T) (h : Hop) → Starts t n h → arrival g (sends n x) ≡ Some (h, x)
  sending_arrival n x h starts = ap (λ o. option_map (λ h. (h, x)) (first_hop (route_of o))) (open_is _ n starts.stream)

  -- Step, by what the front of the lane tells.
  stepping_is : (h : Hop) → stepping S g h.link h.lane ≡ unless_declined (lane_refusal SL h) g (step_front S g h (next_of g h.link) (g.contents h.link h.lane))
  unfolding stepping
  stepping_is h = rw (lane_refusal_is h) refl

  pub no_step : (h : Hop) (d : Declined) → declined d ≡ (popping SL queues h).answer → stepping S g h.link h.lane ≡ refuse d g
  no_step h d is = stepping_is h ∙ no_front SL S queues g h (next_of g h.link) d (lane_refusal SL h) (queues.contents h.link h.lane) is

  -- the lane of a hop has this front
  abbrev Fronts : Hop → ℕ → T → Type 0
  Fronts h n x = (rest : Queue T) × (lane_refusal SL h ≡ None) × (queues.contents h.link h.lane ≡ (n, x) ∷ rest)

  fronts : (h : Hop) (n : ℕ) (x : T) → out n x ≡ (popping SL queues h).answer → Fronts h n x
  fronts h n x is = front_is SL S queues g h (next_of g h.link) n x (lane_refusal SL h) (queues.contents h.link h.lane) is

  free_too : (h to : Hop) → lane_refusal SL h ≡ None → holds t.lanes.size to ≡ true → lane_refusal SL to ≡ None
  unfolding lane_refusal
  free_too h to is on_grid = grind (arith, nat_tests)

  module _ (h : Hop) (n : ℕ) (x : T) (is : out n x ≡ (popping SL queues h).answer) (t' : Tables) (same : SameButLanes t t') (a : Answer T) where
    front : Fronts h n x
    front = fronts h n x is

    -- a step of an item on its last hop takes the front off
    pub step_pops : None ≡ next_hop h.link (route_of (streams_in t n)) → Handles t.lanes xs (popping SL queues h) None a t'.lanes xs
        → Makes kind t xs (steps h.link h.lane) a t' xs
    step_pops next handles =
        lifted kind t t' xs xs _ (popping SL queues h) None a same.0 same.1 (stepping_is h ∙ rw (front.1, front.2, sym next) refl) (rw (front.2, sym next) refl) handles

    -- a step of an item that has a next hop takes it there
    pub step_moves : (to : Hop) (xs' : List T) → Some to ≡ next_hop h.link (route_of (streams_in t n)) → holds t.lanes.size to ≡ true
        → Handles t.lanes xs (moving SL queues h to) (moving_arrival queues h to) a t'.lanes xs' → Makes kind t xs (steps h.link h.lane) a t' xs'
    step_moves to xs' next on_grid handles =
        let outcomes : stepping S g h.link h.lane ≡ lift (streams_in t) (moving SL queues h to) =
        stepping_is h ∙ rw (front.1, free_too h to front.1 on_grid, front.2, sym next) (lift-forward (streams_in t) SL queues h (n, x) front.0 (Some to)) in
        lifted kind t t' xs xs' _ (moving SL queues h to) (moving_arrival queues h to) a same.0 same.1 outcomes (rw (front.2, sym next) refl) handles
