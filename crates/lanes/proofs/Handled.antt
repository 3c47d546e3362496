-- What a change of one lane is to the lanes as a grid, and so what each call has done.
use Rattle.std.proofs.Common.{◌≡◌, ℕ, ◌+◌, ◌%◌, ◌<◌, ◌≤◌, ◌≢◌, true, false, List, [], ◌∷◌, ◌++◌, length, get_or, vec_items, Some, None, Option, sym, refl, ap, ◌∙◌, subst, ⊎_elim, arith}
use mathlib.Core.Path.{fun_ext}
use Rattle.std.proofs.lemmas.Bool.{cases_eq}
use Rattle.std.proofs.lemmas.Bool.Decides.{nat_tests}
use Rattle.refusals.specs.declared.refusal.Refusal.TheVariants.{LaneFull, Held}
use Rattle.routes.specs.declared.declined.Declined.{Declined}
use Rattle.routes.specs.declared.hop.Hop.{Hop}
use Rattle.routes.specs.Checks.{no_hop}
use Rattle.model.specs.Grid.{Setting, Queue, Grid, with_queue, enqueue, has_room, put}
use Rattle.model.specs.Calls.{declined, done, moved, out, Outcome, refuse, lane_refusal}
use Rattle.lanes.specs.declared.ring.Ring.{Ring}
use Rattle.lanes.specs.declared.size.Size.{Size}
use Rattle.lanes.specs.declared.tables.Lanes.{Lanes}
use Rattle.lanes.specs.Sizes.{lane_of, setting_of}
use Rattle.lanes.specs.Queues.{ring_at, queue_at, place_at, by_lane, queues_of, HasLane, Enters, Leaves}
use Rattle.lanes.specs.Calls.{Found, pushing, popping, moving, moving_arrival, Handles}
use Rattle.lanes.proofs.LaneTables.{by_lane_at, by_lane-put}
use Rattle.lanes.proofs.Queues.{queue_length, ring_is}

-- a grid on which no stream is open, by its lanes
abbrev lanes_grid : {T : Type 0} → (ℕ → ℕ → Queue T) → (ℕ → ℕ → ℕ) → Grid T
lanes_grid contents places = record { streams = λ _. None; contents = contents; places = places }

-- lanes of one size, by that size
of_size : {T : Type 0} (l : Lanes) (xs : List T) (s : Size) → l.size ≡ s
    → queues_of l xs ≡ lanes_grid (by_lane s (queue_at l xs) []) (by_lane s (place_at l) 0)
of_size l xs s e = ap (λ s. lanes_grid (by_lane s (queue_at l xs) []) (by_lane s (place_at l) 0)) e

-- a call that is declined has left everything as it was
pub refused : {T : Type 0} (l : Lanes) (xs : List T) (o : Outcome T) (arrival : Option (Hop × T)) (d : Declined)
    → o ≡ refuse d (queues_of l xs) → Handles l xs o arrival (declined d) l xs
refused l xs o arrival d is = record {
  answer = ap (λ o. o.answer) (sym is);
  queues = ap (λ o. o.grid) (sym is);
  slots = refl;
  size = refl;
  declined = λ _. refl;
}

-- a front has no lane to go to
pub no_target : {T : Type 0} (S : Setting) (g : Grid T) (h to : Hop) (d : Declined) → lane_refusal S h ≡ None → lane_refusal S to ≡ Some d
    → moving S g h to ≡ refuse d g
no_target S g h to d found lost = rw (found, lost) refl

-- The lane of a hop that is there, with slots enough.
module _ {T : Type 0} (l : Lanes) (xs : List T) (h : Hop) (k : ℕ) (found : Found l.size (length xs) h k) where
  abbrev S : Setting
  S = setting_of l.size (length xs)

  abbrev g : Grid T
  g = queues_of l xs

  lane : HasLane l xs k
  lane = record { there = found.there; enough = found.enough }

  pub contents_is : g.contents h.link h.lane ≡ queue_at l xs k
  contents_is = by_lane_at l.size h found.on_grid (queue_at l xs) [] ∙ ap (queue_at l xs) (sym found.lane)

  pub place_is : g.places h.link h.lane ≡ place_at l k
  place_is = by_lane_at l.size h found.on_grid (place_at l) 0 ∙ ap (place_at l) (sym found.lane)

  module _ (r : Ring) (is : r ≡ get_or (vec_items l.rings) k r) where
    pub count_is : length (queue_at l xs k) ≡ r.count
    count_is =
        queue_length l xs k found.enough found.there
        ∙ ap (λ r. r.count) (ring_is lane is)

    pub room : r.count < l.size.depth → has_room S g h ≡ true
    room less = let n = ap length contents_is ∙ count_is in grind (arith, nat_tests)

    pub no_room : l.size.depth ≤ r.count → has_room S g h ≡ false
    no_room more = let n = ap length contents_is ∙ count_is in grind (arith, nat_tests)

    pub full : (item : ℕ × T) → l.size.depth ≤ r.count → pushing S g h item ≡ refuse (no_hop LaneFull) g
    full item more = rw (found.free, no_room more) refl

  -- lane k has taken an item
  module _ (item : ℕ × T) (l' : Lanes) (xs' : List T) (entered : Enters l xs k item l' xs') where
    entered_contents : by_lane l.size (queue_at l' xs') [] ≡ put g.contents h.link h.lane (g.contents h.link h.lane ++ (item ∷ []))
    entered_contents =
        let change = by_lane-put l.size h found.on_grid (queue_at l xs) (queue_at l' xs') [] (rw (sym found.lane) (λ j ne. (entered.others j ne).0)) in
        let queue : queue_at l' xs' (lane_of l.size h) ≡ g.contents h.link h.lane ++ (item ∷ []) =
        ap (queue_at l' xs') (sym found.lane) ∙ entered.queue ∙ ap (λ q. q ++ (item ∷ [])) (sym contents_is) in
        change ∙ ap (put g.contents h.link h.lane) queue

    entered_places : by_lane l.size (place_at l') 0 ≡ put g.places h.link h.lane ((g.places h.link h.lane + 1) % l.size.depth)
    entered_places =
        let change = by_lane-put l.size h found.on_grid (place_at l) (place_at l') 0 (rw (sym found.lane) (λ j ne. (entered.others j ne).1)) in
        let place : place_at l' (lane_of l.size h) ≡ (g.places h.link h.lane + 1) % l.size.depth =
        ap (place_at l') (sym found.lane) ∙ entered.place ∙ ap (λ p. (p + 1) % l.size.depth) (sym place_is) in
        change ∙ ap (put g.places h.link h.lane) place

    pub entered_grid : queues_of l' xs' ≡ enqueue S g h item
    entered_grid = of_size l' xs' l.size entered.size ∙ rw (entered_contents, entered_places) refl

    pub pushed : (r : Ring) → r ≡ get_or (vec_items l.rings) k r → r.count < l.size.depth
        → Handles l xs (pushing S g h item) (Some (h, item.1)) done l' xs'
    pushed r is less =
        let done_so : pushing S g h item ≡ record { answer = done; grid = enqueue S g h item } = rw (found.free, room r is less) refl in
        record {
          answer = ap (λ o. o.answer) (sym done_so);
          queues = entered_grid ∙ ap (λ o. o.grid) (sym done_so);
          slots = entered.slots ∙ rw (place_is, found.lane) refl;
          size = entered.size;
          declined = λ e. cc;
        }

  -- lane k has lost its front
  module _ (item : ℕ × T) (l' : Lanes) (left : Leaves l xs k item l') where
    left_contents : by_lane l.size (queue_at l' xs) [] ≡ put g.contents h.link h.lane (queue_at l' xs k)
    left_contents =
        by_lane-put l.size h found.on_grid (queue_at l xs) (queue_at l' xs) [] (rw (sym found.lane) (λ j ne. (left.others j ne).0))
        ∙ ap (λ j. put g.contents h.link h.lane (queue_at l' xs j)) (sym found.lane)

    pub place_stays : (j : ℕ) → place_at l' j ≡ place_at l j
    place_stays j = ⊎_elim (λ (e : j ≡ k). rw e left.place) (λ (ne : j ≢ k). (left.others j ne).1) (cases_eq j k)

    pub left_grid : queues_of l' xs ≡ with_queue g h.link h.lane (queue_at l' xs k)
    left_grid = of_size l' xs l.size left.size ∙ rw (left_contents, fun_ext place_stays) refl

    pub popped : Handles l xs (popping S g h) None (out item.0 item.1) l' xs
    popped =
        let out_so : popping S g h ≡ record { answer = out item.0 item.1; grid = with_queue g h.link h.lane (queue_at l' xs k) } =
        rw (found.free, contents_is, left.queue) refl in
        record {
          answer = ap (λ o. o.answer) (sym out_so);
          queues = left_grid ∙ ap (λ o. o.grid) (sym out_so);
          slots = refl;
          size = left.size;
          declined = λ e. cc;
        }

-- The front of lane k goes to the back of lane t, that of another hop that is there or of the same. Lane t has this ring.
module _ {T : Type 0} (l : Lanes) (xs : List T) (h to : Hop) (k t : ℕ) (found : Found l.size (length xs) h k) (target : Found l.size (length xs) to t)
    (r : Ring) (is : r ≡ get_or (vec_items l.rings) t r) where
  -- a front waits for room
  held_front : (queue : Queue T) → queue_at l xs k ≡ queue → (length queue ≢ 0) → l.size.depth ≤ r.count
      → moving (setting_of l.size (length xs)) (queues_of l xs) h to ≡ refuse (no_hop Held) (queues_of l xs)
  held_front [] is_queue some more = absurd (some refl)
  held_front (item ∷ rest) is_queue some more = rw (found.free, target.free, contents_is l xs h k found, is_queue, no_room l xs to t target r is more) refl

  pub held : (f : Ring) → f ≡ get_or (vec_items l.rings) k f → (f.count ≢ 0) → l.size.depth ≤ r.count
      → moving (setting_of l.size (length xs)) (queues_of l xs) h to ≡ refuse (no_hop Held) (queues_of l xs)
  held f is_f some = held_front (queue_at l xs k) refl (λ e. some (sym (count_is l xs h k found f is_f) ∙ e))

  module _ (item : ℕ × T) (l' : Lanes) (left : Leaves l xs k item l') (less : r.count < l.size.depth) where
    target' : Found l'.size (length xs) to t
    target' = subst (λ s. Found s (length xs) to t) (sym left.size) target

    no_more : length (queue_at l' xs t) ≤ length (queue_at l xs t)
    no_more =
        ⊎_elim
        (λ (e : t ≡ k). rw e (let q = ap length left.queue in omega arith))
        (λ (ne : t ≢ k). let q = ap length (left.others t ne).0 in omega arith)
        (cases_eq t k)

    pub room_stays : (ring_at l' t).count < l'.size.depth
    room_stays =
        let before = count_is l xs to t target r is in
        let after = queue_length l' xs t target'.enough target'.there in
        let depth = ap (λ s. s.depth) left.size in
        omega (arith, no_more)

    pub shifted : (l'' : Lanes) (xs' : List T) → Enters l' xs t item l'' xs'
        → Handles l xs (moving (setting_of l.size (length xs)) (queues_of l xs) h to) (moving_arrival (queues_of l xs) h to) (moved item.0) l'' xs'
    shifted l'' xs' entered =
        let S = setting_of l.size (length xs) in
        let g = queues_of l xs in
        let queue = contents_is l xs h k found ∙ left.queue in
        let moved_so : moving S g h to ≡ record { answer = moved item.0; grid = enqueue S (with_queue g h.link h.lane (queue_at l' xs k)) to item } =
        rw (found.free, target.free, queue, room l xs to t target r is less) refl in
        record {
          answer = ap (λ o. o.answer) (sym moved_so);
          queues =
              entered_grid l' xs to t target' item l'' xs' entered
              ∙ ap (λ s. enqueue (setting_of s (length xs)) (queues_of l' xs) to item) left.size
              ∙ ap (λ g. enqueue S g to item) (left_grid l xs h k found item l' left)
              ∙ ap (λ o. o.grid) (sym moved_so);
          slots =
              entered.slots
              ∙ rw (queue, place_is l xs to t target, place_stays l xs h k found item l' left t, ap (λ s. s.depth) left.size, target.lane) refl;
          size = entered.size ∙ left.size;
          declined = λ e. cc;
        }
