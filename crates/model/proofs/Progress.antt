-- Progress: a lane that contains an item leads to one that will step, by any rank that rises along all routes.
use Rattle.std.proofs.Common.{◌≡◌, ℕ, zero, suc, ◌+◌, ◌<◌, ◌≤◌, true, false, ◌⊎◌, List, [], ◌∷◌, length, refl, inl, inr, ⊎_elim, arith}
use Rattle.std.proofs.lemmas.List.{nil_from_length}
use Rattle.std.proofs.lemmas.Bool.{cases_Bool, cases_lt}
use Rattle.std.proofs.lemmas.Bool.Decides.{nat_tests}
use Rattle.routes.specs.declared.hop.Hop.{Hop}
use Rattle.routes.specs.Routes.{hop_on}
use Rattle.model.specs.Grid.{Setting, Queue, Grid, enough_slots, has_room, route_of}
use Rattle.model.specs.Calls.{lane_refusal, stepping}
use Rattle.model.specs.Law.{WillStep, NoLaneWillStep}
use Rattle.model.specs.Safe.{OnGrid}
use Rattle.model.proofs.Routes.{hops_from_inherits}
use Rattle.model.proofs.LaneSums.{sum_of_lanes, sum_of_lanes_at}
use Rattle.model.proofs.Kept.{Kept, Front, all_placed, front_proper}
use Rattle.model.specs.Safe.{Rises}

rises_after : (rank : Hop → ℕ) (h : Hop) (hops : List Hop) → Rises rank (h ∷ hops) → Rises rank hops
rises_after rank h [] rises = tt
rises_after rank h (next ∷ hops) rises = rises.1

module _ {T : Type 0} (S : Setting) (deep : 1 ≤ S.depth) (g : Grid T) (kept : Kept S g)
    (rank : Hop → ℕ) (rises : (n : ℕ) → Rises rank (route_of (g.streams n))) where
  -- the lane of a hop contains an item
  abbrev Busy : Hop → Type 0
  Busy h = OnGrid S h × (1 ≤ length (g.contents h.link h.lane))

  -- the lane of another hop, of a higher rank, contains an item
  abbrev Waits : Hop → Type 0
  Waits h = (next : Hop) × (rank h < rank next) × Busy next

  -- the sum of the ranks of all hops on the grid, which none of them exceeds
  abbrev top : ℕ
  top = sum_of_lanes S (λ link lane. rank (hop_on link lane))

  -- A lane with a front item will step, or waits for a lane of a higher rank.
  front_steps : (h : Hop) → OnGrid S h → enough_slots S ≡ true → {item : ℕ × T} {queue : Queue T} (rest : List Hop)
      → Front g h.link h.lane item queue rest → WillStep S g h.link h.lane ⊎ Waits h
  unfolding lane_refusal stepping
  front_steps h on_grid slots [] front = inl (grind (arith, nat_tests))
  front_steps h on_grid slots {item} (next ∷ rest) front =
      ⊎_elim
      (λ (room : has_room S g next ≡ true). inl (grind (arith, nat_tests)))
      (λ (full : has_room S g next ≡ false).
      let up = rw front.on at (hops_from_inherits (Rises rank) (rises_after rank) h.link (route_of (g.streams item.0)) (rises item.0)) in
      inr (next, up.0, ((front_proper S g kept front).on_grid.1.0, grind (arith, nat_tests))))
      (cases_Bool (has_room S g next))

  busy_steps : (h : Hop) → OnGrid S h → (queue : Queue T) → g.contents h.link h.lane ≡ queue → 1 ≤ length queue
      → WillStep S g h.link h.lane ⊎ Waits h
  busy_steps h on_grid [] is some = absurd (omega arith)
  busy_steps h on_grid (item ∷ queue) is some =
      let p = (all_placed S g kept h.link h.lane (item ∷ queue) is).0 in
      front_steps h on_grid p.slots p.rest (record { is = is; on = p.on })

  -- From lane to lane the rank rises, so that the last of them, after n at most, will step.
  some_lane_steps : (n : ℕ) (h : Hop) → Busy h → top < rank h + n → (link : ℕ) × (lane : ℕ) × WillStep S g link lane
  some_lane_steps zero h busy low = absurd (omega (arith, sum_of_lanes_at S (λ link lane. rank (hop_on link lane)) h busy.0))
  some_lane_steps (suc n) h busy low =
      ⊎_elim
      (λ (goes : WillStep S g h.link h.lane). (h.link, h.lane, goes))
      (λ (waits : Waits h). some_lane_steps n waits.0 waits.2 (omega arith))
      (busy_steps h busy.0 (g.contents h.link h.lane) refl busy.1)

  pub rests_empty : NoLaneWillStep S g → (link lane : ℕ) → OnGrid S (hop_on link lane) → g.contents link lane ≡ []
  rests_empty rests link lane on_grid =
      ⊎_elim
      (λ (some : 0 < length (g.contents link lane)).
      let steps = some_lane_steps (suc top) (hop_on link lane) (on_grid, some) (omega arith) in
      absurd (rests steps.0 steps.1 steps.2))
      (λ (none : length (g.contents link lane) ≤ 0). nil_from_length (g.contents link lane) (omega arith))
      (cases_lt 0 (length (g.contents link lane)))
