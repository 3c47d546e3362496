-- No lane will step exactly when nothing is left on the grid.
use Rattle.std.proofs.Common.{◌≡◌, ℕ, ◌<◌, ◌≤◌, ⊎_elim, false, ◌↔◌, List, [], ◌∷◌, length, refl, ap, arith}
use Rattle.std.proofs.Math.Logic.{∥∥₁_elim}
use Rattle.std.proofs.Props.{props}
use Rattle.std.proofs.lemmas.Bool.{true≢false}
use Rattle.routes.specs.declared.hop.Hop.{Hop}
use Rattle.routes.specs.Routes.{hop_on}
use Rattle.model.specs.Waiting.{own, waiting}
use Rattle.std.specs.List.{AllByRecursion as All}
use Rattle.model.specs.Sweeps.{all_lanes}
use Rattle.model.proofs.AllLanes.{Stuck, no_lane, some_or_stuck}
use Rattle.model.proofs.Along.{along_none}
use Rattle.model.specs.Grid.{Setting, Queue, Grid, route_of}
use Rattle.model.specs.Sums.{of_stream, queue_sum, grid_sum, one, item_count, ahead, hops_ahead}
use Rattle.model.specs.Calls.{steps, Outcome}
use Rattle.model.specs.Runs.{is_declined}
use Rattle.model.specs.Law.{WillStep, NoLaneWillStep}
use Rattle.model.proofs.GridSums.{grid_sum_zero, grid_sum_at}
use Rattle.model.proofs.Kept.{Kept, Front, all_placed, front_proper}
use Rattle.model.proofs.Does.{Does, refused, passed, left, does}
use Rattle.model.proofs.Counts.{left_sum}
use Rattle.model.specs.Safe.{Reached, NeverLocks}
use Rattle.model.proofs.Progress.{rests_empty}

module _ {T : Type 0} (S : Setting) (deep : 1 ≤ S.depth) (never_locks : NeverLocks S)
    (g : Grid T) (reached : ∥ Reached S.judge g.streams ∥₁) (kept : Kept S g) where
  -- A sum to which each front item adds.
  module _ (cost : ℕ → (ℕ × T) → ℕ)
      (adds : (link lane : ℕ) (item : ℕ × T) (queue : Queue T) (rest : List Hop) → Front g link lane item queue rest → 1 ≤ cost link item) where
    step_adds : {link lane : ℕ} {o : Outcome T} → Does S g (steps link lane) o → is_declined o.answer ≡ false → 1 ≤ grid_sum S cost g.contents
    step_adds refused goes = absurd (true≢false goes)
    step_adds (passed front) goes = omega (arith, left_sum S g kept cost front, adds _ _ _ _ _ front)
    step_adds (left front) goes = omega (arith, left_sum S g kept cost front, adds _ _ _ _ _ front)

    rests_at_zero : (grid_sum S cost g.contents ≡ 0) ↔ NoLaneWillStep S g
    rests_at_zero =
        ∥∥₁_elim reached (hlevel props) (λ r.
        let ranked = never_locks.ranked g.streams r in (
          (λ none link lane goes. absurd (omega (arith, none, step_adds (does S g kept (steps link lane)) goes))),
          (λ rests. grid_sum_zero S cost g.contents (λ link lane on_grid.
              ap (queue_sum (cost link)) (rests_empty S deep g kept ranked.0 ranked.1 rests link lane on_grid))),
        ))

  pub rests_without_items : (item_count S g ≡ 0) ↔ NoLaneWillStep S g
  rests_without_items = rests_at_zero one (λ _ _ _ _ _ _. omega arith)

  pub rests_without_hops : (hops_ahead S g ≡ 0) ↔ NoLaneWillStep S g
  rests_without_hops = rests_at_zero (ahead g.streams) (λ link lane item queue rest front. omega (arith, ap length front.on))

  -- Where nothing is counted, no lane contains an item, of the grid or not.
  queue_none : (link lane : ℕ) (queue : Queue T) → g.contents link lane ≡ queue → item_count S g ≡ 0 → g.contents link lane ≡ []
  queue_none link lane [] is none = is
  queue_none link lane (item ∷ queue) is none =
      let placed = (all_placed S g kept link lane (item ∷ queue) is).0 in
      let on_grid = (front_proper S g kept (record { is = is; on = placed.on })).on_grid.0 in
      absurd (omega (arith, none, grid_sum_at S one g.contents (hop_on link lane) on_grid, ap (queue_sum (one link)) is))

  pub none_counted : item_count S g ≡ 0 → (hops_ahead S g ≡ 0) × ((n : ℕ) → waiting n g ≡ [])
  none_counted none = (
    rests_without_hops.1 (rests_without_items.0 none),
    λ n. along_none (own n g.contents) (route_of (g.streams n)) (λ link lane. ap (of_stream n) (queue_none link lane (g.contents link lane) refl none)),
  )

  -- While an item is on the grid, some lane will step.
  pub some_lane : 0 < item_count S g → (link : ℕ) × (lane : ℕ) × WillStep S g link lane
  some_lane some =
      ⊎_elim
      (λ (goes : (link : ℕ) × (lane : ℕ) × WillStep S g link lane). goes)
      (λ (stuck : All (Stuck S g) (all_lanes S.links S.lanes)). absurd (omega (arith, some, rests_without_items.1 (no_lane S g stuck))))
      (some_or_stuck S g (all_lanes S.links S.lanes))
