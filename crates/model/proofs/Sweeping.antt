-- Sweeps: while an item is on the grid each has a step that goes, so that they are bounded by the hops ahead.
use Rattle.std.proofs.Common.{◌≡◌, ℕ, zero, suc, ◌+◌, ◌<◌, ◌≤◌, ◌↔◌, ◌⊎◌, inl, inr, true, List, [], ◌∷◌, ◌++◌, refl, sym, ap, ◌∙◌, ⊎_elim, append-nil, arith}
use mathlib.Core.Logic.Iff
use Rattle.std.specs.List.{AllByRecursion as All}
use Rattle.std.proofs.lemmas.Bool.{cases_lt, true≢false}
use Rattle.model.specs.Grid.{Setting, Grid}
use Rattle.model.specs.Sums.{item_count, hops_ahead}
use Rattle.model.specs.Calls.{Outcome, steps, outcome}
use Rattle.model.specs.Runs.{History, start, ◌▸◌, after_from, let_in_from, steps_gone_from, then_steps, is_declined, going}
use Rattle.model.specs.Law.{WillStep, NoLaneWillStep}
use Rattle.model.specs.Safe.{Reached, NeverLocks}
use Rattle.model.specs.Sweeps.{all_lanes, sweep_of, sweeps_of, KeepsBound}
use Rattle.model.proofs.AllLanes.{no_lane}
use Rattle.model.proofs.Kept.{Kept}
use Rattle.model.proofs.Does.{Does, refused, passed, left, does}
use Rattle.model.proofs.Rests.{rests_without_items, rests_without_hops}
use Rattle.model.proofs.Onward.{reached_and_kept, hops_from_on, hops_then}
use Rattle.model.proofs.Joins.{after_joined, let_in_joined, gone_joined}

-- steps let nothing in
steps_let_in : {T : Type 0} (S : Setting) (g : Grid T) (past : History T) (lanes : List (ℕ × ℕ)) → let_in_from S g (then_steps past lanes) ≡ let_in_from S g past
steps_let_in S g past [] = refl
steps_let_in S g past (p ∷ lanes) = steps_let_in S g (past ▸ steps p.0 p.1) lanes ∙ append-nil (let_in_from S g past)

pub sweep_let_in : {T : Type 0} (S : Setting) (g : Grid T) → let_in_from S g (sweep_of S) ≡ []
sweep_let_in S g = steps_let_in S g start (all_lanes S.links S.lanes)

pub sweeps_let_in : {T : Type 0} (S : Setting) (g : Grid T) (count : ℕ) → let_in_from S g (sweeps_of S count) ≡ []
sweeps_let_in S g zero = refl
sweeps_let_in S g (suc count) =
    let_in_joined S g (sweeps_of S count) (sweep_of S)
    ∙ ap (λ l. l ++ let_in_from S (after_from S g (sweeps_of S count)) (sweep_of S)) (sweeps_let_in S g count)
    ∙ sweep_let_in S (after_from S g (sweeps_of S count))

module _ {T : Type 0} (S : Setting) (never_locks : NeverLocks S) where
  -- ---- steps of some lanes

  module _ (g : Grid T) (reached : ∥ Reached S.judge g.streams ∥₁) (kept : Kept S g) where
    -- a step that does not go leaves the grid
    idle_step : {link lane : ℕ} {o : Outcome T} → Does S g (steps link lane) o → going {T = T} (steps link lane) o.answer ≡ 0 → (o.grid ≡ g) × (is_declined o.answer ≡ true)
    idle_step refused none = (refl, refl)
    idle_step (passed front) none = absurd (omega arith)
    idle_step (left front) none = absurd (omega arith)

    -- steps that went are not undone
    gone_more : (past : History T) (more : List (ℕ × ℕ)) → steps_gone_from S g past ≤ steps_gone_from S g (then_steps past more)
    gone_more past [] = omega arith
    gone_more past (p ∷ more) = omega (arith, gone_more (past ▸ steps p.0 p.1) more)

    -- Where none of the steps goes, they leave the grid, and none of their lanes would step.
    none_gone : (past : History T) → after_from S g past ≡ g → (more : List (ℕ × ℕ)) → steps_gone_from S g (then_steps past more) ≡ 0
        → (after_from S g (then_steps past more) ≡ g) × All (λ p. WillStep S g p.0 p.1 → ⊥) more
    none_gone past same [] none = (same, tt)
    none_gone past same (p ∷ more) none =
        let step : Outcome T = outcome S (after_from S g past) (steps p.0 p.1) in
        let is : step ≡ outcome S g (steps p.0 p.1) = ap (λ g. outcome S g (steps p.0 p.1)) same in
        let later = gone_more (past ▸ steps p.0 p.1) more in
        let none_now : going {T = T} (steps p.0 p.1) step.answer ≡ 0 = omega arith in
        let idle = idle_step (does S g kept (steps p.0 p.1)) (rw (sym is) none_now) in
        let rest = none_gone (past ▸ steps p.0 p.1) (ap (λ (o : Outcome T). o.grid) is ∙ idle.0) more none in
        (rest.0, ((λ goes. true≢false (sym idle.1 ∙ goes)), rest.1))

    -- ---- one sweep

    -- a sweep of which no step goes leaves the grid
    pub sweep_idle : steps_gone_from S g (sweep_of S) ≡ 0 → after_from S g (sweep_of S) ≡ g
    sweep_idle none = (none_gone start refl (all_lanes S.links S.lanes) none).0

    none_steps : steps_gone_from S g (sweep_of S) ≡ 0 → NoLaneWillStep S g
    none_steps none = no_lane S g (none_gone start refl (all_lanes S.links S.lanes) none).1

    module _ (deep : 1 ≤ S.depth) where
      -- begun with an item on the grid, a sweep has a step that goes
      pub sweep_goes : 0 < item_count S g → 0 < steps_gone_from S g (sweep_of S)
      sweep_goes some =
          ⊎_elim
          (λ (goes : 0 < steps_gone_from S g (sweep_of S)). goes)
          (λ (none : steps_gone_from S g (sweep_of S) ≤ 0).
          absurd (omega (arith, some, (rests_without_items S deep never_locks g reached kept).1 (none_steps (omega arith)))))
          (cases_lt 0 (steps_gone_from S g (sweep_of S)))

      -- no item is on the grid exactly if no hop is ahead
      none_ahead : (hops_ahead S g ≡ 0) ↔ (item_count S g ≡ 0)
      none_ahead = Iff.trans (rests_without_hops S deep never_locks g reached kept) (Iff.symm (rests_without_items S deep never_locks g reached kept))

    -- the hops ahead fall by the steps that go
    pub sweep_hops : hops_ahead S (after_from S g (sweep_of S)) + steps_gone_from S g (sweep_of S) ≡ hops_ahead S g
    sweep_hops = omega (arith, hops_from_on S never_locks g reached kept (sweep_of S), hops_then S never_locks g reached kept start (all_lanes S.links S.lanes))

  -- ---- several sweeps

  module _ (g : Grid T) (reached : ∥ Reached S.judge g.streams ∥₁) (kept : Kept S g) where
    abbrev grid_after : ℕ → Grid T
    grid_after count = after_from S g (sweeps_of S count)

    abbrev gone_after : ℕ → ℕ
    gone_after count = steps_gone_from S g (sweeps_of S count)

    -- the steps that go in the next sweep
    abbrev next_gone : ℕ → ℕ
    next_gone count = steps_gone_from S (grid_after count) (sweep_of S)

    gone_then : (count : ℕ) → gone_after (suc count) ≡ gone_after count + next_gone count
    gone_then count = gone_joined S g (sweeps_of S count) (sweep_of S)

    sweeps_hops : (count : ℕ) → hops_ahead S (grid_after count) + gone_after count ≡ hops_ahead S g
    sweeps_hops zero = omega arith
    sweeps_hops (suc count) =
        let now = reached_and_kept S never_locks g reached kept (sweeps_of S count) in
        omega (
          arith,
          sweeps_hops count,
          gone_then count,
          sweep_hops (grid_after count) now.0 now.1,
          ap (hops_ahead S) (after_joined S g (sweeps_of S count) (sweep_of S)),
        )

    module _ (deep : 1 ≤ S.depth) where
      none_ahead_after : (count : ℕ) → (hops_ahead S (grid_after count) ≡ 0) ↔ (item_count S (grid_after count) ≡ 0)
      none_ahead_after count =
          let now = reached_and_kept S never_locks g reached kept (sweeps_of S count) in
          none_ahead (grid_after count) now.0 now.1 deep

      -- each sweep had a step that went, until no item was on the grid
      none_left_or_gone : (count : ℕ) → (item_count S (grid_after count) ≡ 0) ⊎ (count ≤ gone_after count)
      none_left_or_gone zero = inr (omega arith)
      none_left_or_gone (suc count) =
          let now = reached_and_kept S never_locks g reached kept (sweeps_of S count) in
          ⊎_elim
          (λ (some : 0 < item_count S (grid_after count)).
          ⊎_elim
          (λ (none : item_count S (grid_after count) ≡ 0). absurd (omega (arith, some, none)))
          (λ (many : count ≤ gone_after count). inr (omega (arith, many, gone_then count, sweep_goes (grid_after count) now.0 now.1 deep some)))
          (none_left_or_gone count))
          (λ (none : item_count S (grid_after count) ≤ 0).
          let none_ahead_now = (none_ahead_after count).1 (omega (arith, none)) in
          inl ((none_ahead_after (suc count)).0 (omega (arith, none_ahead_now, sweeps_hops count, sweeps_hops (suc count), gone_then count))))
          (cases_lt 0 (item_count S (grid_after count)))

      pub keeps_bound : (count : ℕ) → KeepsBound S g count (gone_after count) (grid_after count)
      keeps_bound count =
          let hops = sweeps_hops count in
          record {
            at_most = omega (arith, hops);
            exactly = Iff.trans (omega (arith, hops)) (none_ahead_after count);
            in_time = λ enough.
                ⊎_elim (λ (none : item_count S (grid_after count) ≡ 0). none)
                (λ (many : count ≤ gone_after count). (none_ahead_after count).0 (omega (arith, enough, many, hops)))
                (none_left_or_gone count);
          }
