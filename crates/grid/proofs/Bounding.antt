-- Sweeps called one after another are bounded by the hops ahead.
use Rattle.std.proofs.Common.{◌≡◌, ℕ, ◌+◌, suc, List, [], ◌∷◌, ◌++◌, length, refl, length-append, arith}
use Rattle.std.specs.List.{sum_by}
use Rattle.std.proofs.lemmas.List.Sums.{sum_by-append}
use Rattle.model.specs.Kinds.{Kind}
use Rattle.model.specs.Grid.{Setting, Grid}
use Rattle.model.specs.Runs.{steps_gone_from}
use Rattle.model.specs.Safe.{Reached, Safe, never_locks}
use Rattle.model.specs.Standing.{AllStand}
use Rattle.model.specs.Sweeps.{sweep_of, sweeps_of}
use Rattle.model.proofs.Joins.{gone_joined}
use Rattle.model.proofs.Sweeping.{keeps_bound}
use Rattle.grid.specs.declared.sweep.Sweep.{Sweep}
use Rattle.grid.specs.declared.tables.Tables.{Tables}
use Rattle.grid.specs.Views.{streams_in, view, outline, setting}
use Rattle.grid.specs.InTurn.{InTurn, no_call}
use Rattle.grid.specs.Sweeps.{Workspace, Swept}
use Rattle.grid.specs.Bounds.{SweptInTurn, no_sweep, one_more, BoundFrom}
use Rattle.grid.proofs.InTurn.{turn_grid}
use Rattle.grid.proofs.Sweeping.{then_sweep, then_gone}
use Rattle.grid.proofs.Stands.{kept}

module _ {T : Type 0} (k : Kind) (t : Tables) (xs : List T) where
  abbrev S : Setting
  S = setting k t (length xs)

  abbrev g : Grid T
  g = view t xs

  -- So many sweeps are made in turn, and so many of their steps went.
  record Sweeping (sweeps gone : ℕ) (t' : Tables) (xs' : List T) : Type 0 where
    pub in_turn : InTurn k t xs (sweeps_of S sweeps) t' xs'
    pub steps : gone ≡ steps_gone_from S g (sweeps_of S sweeps)

  -- a sweep more
  sweeping_more : {sweeps gone : ℕ} {before after : Workspace T} (s : Sweep) → Sweeping sweeps gone before.tables before.slots → before.kind ≡ k → Swept before s after
      → Sweeping (suc sweeps) (gone + s.steps) after.tables after.slots
  sweeping_more {sweeps = sweeps} s so_far kind swept = record {
    in_turn = then_sweep k t xs so_far.in_turn kind swept;
    steps = omega (arith, so_far.steps, then_gone k t xs so_far.in_turn kind swept, gone_joined S g (sweeps_of S sweeps) (sweep_of S));
  }

  sweeping : {told : List Sweep} {t' : Tables} {xs' : List T} → SweptInTurn k t xs told t' xs' → Sweeping (length told) (sum_by (λ s. s.steps) told) t' xs'
  sweeping no_sweep = record { in_turn = no_call; steps = refl }
  sweeping (one_more {told = told} {after = after} s so_far kind swept) =
      let steps : sum_by (λ (s : Sweep). s.steps) (told ++ (s ∷ [])) ≡ sum_by (λ s. s.steps) told + s.steps = omega (arith, sum_by-append (λ (s : Sweep). s.steps) told (s ∷ [])) in
      let count : length (told ++ (s ∷ [])) ≡ suc (length told) = omega (arith, length-append told (s ∷ [])) in
      rw (steps, count) (sweeping_more s (sweeping so_far) kind swept)

  pub bound_from : k.links ≡ t.lanes.size.links → Safe S → ∥ Reached (k.judge t.lanes.size.lanes t.capacity) (streams_in t) ∥₁ → AllStand (outline t) → BoundFrom k t xs
  bound_from links safe reached stand lends told t' xs' sweeps =
      let all = sweeping sweeps in
      rw (all.steps, turn_grid k t xs all.in_turn) (keeps_bound S (never_locks safe) g reached (kept k t links xs safe reached stand lends) t.lanes.size.deep.0 (length told))
