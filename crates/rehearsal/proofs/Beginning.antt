-- Where a rehearsal begins: on a grid with no item, with enough lent.
use Rattle.std.proofs.Common.{◌≡◌, ℕ, ◌≤◌, true, length, Some, None, sym, refl, ◌∙◌}
use Rattle.std.proofs.lemmas.Bool.{and_parts, ne_eqb}
use Rattle.refusals.specs.declared.refusal.Refusal.TheVariants.{ItemsOnGrid}
use Rattle.routes.specs.Routes.{OpenStream}
use Rattle.model.specs.Grid.{Setting, Grid, enough_slots}
use Rattle.model.specs.Sums.{item_count}
use Rattle.model.specs.Runs.{History, after_from, steps_gone_from}
use Rattle.model.specs.Safe.{Reached, Takes, Safe, never_locks}
use Rattle.model.specs.Standing.{AllStand}
use Rattle.model.specs.Sweeps.{sweep_of}
use Rattle.model.specs.Reopening.{Reopens}
use Rattle.model.specs.Law.{KeepsFrom}
use Rattle.model.proofs.Kept.{Kept}
use Rattle.model.proofs.Reopening.{open_takes}
use Rattle.model.proofs.Onward.{reached_and_kept}
use Rattle.model.proofs.Sweeping.{sweep_idle}
use Rattle.lanes.specs.Sizes.{lane_count}
use Rattle.lanes.specs.declared.strip.Strip.{Strip}
use Rattle.grid.specs.Sweeps.{Workspace, setting_in, grid_in, lane_count_in, items_in, suffices}
use Rattle.grid.specs.Views.{streams_in, setting, outline}
use Rattle.grid.proofs.Shown.{items_shown}
use Rattle.grid.proofs.Stands.{Lends, kept, law_from}
use Rattle.grid.proofs.Sweeping.{enough_lent}
use Rattle.rehearsal.specs.Rehearsals.{rehearsal_refusal}

-- a sweep of which no step goes leaves a grid as it is
abbrev pub SweepsIdle : Setting → Grid Strip → Type 0
SweepsIdle S g = steps_gone_from S g (sweep_of S) ≡ 0 → after_from S g (sweep_of S) ≡ g

module _ (w : Workspace Strip) where
  abbrev S : Setting
  S = setting_in w

  abbrev g : Grid Strip
  g = grid_in w

  -- Enough is lent, and nothing is on the grid; open streams take routes of the grid; every grid that calls made next leave is kept, by a sweep
  -- of which no step goes too, and the law holds of it.
  pub record Ready : Type 0 where
    pub enough : suffices (lane_count_in w) w ≡ true
    pub none : items_in w ≡ 0
    pub takes : (n : ℕ) (s : OpenStream) → streams_in w.tables n ≡ Some s → Takes S s.hops
    pub kept : (next : History Strip) → Kept S (after_from S g next)
    pub idle : (next : History Strip) → SweepsIdle S (after_from S g next)
    pub law : (next : History Strip) → KeepsFrom S g next

  module _ (links : w.kind.links ≡ w.tables.lanes.size.links) (lends : Lends w.tables w.slots)
      (streams : lane_count w.tables.lanes.size ≤ length w.streams) (items : lane_count w.tables.lanes.size ≤ length w.items) where
    lent : suffices (lane_count_in w) w ≡ true
    lent = enough_lent w links lends (lane_count_in w) (rw links streams) (rw links items)

    shown : item_count (setting w.kind w.tables 0) (outline w.tables) ≡ items_in w
    shown = items_shown w links (and_parts (enough_slots S) _ lent).0

    -- where enough is lent, an item on the grid declines a rehearsal
    pub items_decline : (item_count (setting w.kind w.tables 0) (outline w.tables) ≡ 0 → ⊥) → rehearsal_refusal w ≡ Some ItemsOnGrid
    items_decline some = rw (lent, ne_eqb (items_in w) 0 (λ none. some (shown ∙ none))) refl

    -- and every grid with none is ready for it
    pub ready : Safe S → Reopens w.kind w.tables.lanes.size.lanes w.tables.capacity
        → ∥ Reached (w.kind.judge w.tables.lanes.size.lanes w.tables.capacity) (streams_in w.tables) ∥₁ → AllStand (outline w.tables)
        → item_count (setting w.kind w.tables 0) (outline w.tables) ≡ 0 → Ready
    ready safe owed reached stand none =
        let later = reached_and_kept S (never_locks safe) g reached (kept w.kind w.tables links w.slots safe reached stand lends) in
        record {
          enough = lent;
          none = sym shown ∙ none;
          takes = open_takes w.kind w.tables.lanes.size.lanes w.tables.capacity owed (streams_in w.tables) reached w.tables.lanes.size.depth (length w.slots) safe;
          kept = λ next. (later next).1;
          idle = λ next. sweep_idle S (never_locks safe) (after_from S g next) (later next).0 (later next).1;
          law = law_from w.kind w.tables links w.slots safe reached stand lends;
        }

  -- so nothing declines it
  pub none_declines : Ready → rehearsal_refusal w ≡ None
  none_declines ready = rw (ready.enough, ready.none) refl
