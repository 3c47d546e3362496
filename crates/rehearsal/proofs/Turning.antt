-- A rehearsal turn by turn.
use Rattle.std.proofs.Common.{◌≡◌, ℕ, ◌+◌, ◌*◌, ◌<◌, ◌≤◌, ◌↔◌, Bool, true, cond, [], length, sym, ap, subst, ◌∙◌, arith}
use Rattle.std.proofs.lemmas.Iterator.Adapters.{option_map_id}
use Rattle.std.proofs.lemmas.List.{nil_from_length}
use Rattle.routes.specs.Loads.{stream_count}
use Rattle.model.specs.Calls.{Call, sends, steps}
use Rattle.model.specs.Law.{Goes, NoLaneWillStep}
use Rattle.model.specs.Sums.{item_count}
use Rattle.model.specs.Sweeps.{sweep_of}
use Rattle.lanes.specs.declared.strip.Strip.{Strip}
use Rattle.grid.specs.declared.sweep.Sweep.{Sweep}
use Rattle.grid.specs.Sweeps.{Workspace, enough_for, setting_in, grid_in, lane_count_in, suffices, out_by, Swept}
use Rattle.grid.specs.Views.{streams_in}
use Rattle.grid.proofs.Sweeping.{works_setting, works_grid}
use Rattle.plan.specs.Plans.{open_streams}
use Rattle.plan.specs.Summaries.{hop_count}
use Rattle.rehearsal.specs.declared.rehearse.Rehearsal.{Rehearsal}
use Rattle.rehearsal.specs.Strips.{counted}
use Rattle.rehearsal.specs.Rehearsals.{tally_at, CountsMore, moment_in, NoneSends, Rests, StandsAfter, GoesOn, SameBehind, Rehearses}
use Rattle.rehearsal.proofs.Acting.{stands_setting, said_now, stands_swept}
use Rattle.rehearsal.proofs.Beginning.{SweepsIdle, Ready}
use Rattle.rehearsal.proofs.Completing.{completes}
use Rattle.rehearsal.proofs.Sweeping.{same_behind}

-- So far a rehearsal stands that was begun where nothing was on the grid, and so many of its acts went at least.
pub record SoFar (strips : ℕ) (begun : Workspace Strip) (count : ℕ) (r : Rehearsal) (now : Workspace Strip) : Type 0 where
  pub ready : Ready begun
  pub stands : StandsAfter strips begun count (moment_in r now)
  pub ahead : r.ahead ≡ counted (strips * hop_count (open_streams (streams_in begun.tables)))
  pub behind : SameBehind begun now

module _ {strips count : ℕ} {begun now : Workspace Strip} {r : Rehearsal} (so_far : SoFar strips begun count r now) where
  setting_is : setting_in now ≡ setting_in begun
  setting_is = stands_setting so_far.stands.stands

  -- enough is lent still
  pub lent_still : length now.streams ≡ length begun.streams → length now.items ≡ length begun.items → suffices (lane_count_in now) now ≡ true
  lent_still streams items =
      subst (λ S. enough_for S (S.links * S.lanes) (length now.streams) (length now.items) ≡ true) (sym setting_is) (rw (streams, items) so_far.ready.enough)

  -- after sends, by which the lent tables stay
  pub sent_further : {went : Bool} {r' : Rehearsal} {after : Workspace Strip} → GoesOn strips went (moment_in r now) (moment_in r' after)
      → after.streams ≡ now.streams → after.items ≡ now.items → SoFar strips begun (cond went (count + 1) count) r' after
  sent_further on streams items = record {
    ready = so_far.ready;
    stands = on.stands begun count so_far.stands;
    ahead = on.ahead ∙ so_far.ahead;
    behind = record { streams = rw streams so_far.behind.streams; items = rw items so_far.behind.items };
  }

  -- at the end the rehearsal is made, and it completes
  pub rehearsed : strips < 65536 → Rests strips (moment_in r now) → Rehearses strips begun r now
  rehearsed narrow ends = record {
    stands = so_far.stands.stands;
    ahead = so_far.ahead;
    ends = ends;
    completes = completes so_far.stands.stands so_far.ready ends narrow so_far.ahead;
    behind = so_far.behind;
  }

  module _ {told : Sweep} {r' : Rehearsal} {after : Workspace Strip} (swept : Swept now told after)
      (counted : CountsMore told.steps (out_by now (sweep_of (setting_in now))) r r') where
    -- after a sweep
    pub swept_further : {total : ℕ} → total ≤ count + told.steps → SoFar strips begun total r' after
    swept_further most =
        let lanes : lane_count_in now ≡ lane_count_in begun = ap (λ S. S.links * S.lanes) setting_is in
        let behind = same_behind swept in
        record {
          ready = so_far.ready;
          stands = stands_swept so_far.stands swept counted most;
          ahead = counted.ahead ∙ so_far.ahead;
          behind = record {
            streams = rw lanes at behind.streams ∙ so_far.behind.streams;
            items = rw lanes at behind.items ∙ so_far.behind.items;
          };
        }

    -- if no step went, it rests where no stream sends a strip
    module _ (none : told.steps ≡ 0) where
      none_out : out_by now (sweep_of (setting_in now)) ≡ []
      none_out = nil_from_length (out_by now (sweep_of (setting_in now))) (omega (arith, swept.items, swept.few, none))

      same_tally : (n : ℕ) → n < stream_count → tally_at r' n ≡ tally_at r n
      same_tally n low = rw none_out at (counted.takes.tallies n low) ∙ option_map_id (tally_at r n)

      same_grid : grid_in after ≡ grid_in now
      same_grid = works_grid swept.works ∙ said_now so_far.stands.stands SweepsIdle (so_far.ready.idle so_far.stands.stands.acts) (sym swept.steps ∙ none)

      -- what goes now went before
      went : (c : Call Strip) → Goes (setting_in after) (grid_in after) c → Goes (setting_in now) (grid_in now) c
      went c goes = subst (λ g. Goes (setting_in now) g c) same_grid (subst (λ S. Goes S (grid_in after) c) (works_setting swept.works) goes)

      none_steps : NoLaneWillStep (setting_in now) (grid_in now)
      none_steps =
          let rests = said_now so_far.stands.stands (λ S g. (item_count S g ≡ 0) ↔ NoLaneWillStep S g) (so_far.ready.law so_far.stands.stands.acts).rests in
          rests.0 (grind (arith, swept.progress))

      pub rests_swept : NoneSends strips (moment_in r now) → Rests strips (moment_in r' after)
      rests_swept none_sends = record {
        no_step = λ link lane goes. none_steps link lane (went (steps link lane) goes);
        no_send = λ n low tally entry left x goes. none_sends n low tally (sym (same_tally n low) ∙ entry) left x (went (sends n x) goes);
      }
