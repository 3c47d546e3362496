-- A rehearsal that is made completes.
use Rattle.std.proofs.Common.{◌≡◌, ℕ, nat_lt, ◌*◌, ◌<◌, ◌≤◌, true, List, [], ◌∷◌, length, Some, None, Option, sym, refl, ap, ◌∙◌, ⊎_elim, arith, mul-zero}
use Rattle.std.proofs.lemmas.Bool.{cases_lt, and_parts, ltb-true, lt-ltb}
use Rattle.std.proofs.lemmas.Bool.Decides.{nat_tests}
use Rattle.std.specs.Option.{option_map}
use Rattle.routes.specs.declared.hop.Hop.{Hop}
use Rattle.routes.specs.Routes.{OpenStream, is_on_grid}
use Rattle.routes.specs.Loads.{stream_count}
use Rattle.model.specs.Grid.{Setting, Queue, Grid, enough_slots, route_of}
use Rattle.model.specs.Sums.{of_stream, queue_sum, one, item_count}
use Rattle.model.specs.Calls.{Call, sends, send_refusal}
use Rattle.model.specs.Runs.{History, start, after_from, let_in_from, handed_out_from, hops_let_in_from}
use Rattle.model.specs.Safe.{Takes}
use Rattle.model.specs.Law.{Goes, NoLaneWillStep}
use Rattle.model.proofs.GridSums.{grid_sum_at}
use Rattle.model.proofs.Onward.{all_came_out, all_hops_went}
use Rattle.lanes.specs.declared.strip.Strip.{Strip}
use Rattle.grid.specs.Sweeps.{Workspace, setting_in, grid_in}
use Rattle.plan.specs.Plans.{open_streams}
use Rattle.plan.specs.Summaries.{hop_count}
use Rattle.rehearsal.specs.Strips.{strip_of, counted}
use Rattle.rehearsal.specs.Acts.{gone}
use Rattle.rehearsal.specs.Rehearsals.{tally_of, tally_at, Moment, setting_at, grid_at, Rests, Stands, Completes}
use Rattle.rehearsal.proofs.Acting.{stands_setting, stands_grid}
use Rattle.rehearsal.proofs.Weights.{route_length, count, weighed, weighed_most, weighed_all}
use Rattle.rehearsal.proofs.Beginning.{Ready}
use Rattle.rehearsal.proofs.Entering.{Enters, acts_rows, acts_enter}

-- ---- what a stream lets in on an empty grid

module _ (S : Setting) (g : Grid Strip) (none : item_count S g ≡ 0) where
  -- a lane of the grid is empty
  empty_if_none : (link : ℕ) (queue : Queue Strip) → queue_sum (one link) queue ≡ 0 → queue ≡ []
  empty_if_none link [] is = refl
  empty_if_none link (item ∷ queue) is = absurd (omega arith)

  lane_empty : (h : Hop) → is_on_grid S.links S.lanes h ≡ true → g.contents h.link h.lane ≡ []
  lane_empty h there =
      let parts = and_parts (nat_lt h.link S.links) (nat_lt h.lane S.lanes) there in
      empty_if_none h.link (g.contents h.link h.lane) (omega (arith, none, grid_sum_at S one g.contents h (ltb-true _ _ parts.0, ltb-true _ _ parts.1)))

  -- so a strip of an open stream is let in
  lets_in : (n : ℕ) (x : Strip) (s : OpenStream) (hops : List Hop) → enough_slots S ≡ true → 1 ≤ S.depth → n < stream_count
      → g.streams n ≡ Some s → s.hops ≡ hops → Takes S hops → Goes S g (sends n x)
  unfolding send_refusal
  lets_in n x s [] enough deep low is begins takes = let none = takes.count in cc
  lets_in n x s (h ∷ hops) enough deep low is begins takes =
      rw (enough, lt-ltb n stream_count low, is, begins, lane_empty h (and_parts _ _ takes.there).0, lt-ltb 0 S.depth deep) refl

-- a route has at most 24 hops
route_short : (S : Setting) (entry : Option OpenStream) → ((s : OpenStream) → entry ≡ Some s → Takes S s.hops) → length (route_of entry) ≤ 24
route_short S None takes = omega arith
route_short S (Some s) takes = let count = (takes s refl).count in grind (arith, nat_tests)

-- ---- a rehearsal

module _ {strips : ℕ} {begun : Workspace Strip} {now : Moment} (stands : Stands strips begun now) (ready : Ready begun) where
  abbrev S : Setting
  S = setting_in begun

  abbrev g : Grid Strip
  g = grid_in begun

  abbrev acts : History Strip
  acts = stands.acts

  abbrev let_in : Queue Strip
  let_in = let_in_from S g acts

  -- what its acts let in
  enters : Enters g.streams (after_from S g acts).streams let_in (hops_let_in_from S g acts)
  enters = acts_enter S g ready.kept acts stands.reports.are_acts

  -- no rehearsal goes on until a number of 64 bits cannot count it
  pub not_endless : strips < 65536 → 18446744073709551615 ≤ gone S g acts → ⊥
  not_endless narrow endless =
      let sends = weighed_most (λ _. 1) let_in strips 1 stands.reports.few (λ n. omega arith) in
      let hops = weighed_most (route_length g.streams) let_in strips 24 stands.reports.few (λ n. route_short S (g.streams n) (ready.takes n)) in
      omega (arith, endless, enters.count, enters.hops, sends, hops, (ready.law acts).hops, ((ready.law start).empty ready.none).0)

  -- a call that goes after the acts goes now
  goes_now : (c : Call Strip) → Goes S (after_from S g acts) c → Goes (setting_at now) (grid_at now) c
  goes_now c goes = rw (stands_setting stands, stands_grid stands) goes

  module _ (rests : Rests strips now) where
    -- no lane will step, so everything that was let in came out
    no_step : NoLaneWillStep S (after_from S g acts)
    no_step = rw (stands_setting stands, stands_grid stands) at rests.no_step

    module _ (n : ℕ) (s : OpenStream) (low : n < stream_count) (is : g.streams n ≡ Some s) where
      -- its tally
      told : tally_at now.report n ≡ Some (tally_of n (of_stream n let_in) (of_stream n (handed_out_from S g acts)))
      told = stands.reports.counts.tallies n low ∙ ap (option_map _) is

      -- the lanes are empty, so no strip is left
      next_goes : Goes S (after_from S g acts) (sends n (strip_of n 0))
      next_goes =
          lets_in S (after_from S g acts) ((ready.law acts).rests.1 no_step) n (strip_of n 0) s s.hops (and_parts _ _ ready.enough).0 begun.tables.lanes.size.deep.0 low
          (ap (λ streams. streams n) enters.stay ∙ is) refl (ready.takes n s is)

      none_left : count n let_in < strips → ⊥
      none_left less = rests.no_send n low _ told less (strip_of n 0) (goes_now (sends n (strip_of n 0)) next_goes)

      all_sent : count n let_in ≡ strips
      all_sent =
          ⊎_elim
          (λ (less : count n let_in < strips). absurd (none_left less))
          (λ (all : strips ≤ count n let_in). omega (arith, stands.reports.few n))
          (cases_lt (count n let_in) strips)

      tally_complete : strips < 65536 → tally_at now.report n ≡ Some (record { sent = strips; out = strips; in_order = true })
      tally_complete narrow =
          let held : counted strips ≡ strips = omega arith in
          told
          ∙ ap (λ out. Some (tally_of n (of_stream n let_in) out)) (sym (all_came_out S g ready.law ready.none acts no_step n))
          ∙ rw (acts_rows n S g acts stands.reports.are_acts, all_sent, held) refl

    -- a stream that is not open has no hops
    hops_sent : (n : ℕ) → n < stream_count → (entry : Option OpenStream) → g.streams n ≡ entry
        → count n let_in * length (route_of entry) ≡ strips * length (route_of entry)
    hops_sent n low None is = mul-zero (count n let_in) ∙ sym (mul-zero strips)
    hops_sent n low (Some s) is = ap (λ i. i * length s.hops) (all_sent n s low is)

    all_hops : weighed (route_length g.streams) let_in ≡ strips * hop_count (open_streams g.streams)
    all_hops = weighed_all g.streams let_in strips (λ n low. hops_sent n low (g.streams n) refl)

    pub completes : strips < 65536 → now.report.ahead ≡ counted (strips * hop_count (open_streams g.streams)) → Completes g.streams strips now.report
    completes narrow ahead = record {
      all = λ n s low is. tally_complete n s low is narrow;
      steps =
          stands.reports.counts.steps
          ∙ ap counted (all_hops_went S g ready.law ready.none acts no_step ∙ enters.hops ∙ all_hops)
          ∙ sym ahead;
    }
