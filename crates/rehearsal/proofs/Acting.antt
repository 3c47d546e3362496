-- Acts made next.
use Rattle.std.proofs.Common.{◌≡◌, ℕ, ◌+◌, ◌<◌, ◌≤◌, true, false, cond, List, [], ◌∷◌, ◌++◌, length, length-append, Some, None, Option, ◌==◌, get_or, set, get_or-set_same, get_or-set_other, sym, refl, ap, subst, ◌∙◌, append-nil, add-zero, ⊎_elim, arith}
use Rattle.std.proofs.lemmas.Bool.{cases_Bool, cases_lt, cond_both, eqb-true, eqb-false}
use Rattle.std.proofs.lemmas.Iterator.Adapters.{option_map_id}
use Rattle.std.proofs.lemmas.List.{get_or_past}
use Rattle.std.specs.Option.{option_map}
use Rattle.routes.specs.declared.declined.Declined.{Declined}
use Rattle.routes.specs.Loads.{stream_count}
use Rattle.model.specs.Grid.{Setting, Queue, Grid}
use Rattle.model.specs.Kinds.{Kind}
use Rattle.model.specs.Sums.{of_stream}
use Rattle.model.specs.Calls.{Call, sends, steps, Answer, declined, done}
use Rattle.model.specs.Runs.{History, start, ◌▸◌, after_from, entering, leaving, let_in_from, handed_out_from, steps_gone_from, then_steps, then_calls}
use Rattle.model.specs.Sweeps.{all_lanes, sweep_of}
use Rattle.model.proofs.Joins.{let_in_joined, handed_joined, gone_joined}
use Rattle.model.proofs.Sweeping.{sweep_let_in}
use Rattle.lanes.specs.declared.strip.Strip.{Strip}
use Rattle.grid.specs.declared.sweep.Sweep.{Sweep}
use Rattle.grid.specs.Views.{streams_in, setting}
use Rattle.grid.specs.Makes.{Makes}
use Rattle.grid.specs.InTurn.{InTurn, one_more}
use Rattle.grid.specs.Sweeps.{Workspace, setting_in, grid_in, out_by, Swept}
use Rattle.grid.proofs.InTurn.{turn_setting, turn_grid, turn_answer}
use Rattle.grid.proofs.Sweeping.{then_sweep, then_gone, then_out}
use Rattle.rehearsal.specs.declared.tally.Tally.{Tally}
use Rattle.rehearsal.specs.declared.rehearse.Rehearsal.{Rehearsal}
use Rattle.rehearsal.specs.Strips.{strip_of}
use Rattle.rehearsal.specs.Acts.{AreActs}
use Rattle.rehearsal.specs.Rehearsals.{tally_of, tally_at, Counts, CountsMore, Moment, moment_in, setting_at, grid_at, Stands, StandsAfter, GoesOn}
use Rattle.rehearsal.proofs.Tallies.{let_in_too, count_more, tally_told, counts_let_in, counts_more}

-- a table of tallies where one is changed
changed_at : (tallies : List (Option Tally)) (n : ℕ) (tally : Tally) (f : Tally → Tally) → get_or tallies n None ≡ Some tally
    → (k : ℕ) → get_or (set tallies n (Some (f tally))) k None ≡ option_map (λ tally. cond (n == k) (f tally) tally) (get_or tallies k None)
changed_at tallies n tally f is k =
    let there : n < length tallies =
    ⊎_elim (λ (yes : n < length tallies). yes) (λ (no : length tallies ≤ n). let none = get_or_past tallies n None no in cc) (cases_lt n (length tallies)) in
    ⊎_elim
    (λ (own : (n == k) ≡ true). let same : k ≡ n = sym (eqb-true n k own) in rw (own, same, is) (get_or-set_same tallies n (Some (f tally)) None there))
    (λ (other : (n == k) ≡ false).
    rw other (get_or-set_other tallies n k (Some (f tally)) None (λ same. eqb-false n k other (sym same)) ∙ sym (option_map_id (get_or tallies k None))))
    (cases_Bool (n == k))

-- steps are acts
steps_are_acts : (S : Setting) (g : Grid Strip) (past more : History Strip) (lanes : List (ℕ × ℕ))
    → AreActs S g (then_calls past more) → AreActs S g (then_calls past (then_steps more lanes))
steps_are_acts S g past more [] are = are
steps_are_acts S g past more (p ∷ lanes) are = steps_are_acts S g past (more ▸ steps p.0 p.1) lanes (are, tt)

-- where a rehearsal stands, the grid in words is as its acts left it
module _ {strips : ℕ} {begun : Workspace Strip} {now : Moment} (stands : Stands strips begun now) where
  pub stands_setting : setting_at now ≡ setting_in begun
  stands_setting = ap (λ k. setting k now.tables (length now.slots)) stands.kind ∙ turn_setting begun.kind begun.tables begun.slots stands.in_turn

  pub stands_grid : grid_at now ≡ after_from (setting_in begun) (grid_in begun) stands.acts
  stands_grid = turn_grid begun.kind begun.tables begun.slots stands.in_turn

  pub said_now : (P : Setting → Grid Strip → Type 0) → P (setting_in begun) (after_from (setting_in begun) (grid_in begun) stands.acts) → P (setting_at now) (grid_at now)
  said_now P said = subst (P (setting_at now)) (sym stands_grid) (subst (λ S. P S (after_from (setting_in begun) (grid_in begun) stands.acts)) (sym stands_setting) said)

-- A rehearsal that stands, and calls made next.
module _ {strips count : ℕ} {begun : Workspace Strip} {before : Moment} (so_far : StandsAfter strips begun count before) where
  abbrev S : Setting
  S = setting_in begun

  abbrev g : Grid Strip
  g = grid_in begun

  abbrev acts : History Strip
  acts = so_far.stands.acts

  abbrev came_in : Queue Strip
  came_in = let_in_from S g acts

  abbrev came_out : Queue Strip
  came_out = handed_out_from S g acts

  abbrev went_so_far : ℕ
  went_so_far = steps_gone_from S g acts

  -- what is to be reported where so much is let in, so much comes out and so many steps go
  record ReportsMore (total : ℕ) (r : Rehearsal) (let_in out : Queue Strip) (steps : ℕ) : Type 0 where
    pub few : (n : ℕ) → length (of_stream n (came_in ++ let_in)) ≤ strips
    pub counts : Counts (streams_in begun.tables) (came_in ++ let_in) (came_out ++ out) (went_so_far + steps) r
    pub many : total ≤ count + (length let_in + steps)

  stands_more : {after : Moment} {total : ℕ} (more : History Strip) → after.kind ≡ before.kind
      → InTurn begun.kind begun.tables begun.slots (then_calls acts more) after.tables after.slots → AreActs S g (then_calls acts more)
      → ReportsMore total after.report (let_in_from S (after_from S g acts) more) (handed_out_from S (after_from S g acts) more) (steps_gone_from S (after_from S g acts) more)
      → StandsAfter strips begun total after
  stands_more more kind in_turn are_acts reports =
      let let_in = let_in_joined S g acts more in
      record {
        stands = record {
          acts = then_calls acts more;
          kind = kind ∙ so_far.stands.kind;
          in_turn = in_turn;
          reports = record {
            are_acts = are_acts;
            few = λ n. rw let_in (reports.few n);
            counts = rw (let_in, handed_joined S g acts more, gone_joined S g acts more) reports.counts;
          };
        };
        many = omega (
          arith,
          so_far.many,
          reports.many,
          ap length let_in,
          length-append came_in (let_in_from S (after_from S g acts) more),
          gone_joined S g acts more,
        );
      }

  -- nothing comes in
  few_still : (n : ℕ) → length (of_stream n (came_in ++ [])) ≤ strips
  few_still n = rw (append-nil came_in) (so_far.stands.reports.few n)

  -- ---- a send

  -- a tally tells how many strips its stream has sent
  sent_so_far : (n : ℕ) (tally : Tally) → n < stream_count → tally_at before.report n ≡ Some tally → tally.sent ≡ length (of_stream n came_in)
  sent_so_far n tally low entry =
      let told : Tally = tally_of n (of_stream n came_in) (of_stream n came_out) in
      ap (λ (tally : Tally). tally.sent) (sym (tally_told (streams_in begun.tables n) told tally (sym (so_far.stands.reports.counts.tallies n low) ∙ entry)))

  -- the next strip of a stream is let in
  few_yet : (n : ℕ) (x : Strip) → length (of_stream n came_in) < strips → (j : ℕ) → length (of_stream j (came_in ++ ((n, x) ∷ []))) ≤ strips
  few_yet n x left j =
      rw (count_more j n x came_in)
      (cond_both (n == j) 1 0 (λ more. length (of_stream j came_in) + more ≤ strips)
      (λ own. let same : length (of_stream n came_in) ≡ length (of_stream j came_in) = ap (λ i. length (of_stream i came_in)) (eqb-true n j own) in omega arith)
      (λ other. omega (arith, so_far.stands.reports.few j)))

  stands_sent : {after : Moment} {total : ℕ} (n : ℕ) (tally : Tally) (a : Answer Strip) → n < stream_count → tally_at before.report n ≡ Some tally
      → after.kind ≡ before.kind → Makes before.kind before.tables before.slots (sends n (strip_of n tally.sent)) a after.tables after.slots
      → ReportsMore total after.report (entering (sends n (strip_of n tally.sent)) a) (leaving a) 0 → StandsAfter strips begun total after
  stands_sent {after} {total} n tally a low entry kind makes reports =
      let next : Call Strip = sends n (strip_of n tally.sent) in
      let stands = so_far.stands in
      let made = subst (λ (k : Kind). Makes k before.tables before.slots next a after.tables after.slots) stands.kind makes in
      stands_more (start ▸ next) kind (one_more a stands.in_turn made) (stands.reports.are_acts, ap (strip_of n) (sent_so_far n tally low entry))
      (subst (λ (a : Answer Strip). ReportsMore total after.report (entering next a) (leaving a) 0) (turn_answer begun.kind begun.tables begun.slots stands.in_turn made) reports)

-- ---- a send

module _ (strips : ℕ) (before after : Moment) (n : ℕ) (tally : Tally) (low : n < stream_count) (entry : tally_at before.report n ≡ Some tally)
    (kind : after.kind ≡ before.kind) where
  abbrev next : Call Strip
  next = sends n (strip_of n tally.sent)

  -- it is declined
  pub send_declined : (d : Declined) → after.report ≡ before.report → Makes before.kind before.tables before.slots next (declined d) after.tables after.slots
      → GoesOn strips false before after
  send_declined d same makes = record {
    stands = λ begun count so_far.
        (stands_sent so_far {total = count} n tally (declined d) low entry kind makes (record {
          few = few_still so_far;
          counts = rw (append-nil (came_in so_far), append-nil (came_out so_far), add-zero (went_so_far so_far), same) so_far.stands.reports.counts;
          many = omega arith;
        }));
    ahead = ap (λ (r : Rehearsal). r.ahead) same;
  }

  -- it is done
  pub send_done : tally.sent < strips → after.report ≡ record before.report { tallies = set before.report.tallies n (Some (let_in_too tally)) }
      → Makes before.kind before.tables before.slots next done after.tables after.slots → GoesOn strips true before after
  send_done left is makes = record {
    stands = λ begun count so_far.
        (stands_sent so_far {total = count + 1} n tally done low entry kind makes (record {
          few = few_yet so_far n (strip_of n tally.sent) (omega (arith, sent_so_far so_far n tally low entry));
          counts = rw (append-nil (came_out so_far), add-zero (went_so_far so_far), is)
              (counts_let_in so_far.stands.reports.counts _ n (strip_of n tally.sent) refl refl (λ j _. changed_at before.report.tallies n tally let_in_too entry j));
          many = omega arith;
        }));
    ahead = ap (λ (r : Rehearsal). r.ahead) is;
  }

-- ---- a sweep

pub stands_swept : {strips count total : ℕ} {begun before after : Workspace Strip} {told : Sweep} {r r' : Rehearsal} → StandsAfter strips begun count (moment_in r before)
    → Swept before told after → CountsMore told.steps (out_by before (sweep_of (setting_in before))) r r' → total ≤ count + told.steps
    → StandsAfter strips begun total (moment_in r' after)
stands_swept {begun} {r'} so_far swept counted most =
    let S = setting_in begun in
    let stands = so_far.stands in
    let grid = after_from S (grid_in begun) stands.acts in
    let out = then_out begun.kind begun.tables begun.slots stands.in_turn stands.kind swept in
    let gone = then_gone begun.kind begun.tables begun.slots stands.in_turn stands.kind swept in
    stands_more so_far (sweep_of S) swept.works.kind (then_sweep begun.kind begun.tables begun.slots stands.in_turn stands.kind swept)
    (steps_are_acts S (grid_in begun) stands.acts start (all_lanes S.links S.lanes) stands.reports.are_acts)
    (rw (sweep_let_in S grid) (record {
      few = few_still so_far;
      counts = rw (append-nil (came_in so_far), ← out, ← gone) (counts_more stands.reports.counts r' counted);
      many = omega (arith, most, gone);
    }))
