-- A sweep, lane by lane.
use Rattle.std.proofs.Common.{◌≡◌, ℕ, nat_le, Bool, true, false, cond, ◌+◌, ◌*◌, ◌<◌, ◌≤◌, ◌++◌, List, length, map, refl, sym, ap, subst, ◌∙◌, length-append, arith}
use Rattle.std.proofs.lemmas.Bool.{and_parts, and_from, leb-true, le-leb}
use Rattle.std.proofs.lemmas.Nat.{mul-add-lt}
use Rattle.std.proofs.lemmas.List.{map-append, length-map}
use Rattle.model.specs.Kinds.{Kind}
use Rattle.model.specs.Grid.{Setting, Queue, Grid, enough_slots}
use Rattle.model.specs.Sums.{hops_ahead}
use Rattle.model.specs.Calls.{steps, Answer, declined, done, moved, out}
use Rattle.model.specs.Runs.{History, start, ◌▸◌, after_from, answer_from, handed_out_from, steps_gone_from, then_calls, is_declined, leaving}
use Rattle.model.specs.Safe.{Reached, Safe, never_locks}
use Rattle.model.specs.Standing.{AllStand}
use Rattle.model.specs.Sweeps.{sweep_of}
use Rattle.model.proofs.Sweeping.{sweep_goes, sweep_hops}
use Rattle.lanes.specs.declared.size.Size.{Size}
use Rattle.lanes.specs.Sizes.{lane_count}
use Rattle.grid.specs.declared.sweep.Sweep.{Sweep}
use Rattle.grid.specs.declared.tables.Tables.{Tables}
use Rattle.grid.specs.Views.{streams_in, view, outline, setting}
use Rattle.grid.specs.Makes.{Makes}
use Rattle.grid.specs.InTurn.{InTurn, no_call, one_more}
use Rattle.grid.specs.Sweeps.{Workspace, setting_in, grid_in, lane_count_in, ahead_in, suffices, out_by, gone_by, over, set_from, Writes, Works, Counts, Swept}
use Rattle.grid.proofs.InTurn.{turn_then, turn_setting, turn_grid, turn_answer}
use Rattle.grid.proofs.Stands.{Lends, enough, kept}
use Rattle.grid.proofs.Fronts.{over_more}

-- So far these calls are made, and it is told what they come to.
pub record Told {T : Type 0} (calls : History T) (before : Workspace T) (told : Sweep) (after : Workspace T) : Type 0 where
  pub works : Works calls before after
  pub steps : told.steps ≡ gone_by before calls
  pub items : told.items ≡ length (out_by before calls)

pub told_none : {T : Type 0} (before : Workspace T) → Told start before (record { steps = 0; items = 0 }) before
told_none before = record {
  works = record { kind = refl; in_turn = no_call; writes = record { streams = refl; items = refl } };
  steps = refl;
  items = refl;
}

-- ---- one step more

-- at most one item comes out, by a step that goes
one_leaves : {T : Type 0} (a : Answer T) → length (leaving a) ≤ cond (is_declined a) 0 1
one_leaves (declined d) = omega arith
one_leaves done = omega arith
one_leaves (moved n) = omega arith
one_leaves (out n x) = omega arith

at_most_one : (b : Bool) → cond b 0 1 ≤ 1
at_most_one true = omega arith
at_most_one false = omega arith

-- the lane at hand is one of all, so that fewer were tried
pub lanes_left : (size : Size) (link lane : ℕ) {tried : ℕ} → link < size.links → lane < size.lanes → tried ≤ link * size.lanes + lane → tried < lane_count size
lanes_left size link lane low_link low_lane tried = omega (arith, tried, mul-add-lt link size.lanes lane size.links low_link low_lane)

-- at most one step and one item are counted
pub counts_few : {T : Type 0} {a : Answer T} {told told' : Sweep} {streams streams' : List ℕ} {items items' : List T} → Counts a told streams items told' streams' items'
    → (told'.steps ≤ told.steps + 1) × (told.items ≤ told.steps → told'.items ≤ told'.steps)
counts_few {a = a} counts = (omega (arith, counts.steps, at_most_one (is_declined a)), λ few. omega (arith, counts.count, counts.steps, one_leaves a))

-- what comes out is written behind what came out, by one of its two parts
written_more : {T A : Type 0} (part : (ℕ × T) → A) (so_far more : Queue T) (k : ℕ) (table now after : List A) → k ≡ length so_far → length so_far + length more ≤ length table
    → now ≡ over (map part so_far) table → after ≡ set_from k (map part more) now → after ≡ over (map part (so_far ++ more)) table
written_more part so_far more k table now after is room written writes =
    writes
    ∙ ap (set_from k (map part more)) written
    ∙ over_more k (map part so_far) (map part more) table (is ∙ sym (length-map so_far part)) (omega (arith, room, length-map so_far part, length-map more part))
    ∙ ap (λ list. over list table) (sym (map-append part so_far more))

module _ {T : Type 0} {calls : History T} {before between after : Workspace T} {told told' : Sweep} (so_far : Told calls before told between) where
  pub told_step : (link lane : ℕ) (a : Answer T) → told.items < length before.streams → told.items < length before.items
      → after.kind ≡ between.kind → Makes between.kind between.tables between.slots (steps link lane) a after.tables after.slots
      → Counts a told between.streams between.items told' after.streams after.items → Told (calls ▸ steps link lane) before told' after
  told_step link lane a streams items kind makes counts =
      let made = subst (λ (k : Kind). Makes k between.tables between.slots (steps link lane) a after.tables after.slots) so_far.works.kind makes in
      let is : a ≡ answer_from (setting_in before) (grid_in before) calls (steps link lane) =
      turn_answer before.kind before.tables before.slots so_far.works.in_turn made in
      let one : length (leaving a) ≤ 1 = omega (arith, one_leaves a, at_most_one (is_declined a)) in
      let came = so_far.items in
      subst
      (λ (b : Answer T). (told'.steps ≡ gone_by before calls + cond (is_declined b) 0 1)
      × (told'.items ≡ length (out_by before calls ++ leaving b)) × Writes (out_by before calls ++ leaving b) before after → Told (calls ▸ steps link lane) before told' after)
      (sym is)
      (λ parts. record {
        works = record { kind = kind ∙ so_far.works.kind; in_turn = one_more a so_far.works.in_turn made; writes = parts.2 };
        steps = parts.0;
        items = parts.1;
      }) (
        counts.steps ∙ ap (λ n. n + cond (is_declined a) 0 1) so_far.steps,
        counts.count ∙ ap (λ n. n + length (leaving a)) came ∙ sym (length-append (out_by before calls) (leaving a)),
        record {
          streams = written_more (λ (i : ℕ × T). i.0) (out_by before calls) (leaving a) told.items before.streams _ _ came (omega (arith, came, one)) so_far.works.writes.streams counts.streams_set;
          items = written_more (λ (i : ℕ × T). i.1) (out_by before calls) (leaving a) told.items before.items _ _ came (omega (arith, came, one)) so_far.works.writes.items counts.items_set;
        },
      )

-- ---- all lanes

-- calls leave the setting, and of the grid what their history does
pub works_setting : {T : Type 0} {calls : History T} {before after : Workspace T} → Works calls before after → setting_in after ≡ setting_in before
works_setting {before = before} {after = after} works =
    ap (λ k. setting k after.tables (length after.slots)) works.kind ∙ turn_setting before.kind before.tables before.slots works.in_turn

pub works_grid : {T : Type 0} {calls : History T} {before after : Workspace T} → Works calls before after → grid_in after ≡ after_from (setting_in before) (grid_in before) calls
works_grid {before = before} works = turn_grid before.kind before.tables before.slots works.in_turn

-- what suffices is long enough
pub lent_parts : {T : Type 0} (n : ℕ) (w : Workspace T) → suffices n w ≡ true → (enough_slots (setting_in w) ≡ true) × (n ≤ length w.streams) × (n ≤ length w.items)
lent_parts n w lent =
    let parts = and_parts (enough_slots (setting_in w)) _ lent in
    let tables = and_parts (nat_le n (length w.streams)) (nat_le n (length w.items)) parts.1 in
    (parts.0, leb-true _ _ tables.0, leb-true _ _ tables.1)

-- What is lent suffices, in the words of the code.
module _ {T : Type 0} (w : Workspace T) (links : w.kind.links ≡ w.tables.lanes.size.links) (lends : Lends w.tables w.slots) where
  pub enough_lent : (entries : ℕ) → entries ≤ length w.streams → entries ≤ length w.items → suffices entries w ≡ true
  enough_lent entries streams items =
      and_from _ _ (enough w.kind w.tables links w.slots lends) (and_from _ _ (le-leb _ _ streams) (le-leb _ _ items))

  -- what a sweep does, on tables that keep what every grid keeps
  pub swept : Safe (setting_in w) → ∥ Reached (w.kind.judge w.tables.lanes.size.lanes w.tables.capacity) (streams_in w.tables) ∥₁ → AllStand (outline w.tables)
      → {told : Sweep} {after : Workspace T} → lane_count_in w ≤ length w.streams → lane_count_in w ≤ length w.items
      → Told (sweep_of (setting_in w)) w told after → told.items ≤ told.steps → told.steps ≤ lane_count_in w → Swept w told after
  swept safe reached stand {told} {after} streams items all few most =
      let S = setting_in w in
      let g = grid_in w in
      let kept = kept w.kind w.tables links w.slots safe reached stand lends in
      let ahead_after : ahead_in after ≡ hops_ahead S (after_from S g (sweep_of S)) =
      ap (λ s. hops_ahead s (grid_in after)) (works_setting all.works) ∙ ap (hops_ahead S) (works_grid all.works) in
      record {
        enough = enough_lent (lane_count_in w) streams items;
        works = all.works;
        steps = all.steps;
        items = all.items;
        few = few;
        most = most;
        progress = λ some. omega (arith, all.steps, sweep_goes S (never_locks safe) g reached kept w.tables.lanes.size.deep.0 some);
        hops = omega (arith, ahead_after, all.steps, sweep_hops S (never_locks safe) g reached kept);
      }

-- ---- a sweep after other calls

module _ {T : Type 0} (k : Kind) (t : Tables) (xs : List T) {past : History T} {w after : Workspace T} {told : Sweep}
    (so_far : InTurn k t xs past w.tables w.slots) (kind : w.kind ≡ k) (swept : Swept w told after) where
  abbrev S : Setting
  S = setting k t (length xs)

  abbrev g : Grid T
  g = view t xs

  setting_is : setting_in w ≡ S
  setting_is = ap (λ k. setting k w.tables (length w.slots)) kind ∙ turn_setting k t xs so_far

  -- it is made in turn after them, and what it comes to is counted behind what they come to
  pub then_sweep : InTurn k t xs (then_calls past (sweep_of S)) after.tables after.slots
  then_sweep =
      let sweep = subst (λ k. InTurn k w.tables w.slots (sweep_of (setting_in w)) after.tables after.slots) kind swept.works.in_turn in
      turn_then so_far (subst (λ (s : Setting). InTurn k w.tables w.slots (sweep_of s) after.tables after.slots) setting_is sweep)

  pub then_gone : told.steps ≡ steps_gone_from S (after_from S g past) (sweep_of S)
  then_gone =
      swept.steps
      ∙ ap (λ s. steps_gone_from s (grid_in w) (sweep_of s)) setting_is
      ∙ ap (λ (g : Grid T). steps_gone_from S g (sweep_of S)) (turn_grid k t xs so_far)

  pub then_out : out_by w (sweep_of (setting_in w)) ≡ handed_out_from S (after_from S g past) (sweep_of S)
  then_out =
      ap (λ s. handed_out_from s (grid_in w) (sweep_of s)) setting_is
      ∙ ap (λ (g : Grid T). handed_out_from S g (sweep_of S)) (turn_grid k t xs so_far)
