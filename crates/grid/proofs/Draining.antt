-- Sweeps until no item is on the grid.
use Rattle.std.proofs.Common.{◌≡◌, ℕ, suc, ◌⊎◌, inl, inr, ⊎_elim, ◌+◌, ◌*◌, ◌<◌, ◌≤◌, ◌^◌, true, false, List, ◌++◌, length, map, take, drop, length-append, append-nil, refl, sym, ap, ◌∙◌, arith}
use Rattle.std.proofs.lemmas.Bool.Decides.{nat_tests}
use Rattle.std.proofs.lemmas.Bool.{and_from, le-leb}
use Rattle.std.proofs.lemmas.List.{map-append, length-map}
use Rattle.model.specs.Grid.{Setting, Queue, Grid, enough_slots}
use Rattle.model.specs.Sums.{of_stream, item_count, hops_ahead}
use Rattle.model.specs.Runs.{History, after_from}
use Rattle.model.specs.Safe.{Reached, Safe}
use Rattle.model.specs.Standing.{AllStand}
use Rattle.model.specs.Law.{KeepsFrom}
use Rattle.model.specs.Waiting.{waiting}
use Rattle.model.specs.Sweeps.{sweep_of, sweeps_of}
use Rattle.model.proofs.Joins.{handed_joined}
use Rattle.model.proofs.Sweeping.{sweeps_let_in}
use Rattle.lanes.specs.Sizes.{lane_count, slot_count}
use Rattle.grid.specs.declared.drain.Drain.{Drain}
use Rattle.grid.specs.declared.sweep.Sweep.{Sweep}
use Rattle.grid.specs.Views.{streams_in, outline, setting}
use Rattle.grid.specs.InTurn.{no_call}
use Rattle.grid.specs.Sweeps.{Workspace, setting_in, grid_in, lane_count_in, items_in, ahead_in, suffices, out_by, over, Works}
use Rattle.grid.specs.Drains.{SweptBehind, entries_in, Drained}
use Rattle.grid.proofs.Fronts.{over_then}
use Rattle.grid.proofs.Shown.{items_shown, ahead_shown}
use Rattle.grid.proofs.Most.{grid_hops_most, grid_items_most}
use Rattle.grid.proofs.Stands.{Lends, enough, law_from}
use Rattle.grid.proofs.Sweeping.{lent_parts, enough_lent, works_setting, works_grid, then_sweep, then_out}

-- How a drain begins: what is lent suffices, the law holds of all calls made next, and the hops ahead can be counted.
pub record Begun {T : Type 0} (before : Workspace T) : Type 0 where
  pub enough : suffices (entries_in before) before ≡ true
  pub law : (next : History T) → KeepsFrom (setting_in before) (grid_in before) next
  pub few : ahead_in before < 2 ^ 32

-- So it begins on tables that keep what every grid keeps.
module _ {T : Type 0} (w : Workspace T) (links : w.kind.links ≡ w.tables.lanes.size.links) (lends : Lends w.tables w.slots) where
  -- how many entries it asks for, as the tables tell it
  pub entries_told : entries_in w ≡ item_count (setting w.kind w.tables 0) (outline w.tables) + lane_count_in w
  entries_told = ap (λ n. n + lane_count_in w) (sym (items_shown w links (enough w.kind w.tables links w.slots lends)))

  pub begun : Safe (setting_in w) → ∥ Reached (w.kind.judge w.tables.lanes.size.lanes w.tables.capacity) (streams_in w.tables) ∥₁ → AllStand (outline w.tables)
      → lane_count w.tables.lanes.size ≤ 4 * 65535 → entries_in w ≤ length w.streams → entries_in w ≤ length w.items → Begun w
  begun safe reached stand few streams items =
      let lent = enough w.kind w.tables links w.slots lends in
      record {
        enough = enough_lent w links lends (entries_in w) streams items;
        law = law_from w.kind w.tables links w.slots safe reached stand lends;
        few = omega (arith, few, ahead_shown w links lent, grid_hops_most w.tables w.kind links 0, grid_items_most w.tables w.kind links 0);
      }

-- What declines it, in the words of the code: too few slots, or too few entries in one of the tables.
module _ {T : Type 0} (w : Workspace T) (links : w.kind.links ≡ w.tables.lanes.size.links) (slots entries : ℕ) (slots_are : slots ≡ slot_count w.tables.lanes.size)
    (entries_are : slots ≤ length w.slots → entries ≡ entries_in w) where
  few_slots : length w.slots < slots → suffices (entries_in w) w ≡ false
  few_slots few = let no : enough_slots (setting_in w) ≡ false = rw links (grind (arith, nat_tests)) in rw no refl

  few_entries : slots ≤ length w.slots → (length w.streams < entries) ⊎ (length w.items < entries) → suffices (entries_in w) w ≡ false
  few_entries lends few =
      ⊎_elim
      (λ (few : length w.streams < entries). let few : length w.streams < entries_in w = omega (arith, entries_are lends) in grind (arith, nat_tests))
      (λ (few : length w.items < entries). let few : length w.items < entries_in w = omega (arith, entries_are lends) in grind (arith, nat_tests))
      few

  pub declines : (length w.slots < slots) ⊎ ((slots ≤ length w.slots × length w.streams < entries) ⊎ (slots ≤ length w.slots × entries ≤ length w.streams × length w.items < entries))
      → suffices (entries_in w) w ≡ false
  declines few =
      ⊎_elim few_slots (λ few. ⊎_elim (λ few. few_entries few.0 (inl few.1)) (λ few. few_entries few.0 (inr few.2)) few) few

-- So far some sweeps were made, and it is told what they come to.
pub record SoFar {T : Type 0} (before : Workspace T) (told : Drain) (now : Workspace T) : Type 0 where
  pub begun : Begun before
  pub works : Works (sweeps_of (setting_in before) told.sweeps) before now
  pub steps : ahead_in now + told.steps ≡ ahead_in before
  pub sweeps : told.sweeps ≤ told.steps
  pub items : told.items ≡ length (out_by before (sweeps_of (setting_in before) told.sweeps))

pub so_far_none : {T : Type 0} (w : Workspace T) → Begun w → SoFar w (record { sweeps = 0; steps = 0; items = 0 }) w
so_far_none w begun = record {
  begun = begun;
  works = record { kind = refl; in_turn = no_call; writes = record { streams = refl; items = refl } };
  steps = omega arith;
  sweeps = omega arith;
  items = refl;
}

module _ {T : Type 0} {before now : Workspace T} {told : Drain} (so_far : SoFar before told now) where
  abbrev S : Setting
  S = setting_in before

  abbrev g : Grid T
  g = grid_in before

  -- what came out so far
  abbrev out : Queue T
  out = out_by before (sweeps_of S told.sweeps)

  -- ---- a sweep more

  -- what comes out by it is written behind what came out before, by one of its two parts
  written_then : {A : Type 0} (part : (ℕ × T) → A) (more : Queue T) (table now' after : List A) → now' ≡ over (map part out) table
      → take told.items after ≡ take told.items now' → drop told.items after ≡ over (map part more) (drop told.items now') → after ≡ over (map part (out ++ more)) table
  written_then part more table now' after front first rest =
      over_then told.items (map part out) (map part more) table now' after (so_far.items ∙ sym (length-map out part)) front first rest
      ∙ ap (λ list. over list table) (sym (map-append part out more))

  module _ {s : Sweep} {after : Workspace T} (swept : SweptBehind told.items now s after) where
    more_out : out_by before (sweeps_of S (suc told.sweeps)) ≡ out ++ out_by now (sweep_of (setting_in now))
    more_out =
        handed_joined S g (sweeps_of S told.sweeps) (sweep_of S)
        ∙ ap (λ more. out ++ more) (sym (then_out before.kind before.tables before.slots so_far.works.in_turn so_far.works.kind swept.swept))

    pub so_far_more : 0 < items_in now
        → SoFar before (record { sweeps = suc told.sweeps; steps = told.steps + s.steps; items = told.items + s.items }) after
    so_far_more some = record {
      begun = so_far.begun;
      works = record {
        kind = swept.swept.works.kind ∙ so_far.works.kind;
        in_turn = then_sweep before.kind before.tables before.slots so_far.works.in_turn so_far.works.kind swept.swept;
        writes = record {
          streams = written_then (λ i. i.0) (out_by now (sweep_of (setting_in now))) before.streams now.streams after.streams so_far.works.writes.streams swept.streams swept.swept.works.writes.streams
              ∙ ap (λ all. over (map (λ (i : ℕ × T). i.0) all) before.streams) (sym more_out);
          items = written_then (λ i. i.1) (out_by now (sweep_of (setting_in now))) before.items now.items after.items so_far.works.writes.items swept.items swept.swept.works.writes.items
              ∙ ap (λ all. over (map (λ (i : ℕ × T). i.1) all) before.items) (sym more_out);
        };
      };
      steps = omega (arith, so_far.steps, swept.swept.hops);
      sweeps = omega (arith, so_far.sweeps, swept.swept.progress some);
      items = omega (arith, so_far.items, swept.swept.items, ap length more_out, length-append out (out_by now (sweep_of (setting_in now))));
    }

  -- ---- by the law of every grid

  keeps : KeepsFrom S g (sweeps_of S told.sweeps)
  keeps = so_far.begun.law (sweeps_of S told.sweeps)

  items_now : items_in now ≡ item_count S (after_from S g (sweeps_of S told.sweeps))
  items_now = ap (λ s. item_count s (grid_in now)) (works_setting so_far.works) ∙ ap (item_count S) (works_grid so_far.works)

  ahead_now : ahead_in now ≡ hops_ahead S (after_from S g (sweeps_of S told.sweeps))
  ahead_now = ap (λ s. hops_ahead s (grid_in now)) (works_setting so_far.works) ∙ ap (hops_ahead S) (works_grid so_far.works)

  -- what was on the grid came out, or is on it still
  items_left : items_in now + told.items ≡ items_in before
  items_left = omega (arith, keeps.items, items_now, so_far.items, ap length (sweeps_let_in S g told.sweeps))

  -- so there is room for a sweep behind what came out
  pub room_left : length now.streams ≡ length before.streams → length now.items ≡ length before.items
      → suffices (told.items + lane_count_in now) now ≡ true
  room_left streams items =
      let lent = lent_parts (entries_in before) before so_far.begun.enough in
      let lanes : lane_count_in now ≡ lane_count_in before = ap (λ s. s.links * s.lanes) (works_setting so_far.works) in
      let streams_long : told.items + lane_count_in now ≤ length now.streams = omega (arith, streams, lanes, items_left, lent.1) in
      let items_long : told.items + lane_count_in now ≤ length now.items = omega (arith, items, lanes, items_left, lent.2) in
      and_from _ _ (ap enough_slots (works_setting so_far.works) ∙ lent.0) (and_from _ _ (le-leb _ _ streams_long) (le-leb _ _ items_long))

  -- the slots go on to show the items
  pub items_shown_now : now.kind.links ≡ now.tables.lanes.size.links → item_count (setting now.kind now.tables 0) (outline now.tables) ≡ items_in now
  items_shown_now links = items_shown now links (ap enough_slots (works_setting so_far.works) ∙ (lent_parts (entries_in before) before so_far.begun.enough).0)

  -- when nothing is left, the grid is drained
  pub drained : items_in now ≡ 0 → Drained before told now
  drained none =
      let empty = keeps.empty (omega (arith, none, items_now)) in
      let all_steps : told.steps ≡ ahead_in before = omega (arith, so_far.steps, ahead_now, empty.0) in
      record {
        enough = so_far.begun.enough;
        works = so_far.works;
        empty = none;
        steps = all_steps;
        sweeps = omega (arith, so_far.sweeps, all_steps);
        items = so_far.items;
        all = omega (arith, items_left, none);
        in_order = λ n.
            sym (append-nil (of_stream n out))
            ∙ ap (λ l. of_stream n out ++ l) (sym (empty.1 n))
            ∙ sym (keeps.in_order n)
            ∙ ap (λ l. waiting n g ++ of_stream n l) (sweeps_let_in S g told.sweeps)
            ∙ append-nil (waiting n g);
      }
