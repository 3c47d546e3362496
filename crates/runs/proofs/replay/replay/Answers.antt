use Rattle.std.proofs.Common.{length, vec_items, ap, ◌∙◌, refl, arith}
use Rattle.model.specs.Safe.{never_locks}
use Rattle.model.proofs.Theorem.{every_run}
use Rattle.runs.specs.Routings.{finding}
use Rattle.runs.specs.Meanings.{conditions, setting_in}
use Rattle.runs.proofs.Replaying.{slices_refl, slices_then, made_none, made_more, all_made, left_by, sizes_are}
use Rattle.runs.proofs.replay.replay.Goals as goal

pub loop-k-init : goal.loop-k-init
loop-k-init g c =
    let blank = c.in_ok-grid.ensures.made.1 in
    let z = c.args.sizes in
    let xs = c.args.lent.now.slots.now in
    let C = conditions (g.P.Policy.kind c.args.ways) z (finding g.R.Routing.searches g.R.Routing.finds c.args.ways) c.args.lent.now in
    let deep = rw blank.has_depth at c.in_ok-grid.grid.tables.lanes.size.deep.0 in
    let law = every_run g.row.T.Denot (setting_in C) deep (never_locks (g.met.P.Policy.safe c.args.ways z.lanes z.depth z.capacity (length xs))) in
    record {
      layout_is = c.in_ok-grid.ensures.layout;
      made =
          made_none C c.in_ok-grid.grid.tables c.args.lent.now c.args.calls.now (vec_items c.in_ok-answers.answers) law refl blank
          (omega (arith, c.in_ok-answers.ensures.len, c.in_ok-answers.answers.ok.0));
      slices = slices_refl c.args.lent.now;
      values = refl;
      marks = refl;
    }

pub loop-k-preserved : goal.loop-k-preserved
loop-k-preserved g c =
    let so_far = c.loop-k.invariant in
    let same = so_far.slices in
    let next = c.make.ensures in
    let sizes = sizes_are so_far.made in
    let lanes = ap (λ z. z.lanes) sizes in
    record {
      layout_is = next.layout ∙ so_far.layout_is;
      made =
          made_more so_far.made c.loop-k-test.true c.index-calls-k.is c.make.result
          (rw (so_far.layout_is, sizes, same.slot_count, same.value_count, same.mark_count, same.stream_count, same.item_count) at next.made)
          (rw (so_far.layout_is, sizes, same.slot_count, same.value_count, same.mark_count, same.stream_count, same.item_count) at next.tables) next.shown;
      slices = slices_then same next.slices;
      values = rw (so_far.layout_is, lanes) at next.values ∙ so_far.values;
      marks = rw (so_far.layout_is, lanes) at next.marks ∙ so_far.marks;
    }

pub returns-clause-run : goal.returns-clause-run
returns-clause-run g c =
    let made = c.loop-k.invariant.made in
    record {
      makes = c.in_ok-grid.ensures.made.0;
      has_sizes = sizes_are made;
      history = made.history;
      run = all_made made c.loop-k-test.false;
      leaves = left_by made;
    }
