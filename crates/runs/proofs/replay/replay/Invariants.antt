use Rattle.std.proofs.Common.{◌≡◌, vec_items}
use Rattle.search.specs.Finds.{values_needed, marks_needed, SameBeyond}
use Rattle.runs.specs.Lending.{SameSlices}
use Rattle.runs.specs.Routings.{finding}
use Rattle.runs.specs.Meanings.{conditions}
use Rattle.runs.proofs.Replaying.{Made}
use Rattle.runs.proofs.replay.replay.Given as goal

-- the calls made so far, from the blank tables on
abbrev pub invariant-loop-k : goal.invariant-loop-k
invariant-loop-k g l =
    let k = g.P.Policy.kind l.fn.ways in
    let C = conditions k l.fn.sizes (finding g.R.Routing.searches g.R.Routing.finds l.fn.ways) l.fn.lent in
    record {
      layout_is : l.grid.layout ≡ l.fn.ways;
      made : Made C l.initial.grid.tables l.fn.lent l.calls l.k (vec_items l.answers) l.grid.tables l.lent;
      slices : SameSlices l.fn.lent l.lent;
      values : SameBeyond (values_needed k.links l.fn.sizes.lanes) l.fn.lent.values.now l.lent.values.now;
      marks : SameBeyond (marks_needed k.links l.fn.sizes.lanes) l.fn.lent.marks.now l.lent.marks.now;
    }
