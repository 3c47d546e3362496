use Rattle.layouts.specs.Layout.{meaning_by}
use Rattle.std.proofs.Common.{◌≡◌, suc, ◌-◌, refl, ap, ◌∙◌, subst, arith}
use Rattle.search.specs.Walks.{problem_in}
use Rattle.search.specs.Rows.{marks_in}
use Rattle.search.proofs.Tracing.{Traced, traced_more}
use Rattle.search.proofs.search.Search.trace.Goals as goal

pub loop-row-preserved : goal.loop-row-preserved
loop-row-preserved g c =
    let P = problem_in (meaning_by g.L.Ways.topology g.L.Rules.turns c.args.self.now.layout.now) c.args.self.now.prepared in
    let marks = marks_in P c.args.marks.now in
    let row : c.loop-row.row ≡ suc (c.loop-row.row - 1) = omega (arith, c.loop-row-test.true) in
    let at : c.from-at.result - 1 ≡ marks (suc (c.loop-row.row - 1)) c.loop-row.at - 1 =
    ap (λ m. m - 1) (c.from-at.ensures ∙ rw c.places.ensures.value refl ∙ ap (λ i. marks i c.loop-row.at) row) in
    rw (c.hop-in-loop-row.ensures, at)
    (traced_more P marks c.args.k c.args.place (c.loop-row.row - 1) c.loop-row.at c.loop-row.table c.requires.row
    (subst (λ i. Traced P marks c.args.k c.args.place i c.loop-row.at c.loop-row.table) row c.loop-row.invariant))
