use Rattle.layouts.specs.Layout.{meaning_by}
use Rattle.std.proofs.Common.{◌≡◌, suc, ◌+◌, sym, subst, arith}
use Rattle.search.specs.Walks.{problem_in, BestWalk}
use Rattle.search.specs.Rows.{marks_in, values_in, RowBefore}
use Rattle.search.proofs.Arriving.{none_arrives, best_arrives, finds_front}
use Rattle.search.proofs.search.Search.best.Goals as goal

pub rounds-preserved : goal.rounds-preserved
rounds-preserved g c =
    let P = problem_in (meaning_by g.L.Ways.topology g.L.Rules.turns c.args.self.now.layout.now) c.args.self.now.prepared in
    let s = g.M.Measure.scale c.args.self.now.measure.now in
    let marks = marks_in P c.round.new.marks in
    let values = values_in s c.round.new.values in
    let one : suc c.rounds.k ≡ c.rounds.k + 1 = omega arith in (
      c.rounds.invariant.0,
      none_arrives s P marks values c.rounds.k c.round.ensures c.rounds.invariant.1 c.in_default.ensures,
      subst (RowBefore s P marks values) one c.round.ensures,
    )

pub returns-in-Some : goal.returns-in-Some
returns-in-Some g c =
    let P = problem_in (meaning_by g.L.Ways.topology g.L.Rules.turns c.args.self.now.layout.now) c.args.self.now.prepared in
    let s = g.M.Measure.scale c.args.self.now.measure.now in
    let best = best_arrives s P (marks_in P c.round.new.marks) (values_in s c.round.new.values) c.rounds.k c.round.ensures c.rounds.invariant.1 (g.met.M.Measure.ordered c.args.self.now.measure.now)
    c.in-Some.place c.in-Some.ensures (omega (arith, c.rounds-test.true)) in
    rw c.ok-found.ensures.value
    (finds_front c.trace.result c.rounds.k c.trace.ensures.whole (omega (arith, c.rounds-test.true)) s P c.new.result c.new.ensures (subst (BestWalk s P) (sym c.trace.ensures.walk) best))
