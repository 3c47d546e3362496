use Rattle.layouts.specs.Layout.{meaning_by, lawful_by}
use Rattle.std.proofs.Common.{sym, ap, ◌∙◌, arith}
use Rattle.std.proofs.lemmas.Bool.{eqb-true}
use Rattle.search.specs.Incoming.{last_below, ends_at}
use Rattle.search.specs.Walks.{problem_in}
use Rattle.search.specs.Rows.{marks_in, values_in}
use Rattle.search.proofs.Picking.{is_last, last_low, before_there, before_more, before_not, before_all}
use Rattle.search.proofs.search.Search.before.Goals as goal
use Rattle.search.proofs.search.Search.before.Goals.{in-Some-place_before, in_default-place_before}

pub place_before-requires-clause-link : goal.place_before-requires-clause-link
place_before-requires-clause-link g c =
    let so_far = c.loop-into.invariant in
    let link = is_last so_far.0 _ c.in-Some.link (sym so_far.2 ∙ c.in-Some.is) in
    omega (arith, link.below, so_far.1)

pub lesser-requires-clause-place : goal.lesser-requires-clause-place
lesser-requires-clause-place g c =
    let P = problem_in (meaning_by g.L.Ways.topology g.L.Rules.turns c.args.self.now.layout.now) c.args.self.now.prepared in
    let so_far = c.loop-into.invariant in
    let link = is_last so_far.0 _ c.in-Some.link (sym so_far.2 ∙ c.in-Some.is) in
    omega (
      arith,
      c.requires.values,
      before_there P (marks_in P c.args.marks.now)
          c.args.k c.args.hop 0 c.in-Some-place_before.place c.requires.lane
          (record { link = c.in-Some.link; seen = omega arith; there = omega (arith, link.below, so_far.1); is = sym c.in-Some-place_before.ensures }),
    )

pub bounds-self-from-in-Some : goal.bounds-self-from-in-Some
bounds-self-from-in-Some g c =
    let law = lawful_by (g.met.L.Ways.ways_law c.args.self.now.layout.now) (g.met.L.Rules.turn_law c.args.self.now.layout.now) in
    let so_far = c.loop-into.invariant in
    let link = is_last so_far.0 _ c.in-Some.link (sym so_far.2 ∙ c.in-Some.is) in
    omega (arith, c.from-in-Some.ensures, link.below, so_far.1, law.sized.most_links)

pub loop-into-smaller : goal.loop-into-smaller
loop-into-smaller g c =
    let so_far = c.loop-into.invariant in
    let link = is_last so_far.0 _ c.in-Some.link (sym so_far.2 ∙ c.in-Some.is) in
    rw (c.from-in-Some.ensures, c.args.self.now.chained.previous c.in-Some.link (omega (arith, link.below, so_far.1)), c.in-Some.is)
    (let low = last_low c.in-Some.link (ends_at (meaning_by g.L.Ways.topology g.L.Rules.turns c.args.self.now.layout.now) ((meaning_by g.L.Ways.topology g.L.Rules.turns c.args.self.now.layout.now).end c.in-Some.link)) in omega arith)

pub loop-into-preserved : goal.loop-into-preserved
loop-into-preserved g c =
    let P = problem_in (meaning_by g.L.Ways.topology g.L.Rules.turns c.args.self.now.layout.now) c.args.self.now.prepared in
    let law = lawful_by (g.met.L.Ways.ways_law c.args.self.now.layout.now) (g.met.L.Rules.turn_law c.args.self.now.layout.now) in
    let s = g.M.Measure.scale c.args.self.now.measure.now in
    let so_far = c.loop-into.invariant in
    let is = sym so_far.2 ∙ c.in-Some.is in
    let link = is_last so_far.0 _ c.in-Some.link is in
    let low = link.below in (
      c.in-Some.link,
      omega (arith, so_far.1, low),
      rw c.from-in-Some.ensures
          (c.args.self.now.chained.previous c.in-Some.link (omega (arith, so_far.1, low)) ∙ ap (λ tile. last_below c.in-Some.link (ends_at P.layout tile)) (eqb-true _ _ link.passes)),
      elim c.match-place_before.branch [
        | in-Some-place_before w ↦
            rw (w.best-is, w.lesser.ensures)
            (before_more P (marks_in P c.args.marks.now) c.args.k c.args.hop law so_far.0 c.in-Some.link so_far.1 is s (values_in s c.args.values.now)
            (g.met.M.Measure.ordered c.args.self.now.measure.now) w.in-Some-place_before.place (sym w.in-Some-place_before.ensures) c.loop-into.best so_far.3)
        | in_default-place_before w ↦
            rw w.best-is
            (before_not P (marks_in P c.args.marks.now) c.args.k c.args.hop law so_far.0 c.in-Some.link so_far.1 is s (values_in s c.args.values.now)
            (sym w.in_default-place_before.ensures) c.loop-into.best so_far.3)
      ],
    )

pub returns : goal.returns
returns g c =
    let P = problem_in (meaning_by g.L.Ways.topology g.L.Rules.turns c.args.self.now.layout.now) c.args.self.now.prepared in
    let s = g.M.Measure.scale c.args.self.now.measure.now in
    let so_far = c.loop-into.invariant in
    before_all P (marks_in P c.args.marks.now) c.args.k c.args.hop
    (lawful_by (g.met.L.Ways.ways_law c.args.self.now.layout.now) (g.met.L.Rules.turn_law c.args.self.now.layout.now)) so_far.0 (sym so_far.2 ∙ c.in_default.is) s (values_in s c.args.values.now) c.loop-into.best so_far.3
