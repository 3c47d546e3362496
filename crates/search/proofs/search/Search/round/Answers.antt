use Rattle.layouts.specs.Layout.{meaning_by}
use Rattle.std.proofs.Common.{◌<◌, length, take, drop, ap, ◌∙◌, arith}
use Rattle.search.specs.Walks.{problem_in, places}
use Rattle.search.proofs.Filling.{row_room, filled_more, moved_down}
use Rattle.search.proofs.search.Search.round.Goals as goal

pub loop-place-preserved : goal.loop-place-preserved
loop-place-preserved g c =
    let P = problem_in (meaning_by g.L.Ways.topology g.L.Rules.turns c.args.self.now.layout.now) c.args.self.now.prepared in
    let there : c.loop-place.place < places P = omega (arith, c.places-places.ensures.value, c.loop-place-test.true) in
    rw c.places-places.ensures.value
    (filled_more (g.M.Measure.scale c.args.self.now.measure.now) P c.loop-place.marks c.loop-place.values c.args.k c.loop-place.place c.entry-mark.result.0 c.entry-mark.result.1 there
    (row_room c.args.k c.loop-place.place (places P) (length c.loop-place.marks) c.requires.row there (omega (arith, c.requires.marks, c.loop-place.auto.marks)))
    (omega (arith, there, c.requires.values, c.loop-place.auto.values)) c.entry-mark.ensures c.loop-place.invariant)

pub returns : goal.returns
returns g c =
    let P = problem_in (meaning_by g.L.Ways.topology g.L.Rules.turns c.args.self.now.layout.now) c.args.self.now.prepared in
    moved_down (g.M.Measure.scale c.args.self.now.measure.now) P c.loop-place.marks c.loop-place.values c.copy_from_slice.new.self c.split_at_mut-lower.result.1.now c.args.k c.loop-place.place
    (omega (arith, c.places-places.ensures.value)) (omega (arith, c.requires.values, c.loop-place.auto.values))
    (c.copy_from_slice.ensures.after ∙ ap (λ n. take n c.split_at_mut-lower.result.1.now) c.places-places.ensures.value)
    (c.split_at_mut-lower.ensures.back ∙ ap (λ n. drop n c.loop-place.values) c.places-places.ensures.value) c.loop-place.invariant
