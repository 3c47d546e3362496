use Rattle.layouts.specs.Layout.{meaning_by, lawful_by}
use Rattle.std.proofs.Common.{◌≡◌, suc, ◌+◌, ◌-◌, ◌<◌, length, sym, refl, ap, ◌∙◌, subst, arith}
use Rattle.std.proofs.lemmas.List.{get_or_read_under}
use Rattle.std.proofs.lemmas.Nat.{mod_below}
use Rattle.search.specs.Walks.{problem_in, places, hop_of}
use Rattle.search.specs.Rows.{marks_in, values_in, RowBefore, Tells}
use Rattle.search.proofs.Walking.{few_places}
use Rattle.search.proofs.Picking.{before_there}
use Rattle.search.proofs.NextRow.{usable_at, tells_not_next, tells_next}
use Rattle.search.proofs.search.Search.entry.Given.{Over}
use Rattle.search.proofs.search.Search.entry.Goals as goal

-- the place that a walk comes from is there
from_there : (g : Over) (c : goal.In-Some-before g) → c.in-Some-before.from < places (problem_in (meaning_by g.L.Ways.topology g.L.Rules.turns c.args.self.now.layout.now) c.args.self.now.prepared)
from_there g c =
    let prepared = c.args.self.now.prepared in
    let P = problem_in (meaning_by g.L.Ways.topology g.L.Rules.turns c.args.self.now.layout.now) prepared in
    before_there P (marks_in P c.args.marks.now) (c.args.k - 1) c.hop-hop.result 0 c.in-Some-before.from
    (rw c.hop-hop.ensures (mod_below c.args.place prepared.lanes prepared.wide.0)) c.in-Some-before.ensures.0

pub overflow_cast-result : goal.overflow_cast-result
overflow_cast-result g c =
    let P = problem_in (meaning_by g.L.Ways.topology g.L.Rules.turns c.args.self.now.layout.now) c.args.self.now.prepared in
    omega (arith, from_there g c, few_places P (lawful_by (g.met.L.Ways.ways_law c.args.self.now.layout.now) (g.met.L.Rules.turn_law c.args.self.now.layout.now)).sized.most_links c.args.self.now.prepared.wide.1)

pub offset_bounds-values-from : goal.offset_bounds-values-from
offset_bounds-values-from g c = omega (arith, from_there g c, c.requires.values)

pub bounds-values-from : goal.bounds-values-from
bounds-values-from g c = omega (arith, from_there g c, c.requires.values)

pub returns-in-Some-before : goal.returns-in-Some-before
returns-in-Some-before g c =
    let prepared = c.args.self.now.prepared in
    let P = problem_in (meaning_by g.L.Ways.topology g.L.Rules.turns c.args.self.now.layout.now) prepared in
    let s = g.M.Measure.scale c.args.self.now.measure.now in
    let marks = marks_in P c.args.marks.now in
    let later : c.args.k ≡ suc (c.args.k - 1) = omega (arith, c.if-k-eq0.false) in
    let cost = ap (λ link. P.costs link) (sym (c.from.ensures ∙ ap (λ h. h.link) c.hop-hop.ensures)) ∙ c.in-Some.is in
    let usable = usable_at P c.args.place c.in-Some.cost prepared.wide.0 c.requires.place cost in
    let least = rw c.hop-hop.ensures at c.in-Some-before.ensures in
    let there = before_there P marks (c.args.k - 1) (hop_of P c.args.place) 0 c.in-Some-before.from usable.lane least.0 in
    let value = get_or_read_under c.args.values.now c.in-Some-before.from (length c.args.values.now) c.index-values-from.result s.start c.index-values-from.is (omega (arith, there, c.requires.values)) refl in
    subst (λ k. Tells s P marks k c.args.place (c.in-Some-before.from + 1) c.extend-in-Some-before.result) (sym later)
    (tells_next s P marks (values_in s c.args.values.now) (c.args.k - 1) (subst (RowBefore s P marks (values_in s c.args.values.now)) later c.requires.before)
    (g.met.M.Measure.ordered c.args.self.now.measure.now) c.args.place c.in-Some-before.from (c.in-Some-before.from + 1) c.extend-in-Some-before.result usable least refl
    (rw (cost, sym value) c.extend-in-Some-before.ensures))

pub returns-in-None : goal.returns-in-None
returns-in-None g c =
    let P = problem_in (meaning_by g.L.Ways.topology g.L.Rules.turns c.args.self.now.layout.now) c.args.self.now.prepared in
    let s = g.M.Measure.scale c.args.self.now.measure.now in
    let later : c.args.k ≡ suc (c.args.k - 1) = omega (arith, c.if-k-eq0.false) in
    subst (λ k. Tells s P (marks_in P c.args.marks.now) k c.args.place 0 c.start-start.result) (sym later)
    (tells_not_next s P (marks_in P c.args.marks.now) (values_in s c.args.values.now) (c.args.k - 1)
    (subst (RowBefore s P (marks_in P c.args.marks.now) (values_in s c.args.values.now)) later c.requires.before)
    c.args.place c.start-start.result (rw c.hop-hop.ensures at c.in-None.ensures))
