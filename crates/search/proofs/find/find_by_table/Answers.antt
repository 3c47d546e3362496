use Rattle.layouts.specs.Layout.{meaning_by}
use Rattle.std.proofs.Common.{◌≡◌, length, Result, Ok, Err, refl, ap, subst, Bool, true, false, cond}
use Rattle.std.proofs.Math.Path.{fun_ext}
use Rattle.std.proofs.lemmas.Bool.{and_from, le-leb}
use Rattle.refusals.specs.declared.refusal.Refusal.{Refusal}
use Rattle.refusals.specs.declared.refusal.Refusal.TheVariants.{TooFewSlots}
use Rattle.routes.specs.Routes.{lanes_allowed}
use Rattle.routes.specs.Checks.{table_terms}
use Rattle.routes.proofs.Verdicts.{passed_by}
use Rattle.search.specs.Walks.{problem, FindsWalk}
use Rattle.search.specs.Finds.{search_refusal}
use Rattle.search.proofs.Accepting.{finds}
use Rattle.search.proofs.find.find_by_table.Goals as goal

-- scratch that passes is enough
enough : (b : Bool) → ◌≡◌ {A = Result (Unit {0}) Refusal} (Ok tt) (cond b (Ok tt) (Err TooFewSlots)) → b ≡ true
enough true is = refl
enough false is = cc

pub returns-clause-found : goal.returns-clause-found
returns-clause-found g c =
    let m = meaning_by g.L.Ways.topology g.L.Rules.turns c.args.layout.now in
    let t = table_terms m c.args.limits in
    let q = c.args.request in
    let s = g.M.Measure.scale c.args.measure.now in
    let lanes : lanes_allowed c.args.limits.lanes ≡ true = and_from _ _ (le-leb 1 c.args.limits.lanes c.if-limits-lt1.false) (le-leb c.args.limits.lanes 4 c.if-limits-gt4.false) in
    let fields = passed_by _ c.in_ok-judge_fields.ensures in
    let scratch = rw c.links-links.ensures at (enough _ c.in_ok-check_scratch.ensures) in
    let same = ap (λ costs. problem m c.args.limits.lanes costs q) (fun_ext c.costs.ensures) in
    rw (c.ok_or.ensures.value, c.into-2.ensures)
    (finds t q s (search_refusal t q (length c.args.values.now) (length c.args.marks.now)) c.best.result (rw (lanes, scratch, fields) refl) fields (subst (λ P. FindsWalk s P c.best.result) same c.best.ensures))
