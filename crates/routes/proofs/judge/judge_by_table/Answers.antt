use Rattle.layouts.specs.Layout.{meaning_by}
use Rattle.std.proofs.Common.{◌≡◌, ℕ, Bool, true, false, length, get_or, Some, None, Err, sym, refl, ap, ◌∙◌, rules}
use Rattle.std.proofs.lemmas.Iterator.{first_from_Range}
use Rattle.std.proofs.lemmas.Result.{err_from_is_err_and}
use borrow.Author.Tests.{tests}
use Rattle.routes.specs.declared.check.Check.TheVariants.{OnGrid}
use Rattle.routes.specs.Checks.{table_terms, fails}
use Rattle.routes.specs.Firsts.{first_below}
use Rattle.routes.proofs.Firsts.{first_below_found}
use Rattle.routes.proofs.Verdicts.{declined_by, passed_by, told_by, fields_declined, count_declined, hop_by_hop, next_check, none_left, judges}
use Rattle.routes.proofs.judge.judge_by_table.Given as given
use Rattle.routes.proofs.judge.judge_by_table.Goals as goal
use Rattle.routes.proofs.judge.judge_by_table.Goals.{After-find}

-- whether a hop fails the check at hand
abbrev test : (g : given.Over) → After-find g → ℕ → Bool
test g c = fails (table_terms (meaning_by g.L.Ways.topology g.L.Rules.turns c.args.layout.now) c.args.limits) c.args.request c.args.hops.now (get_or c.all-check-items.result c.loop-check.check-index OnGrid)

-- the search stops at the first hop that does
searched : (g : given.Over) (c : After-find g) → c.find.result ≡ first_below (length c.args.hops.now) (test g c)
searched g c =
    first_below_found (test g c) _ _
    (first_from_Range _ _ _ _ (λ k. test g c k ≡ true) (λ k. test g c k ≡ false) c.find.ensures.ran (λ k f e. search (rules, tests)) (λ k f e. search (rules, tests)))

pub returns-in_err-judge_fields : goal.returns-in_err-judge_fields
returns-in_err-judge_fields g c =
    let exit = err_from_is_err_and c.from_residual.result c.from_residual.ensures.1 in
    judges _ _ _ _ (Some exit.0) exit.1 (fields_declined _ _ _ exit.0 (declined_by _ exit.0 (ap Err exit.2 ∙ c.in_err-judge_fields.ensures)))

pub returns-then-not-count_fits : goal.returns-then-not-count_fits
returns-then-not-count_fits g c =
    judges _ _ _ _ _ (ap Err c.into.ensures) (count_declined _ _ _ (passed_by _ c.in_ok-judge_fields.ensures) (sym c.if-not-count_fits.ensures))

pub loop-check-init : goal.loop-check-init
loop-check-init g c =
    hop_by_hop _ _ _ (passed_by _ c.in_ok-judge_fields.ensures) (sym c.if-not-count_fits.ensures)
    ∙ ap (told_by (table_terms (meaning_by g.L.Ways.topology g.L.Rules.turns c.args.layout.now) c.args.limits) c.args.request c.args.hops.now) (sym c.all-check-items.ensures)

pub returns-in-Some : goal.returns-in-Some
returns-in-Some g c =
    let failing = searched g (goal.at.returns-in-Some g c).After-find in
    judges _ _ _ _ _ (ap (λ r. Err (record { refusal = r; hop = Some c.in-Some.k })) c.into-in-Some.ensures)
    (next_check _ _ _ _ _ _ (ap length c.all-check-items.ensures) c.loop-check.invariant _ _ c.loop-check-test.true (sym c.in-Some.is ∙ failing))

pub loop-check-preserved : goal.loop-check-preserved
loop-check-preserved g c =
    let failing = searched g (goal.at.loop-check-preserved g c).After-find in
    next_check _ _ _ _ _ _ (ap length c.all-check-items.ensures) c.loop-check.invariant _ _ c.loop-check-test.true (sym c.in_default.is ∙ failing)

pub returns : goal.returns
returns g c = judges _ _ _ _ None refl (none_left _ _ _ _ _ _ (ap length c.all-check-items.ensures) c.loop-check.invariant c.loop-check-test.false)
