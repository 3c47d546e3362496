use Rattle.std.proofs.Common.{◌≡◌, ℕ, Bool, true, false, length, get_or, Some, Err, sym, ap, ◌∙◌, rules}
use Rattle.std.proofs.lemmas.Iterator.{first_from_Range}
use Rattle.std.proofs.lemmas.Result.{err_from_is_err_and}
use borrow.Author.Tests.{tests}
use Rattle.routes.specs.Checks.{no_hop, verdict}
use Rattle.routes.specs.Firsts.{first_below}
use Rattle.routes.proofs.Firsts.{first_below_found}
use Rattle.routes.proofs.Verdicts.{declined_by, passed_by}
use Rattle.kind_tests.specs.declared.check.Check.TheVariants.{OnGrid}
use Rattle.kind_tests.specs.Upward.{terms_of, fails}
use Rattle.kind_tests.proofs.Judging.{told_by, fields_declined, count_declined, hop_by_hop, next_check, none_left}
use Rattle.kind_tests.proofs.upward.UpwardPolicy.judge.Given as given
use Rattle.kind_tests.proofs.upward.UpwardPolicy.judge.Goals as goal
use Rattle.kind_tests.proofs.upward.UpwardPolicy.judge.Goals.{After-find}

-- whether a hop fails the check at hand
abbrev test : (g : given.Over) → After-find g → ℕ → Bool
test g c = fails (terms_of (g.W.Ways.topology c.args.ways.now) c.args.limits) c.args.request c.args.hops.now (get_or c.all-check-items.result c.loop-check.check-index OnGrid)

-- the search stops at the first hop that does
searched : (g : given.Over) (c : After-find g) → c.find.result ≡ first_below (length c.args.hops.now) (test g c)
searched g c =
    first_below_found (test g c) _ _
    (first_from_Range _ _ _ _ (λ k. test g c k ≡ true) (λ k. test g c k ≡ false) c.find.ensures.ran (λ k f e. search (rules, tests)) (λ k f e. search (rules, tests)))

pub returns-in_err-judge_fields : goal.returns-in_err-judge_fields
returns-in_err-judge_fields g c =
    let exit = err_from_is_err_and c.from_residual.result c.from_residual.ensures.1 in
    exit.1 ∙ ap verdict (sym (fields_declined _ _ _ exit.0 (declined_by _ exit.0 (ap Err exit.2 ∙ c.in_err-judge_fields.ensures))))

pub returns-in_err-new : goal.returns-in_err-new
returns-in_err-new g c =
    let exit = err_from_is_err_and c.from_residual-in_err-new.result c.from_residual-in_err-new.ensures.1 in
    let fields = passed_by _ c.in_ok-judge_fields.ensures in
    exit.1 ∙ ap Err (exit.2 ∙ ap no_hop c.in_err-new.ensures.1) ∙ ap verdict (sym (count_declined _ _ _ fields c.in_err-new.ensures.0))

pub loop-check-init : goal.loop-check-init
loop-check-init g c =
    hop_by_hop _ _ _ (passed_by _ c.in_ok-judge_fields.ensures) c.in_ok-new.ensures.0
    ∙ ap (told_by (terms_of (g.W.Ways.topology c.args.ways.now) c.args.limits) c.args.request c.args.hops.now) (sym c.all-check-items.ensures)

pub returns-in-Some : goal.returns-in-Some
returns-in-Some g c =
    let failing = searched g (goal.at.returns-in-Some g c).After-find in
    ap (λ r. Err (record { refusal = r; hop = Some c.in-Some.k })) c.into.ensures
    ∙ ap verdict (sym (next_check _ _ _ _ _ _ (ap length c.all-check-items.ensures) c.loop-check.invariant _ _ c.loop-check-test.true (sym c.in-Some.is ∙ failing)))

pub loop-check-preserved : goal.loop-check-preserved
loop-check-preserved g c =
    let failing = searched g (goal.at.loop-check-preserved g c).After-find in
    next_check (terms_of (g.W.Ways.topology c.args.ways.now) c.args.limits) c.args.request c.args.hops.now _ _ _ (ap length c.all-check-items.ensures) c.loop-check.invariant _ _ c.loop-check-test.true (sym c.in_default.is ∙ failing)

pub returns : goal.returns
returns g c = ap verdict (sym (none_left _ _ _ _ _ _ (ap length c.all-check-items.ensures) c.loop-check.invariant c.loop-check-test.false))
