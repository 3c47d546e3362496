use Rattle.std.proofs.Common.{◌≡◌, ◌-◌, ◌+◌, Ok, refl, sym, ap, ◌∙◌, arith}
use Rattle.std.proofs.lemmas.Result.{err_from_is_err_and}
use Rattle.grid.specs.Views.{setting}
use Rattle.plan.specs.Loads.{accepted_head, Loads}
use Rattle.plan.proofs.SmallStreams.{LetsInSmall, lets_in_small}
use Rattle.plan.proofs.Loading.{begun, cut_short, turned_away, let_on, trailing, finished}
use Rattle.plan.proofs.Rewriting.{loaded, written_back}
use Rattle.plan.proofs.LoadedLengths.{loaded_short}
use Rattle.plan.proofs.load.load.Given as given
use Rattle.plan.proofs.load.load.Goals as goal
use Rattle.plan.proofs.load.load.Goals.{Else-place-plan}

pub loop-number-init : goal.loop-number-init
loop-number-init g c = (refl, begun _ _ _ _ _ (c.in_ok-head.ensures ∙ ap (λ sizes. accepted_head sizes c.args.plan.now) c.sizes_of.ensures.value) c.from-count.ensures)

pub returns-in_err-told-clause-made : goal.returns-in_err-told-clause-made
returns-in_err-told-clause-made g c =
    let exit = err_from_is_err_and c.from_residual-in_err-told.result c.from_residual-in_err-told.ensures.1 in
    rw (exit.1, exit.2) (cut_short _ _ _ _ _ _ _ _ _ c.loop-number.invariant.1 (omega arith) c.in_err-told.ensures.0 c.in_err-told.ensures.1)

pub returns-in_err-open-clause-made : goal.returns-in_err-open-clause-made
returns-in_err-open-clause-made g c =
    let exit = err_from_is_err_and c.from_residual-in_err-open.result c.from_residual-in_err-open.ensures.1 in
    rw (exit.1, exit.2)
    (turned_away _ _ _ _ _ _ _ _ (ap g.P.Policy.kind c.loop-number.invariant.0) _ _ _ c.loop-number.invariant.1 c.in_ok-told.ensures.0 _ (omega arith)
    c.in_err-open.ensures.made.0 c.in_err-open.ensures.made.1)

pub loop-number-preserved : goal.loop-number-preserved
loop-number-preserved g c = (
  c.open.ensures.layout ∙ c.loop-number.invariant.0,
  let_on _ _ _ _ _ _ _ _ (ap g.P.Policy.kind c.loop-number.invariant.0) _ _ _ c.loop-number.invariant.1 c.in_ok-told.ensures.0
      (c.from-count.result - (c.loop-number.number + 1)) (omega arith) c.in_ok-open.ensures.made,
)

pub returns-then-place-plan-clause-made : goal.returns-then-place-plan-clause-made
returns-then-place-plan-clause-made g c = rw c.into.ensures (trailing _ _ _ _ _ _ _ _ c.loop-number.invariant.1 (omega arith) c.if-place-plan.true)

-- loading has come to its end
at_end : (g : given.Over) (c : Else-place-plan g)
    → Loads (g.P.Policy.kind c.args.grid.now.layout) c.args.grid.now.tables c.args.plan.now (Ok c.from-count.result) c.loop-number.grid.tables
at_end g c =
    let last : c.from-count.result ≡ c.loop-number.number = omega arith in
    rw last (finished _ _ _ _ _ _ _ _ c.loop-number.invariant.1 (omega arith) c.if-place-plan.false)

pub returns-clause-made : goal.returns-clause-made
returns-clause-made g c = at_end g c

-- what the grid lets in has small numbers
small : (g : given.Over) (c : Else-place-plan g) → LetsInSmall (setting (g.P.Policy.kind c.args.grid.now.layout) c.args.grid.now.tables 0).judge
small g c =
    let grid = c.args.grid.now in
    let size = grid.tables.lanes.size in
    let capacity = grid.tables.capacity in
    lets_in_small (g.met.W.Ways.ways_law grid.layout).sized (g.met.P.Policy.on_ways grid.layout) size.wide.1
    (g.met.P.Policy.safe grid.layout size.lanes size.depth capacity 0) (g.met.P.Policy.reopens grid.layout size.lanes capacity)

pub returns-clause-written_back : goal.returns-clause-written_back
returns-clause-written_back g c =
    let grid = c.args.grid.now in
    written_back (g.P.Policy.kind grid.layout) grid.tables _ (small g c) _ (λ k. omega (arith, c.type_inv.plan k)) _ (at_end g c)

pub returns-clause-short : goal.returns-clause-short
returns-clause-short g c =
    let grid = c.args.grid.now in
    loaded_short _ _ _ (loaded (g.P.Policy.kind grid.layout) grid.tables (small g c) _ (λ k. omega (arith, c.type_inv.plan k)) _ (sym (at_end g c).0))
