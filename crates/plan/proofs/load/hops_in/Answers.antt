use Rattle.std.proofs.Common.{◌+◌, set, refl, sym, subst, ◌∙◌, arith}
use Rattle.plan.proofs.HopTables.{HopsInTable, none_held, one_more, next_held, all_held}
use Rattle.plan.proofs.load.hops_in.Goals as goal

pub loop-k-init : goal.loop-k-init
loop-k-init c = none_held _ _ _ refl c.requires.all

pub unwrap-number-requires : goal.unwrap-number-requires
unwrap-number-requires c =
    let next = one_more _ _ _ _ _ c.loop-k.invariant (omega arith) in
    rw (c.read_number.ensures.value, next.is) refl

pub loop-k-preserved : goal.loop-k-preserved
loop-k-preserved c =
    subst (λ hop. HopsInTable c.args.bytes.now c.args.count (c.loop-k.k + 1) c.unwrap-number.result.next (set c.loop-k.hops c.loop-k.k hop)) (sym c.hop_of.ensures)
    (next_held _ _ _ _ _ c.loop-k.invariant (omega arith) c.requires.few c.unwrap-number.result (sym c.read_number.ensures.value ∙ c.unwrap-number.ensures))

pub returns : goal.returns
returns c = all_held _ _ _ _ _ c.loop-k.invariant (omega arith)
