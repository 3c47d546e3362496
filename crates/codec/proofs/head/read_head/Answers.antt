use Rattle.std.proofs.Common.{sym, arith}
use Rattle.codec.proofs.Heading.{head_stands}
use Rattle.codec.proofs.Hops.{part_bytes}
use Rattle.codec.proofs.Reread.{head_in_turn}
use Rattle.codec.proofs.head.read_head.Goals as goal

pub returns-clause-stands : goal.returns-clause-stands
returns-clause-stands c =
    let is = head_in_turn _ _ _ _ _ _ _ _ _ (sym c.in_ok-version.ensures.value) (sym c.in_ok-rule.ensures.value) (sym c.in_ok-width.ensures.value) (sym c.in_ok-height.ensures.value)
    (sym c.in_ok-lanes.ensures.value) (sym c.in_ok-depth.ensures.value) (sym c.in_ok-capacity.ensures.value) (sym c.in_ok-count.ensures.value) in
    part_bytes _ _ _ (head_stands _ _ (λ k. omega (arith, c.type_inv.plan k)) is)
