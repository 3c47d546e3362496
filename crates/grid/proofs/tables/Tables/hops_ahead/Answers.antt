use Rattle.std.proofs.Common.{◌≡◌, ap, arith}
use Rattle.model.specs.Sums.{grid_sum}
use Rattle.grid.proofs.tables.Tables.hops_ahead.Goals as goal

pub returns : goal.returns
unfolding grid_sum
returns c =
    let links = ap (λ size. size.links) c.size.ensures in
    let all : c.loop-link.link ≡ c.args.self.now.lanes.size.links = omega (arith, links, c.links-link-end.ensures, c.loop-link-test.false) in
    rw all at c.loop-link.invariant.0
