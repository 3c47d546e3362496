use Rattle.lanes.proofs.Handled.{refused, full, pushed}
use Rattle.lanes.proofs.tables.Lanes.push.Goals as goal

pub returns-then-index-self : goal.returns-then-index-self
returns-then-index-self g c =
    let l = c.args.self.now in
    let xs = c.args.slots.now in
    refused l xs _ _ _
    (full l xs c.args.hop c.in_ok-k.k c.in_ok-k.ensures c.index.result.now c.index.ensures (c.args.stream, c.args.item) c.if-index-self.true)

pub returns : goal.returns
returns g c =
    pushed c.args.self.now c.args.slots.now c.args.hop c.in_ok-k.k c.in_ok-k.ensures (c.args.stream, c.args.item) c.enter.new.self c.enter.new.slots c.enter.ensures
    c.index.result.now c.index.ensures c.if-index-self.false
