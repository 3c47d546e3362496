use Rattle.std.proofs.Common.{length, sym, ap, ◌∙◌}
use Rattle.grid.proofs.Stands.{sent_stands}
use Rattle.grid.proofs.grid.Grid.send.Goals as goal

pub invariant_of-self : goal.invariant_of-self
invariant_of-self g c =
    let grid = c.args.self.now in
    let made = c.send.ensures.made (g.P.Policy.kind grid.layout) grid.fits in
    record {
      fits = grid.fits ∙ ap (λ s. s.links) (sym made.size);
      reached = rw (made.size, made.capacity, c.send.ensures.streams) grid.reached;
      standing =
          sent_stands (g.P.Policy.kind grid.layout) grid.tables grid.fits c.args.slots.now
          (g.met.P.Policy.safe grid.layout grid.tables.lanes.size.lanes grid.tables.lanes.size.depth grid.tables.capacity (length c.args.slots.now))
          grid.reached grid.standing c.args.stream c.args.item _ c.send.new.self c.send.new.slots made;
    }
