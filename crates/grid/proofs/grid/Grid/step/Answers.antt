use Rattle.std.proofs.Common.{length, sym, ap, ◌∙◌}
use Rattle.grid.proofs.Stands.{stepped_stands}
use Rattle.grid.proofs.grid.Grid.step.Goals as goal

pub invariant_of-self : goal.invariant_of-self
invariant_of-self g c =
    let grid = c.args.self.now in
    let made = c.step.ensures.made (g.P.Policy.kind grid.layout) grid.fits in
    record {
      fits = grid.fits ∙ ap (λ s. s.links) (sym made.size);
      reached = rw (made.size, made.capacity, c.step.ensures.streams) grid.reached;
      standing =
          stepped_stands (g.P.Policy.kind grid.layout) grid.tables grid.fits c.args.slots.now
          (g.met.P.Policy.safe grid.layout grid.tables.lanes.size.lanes grid.tables.lanes.size.depth grid.tables.capacity (length c.args.slots.now))
          grid.reached grid.standing c.args.hop.link c.args.hop.lane _ c.step.new.self c.step.new.slots made;
    }
