use Rattle.layouts.specs.Layout.{meaning_by, lawful_by}
use Rattle.std.proofs.Common.{◌≡◌, length, true, sym, ap, subst}
use Rattle.std.proofs.lemmas.Option.{same_Some}
use Rattle.std.specs.List.{list_all}
use Rattle.routes.specs.declared.stream.Stream.{Stream}
use Rattle.routes.specs.Routes.{hops_of}
use Rattle.routes.proofs.Judging.{accepted}
use Rattle.model.specs.Calls.{declines, opens, done}
use Rattle.lanes.specs.Sizes.{holds}
use Rattle.grid.specs.Views.{slots_alike}
use Rattle.grid.proofs.Editing.{acceptable_holds, opening_edits}
use Rattle.grid.proofs.Seeking.{none_declines}
use Rattle.model.specs.Kinds.{by_rules}
use Rattle.model.proofs.Ranks.{lawful_safe}
use Rattle.grid.proofs.Stands.{edited_stands}
use Rattle.grid.proofs.Reaching.{reached_open}
use Rattle.grid.proofs.seek.Grid+L.seek.Goals as goal

pub put-requires-clause-placed : goal.put-requires-clause-placed
put-requires-clause-placed g c = λ s is.
    let grid = c.args.self.now in
    subst (λ (stream : Stream). list_all (holds grid.tables.lanes.size) (hops_of stream.route) ≡ true) (same_Some _ _ is)
    (acceptable_holds grid.tables.lanes.size _ c.args.request _ grid.fits c.limits-limits.ensures.lanes c.in_ok-route.ensures.found.1.acceptable)

pub returns-clause-made : goal.returns-clause-made
returns-clause-made g c =
    let grid = c.args.self.now in
    let m = meaning_by g.L.Ways.topology g.L.Rules.turns grid.layout in
    let limits = c.limits-limits.ensures in
    let free = rw limits.lanes at c.in_ok-route.ensures.found.0 in
    let best = rw (limits.lanes, limits.capacity, limits.streams) at c.in_ok-route.ensures.found.1 in (
      hops_of c.in_ok-route.route,
      ap length c.hops.ensures,
      (none_declines _ _ _ _ free (ap declines (sym c.in_ok-vacant.ensures)), best),
      opening_edits (by_rules m) grid.tables c.put.new.self c.args.stream c.put.ensures.lanes c.put.ensures.capacity c.args.request (hops_of c.in_ok-route.route)
          c.put.ensures.streams c.in_ok-vacant.ensures (accepted _ c.args.request (hops_of c.in_ok-route.route) best.acceptable),
    )

pub invariant_of-self-2-clause-reached : goal.invariant_of-self-2-clause-reached
invariant_of-self-2-clause-reached g c =
    let grid = c.args.self.now in
    let limits = c.limits-limits.ensures in
    let best = rw (limits.lanes, limits.capacity, limits.streams) at c.in_ok-route.ensures.found.1 in
    rw (c.put.ensures.lanes, c.put.ensures.capacity, c.put.ensures.streams)
    (reached_open _ _ grid.reached c.args.stream c.args.request (hops_of c.in_ok-route.route) c.in_ok-vacant.ensures (accepted _ c.args.request (hops_of c.in_ok-route.route) best.acceptable))

pub invariant_of-self-2-clause-standing : goal.invariant_of-self-2-clause-standing
invariant_of-self-2-clause-standing g c =
    let grid = c.args.self.now in
    let t = grid.tables in
    let m = meaning_by g.L.Ways.topology g.L.Rules.turns grid.layout in
    let limits = c.limits-limits.ensures in
    let best = rw (limits.lanes, limits.capacity, limits.streams) at c.in_ok-route.ensures.found.1 in
    edited_stands (by_rules m) t grid.fits
    (lawful_safe m (lawful_by (g.met.L.Ways.ways_law grid.layout) (g.met.L.Rules.turn_law grid.layout)) t.lanes.size.lanes t.lanes.size.depth t.capacity (length (slots_alike t)))
    grid.reached grid.standing (opens c.args.stream c.args.request (hops_of c.in_ok-route.route)) done c.put.new.self
    (opening_edits (by_rules m) grid.tables c.put.new.self c.args.stream c.put.ensures.lanes c.put.ensures.capacity c.args.request (hops_of c.in_ok-route.route) c.put.ensures.streams c.in_ok-vacant.ensures (accepted _ c.args.request (hops_of c.in_ok-route.route) best.acceptable))
