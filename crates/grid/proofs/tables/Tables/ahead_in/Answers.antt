use Rattle.std.proofs.Common.{◌≡◌, ◌+◌, ap, sym, arith, add-one}
use Rattle.std.proofs.lemmas.List.{take_all}
use Rattle.grid.specs.Views.{outline}
use Rattle.grid.specs.HopsAhead.{stream_ahead}
use Rattle.grid.proofs.HopsAhead.{cost_of, cost_most, sum_more, contents_fit}
use Rattle.grid.proofs.Most.{ahead_most}
use Rattle.grid.proofs.tables.Tables.ahead_in.Goals as goal
use Rattle.grid.proofs.tables.Tables.ahead_in.Goals.{in-Some, in_default}

pub loop-behind-preserved : goal.loop-behind-preserved
loop-behind-preserved c =
    let t = c.args.self.now in
    let h = c.args.hop in
    let cost = stream_ahead t h.link in
    let one : c.match-stream_at.ahead ≡ c.loop-behind.ahead + cost_of cost c.stream_at.result =
    elim c.match-stream_at.branch [
      | in-Some w ↦ rw w.in-Some.is (omega (arith, w.ahead-is, w.ahead_on-ahead.ensures))
      | in_default w ↦ rw w.in_default.is (omega (arith, w.ahead-is))
    ] in
    let most = cost_most cost (ahead_most t h.link) c.stream_at.result in
    let more = rw (sym c.stream_at.ensures) at (sum_more cost ((outline t).contents h.link h.lane) c.loop-behind.behind) in
    rw (add-one c.loop-behind.behind) (omega (arith, c.loop-behind.invariant.0, one, more), omega (arith, one, most, c.loop-behind.invariant.1))

pub returns-clause-value : goal.returns-clause-value
returns-clause-value c =
    let t = c.args.self.now in
    let h = c.args.hop in
    let depth = ap (λ size. size.depth) c.size.ensures in
    rw (take_all c.loop-behind.behind ((outline t).contents h.link h.lane) (omega (arith, contents_fit t h.link h.lane, depth, c.depth-behind-end.ensures, c.loop-behind-test.false)))
    at c.loop-behind.invariant.0
