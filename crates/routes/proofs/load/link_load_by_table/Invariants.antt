use Rattle.std.proofs.Common.{◌≡◌, ◌*◌, ◌≤◌}
use Rattle.routes.specs.Routes.{streams_of}
use Rattle.routes.specs.Loads.{sum_below, share}
use Rattle.routes.proofs.load.link_load_by_table.Given as goal

-- the shares of the streams passed
abbrev pub invariant-loop-entry : goal.invariant-loop-entry
invariant-loop-entry l =
    (l.sum ≡ sum_below l.entry-index (λ n. share l.link (streams_of l.streams n)))
    × (l.sum ≤ 65535 * l.entry-index)
