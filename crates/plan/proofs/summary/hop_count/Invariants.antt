use Rattle.std.proofs.Common.{◌≡◌, ◌≤◌, ◌*◌, ℕ, List}
use Rattle.routes.specs.Routes.{OpenStream, streams_of}
use Rattle.plan.specs.Summaries.{hop_count}
use Rattle.plan.proofs.Listing.{Told}
use Rattle.plan.proofs.summary.hop_count.Given as goal

-- the hops of the streams told so far
abbrev pub invariant-loop-entry : goal.invariant-loop-entry
invariant-loop-entry l =
    (told : List (ℕ × OpenStream)) × Told (streams_of l.streams) l.entry-index told × (l.count ≡ hop_count told) × (l.count ≤ 24 * l.entry-index)
