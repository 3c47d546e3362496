use Rattle.std.proofs.Common.{◌≡◌, ℕ, List, length}
use Rattle.routes.specs.Routes.{OpenStream, streams_of}
use Rattle.plan.proofs.Listing.{Told}
use Rattle.plan.proofs.listed.open_count.Given as goal

abbrev pub invariant-loop-entry : goal.invariant-loop-entry
invariant-loop-entry l = (told : List (ℕ × OpenStream)) × Told (streams_of l.streams) l.entry-index told × (l.count ≡ length told)
