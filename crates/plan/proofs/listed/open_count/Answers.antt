use Rattle.std.proofs.Common.{[], Some, ◌∷◌, refl, arith, length-append}
use Rattle.routes.specs.Routes.{stream_of}
use Rattle.plan.proofs.Listing.{none_told, open_told, entry_says}
use Rattle.plan.proofs.listed.open_count.Goals as goal

pub loop-entry-init : goal.loop-entry-init
loop-entry-init c = ([], none_told _, refl)

pub loop-entry-preserved : goal.loop-entry-preserved
loop-entry-preserved c =
    let told = c.loop-entry.invariant in
    let is = entry_says c.args.streams.now _ c.loop-entry.entry-index _ _ (Some c.in-Some.field-0) refl refl (omega arith) c.in-Some.is in
    (_, open_told _ _ told.0 told.1 (stream_of c.in-Some.field-0) (omega arith) is, omega (arith, told.2, length-append told.0 ((c.loop-entry.entry-index, stream_of c.in-Some.field-0) ∷ [])))
