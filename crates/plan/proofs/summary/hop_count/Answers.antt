use Rattle.std.proofs.Common.{◌≡◌, ℕ, ◌+◌, ◌≤◌, List, [], ◌∷◌, ◌++◌, length, length-take, Some, refl, arith}
use Rattle.std.proofs.lemmas.List.Sums.{sum_by-append}
use Rattle.routes.specs.declared.route.Route.{Route}
use Rattle.routes.specs.Routes.{OpenStream, stream_of, hops_of}
use Rattle.plan.specs.Summaries.{hop_count}
use Rattle.plan.proofs.Listing.{none_told, open_told, entry_says}
use Rattle.plan.proofs.summary.hop_count.Goals as goal

few_hops : (r : Route) → length (hops_of r) ≤ 24
few_hops r = let n = length-take r.count r.table in omega (arith, r.few)

one_more : (told : List (ℕ × OpenStream)) (k : ℕ) (s : OpenStream) → hop_count (told ++ ((k, s) ∷ [])) ≡ hop_count told + length s.hops
one_more told k s = omega (arith, sum_by-append (λ (r : ℕ × OpenStream). length r.1.hops) told ((k, s) ∷ []))

pub loop-entry-init : goal.loop-entry-init
loop-entry-init c = ([], none_told _, refl, omega arith)

pub loop-entry-preserved : goal.loop-entry-preserved
loop-entry-preserved c =
    let told = c.loop-entry.invariant in
    let s = c.in-Some.stream in
    let is = entry_says c.args.streams.now _ c.loop-entry.entry-index _ _ (Some s) refl refl (omega arith) c.in-Some.is in (
      _,
      open_told _ _ told.0 told.1 (stream_of s) (omega arith) is,
      rw c.hops.ensures (omega (arith, told.2, one_more told.0 c.loop-entry.entry-index (stream_of s))),
      rw c.hops.ensures (omega (arith, told.3, few_hops s.route)),
    )
