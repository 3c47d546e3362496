-- What declines a call on a lane.
use Rattle.std.proofs.Common.{◌≡◌, ℕ, ◌<◌, ◌≤◌, true, false, Some, None, arith}
use Rattle.std.proofs.lemmas.Bool.Decides.{nat_tests}
use Rattle.refusals.specs.declared.refusal.Refusal.TheVariants.{TooFewSlots, OffGrid}
use Rattle.routes.specs.declared.hop.Hop.{Hop}
use Rattle.routes.specs.Checks.{no_hop}
use Rattle.model.specs.Calls.{lane_refusal}
use Rattle.lanes.specs.declared.size.Size.{Size}
use Rattle.lanes.specs.Sizes.{holds, slot_count, setting_of}

module _ (s : Size) (slots : ℕ) (h : Hop) where
  pub too_few : slots < slot_count s → lane_refusal (setting_of s slots) h ≡ Some (no_hop TooFewSlots)
  unfolding lane_refusal
  too_few few = grind (arith, nat_tests)

  pub off_grid : slot_count s ≤ slots → holds s h ≡ false → lane_refusal (setting_of s slots) h ≡ Some (no_hop OffGrid)
  unfolding lane_refusal
  off_grid enough off = grind (arith, nat_tests)

  pub free : slot_count s ≤ slots → holds s h ≡ true → lane_refusal (setting_of s slots) h ≡ None
  unfolding lane_refusal
  free enough on = grind (arith, nat_tests)

pub ruleset lane_checks = (too_few, off_grid, free)
