-- No call changes how many slots there are.
use Rattle.std.proofs.Common.{◌≡◌, List, length, length-set, Some, None, Option, refl}
use Rattle.std.proofs.lemmas.Bool.{cond_both}
use Rattle.routes.specs.declared.hop.Hop.{Hop}
use Rattle.model.specs.Grid.{Setting, Grid}
use Rattle.model.specs.Calls.{Call, outcome}
use Rattle.model.specs.Runs.{is_declined}
use Rattle.model.specs.Slots.{stored, arrival, slots_after}

module _ {T : Type 0} (S : Setting) (g : Grid T) where
  length-stored : (o : Option (Hop × T)) (xs : List T) → length (stored S g o xs) ≡ length xs
  length-stored None xs = refl
  length-stored (Some a) xs = length-set xs _ a.1

  pub length-slots_after : (c : Call T) (xs : List T) → length (slots_after S g c xs) ≡ length xs
  length-slots_after c xs =
      cond_both (is_declined (outcome S g c).answer) _ _ (λ l. length l ≡ length xs) (λ _. refl) (λ _. length-stored (arrival g c) xs)
