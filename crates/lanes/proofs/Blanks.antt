-- Blank tables show a blank grid.
use Rattle.std.specs.Prelude.{◌≡◌, ℕ, List, [], refl}
use Rattle.std.proofs.Math.Path.{fun_ext}
use Rattle.std.proofs.Math.Nat.{zero-mod}
use Rattle.std.proofs.lemmas.Bool.{cond_both}
use Rattle.routes.specs.Routes.{hop_on}
use Rattle.model.specs.Grid.{blank}
use Rattle.lanes.specs.declared.size.Size.{Size}
use Rattle.lanes.specs.declared.tables.Lanes.{Lanes}
use Rattle.lanes.specs.Sizes.{holds}
use Rattle.lanes.specs.Queues.{queue_at, place_at, by_lane, queues_of, IsBlank}

-- a table with the same entry for all lanes
all_same : {A : Type 0} (s : Size) (entry : ℕ → A) (none : A) → ((k : ℕ) → entry k ≡ none)
    → by_lane s entry none ≡ (λ link lane. none)
all_same s entry none same =
    fun_ext (λ link. fun_ext (λ lane. cond_both (holds s (hop_on link lane)) _ _ (λ e. e ≡ none) (λ _. same _) (λ _. refl)))

pub blank_queues : {T : Type 0} (l : Lanes) → IsBlank l → (xs : List T) → queues_of l xs ≡ blank
blank_queues l is_blank xs =
    let contents = all_same l.size (queue_at l xs) [] (λ k. rw (is_blank k) refl) in
    let places = all_same l.size (place_at l) 0 (λ k. rw (is_blank k) (zero-mod l.size.depth)) in
    cc
