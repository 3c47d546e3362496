-- What a search finds.
use Rattle.std.specs.Prelude.{◌≡◌, ℕ, ◌*◌, Bool, ◌&&◌, ◌∷◌, ◌⊎◌, List, drop, Some, None, Ok, Err, Option, Result, nat_le}
use Rattle.refusals.specs.declared.refusal.Refusal.TheVariants.{GridSize, TooFewSlots, NoRoute}
use Rattle.routes.specs.declared.declined.Declined.{Declined}
use Rattle.routes.specs.declared.hop.Hop.{Hop}
use Rattle.routes.specs.declared.stream.Request.{Request}
use Rattle.routes.specs.Firsts.{first_of}
use Rattle.routes.specs.Routes.{lanes_allowed}
use Rattle.routes.specs.Checks.{Terms, no_hop, unless, field_checks}
use Rattle.search.specs.Scales.{Scale}
use Rattle.search.specs.Best.{Best, NoneAcceptable}

-- the scratch of a search: two values and 24 marks for each lane of each link
abbrev pub values_needed : ℕ → ℕ → ℕ
values_needed links lanes = 2 * (links * lanes)

abbrev pub marks_needed : ℕ → ℕ → ℕ
marks_needed links lanes = 24 * (links * lanes)

abbrev pub enough_scratch : ℕ → ℕ → ℕ → ℕ → Bool
enough_scratch links lanes values marks = nat_le (values_needed links lanes) values && nat_le (marks_needed links lanes) marks

-- a table that is as before from entry n on
abbrev pub SameBeyond : {A : Type 0} → ℕ → List A → List A → Type 0
SameBeyond n before after = drop n after ≡ drop n before

-- what declines a search ahead of its rounds
abbrev pub search_refusal : Terms → Request → ℕ → ℕ → Option Declined
search_refusal t q values marks =
    first_of (unless (lanes_allowed t.lanes) GridSize ∷ (unless (enough_scratch t.layout.links t.lanes values marks) TooFewSlots ∷ field_checks t.layout.tiles q))

-- A best route is found; or the answer tells what declines the search, and if nothing does, that there is no route, which is so.
-- Which of equally good routes is found is left open.
abbrev pub Finds : {V : Type 0} → Option Declined → Scale V → Terms → Request → Result (List Hop) Declined → Type 0
Finds refusal s t q (Ok hops) = (refusal ≡ None) × Best s t q hops
Finds refusal s t q (Err d) = (refusal ≡ Some d) ⊎ ((refusal ≡ None) × (d ≡ no_hop NoRoute) × NoneAcceptable t q)
