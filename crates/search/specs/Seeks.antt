-- What a seek finds, by the streams that are open.
use Rattle.std.specs.Prelude.{◌≡◌, ℕ, List, ◌∷◌, length, Ok, Err, Option, Result}
use Rattle.refusals.specs.declared.refusal.Refusal.TheVariants.{TooFewSlots}
use Rattle.layouts.specs.Layout.{Meaning}
use Rattle.routes.specs.declared.declined.Declined.{Declined}
use Rattle.routes.specs.declared.hop.Hop.{Hop}
use Rattle.routes.specs.declared.stream.Request.{Request}
use Rattle.routes.specs.Firsts.{first_of}
use Rattle.routes.specs.Routes.{OpenStream}
use Rattle.routes.specs.Checks.{Terms, terms_on, unless, field_checks}
use Rattle.model.specs.Calls.{declines, vacancy}
use Rattle.search.specs.Scales.{Scale}
use Rattle.search.specs.Finds.{enough_scratch, Finds}

-- what declines a seek ahead of its search: too little scratch, the number of the stream, or its fields
abbrev pub seek_refusal : Terms → (ℕ → Option OpenStream) → ℕ → Request → ℕ → ℕ → Option Declined
seek_refusal t streams n q values marks =
    first_of (unless (enough_scratch t.layout.links t.lanes values marks) TooFewSlots ∷ (declines (vacancy streams n) ∷ field_checks t.layout.tiles q))

-- On a grid of so many lanes and a capacity, with these streams open and so much scratch, a seek finds a best route for a stream, or
-- tells what declines it; where nothing does, it says that there is no route exactly if none is acceptable. Which of equally good
-- routes is found is left open.
abbrev pub SeekFinds : {V : Type 0} → Scale V → Meaning → ℕ → ℕ → (ℕ → Option OpenStream) → ℕ → Request → ℕ → ℕ → Result (List Hop) Declined → Type 0
SeekFinds s m lanes capacity streams n q values marks r =
    let t : Terms = terms_on m lanes capacity streams in
    Finds (seek_refusal t streams n q values marks) s t q r

-- A seek that is not declined opens the stream on the route that it finds and answers the count of its hops; one that is
-- declined changes nothing. It is told by what it finds, what an opening on a route leaves, and what "nothing changes" means.
abbrev pub SeekBy : (Result (List Hop) Declined → Type 0) → (List Hop → Type 0) → Type 0 → Result ℕ Declined → Type 0
SeekBy Found Opened Unchanged (Ok count) = (hops : List Hop) × (count ≡ length hops) × Found (Ok hops) × Opened hops
SeekBy Found Opened Unchanged (Err d) = Found (Err d) × Unchanged
