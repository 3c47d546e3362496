-- Streams that are opened in rising number are listed as they are opened.
use Rattle.std.proofs.Common.{◌≡◌, ℕ, zero, suc, ◌+◌, ◌<◌, ◌≤◌, List, [], ◌∷◌, map, Some, None, Option, refl, ap, ◌∙◌, subst, ⊎_elim, arith}
use Rattle.std.specs.List.{AllByRecursion as All}
use Rattle.std.proofs.lemmas.Bool.{cases_eq}
use Rattle.model.specs.Kinds.{Kind}
use Rattle.routes.specs.Routes.{OpenStream, streams_of}
use Rattle.routes.specs.Loads.{stream_count}
use Rattle.model.specs.Grid.{assign}
use Rattle.model.proofs.Puts.{assign_same, assign_other}
use Rattle.grid.specs.declared.tables.Tables.{Tables}
use Rattle.grid.specs.Views.{streams_in}
use Rattle.codec.specs.Records.{Entry}
use Rattle.plan.specs.Loads.{stream_in, streams_after, Opens}
use Rattle.plan.specs.Plans.{listed, open_streams}
use Rattle.plan.specs.RoundTrips.{Rise}
use Rattle.plan.proofs.Listing.{not_listed, is_listed}
use Rattle.plan.proofs.Loading.{outline_is}

-- a record's stream with its number
abbrev pub numbered_stream : Entry → ℕ × OpenStream
numbered_stream e = (e.stream, stream_in e)

-- the streams of these records rise in number, from n on and below an end
abbrev Rising : ℕ → ℕ → List Entry → Type 0
Rising n end [] = Unit {0}
Rising n end (e ∷ more) = (n ≤ e.stream) × (e.stream < end) × Rising (e.stream + 1) end more

abbrev pub AllBelow : ℕ → List Entry → Type 0
AllBelow end es = All (λ e. e.stream < end) es

rising_behind : (end : ℕ) (e : Entry) (more : List Entry) → Rise (e ∷ more) → AllBelow end more → Rising (e.stream + 1) end more
rising_behind end e [] rise below = tt
rising_behind end e (f ∷ more) rise below = (omega (arith, rise.0), below.0, rising_behind end f more rise.1 below.1)

rising : (end : ℕ) (es : List Entry) → Rise es → AllBelow end es → Rising 0 end es
rising end [] rise below = tt
rising end (e ∷ more) rise below = (omega arith, below.0, rising_behind end e more rise below.1)

-- streams below those of the records are as before
untouched : (n end : ℕ) (es : List Entry) (streams : ℕ → Option OpenStream) → Rising n end es → (j : ℕ) → j < n → streams_after streams es j ≡ streams j
untouched n end [] streams rise j below = refl
untouched n end (e ∷ more) streams rise j below =
    untouched (e.stream + 1) end more (assign streams e.stream (Some (stream_in e))) rise.2 j (omega (arith, rise.0))
    ∙ assign_other streams e.stream (Some (stream_in e)) j (λ same. omega (arith, rise.0))

abbrev NoneFrom : ℕ → (ℕ → Option OpenStream) → Type 0
NoneFrom n streams = (j : ℕ) → n ≤ j → streams j ≡ None

listed_as_told : (k n end : ℕ) (es : List Entry) (streams : ℕ → Option OpenStream) → n + k ≡ end → Rising n end es → NoneFrom n streams
    → listed (streams_after streams es) n k ≡ map numbered_stream es
listed_as_told zero n end [] streams split rise none = refl
listed_as_told zero n end (e ∷ more) streams split rise none = absurd (omega (arith, rise.0, rise.1))
listed_as_told (suc k) n end [] streams split rise none =
    not_listed streams n k (none n (omega arith)) ∙ listed_as_told k (n + 1) end [] streams (omega arith) tt (λ j over. none j (omega arith))
listed_as_told (suc k) n end (e ∷ more) streams split rise none =
    let with_first = assign streams e.stream (Some (stream_in e)) in
    let all = streams_after with_first more in
    ⊎_elim
    (λ (here : e.stream ≡ n).
    let is : all e.stream ≡ Some (stream_in e) = untouched (e.stream + 1) end more with_first rise.2 e.stream (omega arith) ∙ assign_same streams e.stream (Some (stream_in e)) in
    let none_behind : NoneFrom (e.stream + 1) with_first = λ j over. assign_other streams e.stream (Some (stream_in e)) j (λ same. omega arith) ∙ none j (omega arith) in
    subst (λ j. listed all j (suc k) ≡ map numbered_stream (e ∷ more)) here
    (is_listed all e.stream k (stream_in e) is ∙ ap (λ l. numbered_stream e ∷ l) (listed_as_told k (e.stream + 1) end more with_first (omega arith) rise.2 none_behind)))
    (λ (there : e.stream ≡ n → ⊥).
    let above : Rising (n + 1) end (e ∷ more) = (omega (arith, rise.0), rise.1, rise.2) in
    not_listed all n k (untouched (n + 1) end (e ∷ more) streams above n (omega arith) ∙ none n (omega arith))
    ∙ listed_as_told k (n + 1) end (e ∷ more) streams (omega arith) above (λ j over. none j (omega arith)))
    (cases_eq e.stream n)

pub open_as_told : (es : List Entry) (streams : ℕ → Option OpenStream) → Rise es → AllBelow stream_count es → ((n : ℕ) → streams n ≡ None)
    → open_streams (streams_after streams es) ≡ map numbered_stream es
unfolding open_streams
open_as_told es streams rise below none = listed_as_told stream_count 0 stream_count es streams refl (rising stream_count es rise below) (λ j over. none j)

-- the records that were opened tell which streams are open then
module _ (kind : Kind) where
  pub streams_opened : (es : List Entry) (t t' : Tables) → Opens kind t es t' → streams_in t' ≡ streams_after (streams_in t) es
  streams_opened [] t t' opens = ap streams_of opens.streams
  streams_opened (e ∷ more) t t' opens =
      streams_opened more opens.0 t' opens.2 ∙ ap (λ g. streams_after g.streams more) (outline_is kind t opens.0 e.stream e.request e.hops opens.1)
