-- A plan written record by record.
use Rattle.std.proofs.Common.{◌≡◌, ℕ, suc, cond, nat_lt, false, take, Ok, Err, Result, IfOk, subst, ◌+◌, ◌<◌, ◌≤◌, true, nat_le, List, [], ◌∷◌, ◌++◌, length, Some, None, Option, refl, sym, ap, ◌∙◌, arith, append_assoc, append-nil, length-append}
use Rattle.std.specs.List.{list_all}
use Rattle.std.proofs.lemmas.Bool.Decides.{nat_tests}
use Rattle.std.proofs.lemmas.Grind.{flat_map-append}
use Rattle.std.proofs.Math.Seq.{take-append_seam}
use Rattle.refusals.specs.declared.refusal.Refusal.{Refusal}
use Rattle.refusals.specs.declared.refusal.Refusal.TheVariants.{BufferTooShort}
use Rattle.plan.specs.Buffers.{fitted, Puts}
use Rattle.routes.specs.declared.hop.Hop.{Hop}
use Rattle.routes.specs.Routes.{OpenStream, hop_at}
use Rattle.routes.specs.Loads.{stream_count}
use Rattle.codec.specs.declared.head.Head.{Head}
use Rattle.codec.specs.Numbers.{number_bytes}
use Rattle.codec.specs.Sequences.{numbers_bytes}
use Rattle.codec.specs.Records.{hop_number}
use Rattle.plan.specs.Plans.{stream_numbers, listed, open_streams, records_numbers, plan_bytes}
use Rattle.codec.specs.Heads.{head_numbers}
use Rattle.plan.proofs.Listing.{Told, none_told, closed_told, open_told}

-- the bytes of a head, and of the records of some streams
abbrev pub bytes_of : Head → ℕ → List (ℕ × OpenStream) → List ℕ
bytes_of h count told = numbers_bytes (head_numbers h count ++ records_numbers told)

-- one record more
record_behind : (h : Head) (count : ℕ) (told : List (ℕ × OpenStream)) (r : ℕ × OpenStream) (more : List (ℕ × OpenStream))
    → bytes_of h count (told ++ (r ∷ more)) ≡ bytes_of h count told ++ (numbers_bytes (stream_numbers r) ++ numbers_bytes (records_numbers more))
record_behind h count told r more =
    let head = head_numbers h count in
    let apart : head ++ records_numbers (told ++ (r ∷ more)) ≡ (head ++ records_numbers told) ++ (stream_numbers r ++ records_numbers more) =
    ap (λ ns. head ++ ns) (flat_map-append stream_numbers told (r ∷ more)) ∙ sym (append_assoc head (records_numbers told) (stream_numbers r ++ records_numbers more)) in
    ap numbers_bytes apart
    ∙ (flat_map-append number_bytes (head ++ records_numbers told) (stream_numbers r ++ records_numbers more)
    ∙ ap (λ bytes. bytes_of h count told ++ bytes) (flat_map-append number_bytes (stream_numbers r) (records_numbers more)))

-- the streams of numbers below k are written
pub record SoFar (h : Head) (streams : ℕ → Option OpenStream) (k : ℕ) (items : List ℕ) : Type 0 where
  pub told : List (ℕ × OpenStream)
  pub so_far : Told streams k told
  pub bytes : items ≡ bytes_of h (length (open_streams streams)) told

pub none_written : (h : Head) (streams : ℕ → Option OpenStream) (count : ℕ) (before items : List ℕ) → before ≡ [] → count ≡ length (open_streams streams)
    → items ≡ before ++ numbers_bytes (head_numbers h count) → SoFar h streams 0 items
none_written h streams count before items none counted is = record {
  told = [];
  so_far = none_told streams;
  bytes = is ∙ (ap (λ b. b ++ numbers_bytes (head_numbers h count)) none ∙ (ap (λ c. numbers_bytes (head_numbers h c)) counted ∙ ap numbers_bytes (sym (append-nil _))));
}

module _ (h : Head) (streams : ℕ → Option OpenStream) (k : ℕ) (items : List ℕ) (written : SoFar h streams k items) where
  pub closed_written : k < stream_count → streams k ≡ None → SoFar h streams (k + 1) items
  closed_written more none = record { told = written.told; so_far = closed_told streams k written.told written.so_far more none; bytes = written.bytes }

  pub open_written : (s : OpenStream) → k < stream_count → streams k ≡ Some s → SoFar h streams (k + 1) (items ++ numbers_bytes (stream_numbers (k, s)))
  open_written s more is = record {
    told = _;
    so_far = open_told streams k written.told written.so_far s more is;
    bytes =
        ap (λ i. i ++ numbers_bytes (stream_numbers (k, s))) written.bytes
        ∙ (ap (λ r. bytes_of h (length (open_streams streams)) written.told ++ r) (sym (append-nil (numbers_bytes (stream_numbers (k, s)))))
        ∙ sym (record_behind h (length (open_streams streams)) written.told (k, s) []));
  }

  pub room_for : (s : OpenStream) → k < stream_count → streams k ≡ Some s → length items + length (numbers_bytes (stream_numbers (k, s))) ≤ length (plan_bytes h streams)
  room_for s more is =
      let on = open_told streams k written.told written.so_far s more is in
      let count = length (open_streams streams) in
      let rest = listed streams (k + 1) on.rest in
      let whole = ap (bytes_of h count) (sym (append_assoc written.told ((k, s) ∷ []) rest) ∙ on.all) in
      let parts = record_behind h count written.told (k, s) rest in
      omega (
        arith,
        ap length written.bytes,
        ap length whole,
        ap length parts,
        length-append (bytes_of h count written.told) (numbers_bytes (stream_numbers (k, s)) ++ numbers_bytes (records_numbers rest)),
        length-append (numbers_bytes (stream_numbers (k, s))) (numbers_bytes (records_numbers rest)),
      )

pub hops_fit : (hops : List Hop) → ((k : ℕ) → k < length hops → ((hop_at hops k).link < 256) × ((hop_at hops k).lane < 4))
    → list_all (λ h. nat_le (hop_number h) 65535) hops ≡ true
hops_fit [] small = refl
hops_fit (h ∷ hops) small =
    let first : nat_le (hop_number h) 65535 ≡ true = grind (arith, nat_tests, small 0 (omega arith)) in
    rw first (hops_fit hops (λ k less. small (suc k) (omega arith)))

-- what holds of bytes holds of what stands in the buffer that they are put into
pub in_buffer : (P : List ℕ → Type 0) (size : ℕ) (bytes before after : List ℕ) (r : Result ℕ Refusal) → Puts (fitted size bytes) before r after → P bytes
    → IfOk r (λ n. P (take n after))
in_buffer P size bytes before after r puts so =
    elim (nat_lt size (length bytes)) as (λ short. Puts (cond short (Err BufferTooShort) (Ok bytes)) before r after → IfOk r (λ n. P (take n after))) [
      | true ↦ λ puts. rw puts.0 tt
      | false ↦ λ puts. rw (puts.0, puts.1) (subst P (sym (take-append_seam bytes _)) so)
    ] puts
