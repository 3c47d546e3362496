-- What calls made next change of the counts of a report.
use Rattle.std.proofs.Common.{◌≡◌, ℕ, ◌+◌, ◌<◌, Bool, true, false, cond, ◌&&◌, List, [], ◌∷◌, ◌++◌, length, length-append, Some, None, Option, ◌==◌, sym, refl, ap, ◌∙◌, zero-add, append-nil, append_assoc, get_or}
use Rattle.std.proofs.lemmas.Bool.{cond_both}
use Rattle.std.proofs.lemmas.Iterator.Adapters.{option_map_id}
use Rattle.std.proofs.lemmas.List.Elements.{All-nil, All-head, All-tail, All-append}
use Rattle.std.proofs.lemmas.List.Sums.{fold-append}
use Rattle.std.proofs.lemmas.Option.{same_Some}
use Rattle.std.specs.List.{All, fold}
use Rattle.std.specs.Option.{option_map}
use Rattle.routes.specs.Routes.{OpenStream}
use Rattle.routes.specs.Loads.{stream_count}
use Rattle.model.specs.Grid.{Streams, Queue}
use Rattle.model.specs.Sums.{of_stream}
use Rattle.model.proofs.StreamItems.{of_stream-append}
use Rattle.lanes.specs.declared.strip.Strip.{Strip}
use Rattle.rehearsal.specs.declared.tally.Tally.{Tally}
use Rattle.rehearsal.specs.declared.rehearse.Rehearsal.{Rehearsal}
use Rattle.rehearsal.specs.Strips.{is_strip, are_rows, counted}
use Rattle.rehearsal.specs.Rehearsals.{tally_of, tally_at, Counts, Takes, CountsMore, taken}
use Rattle.rehearsal.proofs.Counting.{counted_more, counted_out, is_strip_counted, are_rows_more}

-- the tally of a stream once its next strip was let in
abbrev pub let_in_too : Tally → Tally
let_in_too tally = record { sent = tally.sent + 1; out = tally.out; in_order = tally.in_order }

-- ---- the strips of one stream

-- a queue with a strip more of stream k has it among that stream's alone
module _ (n k : ℕ) (x : Strip) (queue : Queue Strip) where
  pub of_stream_more : of_stream n (queue ++ ((k, x) ∷ [])) ≡ of_stream n queue ++ cond (k == n) (x ∷ []) []
  of_stream_more = of_stream-append n queue ((k, x) ∷ [])

  pub count_more : length (of_stream n (queue ++ ((k, x) ∷ []))) ≡ length (of_stream n queue) + cond (k == n) 1 0
  count_more = ap length of_stream_more ∙ length-append (of_stream n queue) _ ∙ ap (λ i. length (of_stream n queue) + i) (by_case (k == n))
    where
      by_case : (own : Bool) → length (cond own (x ∷ []) []) ≡ cond own 1 0
      by_case true = refl
      by_case false = refl

module _ (n : ℕ) (let_in : List Strip) where
  -- the tally of stream n once a strip of stream k was let in
  tally_let_in : (k : ℕ) (x : Strip) (out : List Strip)
      → tally_of n (let_in ++ cond (k == n) (x ∷ []) []) out ≡ cond (k == n) (let_in_too (tally_of n let_in out)) (tally_of n let_in out)
  tally_let_in k x out =
      cond_both (k == n) (x ∷ []) [] (λ more. tally_of n (let_in ++ more) out ≡ cond (k == n) (let_in_too (tally_of n let_in out)) (tally_of n let_in out))
      (λ own. rw (own, length-append let_in (x ∷ [])) refl)
      (λ other. rw (other, append-nil let_in) refl)

  -- once a strip came out
  tally_taken : (out : Queue Strip) (i : ℕ × Strip) → i.1.row < 65536 → taken n (tally_of n let_in (of_stream n out)) i ≡ tally_of n let_in (of_stream n (out ++ (i ∷ [])))
  tally_taken out i narrow =
      rw (of_stream_more n i.0 i.1 out)
      (cond_both (i.0 == n) (i.1 ∷ []) [] (λ more. taken n (tally_of n let_in own_out) i ≡ tally_of n let_in (own_out ++ more))
      (λ own. rw (own, in_rows, ← counted_out i.1 own_out) refl)
      (λ other. rw (other, append-nil own_out) refl))
    where
      own_out : List Strip
      own_out = of_stream n out

      in_rows : are_rows n 0 (own_out ++ (i.1 ∷ [])) ≡ (are_rows n 0 own_out && is_strip n (counted (length own_out)) i.1)
      in_rows =
          are_rows_more n 0 own_out i.1
          ∙ ap (λ row. are_rows n 0 own_out && is_strip n row i.1) (zero-add (length own_out))
          ∙ ap (λ b. are_rows n 0 own_out && b) (sym (is_strip_counted n (length own_out) i.1 narrow))

  -- and once several did
  tally_out : (out more : Queue Strip) → All (λ i. i.1.row < 65536) more
      → fold (taken n) (tally_of n let_in (of_stream n out)) more ≡ tally_of n let_in (of_stream n (out ++ more))
  tally_out out [] narrow = ap (λ l. tally_of n let_in (of_stream n l)) (sym (append-nil out))
  tally_out out (i ∷ more) narrow =
      ap (λ tally. fold (taken n) tally more) (tally_taken out i (All-head (λ i. i.1.row < 65536) i more narrow))
      ∙ tally_out (out ++ (i ∷ [])) more (All-tail (λ i. i.1.row < 65536) i more narrow)
      ∙ ap (λ l. tally_of n let_in (of_stream n l)) (append_assoc out (i ∷ []) more)

-- ---- the counts

-- an entry with a tally is that of an open stream
pub tally_told : (entry : Option OpenStream) (told tally : Tally) → option_map (λ _. told) entry ≡ Some tally → told ≡ tally
tally_told None told tally is = cc
tally_told (Some s) told tally is = same_Some told tally is

-- one change of an entry, and then another
map_then : {A : Type 0} (entry : Option A) (one : A → Tally) (two : Tally → Tally) (both : A → Tally) → ((a : A) → two (one a) ≡ both a)
    → option_map two (option_map one entry) ≡ option_map both entry
map_then None one two both same = refl
map_then (Some a) one two both same = ap Some (same a)

module _ {streams : Streams} {let_in out : Queue Strip} {steps : ℕ} {r : Rehearsal} (counts : Counts streams let_in out steps r) (r' : Rehearsal) where
  -- each tally is changed so
  each_tally : (f : ℕ → Tally → Tally) (let_in' out' : Queue Strip)
      → ((n : ℕ) → n < stream_count → tally_at r' n ≡ option_map (f n) (tally_at r n))
      → ((n : ℕ) → f n (tally_of n (of_stream n let_in) (of_stream n out)) ≡ tally_of n (of_stream n let_in') (of_stream n out'))
      → (n : ℕ) → n < stream_count → tally_at r' n ≡ option_map (λ _. tally_of n (of_stream n let_in') (of_stream n out')) (streams n)
  each_tally f let_in' out' changed tally_is n low =
      changed n low
      ∙ ap (option_map (f n)) (counts.tallies n low)
      ∙ map_then (streams n) _ (f n) _ (λ _. tally_is n)

  -- a strip was let in
  pub counts_let_in : (k : ℕ) (x : Strip) → r'.steps ≡ r.steps → r'.items ≡ r.items
      → ((n : ℕ) → n < stream_count → tally_at r' n ≡ option_map (λ tally. cond (k == n) (let_in_too tally) tally) (tally_at r n))
      → Counts streams (let_in ++ ((k, x) ∷ [])) out steps r'
  counts_let_in k x steps_stay items_stay changed = record {
    steps = steps_stay ∙ counts.steps;
    items = items_stay ∙ counts.items;
    tallies = each_tally (λ n tally. cond (k == n) (let_in_too tally) tally) (let_in ++ ((k, x) ∷ [])) out changed
        (λ n. rw (of_stream_more n k x let_in) (sym (tally_let_in n (of_stream n let_in) k x (of_stream n out))));
  }

  -- steps went, and strips came out
  pub counts_more : {more : Queue Strip} {went : ℕ} → CountsMore went more r r' → Counts streams let_in (out ++ more) (steps + went) r'
  counts_more {more} {went} counted_too = record {
    steps = counted_too.steps ∙ ap (λ i. counted (i + went)) counts.steps ∙ counted_more steps went;
    items =
        counted_too.items ∙ ap (λ i. counted (i + length more)) counts.items ∙ counted_more (length out) (length more)
        ∙ ap counted (sym (length-append out more));
    tallies = each_tally (λ n tally. fold (taken n) tally more) let_in (out ++ more) counted_too.takes.tallies
        (λ n. tally_out n (of_stream n let_in) out more counted_too.takes.rows);
  }

-- ---- taking strips one after another

pub takes_none : (tallies : List (Option Tally)) → Takes [] tallies tallies
takes_none tallies = record { rows = All-nil (λ i. i.1.row < 65536); tallies = λ n low. sym (option_map_id (get_or tallies n None)) }

pub takes_then : {out more : Queue Strip} {before between after : List (Option Tally)} → Takes out before between → Takes more between after
    → Takes (out ++ more) before after
takes_then {out} {more} {before} one two = record {
  rows = All-append (λ i. i.1.row < 65536) out more one.rows two.rows;
  tallies = λ n low.
      two.tallies n low
      ∙ ap (option_map (λ tally. fold (taken n) tally more)) (one.tallies n low)
      ∙ map_then (get_or before n None) (λ tally. fold (taken n) tally out) (λ tally. fold (taken n) tally more) _ (λ tally. sym (fold-append (taken n) tally out more));
}
