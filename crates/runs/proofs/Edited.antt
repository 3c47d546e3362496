-- Opening and closing, which are lent no slots, on a grid with slots that show its items.
use Rattle.std.proofs.Common.{◌≡◌, ℕ, List, length, is_some, Some, None, Option, sym, refl, ap, ◌∙◌}
use Rattle.std.proofs.lemmas.Bool.{cond_both}
use Rattle.routes.specs.declared.declined.Declined.{Declined}
use Rattle.routes.specs.declared.hop.Hop.{Hop}
use Rattle.routes.specs.declared.stream.Request.{Request}
use Rattle.routes.specs.Routes.{OpenStream}
use Rattle.model.specs.Kinds.{Kind}
use Rattle.model.specs.Grid.{Grid, with_stream}
use Rattle.model.specs.Sums.{grid_sum}
use Rattle.model.specs.Calls.{Call, opens, closes, Answer, declined, done, Outcome, unless_declined, open_refusal, close_refusal, outcome}
use Rattle.model.proofs.Outlines.{close_refusal-without_items}
use Rattle.model.specs.Runs.{is_declined}
use Rattle.model.specs.Slots.{arrival}
use Rattle.lanes.specs.Queues.{queues_of}
use Rattle.grid.specs.declared.tables.Tables.{Tables}
use Rattle.grid.specs.Views.{streams_in, with_streams, view, slots_alike, outline, setting}
use Rattle.grid.specs.Makes.{Makes, Edits}
use Rattle.runs.specs.Making.{Shown}
use Rattle.runs.specs.Routings.{asked_of, given_refusal}

-- the answer of a call that is done, unless it is declined
abbrev pub answer_by : {T : Type 0} → Option Declined → Answer T
answer_by None = done
answer_by (Some d) = declined d

answer_by-same : (o r : Option Declined) → answer_by {T = Unit {0}} o ≡ answer_by r → o ≡ r
answer_by-same None None e = refl
answer_by-same None (Some d) e = cc
answer_by-same (Some d) None e = cc
answer_by-same (Some d) (Some e) is = cc

is_declined-answer_by : (T : Type 0) (o : Option Declined) → is_declined {T = T} (answer_by o) ≡ is_some o
is_declined-answer_by T None = refl
is_declined-answer_by T (Some d) = refl

-- a grid with another entry in the place of a stream, unless that is declined
abbrev pub entering : {T : Type 0} → Option Declined → Grid T → ℕ → Option OpenStream → Outcome T
entering r g n entry = unless_declined r g (record { answer = done; grid = with_stream g n entry })

entering_answer : {T : Type 0} (r : Option Declined) (g : Grid T) (n : ℕ) (entry : Option OpenStream) → (entering r g n entry).answer ≡ answer_by r
entering_answer None g n entry = refl
entering_answer (Some d) g n entry = refl

entering_grid : {T U : Type 0} (r : Option Declined) (streams : ℕ → Option OpenStream) (g : Grid T) (h : Grid U) (n : ℕ) (entry : Option OpenStream)
    → with_streams (entering r (with_streams streams h) n entry).grid.streams g ≡ (entering r (with_streams streams g) n entry).grid
entering_grid None streams g h n entry = refl
entering_grid (Some d) streams g h n entry = refl

-- a call that was declined by o has r for its refusal, where the two answer alike
answered : (g : Grid (Unit {0})) (n : ℕ) (entry : Option OpenStream) (r o : Option Declined) → answer_by o ≡ (entering r g n entry).answer → o ≡ r
answered g n entry r o is = answer_by-same o r (is ∙ entering_answer r g n entry)

module _ {T : Type 0} (k : Kind) (t t' : Tables) (xs : List T) (n : ℕ) (entry : Option OpenStream) (r o : Option Declined) where
  -- a call on the outline that is one on the grid
  lifts : (c : Call (Unit {0})) (c' : Call T)
      → outcome (setting k t (length (slots_alike t))) (outline t) c ≡ entering r (outline t) n entry
      → outcome (setting k t (length xs)) (view t xs) c' ≡ entering r (view t xs) n entry
      → arrival (view t xs) c' ≡ None
      → Edits k t c (answer_by o) t' → Makes k t xs c' (answer_by o) t' xs
  lifts c c' is is' arrives edits =
      let made = edits.made in
      let same : o ≡ r = answered (outline t) n entry r o (made.answer ∙ ap (λ o. o.answer) is) in
      record {
        answer = ap answer_by same ∙ sym (entering_answer r (view t xs) n entry) ∙ ap (λ o. o.answer) (sym is');
        grid =
            ap (λ l. with_streams (streams_in t') (queues_of l xs)) edits.lanes
            ∙ ap (λ g. with_streams g.streams (queues_of t.lanes xs)) (made.grid ∙ ap (λ o. o.grid) is)
            ∙ entering_grid r (streams_in t) (queues_of t.lanes xs) (queues_of t.lanes (slots_alike t)) n entry
            ∙ ap (λ o. o.grid) (sym is');
        slots = rw (is', arrives) (cond_both (is_declined (entering r (view t xs) n entry).answer) _ _ (λ l. xs ≡ l) (λ _. refl) (λ _. refl));
        size = made.size;
        capacity = made.capacity;
        declined = λ e. made.declined (is_declined-answer_by (Unit {0}) o ∙ sym (is_declined-answer_by T o) ∙ e);
      }

module _ (k : Kind) (t t' : Tables) (n : ℕ) (o : Option Declined) where
  pub opened : {T : Type 0} (xs : List T) (q : Request) (hops : List Hop) → Edits k t (opens n q hops) (answer_by o) t'
      → Makes k t xs (opens n q hops) (answer_by o) t' xs
  unfolding open_refusal
  opened xs q hops edits =
      lifts k t t' xs n (Some (record { request = q; hops = hops })) (open_refusal (setting k t (length xs)) (view t xs) n q hops) o
      (opens n q hops) (opens n q hops) refl refl refl edits

  pub closed : {T : Type 0} (xs : List T) → Shown t xs → Edits k t (closes n) (answer_by o) t' → Makes k t xs (closes n) (answer_by o) t' xs
  unfolding close_refusal grid_sum
  closed xs shown edits =
      let S = setting k t (length xs) in
      let same : close_refusal S (outline t) n ≡ close_refusal S (view t xs) n =
      ap (λ g. close_refusal S g n) (sym shown) ∙ close_refusal-without_items S (view t xs) n in
      lifts k t t' xs n None (close_refusal S (view t xs) n) o
      (closes n) (closes n) (ap (λ r. entering r (outline t) n None) same) refl refl edits

  -- what declines an opening on given hops is what its answer tells
  pub refusal_told : {V : Type 0} (q : Request) (hops : List Hop) (values : List V) (marks : List ℕ) → Edits k t (opens n q hops) (answer_by o) t'
      → o ≡ given_refusal k (asked_of t n q values marks) hops
  unfolding open_refusal
  refusal_told q hops values marks edits =
      let S = setting k t (length (slots_alike t)) in
      answered (outline t) n (Some (record { request = q; hops = hops })) (open_refusal S (outline t) n q hops) o edits.made.answer
