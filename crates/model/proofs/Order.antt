-- Order: what waits of a stream along its route is what was let in and not yet handed out.
use Rattle.std.proofs.Common.{◌≡◌, ℕ, cond, List, [], ◌∷◌, ◌++◌, Option, sym, ◌∙◌, ⊎_elim, arith}
use Rattle.std.proofs.lemmas.List.{append-nil, append_assoc}
use Rattle.std.proofs.lemmas.Bool.{cases_eq, eq-eqb, ne_eqb}
use Rattle.std.proofs.lemmas.Bool.Decides.{nat_tests}
use Rattle.routes.specs.declared.hop.Hop.{Hop}
use Rattle.routes.specs.Routes.{OpenStream}
use Rattle.model.specs.Grid.{Setting, Queue, Grid, with_stream, with_queue, enqueue, route_of}
use Rattle.model.specs.Sums.{of_stream}
use Rattle.model.specs.Calls.{Call, Outcome}
use Rattle.model.specs.Runs.{entering, leaving, opens_stream}
use Rattle.model.specs.Waiting.{along, own, waiting}
use Rattle.model.specs.Law.{NoneOnGrid}
use Rattle.model.proofs.Puts.{assign_other}
use Rattle.model.proofs.Kept.{Kept, Front, closed_none, counted_none}
use Rattle.model.proofs.Does.{Does, refused, opened, closed, sent, passed, left}
use Rattle.model.proofs.Along.{along_none, sent_last, left_first, passed_same, pushed_other, popped_other}

-- How each change of the grid changes what waits of one stream.
module _ {T : Type 0} (S : Setting) (g : Grid T) (kept : Kept S g) (n : ℕ) where
  nothing_waits : (k : ℕ) → k ≡ n → NoneOnGrid g k → (hops : List Hop) → along (own n g.contents) hops ≡ []
  nothing_waits k mine none hops = along_none (own n g.contents) hops (rw mine at none)

  assign_waiting : (k : ℕ) (entry : Option OpenStream) → NoneOnGrid g k → waiting n g ≡ waiting n (with_stream g k entry)
  assign_waiting k entry none =
      ⊎_elim
      (λ (mine : k ≡ n). simp (nothing_waits k mine none))
      (λ (other : k ≡ n → ⊥). rw (assign_other g.streams k entry n (λ same. other (sym same))))
      (cases_eq k n)

  sent_waiting : (item : ℕ × T) (first : Hop) (rest : List Hop) → route_of (g.streams item.0) ≡ first ∷ rest
      → waiting n (enqueue S g first item) ≡ waiting n g ++ of_stream n (item ∷ [])
  sent_waiting item first rest route =
      ⊎_elim
      (λ (mine : item.0 ≡ n).
      let here : route_of (g.streams n) ≡ first ∷ rest = rw mine at route in
      rw here (sent_last n g.contents first rest item (rw here at (kept.routes n).apart).0))
      (λ (other : item.0 ≡ n → ⊥).
      let same = pushed_other n g.contents (route_of (g.streams n)) item other first in
      grind (arith, nat_tests, append-nil))
      (cases_eq item.0 n)

  left_waiting : {link lane : ℕ} {item : ℕ × T} {queue : Queue T} → Front g link lane item queue []
      → waiting n g ≡ of_stream n (item ∷ []) ++ waiting n (with_queue g link lane queue)
  left_waiting {item = item} front =
      ⊎_elim
      (λ (mine : item.0 ≡ n). left_first n g.contents (route_of (g.streams n)) front.is (kept.routes n).apart (rw mine at front.on))
      (λ (other : item.0 ≡ n → ⊥).
      let same = popped_other n g.contents (route_of (g.streams n)) item other front.is in
      grind (arith, nat_tests))
      (cases_eq item.0 n)

  passed_waiting : {link lane : ℕ} {item : ℕ × T} {queue : Queue T} {next : Hop} {rest : List Hop} → Front g link lane item queue (next ∷ rest)
      → waiting n g ≡ waiting n (enqueue S (with_queue g link lane queue) next item)
  passed_waiting {item = item} {next = next} front =
      ⊎_elim
      (λ (mine : item.0 ≡ n). passed_same n g.contents (route_of (g.streams n)) front.is (kept.routes n).apart (rw mine at front.on))
      (λ (other : item.0 ≡ n → ⊥).
      popped_other n g.contents (route_of (g.streams n)) item other front.is
      ∙ pushed_other n _ (route_of (g.streams n)) item other next)
      (cases_eq item.0 n)

  -- Where what was let in is what was handed out and then what waits, it is so after the next call.
  module _ (came_in went_out : List T) (was : came_in ≡ went_out ++ waiting n g) where
    lets_in : (new more : List T) → new ≡ waiting n g ++ more → came_in ++ more ≡ (went_out ++ []) ++ new
    lets_in new more now = rw (was, now, append-nil) (append_assoc went_out _ more)

    hands_out : (new more : List T) → waiting n g ≡ more ++ new → came_in ++ [] ≡ (went_out ++ more) ++ new
    hands_out new more now = rw (append-nil, was, now) (sym (append_assoc went_out more new))

    pub order_next : {c : Call T} {o : Outcome T} → Does S g c o
        → cond (opens_stream n c o.answer) [] came_in ++ of_stream n (entering c o.answer)
        ≡ (cond (opens_stream n c o.answer) [] went_out ++ of_stream n (leaving o.answer)) ++ waiting n o.grid
    order_next refused = grind (arith, append-nil)
    order_next (opened {n = k} low not_open judged) =
        let none = closed_none S g kept k not_open in
        ⊎_elim
        (λ (mine : k ≡ n). simp (eq-eqb k n mine, nothing_waits k mine none))
        (λ (other : k ≡ n → ⊥). rw (ne_eqb k n other) (hands_out _ [] (assign_waiting k _ none)))
        (cases_eq k n)
    order_next (closed low count) = hands_out _ [] (assign_waiting _ _ (counted_none S g kept _ count))
    order_next (sent first rest slots route) = lets_in _ _ (sent_waiting _ first rest route)
    order_next (passed front) = hands_out _ [] (passed_waiting front)
    order_next (left front) = hands_out _ _ (left_waiting front)

    -- it is so too where the count goes on over openings
    pub order_on : {c : Call T} {o : Outcome T} → Does S g c o
        → came_in ++ of_stream n (entering c o.answer) ≡ (went_out ++ of_stream n (leaving o.answer)) ++ waiting n o.grid
    order_on refused = grind (arith, append-nil)
    order_on (opened {n = k} low not_open judged) = hands_out _ [] (assign_waiting k _ (closed_none S g kept k not_open))
    order_on (closed low count) = hands_out _ [] (assign_waiting _ _ (counted_none S g kept _ count))
    order_on (sent first rest slots route) = lets_in _ _ (sent_waiting _ first rest route)
    order_on (passed front) = hands_out _ [] (passed_waiting front)
    order_on (left front) = hands_out _ _ (left_waiting front)
