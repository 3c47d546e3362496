-- What acts let in.
use Rattle.std.proofs.Common.{◌≡◌, ℕ, ◌+◌, ◌<◌, true, List, [], ◌∷◌, ◌++◌, length, length-append, is_some, Some, None, Option, ◌==◌, sym, refl, ap, append-nil, add-zero, zero-add, arith}
use Rattle.std.proofs.lemmas.Bool.{cond_both, eqb-true, eq-eqb, and_from}
use Rattle.routes.specs.declared.hop.Hop.{Hop}
use Rattle.routes.specs.Routes.{OpenStream}
use Rattle.routes.specs.Loads.{stream_count}
use Rattle.model.specs.Grid.{Streams, Setting, Queue, Grid, route_of}
use Rattle.model.specs.Sums.{of_stream}
use Rattle.model.specs.Calls.{opens, closes, sends, steps, Outcome}
use Rattle.model.specs.Runs.{History, start, ◌▸◌, after_from, answer_from, is_declined, entering, hops_entering, let_in_from, hops_let_in_from}
use Rattle.model.proofs.Kept.{Kept}
use Rattle.model.proofs.Does.{Does, refused, sent, passed, left, does}
use Rattle.lanes.specs.declared.strip.Strip.{Strip}
use Rattle.rehearsal.specs.Strips.{strip_of, are_rows}
use Rattle.rehearsal.specs.Acts.{AreActs}
use Rattle.rehearsal.proofs.Counting.{are_rows_more}
use Rattle.rehearsal.proofs.Tallies.{of_stream_more}
use Rattle.rehearsal.proofs.Weights.{route_length, weighed, weighed_none, weighed_more}

-- ---- each stream's strips are of the rows from 0 on

module _ (n : ℕ) where
  -- the next strip is of the next row
  rows_more : (k : ℕ) (x : Strip) (queue : Queue Strip) → x ≡ strip_of k (length (of_stream k queue)) → are_rows n 0 (of_stream n queue) ≡ true
      → are_rows n 0 (of_stream n (queue ++ ((k, x) ∷ []))) ≡ true
  rows_more k x queue is_next so_far =
      rw (of_stream_more n k x queue)
      (cond_both (k == n) (x ∷ []) [] (λ more. are_rows n 0 (of_stream n queue ++ more) ≡ true)
      (λ own. let same : n ≡ k = sym (eqb-true k n own) in
      let row : 0 + length (of_stream n queue) ≡ length (of_stream n queue) = zero-add (length (of_stream n queue)) in
      rw (are_rows_more n 0 (of_stream n queue) x, so_far, is_next, row, same) (and_from _ _ (eq-eqb k k refl) (eq-eqb _ _ refl)))
      (λ other. rw (append-nil (of_stream n queue)) so_far))

  pub acts_rows : (S : Setting) (g : Grid Strip) (acts : History Strip) → AreActs S g acts → are_rows n 0 (of_stream n (let_in_from S g acts)) ≡ true
  acts_rows S g start are = refl
  acts_rows S g (past ▸ opens k q hops) are = absurd are.1
  acts_rows S g (past ▸ closes k) are = absurd are.1
  acts_rows S g (past ▸ sends k x) are =
      cond_both (is_declined (answer_from S g past (sends k x))) [] ((k, x) ∷ []) (λ more. are_rows n 0 (of_stream n (let_in_from S g past ++ more)) ≡ true)
      (λ _. rw (append-nil (let_in_from S g past)) (acts_rows S g past are.0))
      (λ _. rows_more k x (let_in_from S g past) are.1 (acts_rows S g past are.0))
  acts_rows S g (past ▸ steps link lane) are = rw (append-nil (let_in_from S g past)) (acts_rows S g past are.0)

-- ---- how many strips come in, and how many hops they have

-- Open streams are as they were; strips are let in of numbered streams, each with the hops of its stream.
pub record Enters (streams now : Streams) (let_in : Queue Strip) (hops_in : ℕ) : Type 0 where
  pub stay : now ≡ streams
  pub count : length let_in ≡ weighed (λ _. 1) let_in
  pub hops : hops_in ≡ weighed (route_length streams) let_in

-- a route with a hop is that of an open stream
open_if_routed : (entry : Option OpenStream) (first : Hop) (rest : List Hop) → route_of entry ≡ first ∷ rest → is_some entry ≡ true
open_if_routed None first rest is = cc
open_if_routed (Some s) first rest is = refl

module _ (S : Setting) (g : Grid Strip) (kept : Kept S g) {streams : Streams} {let_in : Queue Strip} {hops_in : ℕ}
    (enters : Enters streams g.streams let_in hops_in) where
  -- none is let in
  none_more : (now : Streams) → now ≡ g.streams → Enters streams now (let_in ++ []) (hops_in + 0)
  none_more now same = rw (append-nil let_in, add-zero hops_in, same) enters

  send_enters : {n : ℕ} {x : Strip} {o : Outcome Strip} → Does S g (sends n x) o
      → Enters streams o.grid.streams (let_in ++ entering (sends n x) o.answer) (hops_in + hops_entering g (sends n x) o.answer)
  send_enters refused = none_more g.streams refl
  send_enters {n} {x} (sent first rest slots route) =
      let low : n < stream_count = kept.low n (open_if_routed (g.streams n) first rest route) in
      record {
        stay = enters.stay;
        count = omega (arith, enters.count, length-append let_in ((n, x) ∷ []), weighed_more (λ _. 1) let_in n x low);
        hops = omega (arith, enters.hops, ap (λ (streams : Streams). route_length streams n) enters.stay, weighed_more (route_length streams) let_in n x low);
      }

  step_enters : {link lane : ℕ} {o : Outcome Strip} → Does S g (steps link lane) o → Enters streams o.grid.streams (let_in ++ []) (hops_in + 0)
  step_enters refused = none_more g.streams refl
  step_enters (passed front) = none_more g.streams refl
  step_enters (left front) = none_more g.streams refl

pub acts_enter : (S : Setting) (g : Grid Strip) → ((past : History Strip) → Kept S (after_from S g past)) → (acts : History Strip) → AreActs S g acts
    → Enters g.streams (after_from S g acts).streams (let_in_from S g acts) (hops_let_in_from S g acts)
acts_enter S g kept start are = record { stay = refl; count = sym (weighed_none (λ _. 1)); hops = sym (weighed_none (route_length g.streams)) }
acts_enter S g kept (past ▸ opens n q hops) are = absurd are.1
acts_enter S g kept (past ▸ closes n) are = absurd are.1
acts_enter S g kept (past ▸ sends n x) are =
    send_enters S (after_from S g past) (kept past) (acts_enter S g kept past are.0) (does S (after_from S g past) (kept past) (sends n x))
acts_enter S g kept (past ▸ steps link lane) are =
    step_enters S (after_from S g past) (kept past) (acts_enter S g kept past are.0) (does S (after_from S g past) (kept past) (steps link lane))
