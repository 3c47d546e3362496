-- The plan of a grid, under its own head.
use Rattle.std.proofs.Common.{◌≡◌, ℕ, zero, suc, ◌+◌, ◌≤◌, List, length, Some, None, Ok, Option, Result, IsOk, refl, arith, length-append, subst, false, nat_lt}
use Rattle.std.proofs.lemmas.Bool.Decides.{nat_tests}
use Rattle.refusals.specs.declared.refusal.Refusal.{Refusal}
use Rattle.routes.specs.Routes.{OpenStream}
use Rattle.routes.specs.Loads.{stream_count}
use Rattle.grid.specs.Blank.{making_refusal}
use Rattle.grid.specs.Views.{streams_in}
use Rattle.grid.specs.declared.tables.Tables.{Tables}
use Rattle.codec.specs.declared.head.Head.{Head}
use Rattle.codec.specs.Heads.{parts, judged}
use Rattle.plan.specs.Buffers.{Puts}
use Rattle.plan.specs.Loads.{sizes_of}
use Rattle.plan.specs.Plans.{numbered, listed, open_streams, plan_bytes}
use Rattle.plan.specs.Verdicts.{sizes_in}
use Rattle.plan.specs.Writes.{written}
use Rattle.plan.proofs.SmallStreams.{AllSmall}
use Rattle.plan.proofs.Lengths.{small_head, plan_short}
use Rattle.session.specs.Heads.{IsOfMesh, IsAllowed}

-- a grid that is made has a head that is accepted for it
pub allowed_head : (h : Head) → IsOfMesh h → making_refusal h.lanes h.depth h.capacity ≡ None → IsAllowed h
unfolding parts
allowed_head h of_mesh made n few = grind (arith, nat_tests)

numbered_few : (n : ℕ) (entry : Option OpenStream) → length (numbered n entry) ≤ 1
numbered_few n None = omega arith
numbered_few n (Some s) = omega arith

listed_few : (streams : ℕ → Option OpenStream) (n k : ℕ) → length (listed streams n k) ≤ k
listed_few streams n zero = omega arith
listed_few streams n (suc k) =
    omega (arith, numbered_few n (streams n), listed_few streams (n + 1) k, length-append (numbered n (streams n)) (listed streams (n + 1) k))

-- no more streams are open than there are numbers
open_few : (streams : ℕ → Option OpenStream) → length (open_streams streams) ≤ 64
unfolding open_streams
open_few streams = listed_few streams 0 stream_count

-- the plan of a grid can be written
pub plan_written : (h : Head) (t : Tables) → AllSmall (streams_in t) → IsAllowed h → sizes_in h ≡ sizes_of t → written h t 3530 ≡ Ok (plan_bytes h (streams_in t))
plan_written h t small allowed fitting =
    let streams = streams_in t in
    let accepted : judged h (length (open_streams streams)) (sizes_of t) ≡ Ok tt =
    subst (λ sizes. judged h (length (open_streams streams)) sizes ≡ Ok tt) fitting (allowed _ (open_few streams)) in
    let short : length (plan_bytes h streams) ≤ 3530 =
    plan_short h streams (sizes_of t) (small_head h _ _ accepted) small in
    let fits : nat_lt 3530 (length (plan_bytes h streams)) ≡ false = grind (arith, nat_tests, short) in
    rw (accepted, fits) refl

-- bytes that are there to be put are put
pub is_put : (bytes before after : List ℕ) (r : Result ℕ Refusal) → Puts (Ok bytes) before r after → IsOk r
is_put bytes before after r puts = rw puts.0
