-- Answers as those of the grid in words.
use Rattle.std.specs.Prelude.{◌≡◌, ℕ, Some, None, Ok, Err, Option, Result}
use Rattle.refusals.specs.declared.refusal.Refusal.{Refusal}
use Rattle.routes.specs.declared.declined.Declined.{Declined}
use Rattle.model.specs.Calls.{Answer, declined, done}
use Rattle.grid.specs.Makes.{step_answer}
use Rattle.plan.specs.declared.fault.LoadFault.{LoadFault}
use Rattle.plan.specs.Lines.{refusal_in, place_in}
use Rattle.runs.specs.declared.call.Failure.{Failure}
use Rattle.runs.specs.declared.call.Failure.TheVariants as failure
use Rattle.runs.specs.declared.call.Reply.{Reply}
use Rattle.runs.specs.declared.call.Reply.TheVariants.{Done, Found, Stepped, Swept, Loaded}

-- why a call is not done, or a plan not loaded to its end; and the hop or the byte to blame, where one is told
abbrev pub failure_refusal : Failure → Refusal
failure_refusal (failure.Declined d) = d.refusal
failure_refusal (failure.NotLoaded f) = refusal_in f

abbrev pub failure_place : Failure → Option ℕ
failure_place (failure.Declined d) = d.hop
failure_place (failure.NotLoaded f) = place_in f

-- A reply stands for the answer to a call of the grid in words. That of an opening which searched, of a sweep or of a load stands for none.
abbrev pub StandsFor : {T : Type 0} → Result (Reply T) Failure → Answer T → Type 0
StandsFor (Ok Done) a = a ≡ done
StandsFor (Ok (Found count)) a = ⊥
StandsFor (Ok (Stepped s)) a = a ≡ step_answer s
StandsFor (Ok (Swept told)) a = ⊥
StandsFor (Ok (Loaded count)) a = ⊥
StandsFor (Err (failure.Declined d)) a = a ≡ declined d
StandsFor (Err (failure.NotLoaded f)) a = ⊥

-- the reply to an opening, by the count of hops where these were searched for
abbrev pub open_reply : {T : Type 0} → Result (Option ℕ) Declined → Result (Reply T) Failure
open_reply (Ok None) = Ok Done
open_reply (Ok (Some count)) = Ok (Found count)
open_reply (Err d) = Err (failure.Declined d)

-- the reply to a load
abbrev pub load_reply : {T : Type 0} → Result ℕ LoadFault → Result (Reply T) Failure
load_reply (Ok count) = Ok (Loaded count)
load_reply (Err f) = Err (failure.NotLoaded f)
