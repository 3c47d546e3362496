-- What a writer of plans answers and leaves.
use Rattle.std.specs.Prelude.{ℕ, List, length, Ok, Err, Result}
use Rattle.refusals.specs.declared.refusal.Refusal.{Refusal}
use Rattle.codec.specs.declared.head.Head.{Head}
use Rattle.codec.specs.declared.head.HeadFault.{HeadFault}
use Rattle.codec.specs.Heads.{judged}
use Rattle.grid.specs.declared.tables.Tables.{Tables}
use Rattle.grid.specs.Views.{streams_in}
use Rattle.plan.specs.Buffers.{fitted}
use Rattle.plan.specs.Loads.{sizes_of}
use Rattle.plan.specs.Plans.{open_streams, plan_bytes}

-- a head that is refused tells no place
abbrev pub if_accepted : Result (Unit {0}) HeadFault → Result (List ℕ) Refusal → Result (List ℕ) Refusal
if_accepted (Ok a) bytes = bytes
if_accepted (Err f) bytes = Err f.refusal

-- the plan of a grid's open streams for a buffer of a size, or why it is not written
abbrev pub written : Head → Tables → ℕ → Result (List ℕ) Refusal
written h t size =
    if_accepted (judged h (length (open_streams (streams_in t))) (sizes_of t)) (fitted size (plan_bytes h (streams_in t)))
