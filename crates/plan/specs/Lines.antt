-- How a verdict is told in a line.
use Rattle.std.specs.Prelude.{ℕ, List, [], ◌∷◌, ◌++◌, codes, decimal, Some, None, Ok, Err, Option, Result}
use Rattle.refusals.specs.declared.refusal.Refusal.{Refusal}
use Rattle.refusals.specs.Numbers.{refusal_number}
use Rattle.codec.specs.Numbers.{byte_refusal, byte_place}
use Rattle.plan.specs.declared.fault.LoadFault.{LoadFault}
use Rattle.plan.specs.declared.fault.LoadFault.TheVariants as fault
use Rattle.plan.specs.declared.line.Summary.{Summary}

-- what is to blame: 1 the bytes, 2 the plan, 3 the grid
abbrev pub layer_of : LoadFault → ℕ
layer_of (fault.HeadBytes f) = 1
layer_of (fault.RecordBytes f) = 1
layer_of (fault.Plan f) = 2
layer_of (fault.Grid f) = 3

-- the record, counted from 0, where the fault is in one
abbrev pub record_of : LoadFault → Option ℕ
record_of (fault.HeadBytes f) = None
record_of (fault.RecordBytes f) = Some f.number
record_of (fault.Plan f) = None
record_of (fault.Grid f) = Some f.number

abbrev pub refusal_in : LoadFault → Refusal
refusal_in (fault.HeadBytes f) = byte_refusal f
refusal_in (fault.RecordBytes f) = byte_refusal f.fault
refusal_in (fault.Plan f) = f.refusal
refusal_in (fault.Grid f) = f.fault.refusal

-- the byte of the plan; or the hop of the route, counted from 0, where the grid tells one
abbrev pub place_in : LoadFault → Option ℕ
place_in (fault.HeadBytes f) = Some (byte_place f)
place_in (fault.RecordBytes f) = Some (byte_place f.fault)
place_in (fault.Plan f) = Some f.place
place_in (fault.Grid f) = f.fault.hop

-- a blank and a number in base ten, or a dash where there is none
abbrev pub field_text : Option ℕ → List ℕ
field_text None = codes " -"
field_text (Some n) = codes " " ++ decimal n

-- fault LAYER RECORD REFUSAL PLACE
abbrev pub fault_text : LoadFault → List ℕ
fault_text f =
    codes "fault"
    ++ (field_text (Some (layer_of f)) ++ (field_text (record_of f) ++ (field_text (Some (refusal_number (refusal_in f))) ++ field_text (place_in f))))

-- ok STREAMS HOPS LOAD
abbrev pub summary_text : Summary → List ℕ
summary_text s = codes "ok" ++ (field_text (Some s.streams) ++ (field_text (Some s.hops) ++ field_text (Some s.load)))

-- the text of a verdict
abbrev pub verdict_text : Result Summary LoadFault → List ℕ
verdict_text (Ok s) = summary_text s
verdict_text (Err f) = fault_text f

-- the text, and a line feed
abbrev pub line_text : Result Summary LoadFault → List ℕ
line_text verdict = verdict_text verdict ++ (10 ∷ [])
