-- How answers and failures are written.
use Rattle.std.specs.Prelude.{ℕ, zero, suc, ◌/◌, ◌%◌, Bool, true, false, List, [], ◌∷◌, ◌++◌, min, take, flat_map, Some, None, codes, decimal, Option, slice_index_or}
use Rattle.std.specs.List.{zip}
use Rattle.std.specs.Fmt.{digit_glyph}
use Rattle.refusals.specs.Numbers.{refusal_number}
use Rattle.layouts.specs.Turns.{word_of}
use Rattle.routes.specs.declared.hop.Hop.{Hop}
use Rattle.plan.specs.Lines.{fault_text, summary_text}
use Rattle.lanes.specs.declared.strip.Strip.{Strip}
use Rattle.rehearsal.specs.declared.tally.Tally.{Tally}
use Rattle.script.specs.Mistakes.{text_of}
use Rattle.session.specs.declared.answer.Answer.{Answer}
use Rattle.session.specs.declared.answer.Answer.TheVariants as answer
use Rattle.session.specs.declared.brief.Brief.{Brief}
use Rattle.session.specs.declared.brief.Brief.TheVariants.{Made, Ends, Turn, Accepted, Moved, Out, Fields, Load, Count, Ahead, CameOut, Loaded, Checked, Report, Streams, Picture, Say}
use Rattle.session.specs.declared.failure.Failure.{Failure}
use Rattle.session.specs.declared.failure.Failure.TheVariants as failure
use Rattle.session.specs.declared.failure.LineFailure.{LineFailure}

-- refused NUMBER, or refused NUMBER hop HOP
abbrev pub refused_text : ℕ → Option ℕ → List ℕ
refused_text n None = codes "refused " ++ decimal n
refused_text n (Some k) = codes "refused " ++ (decimal n ++ (codes " hop " ++ decimal k))

-- a blank and a hop: LINK.LANE
abbrev pub hop_text : Hop → List ℕ
hop_text h = codes " " ++ (decimal h.link ++ (codes "." ++ decimal h.lane))

-- a byte in base sixteen, by two capital digits
abbrev pub byte_text : ℕ → List ℕ
byte_text b = digit_glyph true (b / 16) ∷ (digit_glyph true (b % 16) ∷ [])

-- what was seen of a stream: stream S sent N out N in order
abbrev pub order_text : Bool → List ℕ
order_text true = codes "in order"
order_text false = codes "out of order"

abbrev pub tally_line : ℕ → Option Tally → List ℕ
tally_line n None = []
tally_line n (Some t) =
    codes "stream " ++ (decimal n ++ (codes " sent " ++ (decimal t.sent ++ (codes " out " ++ (decimal t.out ++ (codes " " ++ (order_text t.in_order ++ 10 ∷ [])))))))

-- a line for each of the first n streams that has a tally
abbrev pub tally_lines : List (Option Tally) → ℕ → List ℕ
tally_lines tallies zero = []
tally_lines tallies (suc n) = tally_lines tallies n ++ tally_line n (slice_index_or tallies n None)

-- ok TILES LINKS, ok START END, a turn's word, ok, moved STREAM, out STREAM FRAGMENT BAND ROW, ok FROM TO DEMAND,
-- ok LOAD, ok COUNT, ok HOPS, ok STEPS ITEMS, ok RECORDS, ok STREAMS HOPS LOAD, or the name of a command whose answer is
-- told by who runs the script
abbrev pub brief_text : Brief → List ℕ
brief_text (Made tiles links) = codes "ok " ++ (decimal tiles ++ (codes " " ++ decimal links))
brief_text (Ends start end) = codes "ok " ++ (decimal start ++ (codes " " ++ decimal end))
brief_text (Turn turn) = word_of turn
brief_text Accepted = codes "ok"
brief_text (Moved n) = codes "moved " ++ decimal n
brief_text (Out n x) = codes "out " ++ (decimal n ++ (codes " " ++ (decimal x.fragment ++ (codes " " ++ (decimal x.band ++ (codes " " ++ decimal x.row))))))
brief_text (Fields q) = codes "ok " ++ (decimal q.source ++ (codes " " ++ (decimal q.target ++ (codes " " ++ decimal q.demand))))
brief_text (Load n) = codes "ok " ++ decimal n
brief_text (Count n) = codes "ok " ++ decimal n
brief_text (Ahead hops) = codes "ok " ++ decimal hops
brief_text (CameOut steps items) = codes "ok " ++ (decimal steps ++ (codes " " ++ decimal items))
brief_text (Loaded records) = codes "ok " ++ decimal records
brief_text (Checked summary) = summary_text summary
brief_text Report = codes "report"
brief_text Streams = codes "streams"
brief_text Picture = codes "picture"
brief_text Say = codes "say"

-- a short answer, ok HOPS HOP.., ok BYTES HEX, or what was seen of each stream with ok STEPS ITEMS
abbrev pub answer_text : Answer → List ℕ
answer_text (answer.Brief brief) = brief_text brief
answer_text (answer.Route table count) = codes "ok " ++ (decimal count ++ flat_map hop_text (take (min count 24) table))
answer_text (answer.Rehearsed r) = tally_lines r.tallies 64 ++ (codes "ok " ++ (decimal r.steps ++ (codes " " ++ decimal r.items)))
answer_text (answer.Written table count) = codes "ok " ++ (decimal count ++ (codes " " ++ flat_map byte_text (take (min count 3530) table)))

-- what came out, a line for each item with its stream: out STREAM FRAGMENT BAND ROW
abbrev pub out_line : (ℕ × Strip) → List ℕ
out_line i = brief_text (Out i.0 i.1) ++ 10 ∷ []

abbrev pub out_lines : List ℕ → List Strip → List ℕ
out_lines streams items = flat_map out_line (zip streams items)

-- why the call was declined, error LINE: what is wrong, or fault LAYER RECORD REFUSAL PLACE
abbrev pub failed_text : ℕ → Failure → List ℕ
failed_text line (failure.Declined declined) = refused_text (refusal_number declined.refusal) declined.hop
failed_text line (failure.Mistake mistake) = codes "error " ++ (decimal line ++ (codes ": " ++ text_of mistake))
failed_text line (failure.NotLoaded fault) = fault_text fault

abbrev pub failure_text : LineFailure → List ℕ
failure_text f = failed_text f.line f.failure
