-- No line reads as the mistake that the memory ran out.
use Rattle.std.proofs.Common.{ℕ, Bool, true, false, cond, List, [], ◌∷◌, Ok, Err, arith}
use Rattle.script.specs.declared.mistake.Mistake.TheVariants.{UnknownCommand}
use Rattle.script.specs.Reads.{Read, OfTheLine, and_then}
use Rattle.script.specs.Hops.{hops_in}
use Rattle.script.specs.Hex.{pair_of, bytes_of, bytes_in}
use Rattle.script.specs.Parts.{first_shape, first_number, first_measure, first_request, last_beat, nothing_more, only_number, only_hop, only_strip, request_and_hops}
use Rattle.script.specs.Commands.{Instruction, question_named, show_named, call_named, named_instruction, command_of}

then_mistakes : {A B : Type 0} (r : Read A) (f : A → Read B) → OfTheLine r → ((x : A) → OfTheLine (f x)) → OfTheLine (and_then r f)
then_mistakes (Ok x) f p q = q x
then_mistakes (Err m) f p q = p

cond_mistakes : {A : Type 0} (b : Bool) (r s : Read A) → OfTheLine r → OfTheLine s → OfTheLine (cond b r s)
cond_mistakes true r s p q = p
cond_mistakes false r s p q = q

number_mistakes : (ws : List (List ℕ)) → OfTheLine (first_number ws)
number_mistakes ws = grind arith

shape_mistakes : (ws : List (List ℕ)) → OfTheLine (first_shape ws)
shape_mistakes ws = grind arith

measure_mistakes : (ws : List (List ℕ)) → OfTheLine (first_measure ws)
measure_mistakes ws = grind arith

beat_mistakes : (ws : List (List ℕ)) → OfTheLine (last_beat ws)
beat_mistakes ws = grind arith

fields_mistakes : (ws : List (List ℕ)) → OfTheLine (first_request ws)
fields_mistakes ws = grind arith

end_mistakes : (ws : List (List ℕ)) → OfTheLine (nothing_more ws)
end_mistakes ws = grind arith

only_number_mistakes : (ws : List (List ℕ)) → OfTheLine (only_number ws)
only_number_mistakes ws = grind arith

hop_mistakes : (ws : List (List ℕ)) → OfTheLine (only_hop ws)
hop_mistakes ws = grind arith

strip_mistakes : (ws : List (List ℕ)) → OfTheLine (only_strip ws)
strip_mistakes ws = grind arith

hops_mistakes : (ws : List (List ℕ)) → OfTheLine (hops_in ws)
hops_mistakes [] = tt
hops_mistakes (w ∷ ws) = grind (arith, hops_mistakes ws)

request_mistakes : (ws : List (List ℕ)) → OfTheLine (request_and_hops ws)
request_mistakes ws = search (then_mistakes, fields_mistakes, hops_mistakes)

pair_mistakes : (high low : ℕ) → OfTheLine (pair_of high low)
pair_mistakes high low = grind arith

word_mistakes : (w : List ℕ) → OfTheLine (bytes_of w)
word_mistakes [] = tt
word_mistakes (digit ∷ []) = grind arith
word_mistakes (high ∷ low ∷ w) = grind (arith, pair_mistakes high low, word_mistakes w)

bytes_mistakes : (ws : List (List ℕ)) → OfTheLine (bytes_in ws)
bytes_mistakes [] = tt
bytes_mistakes (w ∷ ws) = grind (arith, word_mistakes w, bytes_mistakes ws)

no_command : OfTheLine {A = Instruction} (Err UnknownCommand)
no_command = grind arith

ruleset parts = (
  then_mistakes,
  cond_mistakes,
  number_mistakes,
  shape_mistakes,
  measure_mistakes,
  beat_mistakes,
  fields_mistakes,
  end_mistakes,
  only_number_mistakes,
  hop_mistakes,
  strip_mistakes,
  request_mistakes,
  bytes_mistakes,
  no_command,
)

question_mistakes : (name : List ℕ) (ws : List (List ℕ)) → OfTheLine (question_named name ws)
question_mistakes name ws = search parts depth 9

show_mistakes : (name : List ℕ) (ws : List (List ℕ)) → OfTheLine (show_named name ws)
show_mistakes name ws = search (parts, question_mistakes) depth 9

call_mistakes : (name : List ℕ) (ws : List (List ℕ)) → OfTheLine (call_named name ws)
call_mistakes name ws = search (parts, show_mistakes) depth 10

named_mistakes : (name : List ℕ) (ws : List (List ℕ)) → OfTheLine (named_instruction name ws)
named_mistakes name ws = search (parts, call_mistakes) depth 12

pub line_mistakes : (ws : List (List ℕ)) → OfTheLine (command_of ws)
line_mistakes [] = tt
line_mistakes (name ∷ ws) = then_mistakes _ _ (named_mistakes name ws) (λ i. tt)
