-- Runs: what has been let in and handed out after a list of calls, and how far the items have come.
use Rattle.std.specs.Prelude.{ℕ, ◌+◌, Bool, true, false, cond, not, ◌&&◌, List, [], ◌∷◌, ◌++◌, length, ◌==◌}
use Rattle.model.specs.Grid.{Setting, Queue, Grid, blank, route_of}
use Rattle.model.specs.Sums.{of_stream}
use Rattle.model.specs.Calls.{Call, opens, closes, sends, steps, Answer, declined, done, moved, out, outcome}

-- Calls made one after another, the latest last.
infixl 20 ◌▸◌
pub data History (T : Type 0) : Type 0 where
  start : History T
  ◌▸◌ : History T → Call T → History T

-- the grid that they leave of a grid
abbrev pub after_from : {T : Type 0} → Setting → Grid T → History T → Grid T
after_from S g start = g
after_from S g (past ▸ c) = (outcome S (after_from S g past) c).grid

-- the answer to a call made next
abbrev pub answer_from : {T : Type 0} → Setting → Grid T → History T → Call T → Answer T
answer_from S g past c = (outcome S (after_from S g past) c).answer

abbrev pub is_declined : {T : Type 0} → Answer T → Bool
is_declined (declined d) = true
is_declined done = false
is_declined (moved n) = false
is_declined (out n x) = false

-- a send that is not declined lets its item in
abbrev pub entering : {T : Type 0} → Call T → Answer T → Queue T
entering (opens n q hops) a = []
entering (closes n) a = []
entering (sends n x) a = cond (is_declined a) [] ((n, x) ∷ [])
entering (steps link lane) a = []

-- a step that answers *out* hands that item out, for the stream that it tells
abbrev pub leaving : {T : Type 0} → Answer T → Queue T
leaving (declined d) = []
leaving done = []
leaving (moved n) = []
leaving (out n x) = (n, x) ∷ []

-- a step goes if it is not declined
abbrev pub going : {T : Type 0} → Call T → Answer T → ℕ
going (opens n q hops) a = 0
going (closes n) a = 0
going (sends n x) a = 0
going (steps link lane) a = cond (is_declined a) 0 1

-- the hops of an item let in are those of its stream's route when it was let in
abbrev pub hops_entering : {T : Type 0} → Grid T → Call T → Answer T → ℕ
hops_entering g (opens n q hops) a = 0
hops_entering g (closes n) a = 0
hops_entering g (sends n x) a = cond (is_declined a) 0 (length (route_of (g.streams n)))
hops_entering g (steps link lane) a = 0

-- whether a call opens stream n
abbrev pub opens_stream : {T : Type 0} → ℕ → Call T → Answer T → Bool
opens_stream n (opens k q hops) a = not (is_declined a) && k == n
opens_stream n (closes k) a = false
opens_stream n (sends k x) a = false
opens_stream n (steps link lane) a = false

-- Counted from a grid on: the items let in, the items handed out, the steps that went, the hops let in.
abbrev pub let_in_from : {T : Type 0} → Setting → Grid T → History T → Queue T
let_in_from S g start = []
let_in_from S g (past ▸ c) = let_in_from S g past ++ entering c (answer_from S g past c)

abbrev pub handed_out_from : {T : Type 0} → Setting → Grid T → History T → Queue T
handed_out_from S g start = []
handed_out_from S g (past ▸ c) = handed_out_from S g past ++ leaving (answer_from S g past c)

abbrev pub steps_gone_from : {T : Type 0} → Setting → Grid T → History T → ℕ
steps_gone_from S g start = 0
steps_gone_from S g (past ▸ c) = steps_gone_from S g past + going c (answer_from S g past c)

abbrev pub hops_let_in_from : {T : Type 0} → Setting → Grid T → History T → ℕ
hops_let_in_from S g start = 0
hops_let_in_from S g (past ▸ c) =
    hops_let_in_from S g past + hops_entering (after_from S g past) c (answer_from S g past c)

-- The same from the blank grid on.
abbrev pub after : {T : Type 0} → Setting → History T → Grid T
after S = after_from S blank

abbrev pub answer_to : {T : Type 0} → Setting → History T → Call T → Answer T
answer_to S = answer_from S blank

abbrev pub let_in : {T : Type 0} → Setting → History T → Queue T
let_in S = let_in_from S blank

abbrev pub handed_out : {T : Type 0} → Setting → History T → Queue T
handed_out S = handed_out_from S blank

abbrev pub steps_gone : {T : Type 0} → Setting → History T → ℕ
steps_gone S = steps_gone_from S blank

abbrev pub hops_let_in : {T : Type 0} → Setting → History T → ℕ
hops_let_in S = hops_let_in_from S blank

-- The items of stream n let in and handed out since its opening, which is the latest call that opened it.
abbrev pub let_in_since : {T : Type 0} → Setting → ℕ → History T → List T
let_in_since S n start = []
let_in_since S n (past ▸ c) = cond (opens_stream n c (answer_to S past c)) [] (let_in_since S n past) ++ of_stream n (entering c (answer_to S past c))

abbrev pub handed_out_since : {T : Type 0} → Setting → ℕ → History T → List T
handed_out_since S n start = []
handed_out_since S n (past ▸ c) = cond (opens_stream n c (answer_to S past c)) [] (handed_out_since S n past) ++ of_stream n (leaving (answer_to S past c))

-- more steps, called next
abbrev pub then_steps : {T : Type 0} → History T → List (ℕ × ℕ) → History T
then_steps past [] = past
then_steps past (p ∷ more) = then_steps (past ▸ steps p.0 p.1) more

-- a past with the calls of another history made next
abbrev pub then_calls : {T : Type 0} → History T → History T → History T
then_calls past start = past
then_calls past (more ▸ c) = then_calls past more ▸ c
