-- The acts of a rehearsal: calls by which streams send their strips, or lanes are stepped.
use Rattle.std.specs.Prelude.{◌≡◌, ℕ, ◌+◌, length}
use Rattle.model.specs.Grid.{Setting, Grid}
use Rattle.model.specs.Sums.{of_stream}
use Rattle.model.specs.Calls.{Call, opens, closes, sends, steps}
use Rattle.model.specs.Runs.{History, start, ◌▸◌, let_in_from, steps_gone_from}
use Rattle.lanes.specs.declared.strip.Strip.{Strip}
use Rattle.rehearsal.specs.Strips.{strip_of}

-- A call made after others is an act if a stream sends its next strip by it, or a lane is stepped. The next strip's row is the count of those let in.
abbrev pub IsAct : Setting → Grid Strip → History Strip → Call Strip → Type 0
IsAct S g past (opens n q hops) = ⊥
IsAct S g past (closes n) = ⊥
IsAct S g past (sends n x) = x ≡ strip_of n (length (of_stream n (let_in_from S g past)))
IsAct S g past (steps link lane) = Unit {0}

-- all calls are acts
abbrev pub AreActs : Setting → Grid Strip → History Strip → Type 0
AreActs S g start = Unit {0}
AreActs S g (past ▸ c) = AreActs S g past × IsAct S g past c

-- how many of them went: the strips let in, and the steps
abbrev pub gone : Setting → Grid Strip → History Strip → ℕ
gone S g acts = length (let_in_from S g acts) + steps_gone_from S g acts
