-- Calls made one after another.
use Rattle.std.specs.Prelude.{List}
use Rattle.model.specs.Kinds.{Kind}
use Rattle.model.specs.Calls.{Call, Answer}
use Rattle.model.specs.Runs.{History, start, ◌▸◌}
use Rattle.grid.specs.declared.tables.Tables.{Tables}
use Rattle.grid.specs.Makes.{Makes}

-- Calls made on tables and slots one after another, each with its outcome, lead to tables and slots.
pub data InTurn {T : Type 0} (k : Kind) (t : Tables) (xs : List T) : History T → Tables → List T → Type 0 where
  no_call : InTurn k t xs start t xs
  one_more : {past : History T} {c : Call T} {between t' : Tables} {slots xs' : List T} (a : Answer T)
      → InTurn k t xs past between slots → Makes k between slots c a t' xs' → InTurn k t xs (past ▸ c) t' xs'
