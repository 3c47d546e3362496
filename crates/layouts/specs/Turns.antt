-- The word for each turn.
use Rattle.std.specs.Prelude.{ℕ, List, codes}
use Rattle.layouts.specs.declared.turn.Turn.{Turn}
use Rattle.layouts.specs.declared.turn.Turn.TheVariants.{Never, Free, Climb}

abbrev pub word_of : Turn → List ℕ
word_of Never = codes "never"
word_of Free = codes "free"
word_of Climb = codes "climb"
