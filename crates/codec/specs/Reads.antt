-- What is read, or the fault at which reading ends.
use Rattle.std.specs.Prelude.{Ok, Err, Result}

-- what is read after a value, or the fault ahead of it
abbrev pub then : {A B E : Type 0} → Result A E → (A → Result B E) → Result B E
then (Ok x) f = f x
then (Err e) f = Err e
