-- What is read, or the first mistake.
use Rattle.std.specs.Prelude.{◌≡◌, ◌⊎◌, Ok, Err, Result}
use Rattle.script.specs.declared.mistake.Mistake.{Mistake}
use Rattle.script.specs.declared.mistake.Mistake.TheVariants.{OutOfMemory}

-- a value, or the first mistake
abbrev pub Read : Type 0 → Type 0
Read A = Result A Mistake

abbrev pub and_then : {A B : Type 0} → Read A → (A → Read B) → Read B
and_then (Ok x) f = f x
and_then (Err m) f = Err m

-- what a value says by f, or the mistake
abbrev pub said : {A B : Type 0} → (A → B) → Read A → Read B
said f (Ok x) = Ok (f x)
said f (Err m) = Err m

-- r says by f what is wanted; or, where memory is needed, that it ran out
abbrev pub Parses : {A B : Type 0} → (A → B) → Type 0 → Read B → Read A → Type 0
Parses f Needed wanted (Ok x) = wanted ≡ Ok (f x)
Parses f Needed wanted (Err m) = (wanted ≡ Err m) ⊎ (Needed × (m ≡ OutOfMemory))

-- a mistake, if there is one, is of the line: not that the memory ran out
abbrev pub OfTheLine : {A : Type 0} → Read A → Type 0
OfTheLine (Ok x) = Unit {0}
OfTheLine (Err m) = m ≡ OutOfMemory → ⊥
