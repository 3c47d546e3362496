-- What is said of each mistake.
use Rattle.std.specs.Prelude.{ℕ, List, codes}
use Rattle.script.specs.declared.mistake.Mistake.{Mistake}
use Rattle.script.specs.declared.mistake.Mistake.TheVariants.{UnknownCommand, MissingWord, ExtraWord, UnknownRule, NotANumber, NumberTooLarge, NotAHop, UnknownMeasure, UnknownBeat, NotBytes, NoMesh, NoGrid, OutOfMemory}

abbrev pub text_of : Mistake → List ℕ
text_of UnknownCommand = codes "unknown command"
text_of MissingWord = codes "a word is missing"
text_of ExtraWord = codes "a word too many"
text_of UnknownRule = codes "unknown rule"
text_of NotANumber = codes "not a number"
text_of NumberTooLarge = codes "number too large"
text_of NotAHop = codes "not a hop"
text_of UnknownMeasure = codes "unknown measure"
text_of UnknownBeat = codes "unknown beat"
text_of NotBytes = codes "not bytes"
text_of NoMesh = codes "no mesh"
text_of NoGrid = codes "no grid"
text_of OutOfMemory = codes "out of memory"
