-- What says what is wanted parses it, whether memory is needed or not.
use Rattle.std.proofs.Common.{◌≡◌, Ok, Err, sym, inl}
use Rattle.script.specs.Reads.{Read, said, Parses}

pub said_parses : {A B : Type 0} (f : A → B) (Needed : Type 0) (wanted : Read B) (r : Read A) → said f r ≡ wanted → Parses f Needed wanted r
said_parses f Needed wanted (Ok x) is = sym is
said_parses f Needed wanted (Err m) is = inl (sym is)
