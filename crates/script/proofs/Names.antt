-- When a word is a name, by its bytes.
use Rattle.std.proofs.Common.{◌≡◌, ℕ, false, List, arith}
use Rattle.std.proofs.lemmas.Slice.Eq.{bytes_eq-Decides}
use Rattle.std.specs.Str.{bytes_eq}

pub no_name : (word name : List ℕ) → ((word ≡ name) → ⊥) → bytes_eq word name ≡ false
no_name word name differ = grind (arith, bytes_eq-Decides word name)
