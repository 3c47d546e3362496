-- The bytes of a word go behind those that were read before.
use Rattle.std.proofs.Common.{◌≡◌, ℕ, ◌-◌, ◌≤◌, List, [], ◌∷◌, ◌++◌, length, get_or, take, drop, Ok, Err, refl, sym, ap, ◌∙◌, append_assoc, arith}
use Rattle.std.proofs.Math.Seq.{take-length}
use Rattle.script.specs.Reads.{Read, and_then}
use Rattle.script.specs.Hex.{pair_of, bytes_of}

-- what is read, put behind xs
abbrev pub put_behind : List ℕ → Read (List ℕ) → Read (List ℕ)
put_behind xs r = and_then r (λ more. Ok (xs ++ more))

put_behind_both : (xs ys : List ℕ) (r : Read (List ℕ)) → put_behind (xs ++ ys) r ≡ put_behind xs (put_behind ys r)
put_behind_both xs ys (Ok zs) = ap Ok (append_assoc xs ys zs)
put_behind_both xs ys (Err m) = refl

-- where new is old with what r says behind it
pub pushed : (r rest : Read (List ℕ)) (old new : List ℕ) → put_behind old r ≡ Ok new → put_behind new rest ≡ put_behind old (and_then r (λ xs. put_behind xs rest))
pushed (Ok xs) rest old new e =
    let same : new ≡ old ++ xs = cc in
    rw same (put_behind_both old xs rest)
pushed (Err m) rest old new e = cc e

-- where new is old with the byte of the first two digits behind it
pub pair_pushed : (w old new : List ℕ) (byte : ℕ) → 2 ≤ length w → Ok byte ≡ pair_of (get_or w 0 0) (get_or w 1 0) → new ≡ old ++ byte ∷ [] → put_behind new (bytes_of (take (length w - 2) (drop 2 w))) ≡ put_behind old (bytes_of w)
pair_pushed [] old new byte long pair more = absurd (omega arith)
pair_pushed (x ∷ []) old new byte long pair more = absurd (omega arith)
pair_pushed (high ∷ low ∷ w) old new byte long pair more =
    let rest : take (length (high ∷ low ∷ w) - 2) w ≡ w = ap (λ n. take n w) (omega arith) ∙ take-length w in
    rw (rest, ← pair) (pushed (Ok (byte ∷ [])) (bytes_of w) old new (ap Ok (sym more)))
