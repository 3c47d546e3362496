-- A word with a dot is cut at the first.
use Rattle.std.proofs.Common.{◌≡◌, ℕ, ◌+◌, ◌-◌, ◌<◌, List, length, take, drop, Some, eqb, sym, ap, ◌∙◌, arith, length-drop}
use Rattle.std.proofs.Math.Seq.{take-length}
use Rattle.std.proofs.lemmas.Bool.Decides.{nat_tests}
use Rattle.std.proofs.lemmas.List.{drop_more}
use Rattle.std.specs.List.{position}
use Rattle.script.specs.Hops.{ahead_of_dot, from_digits, dotted, hop_of}

pub cut_at_dot : (w : List ℕ) (i : ℕ) → position (λ b. eqb b 46) w ≡ Some i → hop_of w ≡ from_digits (take i w) (take (length w - (i + 1)) (drop (i + 1) w))
cut_at_dot w i e =
    let there : (ahead_of_dot w < length w) × (ahead_of_dot w ≡ i) = grind (arith, nat_tests) in
    let whole = ap (λ n. take n (drop (i + 1) w)) (sym (length-drop (i + 1) w)) ∙ take-length (drop (i + 1) w) in
    rw there.1 (ap (dotted (take i w)) (drop_more w i 0 (omega arith)) ∙ ap (from_digits (take i w)) (sym whole))
