-- Counts that are held, and rows of strips.
use Rattle.std.proofs.Common.{◌≡◌, ℕ, ◌+◌, ◌<◌, ◌&&◌, List, [], ◌∷◌, ◌++◌, length, length-append, ◌==◌, sym, ap, ◌∙◌, add-zero, arith}
use Rattle.std.proofs.Math.Bool.{and_assoc, and-true}
use Rattle.std.proofs.lemmas.Bool.Decides.{nat_tests}
use Rattle.lanes.specs.declared.strip.Strip.{Strip}
use Rattle.rehearsal.specs.Strips.{is_strip, are_rows, counted}

-- more than a count is counted as more than what it counts
pub counted_more : (k more : ℕ) → counted (counted k + more) ≡ counted (k + more)
counted_more k more = omega arith

-- one entry more in a list is counted
pub counted_out : {A : Type 0} (x : A) (xs : List A) → counted (counted (length xs) + 1) ≡ counted (length (xs ++ (x ∷ [])))
counted_out x xs = counted_more (length xs) 1 ∙ ap counted (sym (length-append xs (x ∷ [])))

-- a row has 16 bits, and so is no number at which a count is held
row_counted : (k row : ℕ) → row < 65536 → (row == counted k) ≡ (row == k)
row_counted k row few = grind (arith, nat_tests)

pub is_strip_counted : (n k : ℕ) (x : Strip) → x.row < 65536 → is_strip n (counted k) x ≡ is_strip n k x
is_strip_counted n k x few = ap (λ b. x.fragment == 0 && x.band == n && b) (row_counted k x.row few)

-- one strip more is of the next row
pub are_rows_more : (n row : ℕ) (xs : List Strip) (x : Strip) → are_rows n row (xs ++ (x ∷ [])) ≡ (are_rows n row xs && is_strip n (row + length xs) x)
are_rows_more n row [] x = rw add-zero (and-true (is_strip n row x))
are_rows_more n row (y ∷ ys) x =
    let next : row + 1 + length ys ≡ row + length (y ∷ ys) = omega arith in
    ap (λ b. is_strip n row y && b) (are_rows_more n (row + 1) ys x ∙ ap (λ k. are_rows n (row + 1) ys && is_strip n k x) next)
    ∙ sym (and_assoc (is_strip n row y) (are_rows n (row + 1) ys) (is_strip n (row + length (y ∷ ys)) x))
