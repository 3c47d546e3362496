-- The laws of slots with their streams.
use Rattle.std.proofs.Common.{◌≡◌, ℕ, zero, suc, ◌<◌, ◌≤◌, List, [], ◌∷◌, length, get_or, set, refl, ap, arith}
use Rattle.lanes.specs.Rings.{here}
use Rattle.lanes.specs.Queues.{cells}

pub cells-set : {T : Type 0} (owners : List ℕ) (slots : List T) (p n : ℕ) (x : T)
    → cells (set owners p n) (set slots p x) ≡ set (cells owners slots) p (n, x)
cells-set [] slots p n x = refl
cells-set (o ∷ owners) [] zero n x = refl
cells-set (o ∷ owners) [] (suc p) n x = refl
cells-set (o ∷ owners) (y ∷ slots) zero n x = refl
cells-set (o ∷ owners) (y ∷ slots) (suc p) n x = ap (λ l. (o, y) ∷ l) (cells-set owners slots p n x)

pub length-cells : {T : Type 0} (owners : List ℕ) (slots : List T) → length owners ≤ length slots
    → length (cells owners slots) ≡ length owners
length-cells [] slots h = refl
length-cells (o ∷ owners) [] h = absurd (omega arith)
length-cells (o ∷ owners) (x ∷ slots) h = ap suc (length-cells owners slots (omega arith))

pub here-cells : {T : Type 0} (owners : List ℕ) (slots : List T) (p n : ℕ) (x : T) → p < length owners → p < length slots
    → n ≡ get_or owners p n → x ≡ get_or slots p x → here (cells owners slots) p ≡ (n, x) ∷ []
here-cells [] slots p n x a b owner item = absurd (omega arith)
here-cells (o ∷ owners) [] p n x a b owner item = absurd (omega arith)
here-cells (o ∷ owners) (y ∷ slots) zero n x a b owner item = cc
here-cells (o ∷ owners) (y ∷ slots) (suc p) n x a b owner item = here-cells owners slots p n x (omega arith) (omega arith) owner item
