-- The laws of a ring's places.
use Rattle.std.proofs.Common.{◌≡◌, ℕ, zero, suc, ◌+◌, ◌*◌, ◌/◌, ◌%◌, ◌<◌, ◌≤◌, ◌≢◌, List, [], ◌∷◌, ◌++◌, length, take, get_or, set, sym, refl, ap, ◌∙◌, ⊎_elim, append_assoc, append-nil, add-zero, mod-lt, mod-eq_of_lt, mul-le-mul_left, mul-suc, arith, length-append}
use native.Mathlib.Nat.{mod-add-mod, mod-add-div}
use Rattle.std.proofs.Math.Seq.{get_or-append_seam}
use Rattle.std.proofs.lemmas.Bool.{cases_lt}
use Rattle.std.proofs.lemmas.List.{drop-set, get_or_append_left}
use Rattle.lanes.specs.Rings.{here, around}

-- ---- one entry of a table

pub here-set_same : {A : Type 0} (xs : List A) (p : ℕ) (v : A) → p < length xs → here (set xs p v) p ≡ v ∷ []
here-set_same xs p v h = ap (take 1) (drop-set xs p v h)

pub here-set_other : {A : Type 0} (xs : List A) (p q : ℕ) (v : A) → q ≢ p → here (set xs p v) q ≡ here xs q
here-set_other [] p q v ne = refl
here-set_other (x ∷ xs) zero zero v ne = absurd (ne refl)
here-set_other (x ∷ xs) zero (suc q) v ne = refl
here-set_other (x ∷ xs) (suc p) zero v ne = refl
here-set_other (x ∷ xs) (suc p) (suc q) v ne = here-set_other xs p q v (λ e. ne (ap suc e))

pub length-here : {A : Type 0} (xs : List A) (p : ℕ) → p < length xs → length (here xs p) ≡ 1
length-here [] p h = absurd (omega arith)
length-here (x ∷ xs) zero h = refl
length-here (x ∷ xs) (suc p) h = length-here xs p (omega arith)

-- ---- the entries of a ring

-- a ring is told by the entries at its places
pub around_same : {A : Type 0} (xs xs' : List A) (base depth first n : ℕ)
    → ((k : ℕ) → k < n → here xs' (base + (first + k) % depth) ≡ here xs (base + (first + k) % depth))
    → around xs' base depth first n ≡ around xs base depth first n
around_same xs xs' base depth first zero same = refl
around_same xs xs' base depth first (suc n) same =
    let front = around_same xs xs' base depth first n (λ k l. same k (omega arith)) in
    let last = same n (omega arith) in
    cc

pub length-around : {A : Type 0} (xs : List A) (base depth first n : ℕ) → 0 < depth → base + depth ≤ length xs
    → length (around xs base depth first n) ≡ n
length-around xs base depth first zero pos within = refl
length-around xs base depth first (suc n) pos within =
    let m = mod-lt (first + n) pos in
    let front = length-around xs base depth first n pos within in
    let last = length-here xs (base + (first + n) % depth) (omega arith) in
    length-append (around xs base depth first n) (here xs (base + (first + n) % depth)) ∙ omega arith

-- entry k of a ring, by the place that it stands at
pub around_at : {A : Type 0} (xs : List A) (base depth first n k : ℕ) (e : A) → 0 < depth → base + depth ≤ length xs → k < n
    → here xs (base + (first + k) % depth) ≡ e ∷ [] → get_or (around xs base depth first n) k e ≡ e
around_at xs base depth first zero k e pos within low is = absurd (omega arith)
around_at xs base depth first (suc n) k e pos within low is =
    let front = around xs base depth first n in
    let front_long = length-around xs base depth first n pos within in
    ⊎_elim
    (λ (before : k < n). get_or_append_left front _ e k (omega (arith, front_long)) ∙ around_at xs base depth first n k e pos within before is)
    (λ (last : n ≤ k).
    let same : n ≡ k = omega arith in
    ap (λ j. get_or (front ++ here xs (base + (first + j) % depth)) k e) same
    ∙ ap (λ one. get_or (front ++ one) k e) is
    ∙ ap (λ j. get_or (front ++ (e ∷ [])) j e) (sym same ∙ sym front_long)
    ∙ get_or-append_seam front e [] e)
    (cases_lt k n)

-- the first entry, and then the ring from the next place on
pub around_front : {A : Type 0} (xs : List A) (base depth first n : ℕ) → first < depth
    → around xs base depth first (suc n) ≡ here xs (base + first) ++ around xs base depth ((first + 1) % depth) n
around_front xs base depth first zero h = rw (add-zero first, mod-eq_of_lt h) (sym (append-nil _))
around_front xs base depth first (suc n) h =
    let shorter = around_front xs base depth first n h in
    let turn : ((first + 1) % depth + n) % depth ≡ (first + suc n) % depth =
    mod-add-mod (first + 1) depth n ∙ ap (λ k. k % depth) (omega arith) in
    ap (λ l. l ++ here xs (base + (first + suc n) % depth)) shorter
    ∙ append_assoc (here xs (base + first)) (around xs base depth ((first + 1) % depth) n) (here xs (base + (first + suc n) % depth))
    ∙ ap (λ k. here xs (base + first) ++ (around xs base depth ((first + 1) % depth) n ++ here xs (base + k))) (sym turn)

-- two turns of a ring less than its length apart are at different places
pub turns_apart : (first k n depth : ℕ) → k < n → n < k + depth → (first + k) % depth ≢ (first + n) % depth
turns_apart first k n depth l m e =
    let p = mod-add-div (first + k) depth in
    let q = mod-add-div (first + n) depth in
    let x = (first + k) / depth in
    let y = (first + n) / depth in
    ⊎_elim
    (λ (lt : x < y). let s : depth * suc x ≤ depth * y = mul-le-mul_left depth lt in let t = mul-suc depth x in omega arith)
    (λ (le : y ≤ x). let s : depth * y ≤ depth * x = mul-le-mul_left depth le in omega arith)
    (cases_lt x y)
