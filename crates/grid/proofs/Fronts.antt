-- Tables with a list at their front.
use Rattle.std.proofs.Common.{◌≡◌, ℕ, ◌+◌, ◌<◌, ◌≤◌, List, [], ◌∷◌, ◌++◌, length, set, take, drop, drop-cons, drop-drop, get_or, sym, ap, ◌∙◌, append_assoc, append-nil, length-append, add-one, arith}
use Rattle.std.proofs.Math.Seq.{set-append_seam, take-append_seam, drop-append_seam}
use Rattle.std.proofs.lemmas.List.{take-append-drop}
use Rattle.grid.specs.Sweeps.{over, set_from}

-- an entry behind the list
over_one : {A : Type 0} (list : List A) (x : A) (table : List A) → length list < length table
    → set (over list table) (length list) x ≡ over (list ++ (x ∷ [])) table
over_one list x table room =
    let next = drop-cons table (length list) x room ∙ ap (λ k. get_or table (length list) x ∷ drop k table) (sym (add-one (length list))) in
    let long : length (list ++ (x ∷ [])) ≡ length list + 1 = length-append list (x ∷ []) in
    ap (λ rest. set (list ++ rest) (length list) x) next
    ∙ set-append_seam list (get_or table (length list) x) _ x
    ∙ rw long (sym (append_assoc list (x ∷ []) (drop (length list + 1) table)))

-- and several
pub over_more : {A : Type 0} (k : ℕ) (list more table : List A) → k ≡ length list → length list + length more ≤ length table
    → set_from k more (over list table) ≡ over (list ++ more) table
over_more k list [] table is room = ap (λ l. over l table) (sym (append-nil list))
over_more k list (x ∷ more) table is room =
    let long : length (list ++ (x ∷ [])) ≡ length list + 1 = length-append list (x ∷ []) in
    ap (λ k'. set_from (k + 1) more (set (over list table) k' x)) is
    ∙ ap (set_from (k + 1) more) (over_one list x table (omega arith))
    ∙ over_more (k + 1) (list ++ (x ∷ [])) more table (omega arith) (omega (arith, long))
    ∙ ap (λ l. over l table) (append_assoc list (x ∷ []) more)

-- a list at the front of what is behind another
pub over_then : {A : Type 0} (n : ℕ) (list more table now after : List A) → n ≡ length list → now ≡ over list table
    → take n after ≡ take n now → drop n after ≡ over more (drop n now) → after ≡ over (list ++ more) table
over_then n list more table now after is front first rest =
    let rest_of : List _ = drop (length list) table in
    let taken : take n now ≡ list = ap (take n) front ∙ ap (λ k. take k (over list table)) is ∙ take-append_seam list rest_of in
    let left : drop n now ≡ rest_of = ap (drop n) front ∙ ap (λ k. drop k (over list table)) is ∙ drop-append_seam list rest_of in
    let long : length (list ++ more) ≡ length list + length more = length-append list more in
    sym (take-append-drop n after)
    ∙ ap (λ l. l ++ drop n after) (first ∙ taken)
    ∙ ap (λ l. list ++ l) (rest ∙ ap (over more) left)
    ∙ sym (append_assoc list more (drop (length more) rest_of))
    ∙ ap (λ l. (list ++ more) ++ l) (drop-drop (length more) (length list) table ∙ ap (λ k. drop k table) (sym long))
