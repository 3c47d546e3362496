-- A line's first word stands behind its blanks, up to the next byte that is no letter.
use Rattle.std.proofs.Common.{◌≡◌, ℕ, List, [], ◌∷◌, ◌++◌, take, drop, refl, ◌∙◌, append_assoc, append-nil, one-add, arith}
use Rattle.script.specs.declared.bytes.Kind.TheVariants.{Blank, Hash, Letter}
use Rattle.script.specs.Bytes.{kind, run}
use Rattle.script.specs.Words.{ended, words_after, words_of}

-- by cases on the kind of a byte
kind_cases : (b : ℕ) (P : Type 0) → (kind b ≡ Blank → P) → (kind b ≡ Hash → P) → (kind b ≡ Letter → P) → P
kind_cases b P blank hash letter =
    (elim (kind b) as (λ k. (k ≡ Blank → P) → (k ≡ Hash → P) → (k ≡ Letter → P) → P)
    [ Blank ↦ λ x y z. x refl | Hash ↦ λ x y z. y refl | Letter ↦ λ x y z. z refl ]) blank hash letter

-- blanks ahead of a word do not count
blanks_first : (bs : List ℕ) → words_of bs ≡ words_of (drop (run Blank bs) bs)
blanks_first [] = refl
blanks_first (b ∷ bs) = kind_cases b _ (λ e. simp (e, one-add) (blanks_first bs)) (λ e. simp e refl) (λ e. simp e refl)

blanks_all : (bs : List ℕ) → run Blank (drop (run Blank bs) bs) ≡ 0
blanks_all [] = refl
blanks_all (b ∷ bs) = kind_cases b _ (λ e. simp (e, one-add) (blanks_all bs)) (λ e. simp e refl) (λ e. simp e refl)

-- letters go on with the word so far, and what is behind them ends it
letters_first : (w bs : List ℕ) → words_after w bs ≡ ended (w ++ take (run Letter bs) bs) (words_of (drop (run Letter bs) bs))
letters_first w [] = simp append-nil
letters_first w (b ∷ bs) =
    kind_cases b _
    (λ e. simp (e, append-nil) refl)
    (λ e. simp (e, append-nil) refl)
    (λ e. simp (e, one-add) (simp append_assoc at (letters_first (w ++ b ∷ []) bs)))

-- where neither a blank nor a letter comes first, no word is left
none_left : (bs : List ℕ) → run Blank bs ≡ 0 → run Letter bs ≡ 0 → words_of bs ≡ []
none_left [] p q = refl
none_left (b ∷ bs) p q = grind arith

-- what stands behind the blanks
abbrev pub ahead : List ℕ → List ℕ
ahead bs = drop (run Blank bs) bs

pub first_word : (bs : List ℕ) → words_of bs ≡ ended (take (run Letter (ahead bs)) (ahead bs)) (words_of (drop (run Letter (ahead bs)) (ahead bs)))
first_word bs = blanks_first bs ∙ letters_first [] (ahead bs)

pub no_word : (bs : List ℕ) → run Letter (ahead bs) ≡ 0 → words_of (drop (run Letter (ahead bs)) (ahead bs)) ≡ []
no_word bs none = rw none (none_left (ahead bs) (blanks_all bs) none)

pub ruleset next_word = (first_word, no_word)
