-- What a change of one entry leaves of the streams, and of a table of lanes.
use Rattle.std.proofs.Common.{◌≡◌, ℕ, ◌&&◌, eqb, [], ◌∷◌, ◌++◌, Option, arith}
use Rattle.std.proofs.lemmas.Bool.{eqb-true, and_parts, cond_both}
use Rattle.std.proofs.lemmas.Bool.Decides.{nat_tests}
use Rattle.routes.specs.declared.hop.Hop.{Hop}
use Rattle.routes.specs.Routes.{OpenStream}
use Rattle.model.specs.Grid.{Queue, assign, put}

module _ (streams : ℕ → Option OpenStream) (n : ℕ) (entry : Option OpenStream) where
  pub assign_same : assign streams n entry n ≡ entry
  unfolding assign
  assign_same = grind (arith, nat_tests)

  pub assign_other : (k : ℕ) → (k ≡ n → ⊥) → assign streams n entry k ≡ streams k
  unfolding assign
  assign_other k other = grind (arith, nat_tests)

  -- A fact of every entry, after one is changed.
  pub assign_each : (P : ℕ → Option OpenStream → Type 0) → P n entry → ((k : ℕ) → P k (streams k))
      → (k : ℕ) → P k (assign streams n entry k)
  unfolding assign
  assign_each P here there k = cond_both (eqb k n) entry (streams k) (P k) (λ same. rw (eqb-true k n same) here) (λ _. there k)

module _ {A : Type 0} (table : ℕ → ℕ → A) (link lane : ℕ) (entry : A) where
  pub put_same : put table link lane entry link lane ≡ entry
  unfolding put
  put_same = grind (arith, nat_tests)

  pub put_other : (l v : ℕ) → ((l ≡ link) × (v ≡ lane) → ⊥) → put table link lane entry l v ≡ table l v
  unfolding put
  put_other l v other = grind (arith, nat_tests)

  -- A fact of every lane, after one is changed.
  pub put_each : (P : ℕ → ℕ → A → Type 0) → P link lane entry → ((l v : ℕ) → P l v (table l v))
      → (l v : ℕ) → P l v (put table link lane entry l v)
  unfolding put
  put_each P here there l v =
      cond_both (eqb l link && eqb v lane) entry (table l v) (P l v)
      (λ same. let parts = and_parts _ _ same in rw (eqb-true l link parts.0, eqb-true v lane parts.1) here)
      (λ _. there l v)

-- the contents of the lanes, with an item more at the back of one
abbrev pub pushed : {T : Type 0} → (ℕ → ℕ → Queue T) → Hop → (ℕ × T) → ℕ → ℕ → Queue T
pushed contents h item = put contents h.link h.lane (contents h.link h.lane ++ (item ∷ []))
