-- The first of several, and the least number below n that passes a test.
use Rattle.std.proofs.Common.{◌≡◌, ℕ, zero, suc, ◌<◌, ◌≤◌, Bool, true, false, cond, List, [], ◌∷◌, ◌++◌, Some, None, Option, sym, refl, ap, ◌∙◌, subst, ⊎_elim, arith, MatchOption}
use Rattle.std.specs.List.{AllByRecursion as All}
use Rattle.std.proofs.lemmas.Bool.{cases_eq, cond-true, cond-false}
use Rattle.std.specs.Option.{option_or}
use Rattle.routes.specs.Firsts.{first_of, first_below}

or_other_none : {A : Type 0} (o p : Option A) → option_or o p ≡ None → (o ≡ None) × (p ≡ None)
or_other_none None p e = (refl, e)
or_other_none (Some x) p e = cc

module _ {A : Type 0} where
  pub first_append : (os ps : List (Option A)) → first_of (os ++ ps) ≡ option_or (first_of os) (first_of ps)
  first_append [] ps = refl
  first_append (None ∷ os) ps = first_append os ps
  first_append (Some x ∷ os) ps = refl

  -- there is no first exactly if none is there
  pub first_none : (os : List (Option A)) → first_of os ≡ None → All (λ o. o ≡ None) os
  first_none [] e = tt
  first_none (o ∷ os) e = let p = or_other_none o (first_of os) e in (p.0, first_none os p.1)

  pub first_all : (os : List (Option A)) → All (λ o. o ≡ None) os → first_of os ≡ None
  first_all [] a = refl
  first_all (o ∷ os) a = ap (λ p. option_or p (first_of os)) a.0 ∙ first_all os a.1

module _ (test : ℕ → Bool) where
  pub first_below_none : (n : ℕ) → ((k : ℕ) → k < n → test k ≡ false) → first_below n test ≡ None
  first_below_none zero fails = refl
  first_below_none (suc n) fails =
      ap (λ o. option_or o (cond (test n) (Some n) None)) (first_below_none n (λ k l. fails k (omega arith)))
      ∙ cond-false (test n) (Some n) None (fails n (omega arith))

  pub first_below_some : (n k : ℕ) → k < n → test k ≡ true → ((j : ℕ) → j < k → test j ≡ false) → first_below n test ≡ Some k
  first_below_some zero k l passes earlier = absurd (omega arith)
  first_below_some (suc n) k l passes earlier =
      ⊎_elim
      (λ (e : k ≡ n).
      ap (λ o. option_or o (cond (test n) (Some n) None)) (first_below_none n (λ j h. earlier j (omega arith)))
      ∙ (cond-true (test n) (Some n) None (subst (λ m. test m ≡ true) e passes) ∙ ap Some (sym e)))
      (λ (d : k ≡ n → ⊥). ap (λ o. option_or o (cond (test n) (Some n) None)) (first_below_some n k (omega arith) passes earlier))
      (cases_eq k n)

  -- what a search from 0 up finds
  pub first_below_found : (n : ℕ) (r : Option ℕ)
      → MatchOption r ((k : ℕ) → 0 ≤ k → k < n → test k ≡ false) (λ i. (0 ≤ i) × (i < n) × (test i ≡ true) × ((k : ℕ) → 0 ≤ k → k < i → test k ≡ false))
      → r ≡ first_below n test
  first_below_found n None f = sym (first_below_none n (λ k l. f k (omega arith) l))
  first_below_found n (Some i) f = sym (first_below_some n i f.1 f.2 (λ k l. f.3 k (omega arith) l))

  not_here : (t : Bool) (n : ℕ) → cond t (Some n) None ≡ None → t ≡ false
  not_here true n e = cc
  not_here false n e = refl

  pub none_below : (n : ℕ) → first_below n test ≡ None → (k : ℕ) → k < n → test k ≡ false
  none_below zero e k l = absurd (omega arith)
  none_below (suc n) e k l =
      let p = or_other_none (first_below n test) (cond (test n) (Some n) None) e in
      ⊎_elim
      (λ (s : k ≡ n). subst (λ m. test m ≡ false) (sym s) (not_here (test n) n p.1))
      (λ (d : k ≡ n → ⊥). none_below n p.0 k (omega arith))
      (cases_eq k n)
