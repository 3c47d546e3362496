-- The two scales, and a choice of two, keep the laws.
use Rattle.std.specs.Prelude.{◌≡◌, ℕ, Bool, true, ◌⊎◌}
use Rattle.std.proofs.Common.{inl, inr, refl, ap, arith}
use Rattle.std.proofs.lemmas.Bool.Decides.{nat_tests}
use Rattle.search.specs.declared.choice.Either.{Either}
use Rattle.search.specs.declared.choice.Either.TheVariants.{First, Second}
use Rattle.search.specs.Scales.{Scale, Ordered, Antisymmetric, total, peak, choice}

pub total_ordered : Ordered total
total_ordered = record {
  total = λ p q. grind (arith, nat_tests);
  transitive = λ p q r a b. grind (arith, nat_tests);
  extends = λ p q load a. grind (arith, nat_tests);
}

pub total_antisymmetric : Antisymmetric total
total_antisymmetric p q a b = grind (arith, nat_tests)

pub peak_ordered : Ordered peak
peak_ordered = record {
  total = λ p q. grind (arith, nat_tests);
  transitive = λ p q r a b. grind (arith, nat_tests);
  extends = λ p q load a. grind (arith, nat_tests);
}

pub peak_antisymmetric : Antisymmetric peak
peak_antisymmetric p q a b = grind (arith, nat_tests)

-- each value stays on its scale, so the laws of both scales are those of the choice
module _ {V W : Type 0} (second : Bool) (s : Scale V) (t : Scale W) where
  module _ (of_s : Ordered s) (of_t : Ordered t) where
    either_total : (p q : Either V W) → ((choice second s t).not_above p q ≡ true) ⊎ ((choice second s t).not_above q p ≡ true)
    either_total (First v) (First w) = of_s.total v w
    either_total (First v) (Second w) = inl refl
    either_total (Second v) (First w) = inr refl
    either_total (Second v) (Second w) = of_t.total v w

    either_transitive : (p q r : Either V W) → (choice second s t).not_above p q ≡ true → (choice second s t).not_above q r ≡ true → (choice second s t).not_above p r ≡ true
    either_transitive (First v) (First w) (First x) a b = of_s.transitive v w x a b
    either_transitive (First v) q (Second x) a b = refl
    either_transitive (First v) (Second w) (First x) a b = cc
    either_transitive (Second v) (First w) r a b = cc
    either_transitive (Second v) (Second w) (First x) a b = cc
    either_transitive (Second v) (Second w) (Second x) a b = of_t.transitive v w x a b

    either_extends : (p q : Either V W) (load : ℕ) → (choice second s t).not_above p q ≡ true
        → (choice second s t).not_above ((choice second s t).extend p load) ((choice second s t).extend q load) ≡ true
    either_extends (First v) (First w) load a = of_s.extends v w load a
    either_extends (First v) (Second w) load a = refl
    either_extends (Second v) (First w) load a = cc
    either_extends (Second v) (Second w) load a = of_t.extends v w load a

    pub choice_ordered : Ordered (choice second s t)
    choice_ordered = record { total = either_total; transitive = either_transitive; extends = either_extends }

  pub choice_antisymmetric : Antisymmetric s → Antisymmetric t → Antisymmetric (choice second s t)
  choice_antisymmetric of_s of_t (First v) (First w) a b = ap First (of_s v w a b)
  choice_antisymmetric of_s of_t (First v) (Second w) a b = cc
  choice_antisymmetric of_s of_t (Second v) (First w) a b = cc
  choice_antisymmetric of_s of_t (Second v) (Second w) a b = ap Second (of_t v w a b)
