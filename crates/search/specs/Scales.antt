-- What a measure counts in, and the laws that it keeps.
use Rattle.std.specs.Prelude.{◌≡◌, ℕ, ◌+◌, Bool, true, false, cond, ◌&&◌, ◌||◌, ◌⊎◌, min, ◌==◌, nat_le, nat_lt}
use Rattle.search.specs.declared.choice.Either.{Either}
use Rattle.search.specs.declared.choice.Either.TheVariants.{First, Second}

-- The value of no hop, a value extended by a load, and whether one value is not above another.
pub record Scale (V : Type 0) : Type 0 where
  pub start : V
  pub extend : V → ℕ → V
  pub not_above : V → V → Bool

-- The order is total and transitive, and a load that extends two values keeps it: for all numbers, as a scale of numbers within
-- bounds goes on beyond them.
pub record Ordered {V : Type 0} (s : Scale V) : Type 0 where
  pub total : (p q : V) → (s.not_above p q ≡ true) ⊎ (s.not_above q p ≡ true)
  pub transitive : (p q r : V) → s.not_above p q ≡ true → s.not_above q r ≡ true → s.not_above p r ≡ true
  pub extends : (p q : V) (load : ℕ) → s.not_above p q ≡ true → s.not_above (s.extend p load) (s.extend q load) ≡ true

-- Values that are not above each other are the same.
abbrev pub Antisymmetric : {V : Type 0} → Scale V → Type 0
Antisymmetric {V} s = (p q : V) → s.not_above p q ≡ true → s.not_above q p ≡ true → p ≡ q

-- the sum of the loads, at most the largest number of 32 bits
abbrev pub total : Scale ℕ
total = record {
  start = 0;
  extend = λ sum load. min (sum + load) 4294967295;
  not_above = nat_le;
}

-- the largest load and the number of hops that bear it, which is at most the largest number of 16 bits
abbrev pub peak_extend : ℕ × ℕ → ℕ → ℕ × ℕ
peak_extend p load = cond (nat_lt p.0 load) (load, 1) (cond (nat_lt load p.0) p (p.0, min (p.1 + 1) 65535))

abbrev pub peak_not_above : ℕ × ℕ → ℕ × ℕ → Bool
peak_not_above p q = nat_lt p.0 q.0 || (p.0 == q.0 && nat_le p.1 q.1)

abbrev pub peak : Scale (ℕ × ℕ)
peak = record { start = (0, 0); extend = peak_extend; not_above = peak_not_above }

-- One of two scales: the start tells which, and a value of one stays on its scale. Every value of the first is below every value of
-- the second.
abbrev pub either_extend : {V W : Type 0} → Scale V → Scale W → Either V W → ℕ → Either V W
either_extend s t (First v) load = First (s.extend v load)
either_extend s t (Second w) load = Second (t.extend w load)

abbrev pub either_not_above : {V W : Type 0} → Scale V → Scale W → Either V W → Either V W → Bool
either_not_above s t (First v) (First w) = s.not_above v w
either_not_above s t (First v) (Second w) = true
either_not_above s t (Second v) (First w) = false
either_not_above s t (Second v) (Second w) = t.not_above v w

abbrev pub choice : {V W : Type 0} → Bool → Scale V → Scale W → Scale (Either V W)
choice second s t = record {
  start = cond second (Second t.start) (First s.start);
  extend = either_extend s t;
  not_above = either_not_above s t;
}
