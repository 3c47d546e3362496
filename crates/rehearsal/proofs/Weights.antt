-- Sums over the streams, each weighed by how many strips it let in.
use Rattle.std.proofs.Common.{◌≡◌, ℕ, zero, suc, ◌+◌, ◌*◌, ◌<◌, ◌≤◌, List, [], ◌∷◌, ◌++◌, length, Some, None, Option, sym, refl, ap, ◌∙◌, arith, mul-add, add-mul, mul-zero, zero-mul, one-mul, add-zero, zero-add, add-one}
use Rattle.std.proofs.Math.Nat.{mul-le-mul}
use Rattle.std.proofs.lemmas.Bool.{eq-eqb, ne_eqb}
use Rattle.std.proofs.lemmas.List.Sums.{sum_by-append}
use Rattle.routes.specs.Routes.{OpenStream}
use Rattle.routes.specs.Loads.{stream_count, sum_below}
use Rattle.model.specs.Grid.{Streams, Queue, route_of}
use Rattle.model.specs.Sums.{of_stream}
use Rattle.model.proofs.LaneSums.{sum_below_same, sum_below_zero, sum_below_change}
use Rattle.lanes.specs.declared.strip.Strip.{Strip}
use Rattle.plan.specs.Plans.{numbered, listed, open_streams}
use Rattle.plan.specs.Summaries.{hop_count}
use Rattle.rehearsal.proofs.Tallies.{count_more}

-- ---- sums over the numbers below one

-- with a factor, and of terms that are at most so large
below_times : (n by : ℕ) (f : ℕ → ℕ) → sum_below n (λ k. by * f k) ≡ by * sum_below n f
below_times zero by f = sym (mul-zero by)
below_times (suc n) by f = omega (arith, below_times n by f, mul-add by (sum_below n f) (f n))

below_most : (n most : ℕ) (f : ℕ → ℕ) → ((k : ℕ) → f k ≤ most) → sum_below n f ≤ n * most
below_most zero most f each = omega arith
below_most (suc n) most f each = omega (arith, each n, below_most n most f each, add-mul n 1 most)

-- ---- the hops of the open streams

-- one number more, and all from one on
hops_numbered : (n : ℕ) (s : Option OpenStream) (more : List (ℕ × OpenStream)) → hop_count (numbered n s ++ more) ≡ length (route_of s) + hop_count more
hops_numbered n None more = omega arith
hops_numbered n (Some s) more = omega (arith, sum_by-append (λ (r : ℕ × OpenStream). length r.1.hops) ((n, s) ∷ []) more)

module _ (streams : Streams) where
  abbrev pub route_length : ℕ → ℕ
  route_length n = length (route_of (streams n))

  hops_listed : (k n all : ℕ) → n + k ≡ all → sum_below n route_length + hop_count (listed streams n k) ≡ sum_below all route_length
  hops_listed zero n all is = let same : n ≡ all = omega arith in rw same (omega arith)
  hops_listed (suc k) n all is =
      let more : sum_below (n + 1) route_length ≡ sum_below n route_length + route_length n = ap (λ i. sum_below i route_length) (add-one n) in
      omega (arith, hops_listed k (n + 1) all (omega arith), hops_numbered n (streams n) (listed streams (n + 1) k))

-- ---- weights

-- how many strips of stream n were let in, and the sum of the weights of all strips
abbrev pub count : ℕ → Queue Strip → ℕ
count n let_in = length (of_stream n let_in)

unfoldable pub weighed : (ℕ → ℕ) → Queue Strip → ℕ
weighed w let_in = sum_below stream_count (λ n. count n let_in * w n)

module _ (w : ℕ → ℕ) where
  pub weighed_none : weighed w [] ≡ 0
  unfolding weighed
  weighed_none = sum_below_zero stream_count _ (λ n _. zero-mul (w n))

  module _ (let_in : Queue Strip) where
    -- a strip more adds the weight of its stream
    pub weighed_more : (k : ℕ) (x : Strip) → k < stream_count → weighed w (let_in ++ ((k, x) ∷ [])) ≡ weighed w let_in + w k
    unfolding weighed
    weighed_more k x low =
        omega (arith, own, sum_below_change stream_count (λ n. count n more * w n) (λ n. count n let_in * w n) k low other)
      where
        more : Queue Strip
        more = let_in ++ ((k, x) ∷ [])

        own : count k more * w k ≡ count k let_in * w k + w k
        own =
            rw (count_more k k x let_in, eq-eqb k k refl)
            (add-mul (count k let_in) 1 (w k) ∙ ap (λ i. count k let_in * w k + i) (one-mul (w k)))

        other : (n : ℕ) → (n ≡ k → ⊥) → count n more * w n ≡ count n let_in * w n
        other n not_own = rw (count_more n k x let_in, ne_eqb k n (λ same. not_own (sym same)), add-zero (count n let_in)) refl

    -- 64 streams with at most so many strips, each of at most so large a weight
    pub weighed_most : (strips most : ℕ) → ((n : ℕ) → count n let_in ≤ strips) → ((n : ℕ) → w n ≤ most)
        → weighed w let_in ≤ stream_count * (strips * most)
    unfolding weighed
    weighed_most strips most few light =
        below_most stream_count (strips * most) (λ n. count n let_in * w n) (λ n. mul-le-mul (few n) (light n))

-- where each open stream let in all its strips, they have together the hops of its route for each strip
pub weighed_all : (streams : Streams) (let_in : Queue Strip) (strips : ℕ)
    → ((n : ℕ) → n < stream_count → count n let_in * route_length streams n ≡ strips * route_length streams n)
    → weighed (route_length streams) let_in ≡ strips * hop_count (open_streams streams)
unfolding weighed open_streams
weighed_all streams let_in strips each =
    sum_below_same stream_count _ _ each
    ∙ below_times stream_count strips (route_length streams)
    ∙ ap (λ k. strips * k) (sym (hops_listed streams stream_count 0 stream_count refl) ∙ zero-add (hop_count (listed streams 0 stream_count)))
