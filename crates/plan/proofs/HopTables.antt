-- Hops read into a table one by one.
use Rattle.std.proofs.Common.{◌≡◌, ℕ, ◌+◌, ◌-◌, ◌<◌, ◌≤◌, List, [], ◌∷◌, ◌++◌, length, map, take, set, Ok, refl, sym, ap, ◌∙◌, subst, arith, append_assoc, append-nil, add-one, zero-add, length-set}
use Rattle.std.proofs.Math.Seq.{take-suc-set}
use Rattle.routes.specs.declared.hop.Hop.{Hop}
use Rattle.codec.specs.declared.number.Number.{Number}
use Rattle.codec.specs.Numbers.{number_at}
use Rattle.codec.specs.Sequences.{numbers_at, behind, values_in}
use Rattle.codec.specs.Records.{hop_of, hops_in}
use Rattle.codec.proofs.Sequences.{FirstOf, first_of}

-- The first k hops of some bytes stand in a table, and the rest are read from a place on.
pub record HopsInTable (bytes : List ℕ) (count k place : ℕ) (hops : List Hop) : Type 0 where
  pub table : length hops ≡ 24
  pub rest : ℕ
  pub split : k + rest ≡ count
  pub left : behind bytes place rest ≡ Ok (length bytes)
  pub read : take k hops ++ map hop_of (values_in (numbers_at bytes place rest)) ≡ hops_in bytes count

pub none_held : (bytes : List ℕ) (count : ℕ) (hops : List Hop) → length hops ≡ 24 → behind bytes 0 count ≡ Ok (length bytes) → HopsInTable bytes count 0 0 hops
none_held bytes count hops table all = record { table = table; rest = count; split = zero-add count; left = all; read = refl }

module _ (bytes : List ℕ) (count k place : ℕ) (hops : List Hop) (held : HopsInTable bytes count k place hops) where
  pub one_more : k < count → FirstOf bytes place held.rest (length bytes)
  one_more more = first_of bytes place held.rest (length bytes) (omega (arith, held.split)) held.left

  pub next_held : k < count → count ≤ 24 → (x : Number) → number_at bytes place ≡ Ok x → HopsInTable bytes count (k + 1) x.next (set hops k (hop_of x.value))
  next_held more few x is =
      let room : k < length hops = omega (arith, held.table) in
      let next = one_more more in
      let same : next.first ≡ x = cc in
      let values = next.values ∙ ap (λ y. y.value ∷ values_in (numbers_at bytes y.next (held.rest - 1))) same in
      let shown : take (k + 1) (set hops k (hop_of x.value)) ≡ take k hops ++ (hop_of x.value ∷ []) = rw add-one (take-suc-set hops k (hop_of x.value) room) in
      record {
        table = length-set hops k (hop_of x.value) ∙ held.table;
        rest = held.rest - 1;
        split = omega (arith, held.split);
        left = subst (λ y. behind bytes y.next (held.rest - 1) ≡ Ok (length bytes)) same next.behind;
        read = rw (shown, append_assoc) (ap (λ ns. take k hops ++ map hop_of ns) (sym values) ∙ held.read);
      }

  pub all_held : count ≤ k → take count hops ≡ hops_in bytes count
  unfolding numbers_at
  all_held over =
      let none : held.rest ≡ 0 = omega (arith, held.split) in
      let all : k ≡ count = omega (arith, held.split) in
      let left : map hop_of (values_in (numbers_at bytes place held.rest)) ≡ [] = rw none refl in
      subst (λ n. take n hops ≡ hops_in bytes count) all (sym (append-nil (take k hops)) ∙ (ap (λ r. take k hops ++ r) (sym left) ∙ held.read))
