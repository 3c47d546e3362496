-- The tallies at the start.
use Rattle.std.proofs.Common.{◌≡◌, ℕ, zero, suc, ◌+◌, ◌<◌, ◌≤◌, true, false, List, [], length, length-set, replicate, get_or, set, get_or-set_same, get_or-set_other, below_more, Some, None, is_some, Option, refl, ◌∙◌, arith}
use Rattle.std.specs.Option.{option_map}
use Rattle.routes.specs.declared.stream.Stream.{Stream}
use Rattle.routes.specs.Routes.{stream_of, streams_of}
use Rattle.rehearsal.specs.declared.tally.Tally.{Tally}
use Rattle.rehearsal.specs.Rehearsals.{tally_of}

-- the tally of a number at the start
abbrev pub first_tally : List (Option Stream) → ℕ → Option Tally
first_tally streams n = option_map (λ _. tally_of n [] []) (streams_of streams n)

-- The numbers below one have their tallies, and the others none.
pub record Begun (streams : List (Option Stream)) (count : ℕ) (tallies : List (Option Tally)) : Type 0 where
  pub all : length tallies ≡ 64
  pub told : (n : ℕ) → n < count → get_or tallies n None ≡ first_tally streams n
  pub none : (n : ℕ) → count ≤ n → get_or tallies n None ≡ None

abbrev empty : Tally
empty = record { sent = 0; out = 0; in_order = true }

tells_empty : (n : ℕ) (entry : Option Stream) → is_some entry ≡ true → Some empty ≡ option_map (λ _. tally_of n [] []) (option_map stream_of entry)
tells_empty n None there = cc
tells_empty n (Some s) there = refl

tells_none : (n : ℕ) (entry : Option Stream) → is_some entry ≡ false → None ≡ option_map (λ _. tally_of n [] []) (option_map stream_of entry)
tells_none n None closed = refl
tells_none n (Some s) closed = cc

no_tally : (count n : ℕ) → get_or {A = Option Tally} (replicate count None) n None ≡ None
no_tally zero n = refl
no_tally (suc count) zero = refl
no_tally (suc count) (suc n) = no_tally count n

pub begun_none : (streams : List (Option Stream)) → Begun streams 0 (replicate 64 None)
begun_none streams = record { all = refl; told = λ n below. absurd (omega arith); none = λ n _. no_tally 64 n }

module _ (streams : List (Option Stream)) (n : ℕ) (tallies : List (Option Tally)) (few : n < 64) (begun : Begun streams n tallies) where
  pub begun_open : is_some (get_or streams n None) ≡ true → Begun streams (n + 1) (set tallies n (Some empty))
  begun_open is_open =
      let there : n < length tallies = omega (arith, begun.all) in
      record {
        all = length-set tallies n (Some empty) ∙ begun.all;
        told = below_more (λ k. get_or (set tallies n (Some empty)) k None ≡ first_tally streams k) n
            (λ k below. get_or-set_other tallies n k (Some empty) None (λ same. omega arith) ∙ begun.told k below)
            (get_or-set_same tallies n (Some empty) None there ∙ tells_empty n (get_or streams n None) is_open);
        none = λ k above. get_or-set_other tallies n k (Some empty) None (λ same. omega arith) ∙ begun.none k (omega arith);
      }

  pub begun_closed : is_some (get_or streams n None) ≡ false → Begun streams (n + 1) tallies
  begun_closed closed =
      record {
        all = begun.all;
        told = below_more (λ k. get_or tallies k None ≡ first_tally streams k) n begun.told
            (begun.none n (omega arith) ∙ tells_none n (get_or streams n None) closed);
        none = λ k above. begun.none k (omega arith);
      }
