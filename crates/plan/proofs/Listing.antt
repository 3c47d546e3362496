-- The open streams, number by number.
use Rattle.std.proofs.Common.{◌≡◌, ℕ, suc, ◌+◌, ◌<◌, ◌≤◌, List, [], ◌∷◌, ◌++◌, length, Some, None, Option, refl, sym, ap, ◌∙◌, arith, length-append, ◌-◌, append_assoc, get_or}
use Rattle.std.proofs.lemmas.List.{get_or_default}
use Rattle.std.specs.Option.{option_map}
use Rattle.routes.specs.declared.stream.Stream.{Stream}
use Rattle.routes.specs.Routes.{OpenStream, stream_of, streams_of}
use Rattle.routes.specs.Loads.{stream_count}
use Rattle.plan.specs.Plans.{listed, open_streams}

module _ (streams : ℕ → Option OpenStream) (k n : ℕ) where
  pub not_listed : streams k ≡ None → listed streams k (suc n) ≡ listed streams (k + 1) n
  not_listed none = rw none refl

  pub is_listed : (s : OpenStream) → streams k ≡ Some s → listed streams k (suc n) ≡ (k, s) ∷ listed streams (k + 1) n
  is_listed s is = rw is refl

-- The open streams of numbers below k have been told, and the rest are listed from k on.
pub record Told (streams : ℕ → Option OpenStream) (k : ℕ) (told : List (ℕ × OpenStream)) : Type 0 where
  pub rest : ℕ
  pub split : k + rest ≡ stream_count
  pub few : length told ≤ k
  pub all : told ++ listed streams k rest ≡ open_streams streams

pub none_told : (streams : ℕ → Option OpenStream) → Told streams 0 []
unfolding open_streams
none_told streams = record { rest = stream_count; split = refl; few = omega arith; all = refl }

module _ (streams : ℕ → Option OpenStream) (k : ℕ) (told : List (ℕ × OpenStream)) (so_far : Told streams k told) where
  more_listed : (rest : ℕ) → rest ≡ so_far.rest → 0 < rest → told ++ listed streams k (suc (rest - 1)) ≡ open_streams streams
  more_listed rest is some = let same : suc (rest - 1) ≡ so_far.rest = omega arith in ap (λ n. told ++ listed streams k n) same ∙ so_far.all

  pub closed_told : k < stream_count → streams k ≡ None → Told streams (k + 1) told
  closed_told more none =
      let some : 0 < so_far.rest = omega (arith, so_far.split) in
      record {
        rest = so_far.rest - 1;
        split = omega (arith, so_far.split);
        few = omega (arith, so_far.few);
        all = ap (λ l. told ++ l) (sym (not_listed streams k (so_far.rest - 1) none)) ∙ more_listed so_far.rest refl some;
      }

  pub open_told : (s : OpenStream) → k < stream_count → streams k ≡ Some s → Told streams (k + 1) (told ++ ((k, s) ∷ []))
  open_told s more is =
      let some : 0 < so_far.rest = omega (arith, so_far.split) in
      record {
        rest = so_far.rest - 1;
        split = omega (arith, so_far.split);
        few = omega (arith, so_far.few, length-append told ((k, s) ∷ []));
        all = append_assoc told ((k, s) ∷ []) _ ∙ (ap (λ l. told ++ l) (sym (is_listed streams k (so_far.rest - 1) s is)) ∙ more_listed so_far.rest refl some);
      }

-- what an entry of a table of streams says
pub entry_says : (table read : List (Option Stream)) (k at : ℕ) (d entry : Option Stream) → read ≡ table → at ≡ k → k < length table → get_or read at d ≡ entry
    → streams_of table k ≡ option_map stream_of entry
entry_says table read k at d entry same here there is =
    let found : get_or table k d ≡ entry = rw (← same, ← here) is in
    ap (option_map stream_of) (get_or_default table k None d there ∙ found)
