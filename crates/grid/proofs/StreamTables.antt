-- The law of the table of streams.
use Rattle.std.proofs.Common.{◌≡◌, ℕ, zero, suc, ◌<◌, true, false, List, length, get_or, set, replicate, None, Option, ◌==◌, refl, ap, ⊎_elim, get_or-set_same, get_or-set_other}
use mathlib.Core.Path.{fun_ext}
use Rattle.std.proofs.lemmas.Bool.{cases_Bool, eqb-true, eqb-false}
use Rattle.std.specs.Option.{option_map}
use Rattle.routes.specs.declared.stream.Stream.{Stream}
use Rattle.routes.specs.Routes.{stream_of, streams_of}
use Rattle.model.specs.Grid.{assign}

module _ (table : List (Option Stream)) (n : ℕ) (entry : Option Stream) (there : n < length table) where
  at_each : (k : ℕ) → streams_of (set table n entry) k ≡ assign (streams_of table) n (option_map stream_of entry) k
  unfolding assign
  at_each k =
      ⊎_elim
      (λ (here : (k == n) ≡ true). let same : k ≡ n = eqb-true _ _ here in rw (here, same) (ap (option_map stream_of) (get_or-set_same table n entry None there)))
      (λ (other : (k == n) ≡ false). rw other (ap (option_map stream_of) (get_or-set_other table n k entry None (eqb-false _ _ other))))
      (cases_Bool (k == n))

  -- another entry in the table is another entry among the streams
  pub streams_of-set : streams_of (set table n entry) ≡ assign (streams_of table) n (option_map stream_of entry)
  streams_of-set = fun_ext at_each

-- a table of closed entries
pub none_open : (count n : ℕ) → get_or {A = Option Stream} (replicate count None) n None ≡ None
none_open zero n = refl
none_open (suc count) zero = refl
none_open (suc count) (suc n) = none_open count n
