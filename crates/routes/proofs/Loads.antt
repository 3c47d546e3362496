-- The sum of what all streams add to a load, from a table of any length.
use Rattle.std.proofs.Common.{◌≡◌, ℕ, zero, suc, ◌<◌, ◌≤◌, List, length, min, None, Option, refl, ap, ◌∙◌, ⊎_elim, arith}
use Rattle.std.proofs.lemmas.Bool.{cases_eq}
use Rattle.std.proofs.lemmas.List.{get_or_past}
use Rattle.std.specs.Option.{option_map}
use Rattle.routes.specs.declared.stream.Stream.{Stream}
use Rattle.routes.specs.Routes.{OpenStream, stream_of, streams_of}
use Rattle.routes.specs.Loads.{sum_below, share, stream_count, load}

-- a sum to n is the sum to m where nothing is added between
sum_ends : (f : ℕ → ℕ) (n m : ℕ) → n ≤ m → ((k : ℕ) → n ≤ k → k < m → f k ≡ 0) → sum_below n f ≡ sum_below m f
sum_ends f n zero l nothing = let none : n ≡ 0 = omega arith in ap (λ k. sum_below k f) none
sum_ends f n (suc m) l nothing =
    ⊎_elim
    (λ (e : n ≡ suc m). ap (λ k. sum_below k f) e)
    (λ (d : n ≡ suc m → ⊥).
    let front = sum_ends f n m (omega arith) (λ k from below. nothing k from (omega arith)) in
    let last = nothing m (omega arith) (omega arith) in
    omega arith)
    (cases_eq n (suc m))

-- a number past the end of the table is not open
none_past : (table : List (Option Stream)) (link k : ℕ) → length table ≤ k → share link (streams_of table k) ≡ 0
none_past table link k past = ap (λ entry. share link (option_map stream_of entry)) (get_or_past table k None past)

-- the first 64 of all streams tell the load
pub load_all : (streams : ℕ → Option OpenStream) (link n sum : ℕ) → n ≡ stream_count → sum ≡ sum_below n (λ k. share link (streams k)) → sum ≡ load streams link
unfolding load
load_all streams link n sum all so_far = so_far ∙ ap (λ m. sum_below m (λ k. share link (streams k))) all

-- so do those of them that are there in a table
pub load_there : (table : List (Option Stream)) (link n sum : ℕ) → n ≡ min (length table) stream_count
    → sum ≡ sum_below n (λ k. share link (streams_of table k)) → sum ≡ load (streams_of table) link
load_there table link n sum there so_far =
    load_all (streams_of table) link stream_count sum refl
    (so_far ∙ sum_ends (λ k. share link (streams_of table k)) n stream_count (omega arith) (λ k from below. none_past table link k (omega arith)))
