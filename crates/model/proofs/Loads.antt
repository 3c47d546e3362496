-- Loads: what a stream adds to the links of its route, and what the streams of lower numbers leave of them.
use Rattle.std.proofs.Common.{◌≡◌, ℕ, zero, suc, ◌+◌, ◌<◌, ◌≤◌, true, false, List, length, Some, None, Option, refl, sym, nat_lt, ⊎_elim, arith}
use Rattle.std.proofs.lemmas.Bool.{cases_Bool, cases_eq, cases_lt, cond_both}
use Rattle.std.proofs.lemmas.Bool.Decides.{nat_tests}
use Rattle.routes.specs.declared.hop.Hop.{Hop}
use Rattle.routes.specs.declared.stream.Request.{Request}
use Rattle.routes.specs.Routes.{OpenStream, hop_at, uses}
use Rattle.routes.specs.Loads.{sum_below, share, stream_count, load}
use Rattle.routes.proofs.HopLists.{not_used, used_nowhere}
use Rattle.model.specs.Grid.{Streams, assign}
use Rattle.model.specs.Reopening.{streams_below}
use Rattle.model.proofs.Puts.{assign_same, assign_other}

-- Sums that rise with each of their terms.
sum_rises : (count : ℕ) (f g : ℕ → ℕ) → ((k : ℕ) → k < count → f k ≤ g k) → sum_below count f ≤ sum_below count g
sum_rises zero f g each = omega arith
sum_rises (suc count) f g each = omega (arith, each count (omega arith), sum_rises count f g (λ k low. each k (omega arith)))

-- The same with something added to both sums, at the term of one number.
sum_rises_by : (count : ℕ) (f g : ℕ → ℕ) (n a b : ℕ) → n < count → ((k : ℕ) → (k ≡ n → ⊥) → f k ≤ g k) → f n + a ≤ g n + b
    → sum_below count f + a ≤ sum_below count g + b
sum_rises_by zero f g n a b low each here = absurd (omega arith)
sum_rises_by (suc count) f g n a b low each here =
    ⊎_elim
    (λ (last : count ≡ n). let at_last = rw (sym last) at here in omega (arith, at_last, sum_rises count f g (λ k under. each k (λ is_n. omega arith))))
    (λ (other : count ≡ n → ⊥). omega (arith, each count other, sum_rises_by count f g n a b (omega arith) each here))
    (cases_eq count n)

pub no_load : (link : ℕ) → load (λ _. None) link ≡ 0
unfolding load
no_load link = refl

-- Where the entries but one add no more to the load of a link than they did, the load differs at most by what that one adds.
load_rises_by : (streams others : Streams) (link n a b : ℕ) → n < stream_count
    → ((k : ℕ) → (k ≡ n → ⊥) → share link (streams k) ≤ share link (others k)) → share link (streams n) + a ≤ share link (others n) + b
    → load streams link + a ≤ load others link + b
unfolding load
load_rises_by streams others link n a b low each here =
    sum_rises_by stream_count (λ k. share link (streams k)) (λ k. share link (others k)) n a b low each here

-- another entry adds its share at most
load_with_entry : (streams : Streams) (n : ℕ) (entry : Option OpenStream) (link : ℕ) → n < stream_count
    → load (assign streams n entry) link ≤ load streams link + share link entry
load_with_entry streams n entry link low =
    let added = load_rises_by (assign streams n entry) streams link n 0 (share link entry) low
    (λ k other. rw (assign_other streams n entry k other) (omega arith)) (rw (assign_same streams n entry) (omega arith)) in
    omega (arith, added)

-- the streams below n add no more to a link than all do
below_adds : (streams : Streams) (n link k : ℕ) → share link (streams_below n streams k) ≤ share link (streams k)
below_adds streams n link k =
    cond_both (nat_lt k n) (streams k) None (λ entry. share link entry ≤ share link (streams k)) (λ _. omega arith) (λ _. omega arith)

-- nor do they with stream n
load_below : (streams : Streams) (n link : ℕ) → n < stream_count → load (streams_below n streams) link + share link (streams n) ≤ load streams link
load_below streams n link low =
    let parts = load_rises_by (streams_below n streams) streams link n (share link (streams n)) 0 low
    (λ k _. below_adds streams n link k)
    (let not_below : nat_lt n n ≡ false = grind (arith, nat_tests) in rw not_below (omega arith)) in
    omega (arith, parts)

-- What a route adds to a link, by the demand.
module _ (link : ℕ) (q : Request) (hops : List Hop) where
  abbrev pub share_of : ℕ
  share_of = share link (Some (record { request = q; hops = hops }))

  pub share_at_hop : (k : ℕ) → k < length hops → (hop_at hops k).link ≡ link → share_of ≡ q.demand
  share_at_hop k low here =
      ⊎_elim
      (λ (used : uses link hops ≡ true). rw used refl)
      (λ (unused : uses link hops ≡ false). absurd (not_used link hops unused k low here))
      (cases_Bool (uses link hops))

  share_elsewhere : ((k : ℕ) → k < length hops → (hop_at hops k).link ≡ link → ⊥) → share_of ≡ 0
  share_elsewhere none = rw (used_nowhere link hops none) refl

  share_at_most : share_of ≤ q.demand
  share_at_most = cond_both (uses link hops) q.demand 0 (λ d. d ≤ q.demand) (λ _. omega arith) (λ _. omega arith)

-- no link bears more than the capacity
abbrev pub Fits : ℕ → Streams → Type 0
Fits capacity streams = (link : ℕ) → load streams link ≤ capacity

-- the links of a route bear the demand on top of their loads
abbrev pub Bears : ℕ → Streams → Request → List Hop → Type 0
Bears capacity streams q hops = (k : ℕ) → k < length hops → load streams (hop_at hops k).link + q.demand ≤ capacity

pub no_stream_fits : (capacity : ℕ) → Fits capacity (λ _. None)
no_stream_fits capacity link = omega (arith, no_load link)

module _ (capacity : ℕ) (streams : Streams) where
  -- a route whose links bear the demand is borne by every link
  bears_route : (q : Request) (hops : List Hop) → Bears capacity streams q hops → (link : ℕ) → load streams link ≤ capacity
      → load streams link + share_of link q hops ≤ capacity
  bears_route q hops bears link fits =
      ⊎_elim
      (λ (over : capacity < load streams link + q.demand).
      omega (arith, share_elsewhere link q hops (λ k low here. let bears = rw here at (bears k low) in omega arith)))
      (λ (under : load streams link + q.demand ≤ capacity). omega (arith, share_at_most link q hops))
      (cases_lt capacity (load streams link + q.demand))

  pub bears_unloaded : (q : Request) (hops : List Hop) → Bears capacity streams q hops → Bears capacity (λ _. None) q hops
  bears_unloaded q hops bears k low = omega (arith, no_load (hop_at hops k).link, bears k low)

  module _ (fits : Fits capacity streams) (n : ℕ) (low : n < stream_count) where
    -- one more stream, on a route whose links bear it
    pub fits_with : (q : Request) (hops : List Hop) → Bears capacity streams q hops
        → Fits capacity (assign streams n (Some (record { request = q; hops = hops })))
    fits_with q hops bears link =
        let entry : Option OpenStream = Some (record { request = q; hops = hops }) in
        omega (arith, load_with_entry streams n entry link low, bears_route q hops bears link (fits link))

    -- one stream fewer
    pub fits_without : Fits capacity (assign streams n None)
    fits_without link = omega (arith, load_with_entry streams n None link low, fits link)

    -- an open stream is borne where only those of lower numbers are open
    pub bears_again : (s : OpenStream) → streams n ≡ Some s → Bears capacity (streams_below n streams) s.request s.hops
    bears_again s is k at_hop =
        let link = (hop_at s.hops k).link in
        let below = rw is at (load_below streams n link low) in
        omega (arith, below, share_at_hop link s.request s.hops k at_hop refl, fits link)
