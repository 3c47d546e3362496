-- How many items are on a grid at most, and how many hops are ahead.
use Rattle.std.proofs.Common.{◌≡◌, ℕ, zero, suc, ◌*◌, ◌<◌, ◌≤◌, [], ◌∷◌, length, length-take, get_or, zero-mul, suc-mul, Some, None, Option, refl, arith}
use Rattle.std.proofs.Math.Nat.{mul-le-mul_left}
use Rattle.std.specs.Option.{option_map}
use Rattle.routes.specs.declared.stream.Stream.{Stream}
use Rattle.routes.specs.Loads.{sum_below}
use Rattle.routes.specs.Routes.{stream_of}
use Rattle.model.specs.Grid.{Queue, route_of}
use Rattle.model.specs.Kinds.{Kind}
use Rattle.model.specs.Sums.{queue_sum, grid_sum, one, item_count, ahead, hops_ahead}
use Rattle.model.proofs.Outlines.{grid_sum_same_lanes}
use Rattle.model.proofs.Routes.{hops_from_inherits}
use Rattle.lanes.specs.Sizes.{lane_count, slot_count, setting_of}
use Rattle.lanes.specs.Queues.{outline_at}
use Rattle.lanes.specs.Rings.{empty_ring}
use Rattle.lanes.proofs.Items.{outline_length}
use Rattle.lanes.proofs.LaneSums.{items_in_all}
use Rattle.grid.specs.declared.tables.Tables.{Tables}
use Rattle.grid.specs.Views.{streams_in, outline, setting}
use Rattle.grid.specs.HopsAhead.{stream_ahead}

-- sums of terms that are at most 24 times others, and of terms that are at most a number
sum_times : (n : ℕ) (f g : ℕ → ℕ) → ((k : ℕ) → f k ≤ 24 * g k) → sum_below n f ≤ 24 * sum_below n g
sum_times zero f g each = omega arith
sum_times (suc n) f g each = omega (arith, each n, sum_times n f g each)

sum_most : (n most : ℕ) (f : ℕ → ℕ) → ((k : ℕ) → k < n → f k ≤ most) → sum_below n f ≤ n * most
sum_most zero most f each = simp zero-mul (omega arith)
sum_most (suc n) most f each = rw (suc-mul n most) (omega (arith, each n (omega arith), sum_most n most f (λ k low. each k (omega arith))))

queue_times : {T : Type 0} (cost : (ℕ × T) → ℕ) (link : ℕ) → ((i : ℕ × T) → cost i ≤ 24) → (queue : Queue T)
    → queue_sum cost queue ≤ 24 * queue_sum (one link) queue
queue_times cost link each [] = omega arith
queue_times cost link each (i ∷ queue) = omega (arith, each i, queue_times cost link each queue)

module _ (t : Tables) where
  -- a route has 24 hops at most, so an item has no more ahead
  route_most : (entry : Option Stream) → length (route_of (option_map stream_of entry)) ≤ 24
  route_most None = omega arith
  route_most (Some s) = let hops = length-take s.route.count s.route.table in omega (arith, s.route.few, hops)

  pub ahead_most : (link n : ℕ) → stream_ahead t link n ≤ 24
  ahead_most link n =
      hops_from_inherits (λ hops. length hops ≤ 24) (λ h hops all. omega arith) link (route_of (streams_in t n)) (route_most (get_or t.streams n None))

  pub hops_most : hops_ahead (setting_of t.lanes.size 0) (outline t) ≤ 24 * item_count (setting_of t.lanes.size 0) (outline t)
  unfolding grid_sum
  hops_most =
      sum_times t.lanes.size.links _ _ (λ link.
      sum_times t.lanes.size.lanes _ _ (λ lane.
      queue_times (ahead (streams_in t) link) link (λ i. ahead_most link i.0) ((outline t).contents link lane)))

  -- a lane has no more items than its depth
  pub lane_fits : (k : ℕ) → k < lane_count t.lanes.size → length (outline_at t.lanes k) ≤ t.lanes.size.depth
  lane_fits k there =
      let fits = t.lanes.fit k empty_ring (omega (arith, there, t.lanes.rings.ok.0, t.lanes.wide)) in
      omega (arith, outline_length t.lanes k there, fits.1)

  -- so there are no more items than slots, which are 8 for each lane at most
  pub items_fit : item_count (setting_of t.lanes.size 0) (outline t) ≤ slot_count t.lanes.size
  items_fit =
      let all = items_in_all t.lanes (lane_count t.lanes.size) _ refl refl in
      let most = sum_most (lane_count t.lanes.size) t.lanes.size.depth (λ k. length (outline_at t.lanes k)) lane_fits in
      omega (arith, all, most)

  slots_most : slot_count t.lanes.size ≤ 8 * lane_count t.lanes.size
  slots_most = omega (arith, mul-le-mul_left (lane_count t.lanes.size) t.lanes.size.deep.1)

  -- the same of a grid of any kind with as many links
  module _ (k : Kind) (links : k.links ≡ t.lanes.size.links) (slots : ℕ) where
    items_are : item_count (setting k t slots) (outline t) ≡ item_count (setting_of t.lanes.size 0) (outline t)
    items_are = grid_sum_same_lanes (setting k t slots) (setting_of t.lanes.size 0) one (outline t).contents links refl

    pub grid_hops_are : hops_ahead (setting k t slots) (outline t) ≡ hops_ahead (setting_of t.lanes.size 0) (outline t)
    grid_hops_are = grid_sum_same_lanes (setting k t slots) (setting_of t.lanes.size 0) (ahead (streams_in t)) (outline t).contents links refl

    pub grid_hops_most : hops_ahead (setting k t slots) (outline t) ≤ 24 * item_count (setting k t slots) (outline t)
    grid_hops_most = omega (arith, hops_most, items_are, grid_hops_are)

    pub grid_items_fit : item_count (setting k t slots) (outline t) ≤ slot_count t.lanes.size
    grid_items_fit = omega (arith, items_fit, items_are)

    pub grid_items_most : item_count (setting k t slots) (outline t) ≤ 8 * lane_count t.lanes.size
    grid_items_most = omega (arith, grid_items_fit, slots_most)
