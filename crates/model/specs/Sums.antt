-- Sums over the items on the grid.
use Rattle.std.specs.Prelude.{ℕ, ◌+◌, cond, List, [], ◌∷◌, length, Option, ◌==◌}
use Rattle.routes.specs.Routes.{OpenStream}
use Rattle.routes.specs.Loads.{sum_below}
use Rattle.model.specs.Grid.{Setting, Queue, Grid, route_of, hops_from}

-- the items of one stream, without its number
abbrev pub of_stream : {T : Type 0} → ℕ → Queue T → List T
of_stream n [] = []
of_stream n (i ∷ queue) = cond (i.0 == n) (i.1 ∷ of_stream n queue) (of_stream n queue)

abbrev pub queue_sum : {T : Type 0} → ((ℕ × T) → ℕ) → Queue T → ℕ
queue_sum cost [] = 0
queue_sum cost (i ∷ queue) = cost i + queue_sum cost queue

-- the sum of what each item on the grid costs on the link that it is on
unfoldable pub grid_sum : {T : Type 0} → Setting → (ℕ → (ℕ × T) → ℕ) → (ℕ → ℕ → Queue T) → ℕ
grid_sum S cost contents = sum_below S.links (λ l. sum_below S.lanes (λ v. queue_sum (cost l) (contents l v)))

-- how many items are on the grid, in all and of one stream
abbrev pub one : {T : Type 0} → ℕ → (ℕ × T) → ℕ
one link i = 1

abbrev pub item_count : {T : Type 0} → Setting → Grid T → ℕ
item_count S g = grid_sum S one g.contents

abbrev pub one_of : {T : Type 0} → ℕ → ℕ → (ℕ × T) → ℕ
one_of n link i = cond (i.0 == n) 1 0

abbrev pub item_count_of : {T : Type 0} → Setting → Grid T → ℕ → ℕ
item_count_of S g n = grid_sum S (one_of n) g.contents

-- an item on hop k of n has n - k hops ahead
abbrev pub ahead : {T : Type 0} → (ℕ → Option OpenStream) → ℕ → (ℕ × T) → ℕ
ahead streams link i = length (hops_from link (route_of (streams i.0)))

abbrev pub hops_ahead : {T : Type 0} → Setting → Grid T → ℕ
hops_ahead S g = grid_sum S (ahead g.streams) g.contents
