-- The load of a link.
use Rattle.std.specs.Prelude.{ℕ, zero, suc, ◌+◌, cond, Some, None, Option}
use Rattle.routes.specs.Routes.{OpenStream, uses}

-- the sum of f over the numbers below n
abbrev pub sum_below : ℕ → (ℕ → ℕ) → ℕ
sum_below zero f = 0
sum_below (suc n) f = sum_below n f + f n

-- what a stream adds to the load of a link, if it is open
abbrev pub share : ℕ → Option OpenStream → ℕ
share link None = 0
share link (Some s) = cond (uses link s.hops) s.request.demand 0

-- streams are numbered from 0 to 63
abbrev pub stream_count : ℕ
stream_count = 64

-- the sum of the demands of all open streams whose routes use the link
unfoldable pub load : (ℕ → Option OpenStream) → ℕ → ℕ
load streams link = sum_below stream_count (λ n. share link (streams n))
