-- The hops that words write.
use Rattle.std.specs.Prelude.{ℕ, not, List, [], ◌∷◌, take, drop, Ok, Err, ◌==◌}
use Rattle.std.specs.List.{prefix_len}
use Rattle.routes.specs.declared.hop.Hop.{Hop}
use Rattle.routes.specs.Routes.{hop_on}
use Rattle.script.specs.declared.mistake.Mistake.TheVariants.{NotAHop}
use Rattle.script.specs.Numbers.{decimal_of}
use Rattle.script.specs.Reads.{Read, and_then}

-- how many bytes stand ahead of the first dot; 46 is its code
abbrev pub ahead_of_dot : List ℕ → ℕ
ahead_of_dot w = prefix_len (λ b. not (b == 46)) w

-- the hop of a link and a lane, each in digits
abbrev pub from_digits : List ℕ → List ℕ → Read Hop
from_digits link lane = and_then (decimal_of 65535 link) (λ k. and_then (decimal_of 255 lane) (λ l. Ok (hop_on k l)))

-- the hop of a link, and of what stands behind it: a dot and a lane
abbrev pub dotted : List ℕ → List ℕ → Read Hop
dotted link [] = Err NotAHop
dotted link (dot ∷ lane) = from_digits link lane

-- the hop that a word writes: LINK.LANE, cut at the first dot
abbrev pub hop_of : List ℕ → Read Hop
hop_of w = dotted (take (ahead_of_dot w) w) (drop (ahead_of_dot w) w)

-- the hops that words write
abbrev pub hops_in : List (List ℕ) → Read (List Hop)
hops_in [] = Ok []
hops_in (w ∷ ws) = and_then (hop_of w) (λ hop. and_then (hops_in ws) (λ hops. Ok (hop ∷ hops)))
