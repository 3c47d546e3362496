-- The grid in the words of its subject: open streams, and lanes that contain items.
use Rattle.std.specs.Prelude.{ℕ, ◌+◌, ◌*◌, ◌%◌, Bool, cond, ◌&&◌, List, [], ◌∷◌, ◌++◌, length, Some, None, Option, ◌==◌, nat_le, nat_lt}
use Rattle.routes.specs.declared.declined.Declined.{Declined}
use Rattle.routes.specs.declared.hop.Hop.{Hop}
use Rattle.routes.specs.declared.stream.Request.{Request}
use Rattle.routes.specs.Routes.{OpenStream}

-- the open streams by number
abbrev pub Streams : Type 0
Streams = ℕ → Option OpenStream

-- what declines a stream of given fields and hops, if anything does, by the streams that are open
abbrev pub Judge : Type 0
Judge = Streams → Request → List Hop → Option Declined

-- What stays as it is over a run: how many links there are, how many lanes a link has, how many items a lane holds, how
-- many item slots are lent, and what declines a stream.
pub record Setting : Type 0 where
  pub links : ℕ
  pub lanes : ℕ
  pub depth : ℕ
  pub slots : ℕ
  pub judge : Judge

-- items with the numbers of their streams, front first
abbrev pub Queue : Type 0 → Type 0
Queue T = List (ℕ × T)

-- The open streams by number; what each lane contains, by link and lane; and the place within each lane that its next
-- item takes.
pub record Grid (T : Type 0) : Type 0 where
  pub streams : Streams
  pub contents : ℕ → ℕ → Queue T
  pub places : ℕ → ℕ → ℕ

-- no stream and no item, and each lane is filled from its first place
abbrev pub blank : {T : Type 0} → Grid T
blank = record { streams = λ _. None; contents = λ _ _. []; places = λ _ _. 0 }

-- the streams with another entry at number n
unfoldable pub assign : Streams → ℕ → Option OpenStream → Streams
assign streams n entry k = cond (k == n) entry (streams k)

-- a table of lanes with another entry at one of them
unfoldable pub put : {A : Type 0} → (ℕ → ℕ → A) → ℕ → ℕ → A → ℕ → ℕ → A
put table link lane entry l v = cond (l == link && v == lane) entry (table l v)

abbrev pub with_stream : {T : Type 0} → Grid T → ℕ → Option OpenStream → Grid T
with_stream g n entry = record { streams = assign g.streams n entry; contents = g.contents; places = g.places }

-- the grid with what is left of a lane's contents
abbrev pub with_queue : {T : Type 0} → Grid T → ℕ → ℕ → Queue T → Grid T
with_queue g link lane queue = record { streams = g.streams; contents = put g.contents link lane queue; places = g.places }

-- An item at the back of a lane: it takes the lane's next place, and the place after that, round the depth, is the next.
abbrev pub enqueue : {T : Type 0} → Setting → Grid T → Hop → (ℕ × T) → Grid T
enqueue S g h item = record {
  streams = g.streams;
  contents = put g.contents h.link h.lane (g.contents h.link h.lane ++ (item ∷ []));
  places = put g.places h.link h.lane ((g.places h.link h.lane + 1) % S.depth);
}

-- there are item slots for all lanes
abbrev pub enough_slots : Setting → Bool
enough_slots S = nat_le (S.links * S.lanes * S.depth) S.slots

-- the lane of a hop is not full
abbrev pub has_room : {T : Type 0} → Setting → Grid T → Hop → Bool
has_room S g h = nat_lt (length (g.contents h.link h.lane)) S.depth

abbrev pub route_of : Option OpenStream → List Hop
route_of None = []
route_of (Some s) = s.hops

-- the hops of a route from that over a link on
abbrev pub hops_from : ℕ → List Hop → List Hop
hops_from link [] = []
hops_from link (h ∷ hops) = cond (h.link == link) (h ∷ hops) (hops_from link hops)

abbrev pub second : List Hop → Option Hop
second [] = None
second (h ∷ []) = None
second (h ∷ (k ∷ hops)) = Some k

-- the hop that follows the one over a link
abbrev pub next_hop : ℕ → List Hop → Option Hop
next_hop link hops = second (hops_from link hops)
