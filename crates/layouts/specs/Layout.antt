-- What ways and rules mean, and the laws that they keep.
use Rattle.std.specs.Prelude.{◌≡◌, ℕ, ◌<◌, ◌≤◌, ◌≢◌}
use Rattle.layouts.specs.declared.turn.Turn.{Turn}
use Rattle.layouts.specs.declared.turn.Turn.TheVariants.{Never, Free}

-- the answers of ways: how many tiles and links there are, and the tiles that a link leads from and to
pub record Topology : Type 0 where
  pub tiles : ℕ
  pub links : ℕ
  pub start : ℕ → ℕ
  pub end : ℕ → ℕ

-- the answers of rules, a word for two links in a row; and the height of each link
pub record TurnModel : Type 0 where
  pub turn : ℕ → ℕ → Turn
  pub height : ℕ → ℕ

-- the meaning of a layout, which is ways with rules: all its answers, and the heights
pub record Meaning : Type 0 where
  pub tiles : ℕ
  pub links : ℕ
  pub start : ℕ → ℕ
  pub end : ℕ → ℕ
  pub turn : ℕ → ℕ → Turn
  pub height : ℕ → ℕ

abbrev pub ruled_by : Topology → TurnModel → Meaning
ruled_by w r = record { tiles = w.tiles; links = w.links; start = w.start; end = w.end; turn = r.turn; height = r.height }

-- the meaning of a layout of some type, by the topology and the turns of each layout of that type
abbrev pub meaning_by : {L : Type 0} → (L → Topology) → (L → TurnModel) → L → Meaning
meaning_by topology turns layout = ruled_by (topology layout) (turns layout)

-- its two parts
abbrev pub topology_in : Meaning → Topology
topology_in m = record { tiles = m.tiles; links = m.links; start = m.start; end = m.end }

abbrev pub turns_in : Meaning → TurnModel
turns_in m = record { turn = m.turn; height = m.height }

-- the counts that ways may have
pub record Sized (w : Topology) : Type 0 where
  pub some_tiles : 1 ≤ w.tiles
  pub most_tiles : w.tiles ≤ 64
  pub some_links : 1 ≤ w.links
  pub most_links : w.links ≤ 256

-- The law of ways: the counts are within their bounds; links start and end at tiles.
pub record WaysLaw (w : Topology) : Type 0 where
  pub sized : Sized w
  pub joins : (k : ℕ) → k < w.links → (w.start k < w.tiles) × (w.end k < w.tiles)

-- two links of which a word is told meet, end to start, unless it is *never*
abbrev pub MeetUnlessNever : Topology → ℕ → ℕ → Turn → Type 0
MeetUnlessNever w a b t = t ≢ Never → w.end a ≡ w.start b

-- The law of turns: links that may follow each other meet; a free turn leads to a link that lies higher.
pub record TurnLaw (w : Topology) (r : TurnModel) : Type 0 where
  pub meets : (a b : ℕ) → MeetUnlessNever w a b (r.turn a b)
  pub rises : (a b : ℕ) → r.turn a b ≡ Free → r.height a < r.height b

-- A layout that keeps both laws is lawful.
pub record Lawful (m : Meaning) : Type 0 where
  pub sized : Sized (topology_in m)
  pub joins : (k : ℕ) → k < m.links → (m.start k < m.tiles) × (m.end k < m.tiles)
  pub meets : (a b : ℕ) → MeetUnlessNever (topology_in m) a b (m.turn a b)
  pub rises : (a b : ℕ) → m.turn a b ≡ Free → m.height a < m.height b

abbrev pub lawful_by : {w : Topology} {r : TurnModel} → WaysLaw w → TurnLaw w r → Lawful (ruled_by w r)
lawful_by ways turns = record { sized = ways.sized; joins = ways.joins; meets = turns.meets; rises = turns.rises }

-- Of a number that is no link's ways tell tile 255, and rules *never*.
pub record NoTiles (w : Topology) : Type 0 where
  pub no_start : (k : ℕ) → w.links ≤ k → w.start k ≡ 255
  pub no_end : (k : ℕ) → w.links ≤ k → w.end k ≡ 255

pub record NoTurns (w : Topology) (r : TurnModel) : Type 0 where
  pub no_turn_from : (a b : ℕ) → w.links ≤ a → r.turn a b ≡ Never
  pub no_turn_to : (a b : ℕ) → w.links ≤ b → r.turn a b ≡ Never
