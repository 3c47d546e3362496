-- Kinds of grids.
use Rattle.std.specs.Prelude.{◌≡◌, ℕ}
use Rattle.layouts.specs.Layout.{Topology, Meaning}
use Rattle.routes.specs.Checks.{terms_on, judgement}
use Rattle.model.specs.Grid.{Judge, Setting}

-- What makes the kind of a grid: how many tiles and links it has, and what declines a stream, by the count of lanes, the
-- capacity and the open streams.
pub record Kind : Type 0 where
  pub tiles : ℕ
  pub links : ℕ
  pub judge : ℕ → ℕ → Judge

-- the tiles and links of a kind are those of these ways
pub record StandsOn (w : Topology) (k : Kind) : Type 0 where
  pub tiles : k.tiles ≡ w.tiles
  pub links : k.links ≡ w.links

-- the kind of a layout: a stream is declined by its words, and by the loads of the open streams
abbrev pub judge_by : Meaning → ℕ → ℕ → Judge
judge_by m lanes capacity streams = judgement (terms_on m lanes capacity streams)

abbrev pub by_rules : Meaning → Kind
by_rules m = record { tiles = m.tiles; links = m.links; judge = judge_by m }

-- the setting of a grid of a kind, with so many lanes, such a depth, a capacity and so many slots
abbrev pub on_kind : Kind → ℕ → ℕ → ℕ → ℕ → Setting
on_kind k lanes depth capacity slots =
    record { links = k.links; lanes = lanes; depth = depth; slots = slots; judge = k.judge lanes capacity }

-- the same on a layout
abbrev pub on_layout : Meaning → ℕ → ℕ → ℕ → ℕ → Setting
on_layout m = on_kind (by_rules m)
