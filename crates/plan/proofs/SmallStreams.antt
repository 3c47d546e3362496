-- Streams of small numbers: a grid lets in no others.
use Rattle.std.proofs.Common.{◌≡◌, ℕ, ◌<◌, ◌≤◌, true, List, length, Some, None, arith}
use Rattle.std.specs.List.{list_all}
use Rattle.std.proofs.Math.Logic.{∥∥₁_elim}
use Rattle.std.proofs.Props.{props}
use Rattle.std.proofs.lemmas.Bool.{and_parts, ltb-true}
use Rattle.std.proofs.lemmas.Bool.Decides.{nat_tests}
use Rattle.std.proofs.lemmas.List.Elements.{All-get_or}
use Rattle.std.proofs.lemmas.List.Sums.{AllPass-from_list_all}
use Rattle.layouts.specs.Layout.{Topology, Sized}
use Rattle.routes.specs.declared.hop.Hop.{Hop}
use Rattle.routes.specs.declared.stream.Request.{Request}
use Rattle.routes.specs.Routes.{OpenStream, hop_at, hop_on, is_on_grid}
use Rattle.model.specs.Grid.{Streams, Judge}
use Rattle.model.specs.Kinds.{Kind, StandsOn, on_kind}
use Rattle.model.specs.Safe.{Reached, Safe}
use Rattle.model.specs.Reopening.{Reopens}
use Rattle.model.proofs.Reopening.{open_holds}

-- A stream of these fields and hops has small numbers: it goes from one of 64 tiles to another, by 1 to 24 hops on 256 links of 4 lanes.
pub record SmallStream (q : Request) (hops : List Hop) : Type 0 where
  pub source : q.source < 64
  pub target : q.target < 64
  pub count : (1 ≤ length hops) × (length hops ≤ 24)
  pub on_grid : (k : ℕ) → k < length hops → ((hop_at hops k).link < 256) × ((hop_at hops k).lane < 4)

-- whatever streams are open, no other stream is let in
abbrev pub LetsInSmall : Judge → Type 0
LetsInSmall judge = (streams : Streams) (q : Request) (hops : List Hop) → judge streams q hops ≡ None → SmallStream q hops

-- no other stream is open
abbrev pub AllSmall : Streams → Type 0
AllSmall streams = (n : ℕ) (s : OpenStream) → streams n ≡ Some s → SmallStream s.request s.hops

-- a hop of a route that is there
hop_there : (links lanes : ℕ) (hops : List Hop) → list_all (is_on_grid links lanes) hops ≡ true → (k : ℕ) → k < length hops
    → ((hop_at hops k).link < links) × ((hop_at hops k).lane < lanes)
hop_there links lanes hops there k low =
    let all = AllPass-from_list_all (is_on_grid links lanes) hops there in
    let here = and_parts _ _ (All-get_or (λ h. is_on_grid links lanes h ≡ true) hops k (hop_on 0 0) low all) in
    (ltb-true _ _ here.0, ltb-true _ _ here.1)

-- so it is on every kind of grid whose ways keep within their bounds
pub lets_in_small : {w : Topology} {kind : Kind} {lanes depth capacity slots : ℕ} → Sized w → StandsOn w kind → lanes ≤ 4
    → Safe (on_kind kind lanes depth capacity slots) → Reopens kind lanes capacity → LetsInSmall (kind.judge lanes capacity)
lets_in_small {w} {kind} {lanes} sized on few safe reopens streams q hops none =
    let takes = safe.takes streams q hops none in
    let tiles = reopens.tiles streams q hops none in
    record {
      source = omega (arith, tiles, on.tiles, sized.most_tiles);
      target = omega (arith, tiles, on.tiles, sized.most_tiles);
      count = grind (arith, nat_tests, takes.count);
      on_grid = λ k low. let here = hop_there kind.links lanes hops takes.there k low in omega (arith, here, on.links, sized.most_links);
    }

-- and what has been let in is open
pub open_small : {judge : Judge} {streams : Streams} → LetsInSmall judge → ∥ Reached judge streams ∥₁ → AllSmall streams
open_small {judge} {streams} small reached n s is = ∥∥₁_elim reached (hlevel props) (λ r. open_holds judge SmallStream small streams r n s is)
