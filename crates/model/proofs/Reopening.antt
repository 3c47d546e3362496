-- What holds of all open streams; that they can be opened again, by rules too; and what follows for every kind of grid.
use Rattle.std.proofs.Common.{◌≡◌, ℕ, ◌<◌, ◌≤◌, List, [], Some, None, Option, refl, subst}
use Rattle.std.proofs.Math.Logic.{∥∥₁_elim}
use Rattle.std.proofs.Props.{props}
use Rattle.std.proofs.lemmas.Option.{same_Some}
use Rattle.layouts.specs.Layout.{Meaning}
use Rattle.routes.specs.declared.hop.Hop.{Hop}
use Rattle.routes.specs.declared.stream.Request.{Request}
use Rattle.routes.specs.Loads.{stream_count, load}
use Rattle.routes.specs.Routes.{OpenStream}
use Rattle.routes.specs.Checks.{terms_on}
use Rattle.routes.specs.Acceptable.{Acceptable}
use Rattle.routes.proofs.Judging.{acceptable, accepted}
use Rattle.model.specs.Grid.{Streams, Judge, route_of}
use Rattle.model.specs.Kinds.{Kind, by_rules, on_kind}
use Rattle.model.specs.Safe.{Reached, none_open, after_opening, after_closing, Takes, Safe}
use Rattle.model.specs.Reopening.{streams_below, Reopens}
use Rattle.model.proofs.Puts.{assign_each}
use Rattle.model.proofs.Loads.{Fits, Bears, no_stream_fits, bears_unloaded, fits_with, fits_without, bears_again}

-- What holds of every stream that is let in holds of every open one.
module _ (judge : Judge) (P : Request → List Hop → Type 0) (each : (streams : Streams) (q : Request) (hops : List Hop) → judge streams q hops ≡ None → P q hops) where
  abbrev Holds : Option OpenStream → Type 0
  Holds entry = (s : OpenStream) → entry ≡ Some s → P s.request s.hops

  pub open_holds : (streams : Streams) → Reached judge streams → (n : ℕ) → Holds (streams n)
  open_holds streams none_open = λ n s is. cc
  open_holds streams (after_opening {streams = before} n q hops reached low not_open judged) =
      assign_each before n _ (λ _. Holds)
      (λ s is. let P_of : OpenStream → Type 0 = λ s. P s.request s.hops in subst P_of (same_Some _ _ is) (each before q hops judged))
      (open_holds before reached)
  open_holds streams (after_closing {streams = before} n low reached) = assign_each before n None (λ _. Holds) (λ s is. cc) (open_holds before reached)

-- What holds of every route that is let in, and of one of no hops, holds of every route.
module _ (judge : Judge) (P : List Hop → Type 0) (none : P []) (each : (streams : Streams) (q : Request) (hops : List Hop) → judge streams q hops ≡ None → P hops) where
  of_entry : (entry : Option OpenStream) → ((s : OpenStream) → entry ≡ Some s → P s.hops) → P (route_of entry)
  of_entry None holds = none
  of_entry (Some s) holds = holds s refl

  pub routes_hold : (streams : Streams) → Reached judge streams → (n : ℕ) → P (route_of (streams n))
  routes_hold streams reached n = of_entry (streams n) (open_holds judge (λ _. P) each streams reached n)

-- Where a stream that is let in is borne by the links of its route, no link bears more than the capacity.
module _ (judge : Judge) (capacity : ℕ) (each : (streams : Streams) (q : Request) (hops : List Hop) → judge streams q hops ≡ None → Bears capacity streams q hops) where
  pub reached_fits : (streams : Streams) → Reached judge streams → Fits capacity streams
  reached_fits streams none_open = no_stream_fits capacity
  reached_fits streams (after_opening {streams = before} n q hops reached low not_open judged) =
      fits_with capacity before (reached_fits before reached) n low q hops (each before q hops judged)
  reached_fits streams (after_closing {streams = before} n low reached) = fits_without capacity before (reached_fits before reached) n low

-- A kind of which a stream is let in exactly if something holds of it alone, and the links of its route bear it.
module _ (k : Kind) (lanes capacity : ℕ) (P : Request → List Hop → Type 0)
    (tiles : (q : Request) (hops : List Hop) → P q hops → (q.source < k.tiles) × (q.target < k.tiles))
    (asks : (streams : Streams) (q : Request) (hops : List Hop) → k.judge lanes capacity streams q hops ≡ None → P q hops × Bears capacity streams q hops)
    (lets_in : (streams : Streams) (q : Request) (hops : List Hop) → P q hops → Bears capacity streams q hops → k.judge lanes capacity streams q hops ≡ None) where
  fits : (streams : Streams) → Reached (k.judge lanes capacity) streams → Fits capacity streams
  fits = reached_fits (k.judge lanes capacity) capacity (λ streams q hops judged. (asks streams q hops judged).1)

  pub reopens_by : Reopens k lanes capacity
  reopens_by = record {
    tiles = λ streams q hops judged. tiles q hops (asks streams q hops judged).0;
    bears = fits;
    again = λ streams reached n s is low.
        lets_in (streams_below n streams) s.request s.hops
        (open_holds (k.judge lanes capacity) P (λ streams q hops judged. (asks streams q hops judged).0) streams reached n s is)
        (bears_again capacity streams (fits streams reached) n low s is);
  }

-- By rules: a stream is let in exactly if its route is acceptable on the unloaded grid, and its links bear it.
module _ (m : Meaning) (lanes capacity : ℕ) where
  abbrev pub Unloaded : Request → List Hop → Type 0
  Unloaded = Acceptable (terms_on m lanes capacity (λ _. None))

  -- an acceptable route is so with other loads, if its links bear the demand on top of these
  acceptable_with : (streams others : Streams) (q : Request) (hops : List Hop) → Acceptable (terms_on m lanes capacity streams) q hops
      → Bears capacity others q hops → Acceptable (terms_on m lanes capacity others) q hops
  acceptable_with streams others q hops a bears = record {
    source = a.source;
    target = a.target;
    two_tiles = a.two_tiles;
    demand = a.demand;
    count = a.count;
    on_grid = a.on_grid;
    starts = a.starts;
    turns = a.turns;
    keeps_lane = a.keeps_lane;
    climbs = a.climbs;
    ends = a.ends;
    once = a.once;
    bears = bears;
  }

  pub rules_ask : (streams : Streams) (q : Request) (hops : List Hop) → (by_rules m).judge lanes capacity streams q hops ≡ None
      → Unloaded q hops × Bears capacity streams q hops
  rules_ask streams q hops judged =
      let a = acceptable (terms_on m lanes capacity streams) q hops judged in
      (acceptable_with streams (λ _. None) q hops a (bears_unloaded capacity streams q hops a.bears), a.bears)

  pub rules_reopen : Reopens (by_rules m) lanes capacity
  rules_reopen =
      reopens_by (by_rules m) lanes capacity Unloaded
      (λ q hops a. (a.source, a.target))
      rules_ask
      (λ streams q hops a bears. accepted (terms_on m lanes capacity streams) q hops (acceptable_with (λ _. None) streams q hops a bears))

-- The open streams of a grid of a kind that owes this.
module _ (k : Kind) (lanes capacity : ℕ) (owed : Reopens k lanes capacity) (streams : Streams) (reached : ∥ Reached (k.judge lanes capacity) streams ∥₁) where
  pub open_takes : (depth slots : ℕ) → Safe (on_kind k lanes depth capacity slots) → (n : ℕ) (s : OpenStream) → streams n ≡ Some s → Takes (on_kind k lanes depth capacity slots) s.hops
  open_takes depth slots safe n s is =
      ∥∥₁_elim reached (hlevel props)
      (λ r. open_holds (k.judge lanes capacity) (λ _ hops. Takes (on_kind k lanes depth capacity slots) hops) safe.takes streams r n s is)

  pub link_bears : (link : ℕ) → load streams link ≤ capacity
  link_bears link = ∥∥₁_elim reached (hlevel props) (λ r. owed.bears streams r link)

  pub opens_again : (n : ℕ) (s : OpenStream) → streams n ≡ Some s → n < stream_count → k.judge lanes capacity (streams_below n streams) s.request s.hops ≡ None
  opens_again n s is low = ∥∥₁_elim reached (hlevel props) (λ r. owed.again streams r n s is low)
