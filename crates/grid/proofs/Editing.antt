-- Opening and closing, on the outline.
use Rattle.std.proofs.Common.{◌≡◌, ℕ, ◌<◌, ◌≤◌, true, false, ◌==◌, List, length, Some, None, Ok, Err, Option, sym, refl, ap, ◌∙◌, arith}
use Rattle.std.proofs.lemmas.Bool.Decides.{nat_tests}
use Rattle.std.specs.List.{list_all}
use Rattle.refusals.specs.declared.refusal.Refusal.{Refusal}
use Rattle.refusals.specs.declared.refusal.Refusal.TheVariants.{ItemsOnGrid}
use Rattle.model.specs.Kinds.{Kind}
use Rattle.routes.specs.declared.declined.Declined.{Declined}
use Rattle.routes.specs.declared.hop.Hop.{Hop}
use Rattle.routes.specs.declared.stream.Request.{Request}
use Rattle.routes.specs.Routes.{OpenStream}
use Rattle.routes.specs.Checks.{Terms, no_hop}
use Rattle.routes.specs.Acceptable.{Acceptable}
use Rattle.model.specs.Grid.{Setting, Grid, assign, with_stream}
use Rattle.model.specs.Calls.{Call, opens, closes, declined, done, refuse, vacancy, open_refusal, opening, open_stream, close_refusal, closing, outcome}
use Rattle.model.specs.Sums.{one_of, item_count_of}
use Rattle.model.proofs.Outlines.{grid_sum_same_lanes}
use Rattle.model.proofs.Ranks.{all_there}
use Rattle.model.specs.Slots.{arrival}
use Rattle.lanes.specs.declared.size.Size.{Size}
use Rattle.lanes.specs.Sizes.{holds, setting_of}
use Rattle.lanes.specs.Queues.{queues_of}
use Rattle.grid.specs.declared.tables.Tables.{Tables}
use Rattle.grid.specs.Views.{streams_in, slots_alike, outline, setting}
use Rattle.grid.specs.Makes.{Edits}
use Rattle.grid.proofs.Lifted.{refused}

-- a call that is declined leaves everything as it was
pub edit_refused : (kind : Kind) (t : Tables) (c : Call (Unit {0})) (d : Declined)
    → outcome (setting kind t (length (slots_alike t))) (outline t) c ≡ refuse d (outline t) → Edits kind t c (declined d) t
edit_refused kind t c d is = record { made = refused kind t (slots_alike t) c d is; lanes = refl }

-- a call that is done has put another entry in the place of a stream
pub edited : (kind : Kind) (t t' : Tables) (n : ℕ) (entry : Option OpenStream) (c : Call (Unit {0}))
    → streams_in t' ≡ assign (streams_in t) n entry → t'.lanes ≡ t.lanes → t'.capacity ≡ t.capacity
    → outcome (setting kind t (length (slots_alike t))) (outline t) c ≡ record { answer = done; grid = with_stream (outline t) n entry }
    → arrival (outline t) c ≡ None → Edits kind t c done t'
edited kind t t' n entry c streams lanes capacity is arrives = record {
  made = record {
    answer = ap (λ o. o.answer) (sym is);
    grid = rw (streams, lanes, is) refl;
    slots = rw (is, arrives) refl;
    size = ap (λ l. l.size) lanes;
    capacity = capacity;
    declined = λ e. cc;
  };
  lanes = lanes;
}

module _ (S : Setting) (g : Grid (Unit {0})) (n : ℕ) (q : Request) (hops : List Hop) where
  pub not_vacant : (e : Refusal) → Err e ≡ vacancy g.streams n → opening S g n q hops ≡ refuse (no_hop e) g
  unfolding open_refusal
  not_vacant e is = rw (sym is) refl

  pub not_acceptable : (d : Declined) → Ok tt ≡ vacancy g.streams n → S.judge g.streams q hops ≡ Some d → opening S g n q hops ≡ refuse d g
  unfolding open_refusal
  not_acceptable d vacant is = rw (sym vacant, is) refl

  pub opened : Ok tt ≡ vacancy g.streams n → S.judge g.streams q hops ≡ None
      → opening S g n q hops ≡ record { answer = done; grid = with_stream g n (Some (record { request = q; hops = hops })) }
  unfolding open_refusal
  opened vacant is = rw (sym vacant, is) refl

-- the hops of an acceptable route are there
pub acceptable_holds : (s : Size) (t : Terms) (q : Request) (hops : List Hop) → t.layout.links ≡ s.links → t.lanes ≡ s.lanes → Acceptable t q hops
    → list_all (holds s) hops ≡ true
acceptable_holds s t q hops links lanes a = all_there hops (λ k less. let on = a.on_grid k less in (rw links at on.0, rw lanes at on.1))

-- Close, where the links are as many as the layout has.
module _ (kind : Kind) (t : Tables) (links : kind.links ≡ t.lanes.size.links) (n : ℕ) where
  abbrev S : Setting
  S = setting kind t (length (slots_alike t))

  pub not_open : (e : Refusal) → open_stream (streams_in t) n ≡ Err e → closing S (outline t) n ≡ refuse (no_hop e) (outline t)
  unfolding close_refusal
  not_open e is = rw is refl

  module _ (s : OpenStream) (is : open_stream (streams_in t) n ≡ Ok s) (items : ℕ)
      (count : items ≡ item_count_of (setting_of t.lanes.size 0) (queues_of t.lanes (slots_alike t)) n) where
    items_are : item_count_of S (outline t) n ≡ items
    items_are = grid_sum_same_lanes S (setting_of t.lanes.size 0) (one_of n) (outline t).contents links refl ∙ sym count

    pub has_items : 0 < items → closing S (outline t) n ≡ refuse (no_hop ItemsOnGrid) (outline t)
    unfolding close_refusal
    has_items some = let no : (items == 0) ≡ false = grind (arith, nat_tests) in rw (is, items_are, no) refl

    pub closed : items ≤ 0 → closing S (outline t) n ≡ record { answer = done; grid = with_stream (outline t) n None }
    unfolding close_refusal
    closed none = let yes : (items == 0) ≡ true = grind (arith, nat_tests) in rw (is, items_are, yes) refl

-- The tables after an opening and after a closing.
module _ (k : Kind) (t t' : Tables) (n : ℕ) (lanes : t'.lanes ≡ t.lanes) (capacity : t'.capacity ≡ t.capacity) where
  pub opening_edits : (q : Request) (hops : List Hop) → streams_in t' ≡ assign (streams_in t) n (Some (record { request = q; hops = hops }))
      → Ok tt ≡ vacancy (streams_in t) n → k.judge t.lanes.size.lanes t.capacity (streams_in t) q hops ≡ None → Edits k t (opens n q hops) done t'
  opening_edits q hops streams vacant judged =
      edited k t t' n _ (opens n q hops) streams lanes capacity (opened (setting k t (length (slots_alike t))) (outline t) n q hops vacant judged) refl

  pub closing_edits : k.links ≡ t.lanes.size.links → streams_in t' ≡ assign (streams_in t) n None → (s : OpenStream) → open_stream (streams_in t) n ≡ Ok s
      → (items : ℕ) → items ≡ item_count_of (setting_of t.lanes.size 0) (queues_of t.lanes (slots_alike t)) n → items ≤ 0 → Edits k t (closes n) done t'
  closing_edits links streams s is items count none = edited k t t' n None (closes n) streams lanes capacity (closed k t links n s is items count none) refl
