-- From a call on the lanes to a call on the grid.
use Rattle.std.proofs.Common.{◌≡◌, ℕ, List, length, Some, None, Option, sym, refl, ap, ◌∙◌}
use Rattle.std.proofs.lemmas.Bool.{cond_both}
use Rattle.model.specs.Kinds.{Kind}
use Rattle.routes.specs.declared.declined.Declined.{Declined}
use Rattle.routes.specs.declared.hop.Hop.{Hop}
use Rattle.routes.specs.Routes.{OpenStream, streams_of}
use Rattle.model.specs.Grid.{Setting, Queue, Grid, has_room}
use Rattle.model.specs.Calls.{Call, Answer, declined, Outcome, refuse, unless_declined, forward, outcome}
use Rattle.model.specs.Slots.{arrival}
use Rattle.lanes.specs.Queues.{queues_of}
use Rattle.lanes.specs.Calls.{Handles}
use Rattle.grid.specs.declared.tables.Tables.{Tables}
use Rattle.grid.specs.Views.{streams_in, with_streams, view, setting}
use Rattle.grid.specs.Makes.{Makes}

-- what a call leaves, with open streams
abbrev pub lift : {T : Type 0} → (ℕ → Option OpenStream) → Outcome T → Outcome T
lift streams o = record { answer = o.answer; grid = with_streams streams o.grid }

-- tables that differ in their lanes at most
abbrev pub SameButLanes : Tables → Tables → Type 0
SameButLanes t t' = (t'.streams ≡ t.streams) × (t'.capacity ≡ t.capacity)

-- a call that is declined leaves everything as it was
pub refused : {T : Type 0} (kind : Kind) (t : Tables) (xs : List T) (c : Call T) (d : Declined)
    → outcome (setting kind t (length xs)) (view t xs) c ≡ refuse d (view t xs) → Makes kind t xs c (declined d) t xs
refused kind t xs c d is = record {
  answer = ap (λ o. o.answer) (sym is);
  grid = ap (λ o. o.grid) (sym is);
  slots = rw is refl;
  size = refl;
  capacity = refl;
  declined = λ _. record { lanes = refl; streams = refl; capacity = refl };
}

-- a call whose outcome is one on the lanes has that outcome
pub lifted : {T : Type 0} (kind : Kind) (t t' : Tables) (xs xs' : List T) (c : Call T) (o : Outcome T) (b : Option (Hop × T)) (a : Answer T)
    → t'.streams ≡ t.streams → t'.capacity ≡ t.capacity
    → outcome (setting kind t (length xs)) (view t xs) c ≡ lift (streams_in t) o
    → arrival (view t xs) c ≡ b → Handles t.lanes xs o b a t'.lanes xs' → Makes kind t xs c a t' xs'
lifted kind t t' xs xs' c o b a streams capacity is arrives handles = record {
  answer = handles.answer ∙ ap (λ o. o.answer) (sym is);
  grid = ap (λ s. with_streams (streams_of s) (queues_of t'.lanes xs')) streams ∙ ap (with_streams (streams_in t)) handles.queues ∙ ap (λ o. o.grid) (sym is);
  slots = handles.slots ∙ rw (is, handles.answer, arrives) refl;
  size = handles.size;
  capacity = capacity;
  declined = λ is_declined. record { lanes = handles.declined is_declined; streams = streams; capacity = capacity };
}

-- what is declined, and what goes on, is so with open streams too
pub lift-unless_declined : {T : Type 0} (streams : ℕ → Option OpenStream) (r : Option Declined) (g : Grid T) (o : Outcome T)
    → unless_declined r (with_streams streams g) (lift streams o) ≡ lift streams (unless_declined r g o)
lift-unless_declined streams None g o = refl
lift-unless_declined streams (Some d) g o = refl

pub lift-forward : {T : Type 0} (streams : ℕ → Option OpenStream) (S : Setting) (g : Grid T) (h : Hop) (item : ℕ × T) (rest : Queue T) (next : Option Hop)
    → forward S (with_streams streams g) h item rest next ≡ lift streams (forward S g h item rest next)
lift-forward streams S g h item rest None = refl
lift-forward streams S g h item rest (Some next) =
    cond_both (has_room S g next) _ _ (λ o. o ≡ lift streams (forward S g h item rest (Some next))) (λ room. rw room refl) (λ full. rw full refl)
