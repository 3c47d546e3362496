-- What a call does to a kept grid, by cases.
use Rattle.std.proofs.Common.{◌≡◌, ℕ, ◌<◌, true, false, List, [], ◌∷◌, is_some, Some, None, Option, refl, arith}
use Rattle.std.proofs.lemmas.Bool.{cond_both}
use Rattle.std.proofs.lemmas.Bool.Decides.{nat_tests}
use Rattle.routes.specs.declared.declined.Declined.{Declined}
use Rattle.routes.specs.declared.hop.Hop.{Hop}
use Rattle.routes.specs.declared.stream.Request.{Request}
use Rattle.routes.specs.Loads.{stream_count}
use Rattle.routes.specs.Routes.{hop_on}
use Rattle.model.specs.Grid.{Setting, Queue, Grid, with_stream, with_queue, enqueue, enough_slots, has_room, route_of, second}
use Rattle.model.specs.Sums.{item_count_of}
use Rattle.model.specs.Calls.{Call, opens, closes, sends, steps, declined, done, moved, out, Outcome, unless_declined, open_refusal, close_refusal, room_at_first, enter, send_refusal, forward, step_front, next_of, stepping, outcome}
use Rattle.model.proofs.Kept.{Kept, Front, all_placed}

-- The outcome of a call: it is declined; or a stream is opened or closed; or an item is sent, passes to its next hop, or
-- leaves.
pub data Does {T : Type 0} (S : Setting) (g : Grid T) : Call T → Outcome T → Type 0 where
  refused : {c : Call T} {d : Declined} → Does S g c (record { answer = declined d; grid = g })
  opened : {n : ℕ} {q : Request} {hops : List Hop} → n < stream_count → is_some (g.streams n) ≡ false → S.judge g.streams q hops ≡ None
      → Does S g (opens n q hops) (record { answer = done; grid = with_stream g n (Some (record { request = q; hops = hops })) })
  closed : {n : ℕ} → n < stream_count → item_count_of S g n ≡ 0 → Does S g (closes n) (record { answer = done; grid = with_stream g n None })
  sent : {n : ℕ} {x : T} (first : Hop) (rest : List Hop) → enough_slots S ≡ true → route_of (g.streams n) ≡ first ∷ rest
      → Does S g (sends n x) (record { answer = done; grid = enqueue S g first (n, x) })
  passed : {link lane : ℕ} {item : ℕ × T} {queue : Queue T} {next : Hop} {rest : List Hop} → Front g link lane item queue (next ∷ rest)
      → Does S g (steps link lane) (record { answer = moved item.0; grid = enqueue S (with_queue g link lane queue) next item })
  left : {link lane : ℕ} {item : ℕ × T} {queue : Queue T} → Front g link lane item queue []
      → Does S g (steps link lane) (record { answer = out item.0 item.1; grid = with_queue g link lane queue })

module _ {T : Type 0} (S : Setting) (g : Grid T) (kept : Kept S g) where
  unless_declined_lem : {c : Call T} (d : Option Declined) (o : Outcome T) → (d ≡ None → Does S g c o) → Does S g c (unless_declined d g o)
  unless_declined_lem (Some d) o does = refused
  unless_declined_lem None o does = does refl

  does_enter : (n : ℕ) (x : T) (hops : List Hop) → route_of (g.streams n) ≡ hops → enough_slots S ≡ true → room_at_first S g hops ≡ true
      → Does S g (sends n x) (record { answer = done; grid = enter S g hops (n, x) })
  does_enter n x [] route slots room = grind arith
  does_enter n x (first ∷ rest) route slots room = sent first rest slots route

  does_forward : {link lane : ℕ} {item : ℕ × T} {queue : Queue T} (rest : List Hop) → Front g link lane item queue rest
      → Does S g (steps link lane) (forward S g (hop_on link lane) item queue (second (hop_on link lane ∷ rest)))
  does_forward [] front = left front
  does_forward {link} {lane} (next ∷ rest) front =
      cond_both (has_room S g next) _ _ (Does S g (steps link lane)) (λ _. passed front) (λ _. refused)

  does_front : (link lane : ℕ) (queue : Queue T) → g.contents link lane ≡ queue → Does S g (steps link lane) (step_front S g (hop_on link lane) (next_of g link) queue)
  does_front link lane [] is = refused
  does_front link lane (item ∷ queue) is =
      let p = (all_placed S g kept link lane (item ∷ queue) is).0 in
      rw p.on (does_forward p.rest (record { is = is; on = p.on }))

  pub does : (c : Call T) → Does S g c (outcome S g c)
  unfolding open_refusal close_refusal send_refusal stepping
  does (opens n q hops) =
      unless_declined_lem (open_refusal S g n q hops) _ (λ none. opened (grind (arith, nat_tests)) (grind (arith, nat_tests)) (grind (arith, nat_tests)))
  does (closes n) = unless_declined_lem (close_refusal S g n) _ (λ none. closed (grind (arith, nat_tests)) (grind (arith, nat_tests)))
  does (sends n x) =
      unless_declined_lem (send_refusal S g n) _ (λ none. does_enter n x (route_of (g.streams n)) refl (grind (arith, nat_tests)) (grind (arith, nat_tests)))
  does (steps link lane) = unless_declined_lem _ _ (λ _. does_front link lane (g.contents link lane) refl)
