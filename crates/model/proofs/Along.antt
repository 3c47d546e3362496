-- The items of a stream along a route, from its last hop back to its first.
use Rattle.std.proofs.Common.{◌≡◌, ℕ, true, false, List, [], ◌∷◌, ◌++◌, sym, refl, ◌∙◌, ap₂, ⊎_elim, arith}
use Rattle.std.proofs.lemmas.List.{append-nil, append_assoc}
use Rattle.std.proofs.lemmas.Bool.{cases_eq}
use Rattle.std.proofs.lemmas.Bool.Decides.{nat_tests}
use Rattle.routes.specs.declared.hop.Hop.{Hop}
use Rattle.routes.specs.Routes.{uses, hop_on}
use Rattle.model.specs.Grid.{Queue, put, hops_from}
use Rattle.model.specs.Sums.{of_stream}
use Rattle.model.specs.Waiting.{along, own}
use Rattle.model.proofs.Puts.{put_same, pushed}
use Rattle.model.specs.Safe.{Apart}
use Rattle.model.proofs.Routes.{hops_from_inherits, unused_from, hops_from_here, hops_from_after}
use Rattle.model.proofs.StreamItems.{of_stream-append}

pub along_none : {T : Type 0} (lists : ℕ → ℕ → List T) (hops : List Hop) → ((link lane : ℕ) → lists link lane ≡ []) → along lists hops ≡ []
along_none lists [] none = refl
along_none lists (h ∷ hops) none = ap₂ ◌++◌ (along_none lists hops none) (none h.link h.lane)

module _ {T : Type 0} (old new : ℕ → ℕ → List T) where
  along_same : (hops : List Hop) → ((link lane : ℕ) → uses link hops ≡ true → old link lane ≡ new link lane) → along old hops ≡ along new hops
  along_same [] same = refl
  along_same (h ∷ hops) same =
      ap₂ ◌++◌ (along_same hops (λ link lane used. same link lane (grind (arith, nat_tests)))) (same h.link h.lane (grind (arith, nat_tests)))

  -- A change in the hops from one link on, where a list goes from the front, is that change of the whole route.
  along_part : (gone : List T) (link : ℕ) (hops : List Hop) → Apart hops → ((l v : ℕ) → uses l (hops_from link hops) ≡ false → old l v ≡ new l v)
      → along old (hops_from link hops) ≡ gone ++ along new (hops_from link hops) → along old hops ≡ gone ++ along new hops
  along_part gone link [] apart same part = part
  along_part gone link (h ∷ hops) apart same part =
      ⊎_elim
      (λ (here : h.link ≡ link). rw (hops_from_here h hops link here) at part)
      (λ (other : h.link ≡ link → ⊥).
      let after = hops_from_after h hops link other in
      ap₂ ◌++◌ (along_part gone link hops apart.1 (λ l v unused. same l v (rw after unused)) (rw after at part))
      (same h.link h.lane (rw after (unused_from h.link link hops apart.0)))
      ∙ append_assoc gone _ _)
      (cases_eq h.link link)

module _ {T : Type 0} (n : ℕ) (contents : ℕ → ℕ → Queue T) where
  along_put : (link lane : ℕ) (queue : Queue T) (hops : List Hop) → uses link hops ≡ false
      → along (own n (put contents link lane queue)) hops ≡ along (own n contents) hops
  unfolding put
  along_put link lane queue hops unused = along_same (own n (put contents link lane queue)) (own n contents) hops (λ l v used. grind (arith, nat_tests))

  -- An item that is sent comes last.
  pub sent_last : (first : Hop) (rest : List Hop) (item : ℕ × T) → uses first.link rest ≡ false
      → along (own n (pushed contents first item)) (first ∷ rest) ≡ along (own n contents) (first ∷ rest) ++ of_stream n (item ∷ [])
  sent_last first rest item unused =
      ap₂ ◌++◌ (along_put first.link first.lane _ rest unused)
      (rw put_same (of_stream-append n (contents first.link first.lane) (item ∷ [])))
      ∙ sym (append_assoc (along (own n contents) rest) _ _)

module _ {T : Type 0} (n : ℕ) (contents : ℕ → ℕ → Queue T) (hops : List Hop)
    {link lane : ℕ} {item : ℕ × T} {queue : Queue T} (is : contents link lane ≡ item ∷ queue) where
  front_own : own n contents link lane ≡ of_stream n (item ∷ []) ++ own n (put contents link lane queue) link lane
  front_own = rw (is, put_same) (of_stream-append n (item ∷ []) queue)

  -- An item that leaves came first.
  pub left_first : Apart hops → hops_from link hops ≡ hop_on link lane ∷ []
      → along (own n contents) hops ≡ of_stream n (item ∷ []) ++ along (own n (put contents link lane queue)) hops
  unfolding put
  left_first apart on =
      along_part (own n contents) (own n (put contents link lane queue)) (of_stream n (item ∷ [])) link hops apart
      (λ l v unused. grind (arith, nat_tests)) (rw on front_own)

  -- One that passes to the next hop keeps its place.
  pub passed_same : {next : Hop} {rest : List Hop} → Apart hops → hops_from link hops ≡ hop_on link lane ∷ (next ∷ rest)
      → along (own n contents) hops ≡ along (own n (pushed (put contents link lane queue) next item)) hops
  unfolding put
  passed_same {next} {rest} apart on =
      let less = put contents link lane queue in
      let parts : Apart (hop_on link lane ∷ (next ∷ rest)) = rw on at (hops_from_inherits Apart (λ _ _ apart. apart.1) link hops apart) in
      along_part (own n contents) (own n (pushed less next item)) [] link hops apart
      (λ l v unused. grind (arith, nat_tests))
      (rw on
      (ap₂ ◌++◌ (sym (along_put n contents link lane queue (next ∷ rest) parts.0)) front_own
      ∙ (sym (append_assoc (along (own n less) (next ∷ rest)) _ _)
      ∙ ap₂ ◌++◌ (sym (sent_last n less next rest item parts.1.0)) (grind (arith, nat_tests)))))

-- An item of another stream changes nothing.
module _ {T : Type 0} (n : ℕ) (contents : ℕ → ℕ → Queue T) (hops : List Hop) (item : ℕ × T) (other : item.0 ≡ n → ⊥) where
  pub pushed_other : (h : Hop) → along (own n contents) hops ≡ along (own n (pushed contents h item)) hops
  unfolding put
  pushed_other h = along_same (own n contents) (own n (pushed contents h item)) hops (λ l v _. grind (arith, nat_tests, of_stream-append, append-nil))

  pub popped_other : {link lane : ℕ} {queue : Queue T} → contents link lane ≡ item ∷ queue
      → along (own n contents) hops ≡ along (own n (put contents link lane queue)) hops
  unfolding put
  popped_other {link} {lane} {queue} is = along_same (own n contents) (own n (put contents link lane queue)) hops (λ l v _. grind (arith, nat_tests))
