-- The laws of tables by link and lane.
use Rattle.std.proofs.Common.{◌≡◌, ℕ, ◌+◌, ◌*◌, ◌/◌, ◌%◌, ◌<◌, true, false, ◌&&◌, ◌==◌, ◌≢◌, sym, refl, ap, ◌∙◌, ⊎_elim}
use mathlib.Core.Path.{fun_ext}
use Rattle.std.proofs.lemmas.Bool.{cond_both, cases_Bool, and_parts, and_from, false≢true, ltb-true, eqb-true, eq-eqb}
use Rattle.std.proofs.lemmas.Nat.{div-mul-add, mod-mul-add}
use Rattle.routes.specs.declared.hop.Hop.{Hop}
use Rattle.routes.specs.Routes.{hop_on}
use Rattle.model.specs.Grid.{put}
use Rattle.lanes.specs.declared.size.Size.{Size}
use Rattle.lanes.specs.Sizes.{holds, lane_of}
use Rattle.lanes.specs.Queues.{by_lane}

-- the number of a lane tells its link and its place there
same_hop : (lanes l v k u : ℕ) → v < lanes → u < lanes → l * lanes + v ≡ k * lanes + u → (l ≡ k) × (v ≡ u)
same_hop lanes l v k u p q e =
    (sym (div-mul-add l lanes v p) ∙ ap (λ n. n / lanes) e ∙ div-mul-add k lanes u q, sym (mod-mul-add l lanes v p) ∙ ap (λ n. n % lanes) e ∙ mod-mul-add k lanes u q)

module _ (s : Size) (h : Hop) (on : holds s h ≡ true) where
  pub by_lane_at : {A : Type 0} (entry : ℕ → A) (none : A) → by_lane s entry none h.link h.lane ≡ entry (lane_of s h)
  by_lane_at entry none = rw on refl

  -- another lane has another number
  elsewhere : (l v : ℕ) → (l == h.link && v == h.lane) ≡ false → holds s (hop_on l v) ≡ true → lane_of s (hop_on l v) ≢ lane_of s h
  elsewhere l v other there e =
      let same = same_hop s.lanes l v h.link h.lane (ltb-true _ _ (and_parts _ _ there).1) (ltb-true _ _ (and_parts _ _ on).1) e in
      false≢true (sym other ∙ and_from _ _ (eq-eqb _ _ same.0) (eq-eqb _ _ same.1))

  at_each : {A : Type 0} (entry entry' : ℕ → A) (none : A) → ((j : ℕ) → j ≢ lane_of s h → entry' j ≡ entry j) → (l v : ℕ)
      → by_lane s entry' none l v ≡ put (by_lane s entry none) h.link h.lane (entry' (lane_of s h)) l v
  unfolding put
  at_each entry entry' none others l v =
      ⊎_elim
      (λ (is : (l == h.link && v == h.lane) ≡ true).
      let here = and_parts _ _ is in
      let link : l ≡ h.link = eqb-true _ _ here.0 in
      let lane : v ≡ h.lane = eqb-true _ _ here.1 in
      rw is (rw (link, lane) (by_lane_at entry' none)))
      (λ (other : (l == h.link && v == h.lane) ≡ false).
      rw other
      (cond_both (holds s (hop_on l v)) _ _ (λ b. b ≡ by_lane s entry none l v) (λ there. rw there (others _ (elsewhere l v other there))) (λ off. rw off refl)))
      (cases_Bool (l == h.link && v == h.lane))

  -- a table that differs from another at one lane
  pub by_lane-put : {A : Type 0} (entry entry' : ℕ → A) (none : A) → ((j : ℕ) → j ≢ lane_of s h → entry' j ≡ entry j)
      → by_lane s entry' none ≡ put (by_lane s entry none) h.link h.lane (entry' (lane_of s h))
  by_lane-put entry entry' none others = fun_ext (λ l. fun_ext (λ v. at_each entry entry' none others l v))
