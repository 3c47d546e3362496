-- The outline of the lanes is that of the grid that they show.
use Rattle.std.specs.Prelude.{◌≡◌, ℕ, zero, suc, ◌+◌, ◌*◌, ◌%◌, ◌≤◌, true, false, cond, List, [], ◌∷◌, map, length, replicate, vec_items, refl}
use Rattle.std.proofs.Common.{ap, ◌∙◌, arith}
use Rattle.std.proofs.Math.Path.{fun_ext}
use Rattle.std.proofs.lemmas.List.{map-append, take-map, drop-map}
use Rattle.routes.specs.Routes.{hop_on}
use Rattle.model.specs.Outlines.{alike, without_items}
use Rattle.lanes.specs.declared.size.Size.{Size}
use Rattle.lanes.specs.declared.tables.Lanes.{Lanes}
use Rattle.lanes.specs.Sizes.{slot_count, holds, lane_of}
use Rattle.lanes.specs.Rings.{here, around}
use Rattle.lanes.specs.Queues.{cells, ring_at, queue_at, by_lane, queues_of, outline_at, outline}

cells-alike : {T : Type 0} (owners : List ℕ) (slots : List T) (n : ℕ) → length owners ≡ n → n ≤ length slots
    → alike (cells owners slots) ≡ cells owners (replicate n tt)
cells-alike [] slots n long enough = refl
cells-alike (o ∷ owners) [] n long enough = absurd (omega arith)
cells-alike (o ∷ owners) (x ∷ slots) zero long enough = absurd (omega arith)
cells-alike (o ∷ owners) (x ∷ slots) (suc n) long enough =
    ap (λ l. (o, tt) ∷ l) (cells-alike owners slots n (omega arith) (omega arith))

here-map : {A B : Type 0} (f : A → B) (xs : List A) (p : ℕ) → map f (here xs p) ≡ here (map f xs) p
here-map f xs p = simp (drop-map, take-map)

around-map : {A B : Type 0} (f : A → B) (xs : List A) (base depth first n : ℕ)
    → map f (around xs base depth first n) ≡ around (map f xs) base depth first n
around-map f xs base depth first zero = refl
around-map f xs base depth first (suc n) =
    let front = around-map f xs base depth first n in
    let last = here-map f xs (base + (first + n) % depth) in
    rw map-append cc

by_lane-map : {A B : Type 0} (f : A → B) (s : Size) (entry : ℕ → A) (none : A) (link lane : ℕ)
    → f (by_lane s entry none link lane) ≡ by_lane s (λ k. f (entry k)) (f none) link lane
by_lane-map f s entry none link lane =
    let k : ℕ = lane_of s (hop_on link lane) in
    elim (holds s (hop_on link lane)) as (λ b. f (cond b (entry k) none) ≡ cond b (f (entry k)) (f none))
    [ true ↦ refl | false ↦ refl ]

module _ {T : Type 0} (l : Lanes) (xs : List T) (enough : slot_count l.size ≤ length xs) where
  queue_at-alike : (k : ℕ) → alike (queue_at l xs k) ≡ outline_at l k
  queue_at-alike k =
      let ring = ring_at l k in
      let base = k * l.size.depth in
      around-map (λ (i : ℕ × T). (i.0, tt)) (cells (vec_items l.owners) xs) base l.size.depth ring.first ring.count
      ∙ ap (λ cs. around cs base l.size.depth ring.first ring.count)
      (cells-alike (vec_items l.owners) xs (slot_count l.size) (omega (arith, l.owners.ok.0, l.long)) enough)

  pub outline_view : without_items (queues_of l xs) ≡ outline l
  outline_view =
      let contents = fun_ext (λ link. fun_ext (λ lane. by_lane-map alike l.size (queue_at l xs) [] link lane
      ∙ ap (λ entry. by_lane l.size entry [] link lane) (fun_ext queue_at-alike))) in
      cc
