-- The numbers of a mesh's links: each number below the count is that of one link, and each link has its own.
use Rattle.std.specs.Prelude.{◌≡◌, ℕ, ◌+◌, ◌-◌, ◌*◌, ◌/◌, ◌%◌, ◌<◌, ◌≤◌, Some, None, Option, nat_lt, refl}
use Rattle.std.proofs.Common.{ap, ◌∙◌, mul_comm, arith, rules}
use Rattle.std.proofs.lemmas.Nat.{div_below, mod_below, div-add-mod', div-mul-add, mod-mul-add, mul-add-lt}
use Rattle.std.proofs.lemmas.Bool.{cond_both, ltb-true, ltb-false}
use Rattle.std.proofs.lemmas.Bool.Decides.{nat_tests}
use Rattle.layouts.specs.declared.direction.Direction.{Direction}
use Rattle.layouts.specs.declared.direction.Direction.TheVariants.{East, West, North, South}
use Rattle.layouts.specs.declared.link.MeshLink.{MeshLink}
use Rattle.layouts.specs.Links.{InRange, column, row, Inside, start_of, end_of, level, upright, link_count, base, place, link_number, mesh_link, link_in, link_at}
use Rattle.layouts.specs.Bounds.{sides}

-- how many links a block has
abbrev size : ℕ → ℕ → Direction → ℕ
size w h East = level w h
size w h West = level w h
size w h North = upright w h
size w h South = upright w h

-- the column and row of place j, in n rows of m places
cell : (m n j : ℕ) → 0 < m → j < n * m → (j % m < m) × (j / m < n) × (j / m * m + j % m ≡ j)
cell m n j p l = (mod_below j m p, div_below j m n p l, div-add-mod' j m)

-- what a number tells of its link
abbrev pub Found : ℕ → ℕ → ℕ → Option MeshLink → Type 0
Found w h k None = link_count w h ≤ k
Found w h k (Some l) = Inside w h l × (k < link_count w h) × (link_number w h l ≡ k)

module _ (w h : ℕ) (r : InRange w h) where
  -- each place of a block has a link
  in_block : (d : Direction) (j : ℕ) → j < size w h d → Inside w h (link_in w d j) × (link_number w h (link_in w d j) ≡ base w h d + j)
  in_block East j l =
      let s = sides w h r in
      let c = cell (w - 1) h j (omega arith) l in
      (search rules, omega arith)
  in_block West j l =
      let s = sides w h r in
      let c = cell (w - 1) h j (omega arith) l in
      (search rules, omega arith)
  in_block North j l =
      let s = sides w h r in
      let c = cell w (h - 1) j (omega arith) (omega (arith, mul_comm w (h - 1))) in
      (search rules, omega arith)
  in_block South j l =
      let s = sides w h r in
      let c = cell w (h - 1) j (omega arith) (omega (arith, mul_comm w (h - 1))) in
      let e : j / w + 1 - 1 ≡ j / w = omega arith in
      (search rules, omega (arith, ap (λ n. n * w) e))

  -- each link has a place in its block
  of_block : (d : Direction) (x y : ℕ) → Inside w h (mesh_link d x y) → (place w d x y < size w h d) × (link_in w d (place w d x y) ≡ mesh_link d x y)
  of_block East x y i =
      let p : x < w - 1 = omega (arith, i.x_next) in
      (omega (arith, mul-add-lt y (w - 1) x h i.y_in p, mul_comm (w - 1) h), simp (mod-mul-add y (w - 1) x p, div-mul-add y (w - 1) x p) refl)
  of_block West x y i =
      let p : x - 1 < w - 1 = omega (arith, i.x_in) in
      let e : x - 1 + 1 ≡ x = omega (arith, i.leaves) in
      (omega (arith, mul-add-lt y (w - 1) (x - 1) h i.y_in p, mul_comm (w - 1) h), simp (mod-mul-add y (w - 1) (x - 1) p, div-mul-add y (w - 1) (x - 1) p, e) refl)
  of_block North x y i =
      let p : y < h - 1 = omega (arith, i.y_next) in
      (mul-add-lt y w x (h - 1) p i.x_in, simp (mod-mul-add y w x i.x_in, div-mul-add y w x i.x_in) refl)
  of_block South x y i =
      let p : y - 1 < h - 1 = omega (arith, i.y_in) in
      let e : y - 1 + 1 ≡ y = omega (arith, i.leaves) in
      (mul-add-lt (y - 1) w x (h - 1) p i.x_in, simp (mod-mul-add (y - 1) w x i.x_in, div-mul-add (y - 1) w x i.x_in, e) refl)

  block_end : (d : Direction) → base w h d + size w h d ≤ link_count w h
  block_end East = omega arith
  block_end West = omega arith
  block_end North = omega arith
  block_end South = omega arith

  found_in : (d : Direction) (j k : ℕ) → j < size w h d → base w h d + j ≡ k → Found w h k (Some (link_in w d j))
  found_in d j k l e = let i = in_block d j l in (i.0, omega (arith, block_end d), i.1 ∙ e)

  pub found : (k : ℕ) → Found w h k (link_at w h k)
  found k =
      cond_both (nat_lt k (base w h West)) _ _ (Found w h k)
      (λ e. found_in East k k (ltb-true k (base w h West) e) (omega arith))
      (λ e. cond_both (nat_lt k (base w h North)) _ _ (Found w h k)
      (λ f. found_in West (k - base w h West) k (omega (arith, ltb-true, ltb-false)) (omega (arith, ltb-false)))
      (λ f. cond_both (nat_lt k (base w h South)) _ _ (Found w h k)
      (λ g. found_in North (k - base w h North) k (omega (arith, ltb-true, ltb-false)) (omega (arith, ltb-false)))
      (λ g. cond_both (nat_lt k (link_count w h)) _ _ (Found w h k)
      (λ o. found_in South (k - base w h South) k (omega (arith, ltb-true, ltb-false)) (omega (arith, ltb-false)))
      (λ o. ltb-false k (link_count w h) o))))

  -- the link at a place of a block is found at its number
  at_place : (d : Direction) (j : ℕ) → j < size w h d → link_at w h (base w h d + j) ≡ Some (link_in w d j)
  at_place East j l = let e : base w h East + j ≡ j = omega arith in grind (arith, nat_tests)
  at_place West j l = let e : base w h West + j - base w h West ≡ j = omega arith in grind (arith, nat_tests)
  at_place North j l = let e : base w h North + j - base w h North ≡ j = omega arith in grind (arith, nat_tests)
  at_place South j l = let e : base w h South + j - base w h South ≡ j = omega arith in grind (arith, nat_tests)

  -- the link of a link's number is that link
  pub at_number : (l : MeshLink) → Inside w h l → link_at w h (link_number w h l) ≡ Some l
  at_number l i = let p = of_block l.direction l.x l.y i in at_place l.direction (place w l.direction l.x l.y) p.0 ∙ ap Some p.1

  pub number_lt : (l : MeshLink) → Inside w h l → link_number w h l < link_count w h
  number_lt l i = omega (arith, (of_block l.direction l.x l.y i).0, block_end l.direction)

  -- the tiles of a link that lies on the mesh
  pub start_lt : (l : MeshLink) → Inside w h l → start_of w l < w * h
  start_lt l i = mul-add-lt l.y w l.x h i.y_in i.x_in

  pub end_lt : (l : MeshLink) → Inside w h l → end_of w l < w * h
  end_lt l i = mul-add-lt (row l.direction l.y) w (column l.direction l.x) h i.y_next i.x_next
