-- The tiles and links of a mesh of width w and height h.
use Rattle.std.specs.Prelude.{◌≡◌, ℕ, ◌+◌, ◌-◌, ◌*◌, ◌/◌, ◌%◌, ◌<◌, Bool, true, ◌&&◌, cond, Some, None, Option, nat_le, nat_lt}
use Rattle.std.specs.Option.{option_map}
use Rattle.layouts.specs.declared.direction.Direction.{Direction}
use Rattle.layouts.specs.declared.direction.Direction.TheVariants.{East, West, North, South}
use Rattle.layouts.specs.declared.link.MeshLink.{MeshLink}
use Rattle.layouts.specs.declared.link.Span.{Span}

-- a side of a mesh is 2 to 8 tiles long
abbrev pub side_allowed : ℕ → Bool
side_allowed n = nat_le 2 n && nat_le n 8

-- the sizes that a mesh may have
abbrev pub InRange : ℕ → ℕ → Type 0
InRange w h = (side_allowed w ≡ true) × (side_allowed h ≡ true)

-- the number of the tile in column x and row y
abbrev pub tile : ℕ → ℕ → ℕ → ℕ
tile w x y = y * w + x

-- the column and the row that one step leads to
abbrev pub column : Direction → ℕ → ℕ
column East x = x + 1
column West x = x - 1
column North x = x
column South x = x

abbrev pub row : Direction → ℕ → ℕ
row East y = y
row West y = y
row North y = y + 1
row South y = y - 1

-- there is a column or row left to step to
abbrev pub Leaves : Direction → ℕ → ℕ → Type 0
Leaves East x y = Unit {0}
Leaves West x y = 0 < x
Leaves North x y = Unit {0}
Leaves South x y = 0 < y

-- A link of the mesh leaves one of its tiles, and leads to one.
pub record Inside (w h : ℕ) (l : MeshLink) : Type 0 where
  pub x_in : l.x < w
  pub y_in : l.y < h
  pub leaves : Leaves l.direction l.x l.y
  pub x_next : column l.direction l.x < w
  pub y_next : row l.direction l.y < h

-- the tile that a link leaves, and the one that it leads to
abbrev pub start_of : ℕ → MeshLink → ℕ
start_of w l = tile w l.x l.y

abbrev pub end_of : ℕ → MeshLink → ℕ
end_of w l = tile w (column l.direction l.x) (row l.direction l.y)

abbrev pub span_of : ℕ → MeshLink → Span
span_of w l = record { link = l; start = start_of w l; end = end_of w l }

-- how many links lead east, and how many north; as many lead back
abbrev pub level : ℕ → ℕ → ℕ
level w h = h * (w - 1)

abbrev pub upright : ℕ → ℕ → ℕ
upright w h = w * (h - 1)

abbrev pub link_count : ℕ → ℕ → ℕ
link_count w h = 2 * level w h + 2 * upright w h

-- The links are numbered in four blocks, one to a direction, each row by row. Here is where a block begins.
abbrev pub base : ℕ → ℕ → Direction → ℕ
base w h East = 0
base w h West = level w h
base w h North = 2 * level w h
base w h South = 2 * level w h + upright w h

-- the place of a link within its block; a stretch has one place in both directions
abbrev pub place : ℕ → Direction → ℕ → ℕ → ℕ
place w East x y = y * (w - 1) + x
place w West x y = y * (w - 1) + (x - 1)
place w North x y = y * w + x
place w South x y = (y - 1) * w + x

-- the number of a link
abbrev pub link_number : ℕ → ℕ → MeshLink → ℕ
link_number w h l = base w h l.direction + place w l.direction l.x l.y

abbrev pub mesh_link : Direction → ℕ → ℕ → MeshLink
mesh_link d x y = record { direction = d; x = x; y = y }

-- the link at a place of a block
abbrev pub link_in : ℕ → Direction → ℕ → MeshLink
link_in w East j = mesh_link East (j % (w - 1)) (j / (w - 1))
link_in w West j = mesh_link West (j % (w - 1) + 1) (j / (w - 1))
link_in w North j = mesh_link North (j % w) (j / w)
link_in w South j = mesh_link South (j % w) (j / w + 1)

-- the link of a number, if there is one
abbrev pub link_at : ℕ → ℕ → ℕ → Option MeshLink
link_at w h k =
    cond (nat_lt k (base w h West)) (Some (link_in w East k))
    (cond (nat_lt k (base w h North)) (Some (link_in w West (k - base w h West)))
    (cond (nat_lt k (base w h South)) (Some (link_in w North (k - base w h North)))
    (cond (nat_lt k (link_count w h)) (Some (link_in w South (k - base w h South)))
    None)))

-- the same with the tiles that it joins
abbrev pub span_at : ℕ → ℕ → ℕ → Option Span
span_at w h k = option_map (span_of w) (link_at w h k)
