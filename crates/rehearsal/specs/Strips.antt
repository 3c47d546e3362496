-- The strips of a rehearsal, and how it counts.
use Rattle.std.specs.Prelude.{ℕ, ◌+◌, Bool, true, ◌&&◌, List, [], ◌∷◌, ◌==◌, min}
use Rattle.lanes.specs.declared.strip.Strip.{Strip}

-- the strip of a row that a stream sends: of fragment 0, and its band is the number of the stream
abbrev pub strip_of : ℕ → ℕ → Strip
strip_of n row = record { fragment = 0; band = n; row = row }

abbrev pub is_strip : ℕ → ℕ → Strip → Bool
is_strip n row x = x.fragment == 0 && x.band == n && x.row == row

-- whether strips are, in order, those of the rows from one on
abbrev pub are_rows : ℕ → ℕ → List Strip → Bool
are_rows n row [] = true
are_rows n row (x ∷ xs) = is_strip n row x && are_rows n (row + 1) xs

-- a count, held at the largest number of 64 bits
abbrev pub counted : ℕ → ℕ
counted k = min k 18446744073709551615
