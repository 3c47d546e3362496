-- The plan of the open streams, as it is written.
use Rattle.std.specs.Prelude.{ℕ, zero, suc, ◌+◌, List, [], ◌∷◌, ◌++◌, length, flat_map, Some, None, Option}
use Rattle.routes.specs.Routes.{OpenStream}
use Rattle.routes.specs.Loads.{stream_count}
use Rattle.codec.specs.declared.head.Head.{Head}
use Rattle.codec.specs.Sequences.{numbers_bytes}
use Rattle.codec.specs.Heads.{head_numbers}
use Rattle.codec.specs.Records.{record_numbers}

-- a stream with its number, if it is open
abbrev pub numbered : ℕ → Option OpenStream → List (ℕ × OpenStream)
numbered n None = []
numbered n (Some s) = (n, s) ∷ []

-- the open streams of k numbers from n on, in rising number
abbrev pub listed : (ℕ → Option OpenStream) → ℕ → ℕ → List (ℕ × OpenStream)
listed streams n zero = []
listed streams n (suc k) = numbered n (streams n) ++ listed streams (n + 1) k

-- all open streams, in rising number
unfoldable pub open_streams : (ℕ → Option OpenStream) → List (ℕ × OpenStream)
open_streams streams = listed streams 0 stream_count

-- the numbers of a stream's record
abbrev pub stream_numbers : (ℕ × OpenStream) → List ℕ
stream_numbers r = record_numbers r.0 r.1.request r.1.hops

-- the numbers of records, one after another
abbrev pub records_numbers : List (ℕ × OpenStream) → List ℕ
records_numbers records = flat_map stream_numbers records

-- the plan of the open streams under a head
abbrev pub plan_bytes : Head → (ℕ → Option OpenStream) → List ℕ
plan_bytes h streams = numbers_bytes (head_numbers h (length (open_streams streams)) ++ records_numbers (open_streams streams))
