-- The records of a plan: stream, source, target, demand, count of hops, and the hops.
use Rattle.std.specs.Prelude.{◌≡◌, ℕ, ◌+◌, ◌*◌, ◌/◌, ◌%◌, cond, List, ◌∷◌, length, map, Ok, Err, Result, nat_lt, slice_range}
use Rattle.routes.specs.declared.hop.Hop.{Hop}
use Rattle.routes.specs.declared.stream.Request.{Request}
use Rattle.routes.specs.Routes.{hop_on}
use Rattle.codec.specs.declared.number.ByteFault.{ByteFault}
use Rattle.codec.specs.declared.record.Record.{Record}
use Rattle.codec.specs.Reads.{then}
use Rattle.codec.specs.Numbers.{number_at}
use Rattle.codec.specs.Sequences.{numbers_at, behind, values_in}

-- a hop is numbered by its link and its lane, as if each link had four
abbrev pub hop_number : Hop → ℕ
hop_number h = h.link * 4 + h.lane

-- the hop that a number stands for
abbrev pub hop_of : ℕ → Hop
hop_of n = hop_on (n / 4) (n % 4)

-- the numbers of a record: stream, source, target, demand, count of hops, and the hops
unfoldable pub record_numbers : ℕ → Request → List Hop → List ℕ
record_numbers stream q hops = stream ∷ (q.source ∷ (q.target ∷ (q.demand ∷ (length hops ∷ map hop_number hops))))

-- What a record says, and where: its hops start at the byte `place`, and the byte `next` is behind them.
pub record Entry : Type 0 where
  pub stream : ℕ
  pub request : Request
  pub count : ℕ
  pub hops : List Hop
  pub place : ℕ
  pub next : ℕ

-- no hop is read where their count is above 24
abbrev pub hops_read : ℕ → ℕ
hops_read count = cond (nat_lt 24 count) 0 count

-- the record that starts at a byte
abbrev pub record_at : List ℕ → ℕ → Result Entry ByteFault
record_at plan start =
    then (number_at plan start) (λ stream.
    then (number_at plan stream.next) (λ source.
    then (number_at plan source.next) (λ target.
    then (number_at plan target.next) (λ demand.
    then (number_at plan demand.next) (λ count.
    then (numbers_at plan count.next (hops_read count.value)) (λ hops.
    Ok (record {
      stream = stream.value;
      request = record { source = source.value; target = target.value; demand = demand.value };
      count = count.value;
      hops = map hop_of hops.values;
      place = count.next;
      next = hops.next;
    })))))))

-- the hops of so many numbers from the first byte on
abbrev pub hops_in : List ℕ → ℕ → List Hop
hops_in bytes count = map hop_of (values_in (numbers_at bytes 0 count))

-- what a record says whose hops are read from its own hop bytes
abbrev pub entry_of : Record → Entry
entry_of r = record {
  stream = r.stream;
  request = r.request;
  count = r.count;
  hops = hops_in r.hops.now (hops_read r.count);
  place = r.place;
  next = r.next;
}

-- A record is read whose hop bytes are that part of the plan itself, and are all taken by its hops; or a fault.
abbrev pub ReadsRecord : List ℕ → ℕ → Result Record ByteFault → Type 0
ReadsRecord plan start (Ok r) =
    (record_at plan start ≡ Ok (entry_of r)) × (behind r.hops.now 0 (hops_read r.count) ≡ Ok (length r.hops.now)) × (r.hops.now ≡ slice_range plan r.place r.next)
ReadsRecord plan start (Err e) = record_at plan start ≡ Err e
