-- Heads and records that are written are read again.
use Rattle.std.proofs.Common.{◌≡◌, ℕ, suc, ◌+◌, ◌*◌, ◌/◌, ◌%◌, ◌<◌, ◌≤◌, false, nat_lt, List, [], ◌∷◌, ◌++◌, length, map, drop, Ok, refl, sym, ap, ◌∙◌, arith, append_assoc}
use Rattle.std.proofs.lemmas.List.{length-map}
use Rattle.std.proofs.lemmas.Bool.Decides.{nat_tests}
use Rattle.routes.specs.declared.hop.Hop.{Hop}
use Rattle.routes.specs.declared.stream.Request.{Request}
use Rattle.routes.specs.Routes.{hop_at}
use Rattle.codec.specs.declared.head.Head.{Head}
use Rattle.codec.specs.declared.head.HeadNumbers.{HeadNumbers}
use Rattle.codec.specs.declared.number.Number.{Number}
use Rattle.codec.specs.Numbers.{number_at, number_bytes}
use Rattle.codec.specs.Heads.{head_numbers, head_at, values_of}
use Rattle.codec.specs.Sequences.{sequence, numbers_at, numbers_bytes}
use Rattle.codec.specs.Records.{Entry, hops_read, hop_number, hop_of, record_numbers, record_at}
use Rattle.codec.proofs.Standing.{written_read}
use Rattle.codec.proofs.Sequenced.{Small, behind_bytes, numbers_read}
use Rattle.codec.proofs.Entries.{with_hops, entry}

-- numbers stand at a place as they are written, in front of a rest
pub record Ahead (plan : List ℕ) (place : ℕ) (ns rest : List ℕ) : Type 0 where
  pub bytes : drop place plan ≡ numbers_bytes ns ++ rest

-- the first of them is read, and the others stand behind it
pub record Reread (plan : List ℕ) (place n : ℕ) (ns rest : List ℕ) : Type 0 where
  pub number : Number
  pub value : number.value ≡ n
  pub is : number_at plan place ≡ Ok number
  pub ahead : Ahead plan number.next ns rest

pub first_reread : {plan : List ℕ} {place n : ℕ} {ns rest : List ℕ} → Ahead plan place (n ∷ ns) rest → n ≤ 65535 → Reread plan place n ns rest
first_reread {plan} {place} {n} {ns} {rest} ahead small =
    let stands = ahead.bytes ∙ append_assoc (number_bytes n) (numbers_bytes ns) rest in
    record {
      number = record { value = n; place = place; next = place + length (number_bytes n) };
      value = refl;
      is = rw stands (written_read place n (numbers_bytes ns ++ rest) small);
      ahead = record { bytes = behind_bytes plan place (number_bytes n) (numbers_bytes ns ++ rest) stands };
    }

pub record HeadReread (plan : List ℕ) (h : Head) (count : ℕ) (rest : List ℕ) : Type 0 where
  pub numbers : HeadNumbers
  pub is : head_at plan ≡ Ok numbers
  pub values : values_of numbers ≡ h
  pub count_is : numbers.count.value ≡ count
  pub rest_is : drop numbers.count.next plan ≡ rest

pub head_in_turn : (plan : List ℕ) (version rule width height lanes depth capacity count : Number) → number_at plan 0 ≡ Ok version → number_at plan version.next ≡ Ok rule
    → number_at plan rule.next ≡ Ok width → number_at plan width.next ≡ Ok height → number_at plan height.next ≡ Ok lanes → number_at plan lanes.next ≡ Ok depth
    → number_at plan depth.next ≡ Ok capacity → number_at plan capacity.next ≡ Ok count
    → head_at plan ≡ Ok (record { version = version; rule = rule; width = width; height = height; lanes = lanes; depth = depth; capacity = capacity; count = count })
head_in_turn plan version rule width height lanes depth capacity count a b c d e f g h = rw (a, b, c, d, e, f, g, h) refl

pub head_reread : {plan : List ℕ} {h : Head} {count : ℕ} {rest : List ℕ} → Small (head_numbers h count) → Ahead plan 0 (head_numbers h count) rest → HeadReread plan h count rest
unfolding head_numbers
head_reread {plan} {h} {count} {rest} small stands =
    let version = first_reread stands small.0 in
    let rule = first_reread version.ahead small.1.0 in
    let width = first_reread rule.ahead small.1.1.0 in
    let height = first_reread width.ahead small.1.1.1.0 in
    let lanes = first_reread height.ahead small.1.1.1.1.0 in
    let depth = first_reread lanes.ahead small.1.1.1.1.1.0 in
    let capacity = first_reread depth.ahead small.1.1.1.1.1.1.0 in
    let streams = first_reread capacity.ahead small.1.1.1.1.1.1.1.0 in
    record {
      numbers = record {
        version = version.number;
        rule = rule.number;
        width = width.number;
        height = height.number;
        lanes = lanes.number;
        depth = depth.number;
        capacity = capacity.number;
        count = streams.number;
      };
      is = head_in_turn plan version.number rule.number width.number height.number lanes.number depth.number capacity.number streams.number
          version.is rule.is width.is height.is lanes.is depth.is capacity.is streams.is;
      values = rw (version.value, rule.value, width.value, height.value, lanes.value, depth.value, capacity.value) refl;
      count_is = streams.value;
      rest_is = streams.ahead.bytes;
    }

same_hops : (hops : List Hop) → ((k : ℕ) → k < length hops → (hop_at hops k).lane < 4) → map hop_of (map hop_number hops) ≡ hops
same_hops [] lanes = refl
same_hops (h ∷ hops) lanes =
    let low : h.lane < 4 = lanes 0 (omega arith) in
    let link : (h.link * 4 + h.lane) / 4 ≡ h.link = omega arith in
    let lane : (h.link * 4 + h.lane) % 4 ≡ h.lane = omega arith in
    rw (link, lane) (ap (λ more. h ∷ more) (same_hops hops (λ k less. lanes (suc k) (omega arith))))

-- a record, with what it says and where it ends
pub record RecordReread (plan : List ℕ) (start stream : ℕ) (q : Request) (hops : List Hop) (rest : List ℕ) : Type 0 where
  pub entry : Entry
  pub is : record_at plan start ≡ Ok entry
  pub stream_is : entry.stream ≡ stream
  pub request_is : entry.request ≡ q
  pub hops_are : entry.hops ≡ hops
  pub rest_is : drop entry.next plan ≡ rest

pub record_reread : {plan : List ℕ} {start stream : ℕ} {q : Request} {hops : List Hop} {rest : List ℕ} → length hops ≤ 24
    → ((k : ℕ) → k < length hops → (hop_at hops k).lane < 4) → Small (record_numbers stream q hops) → Ahead plan start (record_numbers stream q hops) rest
    → RecordReread plan start stream q hops rest
unfolding record_numbers
record_reread {plan} {start} {stream} {q} {hops} {rest} few lanes small stands =
    let number = first_reread stands small.0 in
    let source = first_reread number.ahead small.1.0 in
    let target = first_reread source.ahead small.1.1.0 in
    let demand = first_reread target.ahead small.1.1.1.0 in
    let count = first_reread demand.ahead small.1.1.1.1.0 in
    let ns = map hop_number hops in
    let fits : nat_lt 24 (length hops) ≡ false = grind (arith, nat_tests) in
    let all : hops_read count.number.value ≡ length ns = rw (count.value, fits) (sym (length-map hops hop_number)) in
    let next = count.number.next + length (numbers_bytes ns) in
    let read : numbers_at plan count.number.next (hops_read count.number.value) ≡ Ok (sequence ns next) =
    ap (numbers_at plan count.number.next) all ∙ numbers_read plan count.number.next ns rest small.1.1.1.1.1 count.ahead.bytes in
    record {
      entry = entry number.number source.number target.number demand.number count.number (map hop_of ns) next;
      is = with_hops plan start number.number source.number target.number demand.number count.number (sym number.is) (sym source.is) (sym target.is) (sym demand.is) (sym count.is)
          (sequence ns next) read;
      stream_is = number.value;
      request_is = rw (source.value, target.value, demand.value) refl;
      hops_are = same_hops hops lanes;
      rest_is = behind_bytes plan count.number.next (numbers_bytes ns) rest count.ahead.bytes;
    }
