-- A head that is read stands at the front of its plan as it is written.
use Rattle.std.proofs.Common.{◌≡◌, ℕ, List, Ok, Result, refl, subst}
use Rattle.codec.specs.declared.head.HeadNumbers.{HeadNumbers}
use Rattle.codec.specs.Reads.{then}
use Rattle.codec.specs.Numbers.{number_at}
use Rattle.codec.specs.Heads.{head_numbers, head_at, values_of}
use Rattle.codec.specs.Sequences.{sequence, numbers_at}
use Rattle.codec.proofs.Sequences.{then_ok}
use Rattle.codec.proofs.Standing.{Bytes}
use Rattle.codec.proofs.Sequenced.{StandAt, numbers_stand}

-- the numbers of a head, read one after another
record HeadRead (plan : List ℕ) (h : HeadNumbers) : Type 0 where
  version : number_at plan 0 ≡ Ok h.version
  rule : number_at plan h.version.next ≡ Ok h.rule
  width : number_at plan h.rule.next ≡ Ok h.width
  height : number_at plan h.width.next ≡ Ok h.height
  lanes : number_at plan h.height.next ≡ Ok h.lanes
  depth : number_at plan h.lanes.next ≡ Ok h.depth
  capacity : number_at plan h.depth.next ≡ Ok h.capacity
  count : number_at plan h.capacity.next ≡ Ok h.count

pub same_ok : {A E : Type 0} (x y : A) → ◌≡◌ {A = Result A E} (Ok x) (Ok y) → x ≡ y
same_ok x y is = cc

-- what follows from a value and from what is read after it, where something is
pub from_then : {A B E C : Type 0} (r : Result A E) (f : A → Result B E) (y : B) → then r f ≡ Ok y → ((x : A) → r ≡ Ok x → f x ≡ Ok y → C) → C
from_then r f y is follows = let first = then_ok r f y is in follows first.0 first.1 first.2

head_read : (plan : List ℕ) (h : HeadNumbers) → head_at plan ≡ Ok h → HeadRead plan h
head_read plan h is =
    from_then (number_at plan 0) _ h is (λ version a from_version.
    from_then (number_at plan version.next) _ h from_version (λ rule b from_rule.
    from_then (number_at plan rule.next) _ h from_rule (λ width c from_width.
    from_then (number_at plan width.next) _ h from_width (λ height d from_height.
    from_then (number_at plan height.next) _ h from_height (λ lanes e from_lanes.
    from_then (number_at plan lanes.next) _ h from_lanes (λ depth f from_depth.
    from_then (number_at plan depth.next) _ h from_depth (λ capacity g from_capacity.
    from_then (number_at plan capacity.next) _ h from_capacity (λ count k from_count.
    subst (HeadRead plan) (same_ok _ h from_count)
    (record { version = a; rule = b; width = c; height = d; lanes = e; depth = f; capacity = g; count = k })))))))))

numbers_of_head : (plan : List ℕ) (h : HeadNumbers) → HeadRead plan h → numbers_at plan 0 8 ≡ Ok (sequence (head_numbers (values_of h) h.count.value) h.count.next)
unfolding numbers_at head_numbers
numbers_of_head plan h read = rw (read.version, read.rule, read.width, read.height, read.lanes, read.depth, read.capacity, read.count) refl

pub head_stands : (plan : List ℕ) (h : HeadNumbers) → Bytes plan → head_at plan ≡ Ok h → StandAt plan 0 (sequence (head_numbers (values_of h) h.count.value) h.count.next)
head_stands plan h all is = numbers_stand plan all 8 0 _ (numbers_of_head plan h (head_read plan h is))
