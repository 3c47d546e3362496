-- The chains of links, link by link.
use Rattle.std.proofs.Common.{ℕ, replicate, List, None, Option, arith}
use Rattle.std.proofs.lemmas.List.{get_or-replicate}
use Rattle.layouts.specs.Layout.{Meaning}
use Rattle.search.specs.declared.incoming.Incoming.{Incoming}
use Rattle.search.specs.Incoming.{Chains}

abbrev pub chains : List (Option ℕ) → List (Option ℕ) → Incoming
chains last previous = record { last = last; previous = previous }

pub chains_none : (m : Meaning) → Chains m 0 (chains (replicate 64 None) (replicate 256 None))
chains_none m = record { last = λ tile less. get_or-replicate 64 tile None None less; previous = λ link less. absurd (omega arith) }
