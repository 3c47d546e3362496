-- The meaning of the hub: its answers by its tables, and the heights of its links.
use Rattle.std.specs.Prelude.{ℕ, Bool, ◌&&◌, List, [], ◌∷◌, find, Some, None, Option, slice_get, slice_index_or, ◌==◌}
use Rattle.layouts.specs.declared.turn.Turn.{Turn}
use Rattle.layouts.specs.declared.turn.Turn.TheVariants.{Never}
use Rattle.layouts.specs.Layout.{Topology, TurnModel}
use Rattle.grid_tests.specs.declared.hub.TheConstants.{STRETCHES, TURNS}

-- the two tiles of a link, or 255 where there is no such link
abbrev pub start_of : Option (ℕ × ℕ) → ℕ
start_of None = 255
start_of (Some stretch) = stretch.0

abbrev pub end_of : Option (ℕ × ℕ) → ℕ
end_of None = 255
end_of (Some stretch) = stretch.1

abbrev pub topology_of_hub : Topology
topology_of_hub = record {
  tiles = 6;
  links = 10;
  start = λ link. start_of (slice_get STRETCHES link);
  end = λ link. end_of (slice_get STRETCHES link);
}

-- the word for the turn that is found in the table
abbrev pub word_in : Option (ℕ × ℕ × Turn) → Turn
word_in None = Never
word_in (Some turn) = turn.2

abbrev pub goes : ℕ → ℕ → (ℕ × ℕ × Turn) → Bool
goes a b turn = turn.0 == a && turn.1 == b

-- links into the hub lie lowest, then those out of it, then the one past tile 4
abbrev pub heights : List ℕ
heights = 1 ∷ (1 ∷ (1 ∷ (1 ∷ (1 ∷ (2 ∷ (2 ∷ (2 ∷ (2 ∷ (3 ∷ [])))))))))

abbrev pub turns_of_hub : TurnModel
turns_of_hub = record {
  turn = λ a b. word_in (find (goes a b) TURNS);
  height = λ link. slice_index_or heights link 0;
}
