-- The words of a line.
use Rattle.std.specs.Prelude.{ℕ, List, [], ◌∷◌, ◌++◌}
use Rattle.script.specs.declared.bytes.Kind.{Kind}
use Rattle.script.specs.declared.bytes.Kind.TheVariants.{Blank, Hash, Letter}
use Rattle.script.specs.Bytes.{kind}

-- a word that has come to its end, ahead of the words behind it; one without letters is none
abbrev pub ended : List ℕ → List (List ℕ) → List (List ℕ)
ended [] ws = ws
ended (c ∷ w) ws = (c ∷ w) ∷ ws

abbrev pub by_kind : {A : Type 0} → Kind → A → A → A → A
by_kind Blank a b c = a
by_kind Hash a b c = b
by_kind Letter a b c = c

-- the words of bs, where w is the word so far: a blank ends it, a hash ends all
abbrev pub words_after : List ℕ → List ℕ → List (List ℕ)
words_after w [] = ended w []
words_after w (b ∷ bs) = by_kind (kind b) (ended w (words_after [] bs)) (ended w []) (words_after (w ++ b ∷ []) bs)

abbrev pub words_of : List ℕ → List (List ℕ)
words_of bs = words_after [] bs
