-- The bytes of a line by their kind.
use Rattle.std.specs.Prelude.{ℕ, Bool, true, false, cond, ◌||◌, List, ◌==◌}
use Rattle.std.specs.List.{prefix_len}
use Rattle.script.specs.declared.bytes.Kind.{Kind}
use Rattle.script.specs.declared.bytes.Kind.TheVariants.{Blank, Hash, Letter}

-- blanks are the space, the tab, the carriage return and the line feed; 35 is the code of #
abbrev pub kind : ℕ → Kind
kind b = cond (b == 32 || (b == 9 || (b == 13 || b == 10))) Blank (cond (b == 35) Hash Letter)

abbrev pub same_kind : Kind → Kind → Bool
same_kind Blank Blank = true
same_kind Blank Hash = false
same_kind Blank Letter = false
same_kind Hash Blank = false
same_kind Hash Hash = true
same_kind Hash Letter = false
same_kind Letter Blank = false
same_kind Letter Hash = false
same_kind Letter Letter = true

-- how many bytes at the front are of kind k
abbrev pub run : Kind → List ℕ → ℕ
run k bs = prefix_len (λ b. same_kind k (kind b)) bs
