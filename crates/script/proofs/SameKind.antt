-- When two kinds are the same.
use Rattle.std.proofs.Common.{◌≡◌, true, refl, ap, ◌∙◌}
use Rattle.script.specs.declared.bytes.Kind.{Kind}
use Rattle.script.specs.declared.bytes.Kind.TheVariants.{Blank, Hash, Letter}
use Rattle.script.specs.Bytes.{same_kind}

same : (k : Kind) → same_kind k k ≡ true
same Blank = refl
same Hash = refl
same Letter = refl

pub same_kind_lem : (k j : Kind) → j ≡ k → same_kind k j ≡ true
same_kind_lem k j e = ap (same_kind k) e ∙ same k
