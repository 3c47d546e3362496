-- What declines a seek, by what declines its search.
use Rattle.std.proofs.Common.{◌≡◌, Some, None, Option}
use Rattle.std.specs.Option.{option_or}

-- where none of the checks a, b and c declines, and v does not, none of b, v and c does
pub none_declines : {A : Type 0} (a b c v : Option A) → option_or a (option_or b c) ≡ None → v ≡ None → option_or b (option_or v c) ≡ None
none_declines None None c None all none = all
none_declines None None c (Some d) all none = cc
none_declines None (Some d) c v all none = cc
none_declines (Some d) b c v all none = cc
