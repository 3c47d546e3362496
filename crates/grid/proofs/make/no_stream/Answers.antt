use Rattle.std.proofs.Common.{refl, ap, sym, ◌∙◌}
use Rattle.std.specs.Option.{option_map}
use Rattle.routes.specs.Routes.{stream_of}
use Rattle.grid.proofs.StreamTables.{none_open}
use Rattle.grid.proofs.make.no_stream.Goals as goal

pub invariant_of-result : goal.invariant_of-result
invariant_of-result c = record {
  all = refl;
  placed = λ n s open_so. let none = sym (none_open 64 n) ∙ open_so in cc;
}

pub returns : goal.returns
returns c = (refl, refl, λ n. ap (option_map stream_of) (none_open 64 n))
