use Rattle.std.proofs.Common.{◌≡◌, codes, refl, arith}
use Rattle.std.proofs.lemmas.Slice.Eq.{text_from_reads}
use Rattle.script.specs.Commands.{call_named, show_named}
use Rattle.script.proofs.Names.{no_name}
use Rattle.script.proofs.parse.call.Goals as goal

pub returns-in-close : goal.returns-in-close
returns-in-close c = grind (arith, text_from_reads c.args.name.now (codes "close") (omega arith) (omega arith))

pub returns-in-sweep : goal.returns-in-sweep
returns-in-sweep c = grind (arith, text_from_reads c.args.name.now (codes "sweep") (omega arith) (omega arith))

pub returns-in-drain : goal.returns-in-drain
returns-in-drain c = grind (arith, text_from_reads c.args.name.now (codes "drain") (omega arith) (omega arith))

pub returns-in_default : goal.returns-in_default
returns-in_default c =
    let not = no_name c.args.name.now in
    let no_call : call_named c.args.name.now c.args.words.now ≡ show_named c.args.name.now c.args.words.now =
    simp (
      not (codes "open") (λ same. grind arith),
      not (codes "seek") (λ same. grind arith),
      not (codes "close") (λ same. grind arith),
      not (codes "send") (λ same. grind arith),
      not (codes "step") (λ same. grind arith),
      not (codes "sweep") (λ same. grind arith),
      not (codes "drain") (λ same. grind arith),
      not (codes "load") (λ same. grind arith),
    )
    refl
    in
    rw no_call (grind (arith, c.show.ensures))
