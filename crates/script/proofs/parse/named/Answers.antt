use Rattle.std.proofs.Common.{◌≡◌, codes, refl, arith}
use Rattle.std.proofs.lemmas.Slice.Eq.{text_from_reads}
use Rattle.script.specs.Commands.{call_named, named_instruction}
use Rattle.script.proofs.Names.{no_name}
use Rattle.script.proofs.parse.named.Goals as goal

pub returns-in-judge : goal.returns-in-judge
returns-in-judge c = grind (arith, text_from_reads c.args.name.now (codes "judge") (omega arith) (omega arith))

pub returns-in_default : goal.returns-in_default
returns-in_default c =
    let not = no_name c.args.name.now in
    let a_call : named_instruction c.args.name.now c.args.words.now ≡ call_named c.args.name.now c.args.words.now =
    simp (
      not (codes "mesh") (λ same. grind arith),
      not (codes "link") (λ same. grind arith),
      not (codes "turn") (λ same. grind arith),
      not (codes "judge") (λ same. grind arith),
      not (codes "grid") (λ same. grind arith),
    )
    refl
    in
    rw a_call c.call.ensures
