use Rattle.std.proofs.Common.{◌≡◌, codes, refl, arith}
use Rattle.std.proofs.lemmas.Slice.Eq.{text_from_reads}
use Rattle.script.specs.Commands.{show_named, question_named}
use Rattle.script.proofs.Names.{no_name}
use Rattle.script.proofs.Saying.{said_parses}
use Rattle.script.proofs.parse.show.Goals as goal

pub returns-in_default : goal.returns-in_default
returns-in_default c =
    let not = no_name c.args.name.now in
    let a_question : show_named c.args.name.now c.args.words.now ≡ question_named c.args.name.now c.args.words.now =
    simp (
      not (codes "check") (λ same. grind arith),
      not (codes "rehearse") (λ same. grind arith),
      not (codes "report") (λ same. grind arith),
      not (codes "streams") (λ same. grind arith),
      not (codes "picture") (λ same. grind arith),
      not (codes "say") (λ same. grind arith),
    )
    refl
    in
    rw a_question (said_parses _ _ _ _ c.question.ensures)

pub returns-in-report : goal.returns-in-report
returns-in-report c = grind (arith, text_from_reads c.args.name.now (codes "report") (omega arith) (omega arith))

pub returns-in-streams : goal.returns-in-streams
returns-in-streams c = grind (arith, text_from_reads c.args.name.now (codes "streams") (omega arith) (omega arith))

pub returns-in-picture : goal.returns-in-picture
returns-in-picture c = grind (arith, text_from_reads c.args.name.now (codes "picture") (omega arith) (omega arith))

pub returns-in-rehearse : goal.returns-in-rehearse
returns-in-rehearse c = grind (arith, text_from_reads c.args.name.now (codes "rehearse") (omega arith) (omega arith))
