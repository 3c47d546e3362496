use Rattle.std.proofs.Common.{codes, refl, arith}
use Rattle.std.proofs.lemmas.Slice.Eq.{text_from_reads}
use Rattle.script.proofs.Names.{no_name}
use Rattle.script.proofs.parse.question.Goals as goal

pub returns-in-stream : goal.returns-in-stream
returns-in-stream c = grind (arith, text_from_reads c.args.name.now (codes "stream") (omega arith) (omega arith))

pub returns-in-route : goal.returns-in-route
returns-in-route c = grind (arith, text_from_reads c.args.name.now (codes "route") (omega arith) (omega arith))

pub returns-in-linkload : goal.returns-in-linkload
returns-in-linkload c = grind (arith, text_from_reads c.args.name.now (codes "linkload") (omega arith) (omega arith))

pub returns-in-count : goal.returns-in-count
returns-in-count c = grind (arith, text_from_reads c.args.name.now (codes "count") (omega arith) (omega arith))

pub returns-in-items : goal.returns-in-items
returns-in-items c = grind (arith, text_from_reads c.args.name.now (codes "items") (omega arith) (omega arith))

pub returns-in-ahead : goal.returns-in-ahead
returns-in-ahead c = grind (arith, text_from_reads c.args.name.now (codes "ahead") (omega arith) (omega arith))

pub returns-in_default : goal.returns-in_default
returns-in_default c =
    let not = no_name c.args.name.now in
    simp (
      not (codes "stream") (λ same. grind arith),
      not (codes "route") (λ same. grind arith),
      not (codes "linkload") (λ same. grind arith),
      not (codes "count") (λ same. grind arith),
      not (codes "items") (λ same. grind arith),
      not (codes "ahead") (λ same. grind arith),
      not (codes "write") (λ same. grind arith),
    )
    refl
