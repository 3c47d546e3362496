-- Calls made after others, as one history.
use Rattle.std.proofs.Common.{◌≡◌, ◌+◌, ◌++◌, refl, sym, ap, ◌∙◌, append-nil, append_assoc, arith}
use Rattle.model.specs.Grid.{Setting, Grid}
use Rattle.model.specs.Calls.{Call, outcome}
use Rattle.model.specs.Runs.{History, start, ◌▸◌, after_from, answer_from, let_in_from, handed_out_from, steps_gone_from, then_calls, entering, leaving, going}

-- What calls leave, let in, hand out and count, begun on the grid that others leave, is theirs after the others.
module _ {T : Type 0} (S : Setting) (g : Grid T) (past : History T) where
  abbrev between : Grid T
  between = after_from S g past

  pub after_joined : (more : History T) → after_from S between more ≡ after_from S g (then_calls past more)
  after_joined start = refl
  after_joined (more ▸ c) = ap (λ (g : Grid T). (outcome S g c).grid) (after_joined more)

  answer_joined : (more : History T) (c : Call T) → answer_from S between more c ≡ answer_from S g (then_calls past more) c
  answer_joined more c = ap (λ (g : Grid T). (outcome S g c).answer) (after_joined more)

  pub let_in_joined : (more : History T) → let_in_from S g (then_calls past more) ≡ let_in_from S g past ++ let_in_from S between more
  let_in_joined start = sym (append-nil (let_in_from S g past))
  let_in_joined (more ▸ c) =
      ap (λ l. l ++ entering c (answer_from S g (then_calls past more) c)) (let_in_joined more)
      ∙ append_assoc (let_in_from S g past) (let_in_from S between more) (entering c (answer_from S g (then_calls past more) c))
      ∙ ap (λ a. let_in_from S g past ++ (let_in_from S between more ++ entering c a)) (sym (answer_joined more c))

  pub handed_joined : (more : History T) → handed_out_from S g (then_calls past more) ≡ handed_out_from S g past ++ handed_out_from S between more
  handed_joined start = sym (append-nil (handed_out_from S g past))
  handed_joined (more ▸ c) =
      ap (λ l. l ++ leaving (answer_from S g (then_calls past more) c)) (handed_joined more)
      ∙ append_assoc (handed_out_from S g past) (handed_out_from S between more) (leaving (answer_from S g (then_calls past more) c))
      ∙ ap (λ a. handed_out_from S g past ++ (handed_out_from S between more ++ leaving a)) (sym (answer_joined more c))

  pub gone_joined : (more : History T) → steps_gone_from S g (then_calls past more) ≡ steps_gone_from S g past + steps_gone_from S between more
  gone_joined start = omega arith
  gone_joined (more ▸ c) = omega (arith, gone_joined more, ap (going c) (answer_joined more c))
