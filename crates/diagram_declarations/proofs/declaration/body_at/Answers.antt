use Rattle.std.proofs.Common.{sym, ap, ◌∙◌, Some, refl, arith}
use Rattle.std.proofs.lemmas.Result.{err_from_is_err_and}
use Rattle.diagram_declarations.specs.ReadDecls.{body_at}
use Rattle.diagram_declarations.proofs.BodyReads.{fits, no_word, refuses, ends, goes}
use Rattle.diagram_declarations.proofs.declaration.body_at.Goals as goal

pub loop-word-init : goal.loop-word-init
unfolding body_at
loop-word-init c = record { turns = _; enough = omega arith; within = omega arith; same = refl }

pub returns-in_err-word-clause-value : goal.returns-in_err-word-clause-value
returns-in_err-word-clause-value c =
    let p = err_from_is_err_and c.from_residual.result c.from_residual.ensures.1 in
    rw (p.1, p.2) (no_word _ _ _ _ c.loop-word.invariant c.in_err-word.ensures.value)

pub returns-in-Some-Ends-clause-value : goal.returns-in-Some-Ends-clause-value
returns-in-Some-Ends-clause-value c =
    rw c.in-Some-Ends.body-is (ends _ _ _ _ _ _ c.loop-word.invariant c.in_ok-word.ensures.value (sym c.step.ensures ∙ c.in-Some-Ends.is ∙ ap Some c.in-Some-Ends.field-0-is))

pub returns-in-None-clause-value : goal.returns-in-None-clause-value
returns-in-None-clause-value c =
    rw c.misfit.ensures (refuses _ _ _ _ _ c.loop-word.invariant c.in_ok-word.ensures.value (sym c.step.ensures ∙ c.in-None.is))

pub loop-word-preserved : goal.loop-word-preserved
loop-word-preserved c =
    rw c.in-Some-Goes.next-is (goes _ _ _ _ _ _ c.loop-word.invariant c.in_ok-word.ensures.value c.in_ok-word.ensures.shorter
    (sym c.step.ensures ∙ c.in-Some-Goes.is ∙ ap Some c.in-Some-Goes.field-0-is))

pub returns-in-Some-Ends-clause-fits : goal.returns-in-Some-Ends-clause-fits
returns-in-Some-Ends-clause-fits c =
    rw c.in-Some-Ends.body-is (fits _ _ _ (ends _ _ _ _ _ _ c.loop-word.invariant c.in_ok-word.ensures.value
    (sym c.step.ensures ∙ c.in-Some-Ends.is ∙ ap Some c.in-Some-Ends.field-0-is)))
