use Rattle.std.proofs.Common.{sym, ◌∙◌, arith}
use Rattle.std.proofs.lemmas.Bool.Decides.{nat_tests}
use Rattle.diagram_declarations.proofs.Durations.{ends, stops, refuses, goes_on}
use Rattle.diagram_declarations.proofs.time.total_of.Goals as goal

pub returns-in_err-number-2 : goal.returns-in_err-number-2
returns-in_err-number-2 c =
    let none = rw c.after_underscore.ensures.value at c.in_err-number-2.ensures.value in
    c.from_residual-in_err-number-2.ensures ∙ sym (stops _ _ _ _ c.loop-rest.invariant.stands (sym c.is_empty.ensures ∙ c.loop-rest-test.true) none)

pub returns-then-not-may_follow : goal.returns-then-not-may_follow
returns-then-not-may_follow c =
    let part = rw c.after_underscore.ensures.value at c.in_ok-number-2.ensures.value in
    sym (refuses _ _ _ _ _ c.loop-rest.invariant.stands (sym c.is_empty.ensures ∙ c.loop-rest-test.true) part (grind (arith, nat_tests)))

pub loop-rest-preserved : goal.loop-rest-preserved
loop-rest-preserved c =
    let part = rw c.after_underscore.ensures.value at c.in_ok-number-2.ensures.value in
    record {
      small = omega arith;
      stands = rw c.with_part-total-in-loop-rest.ensures.value (goes_on _ _ _ _ _ c.loop-rest.invariant.stands (sym c.is_empty.ensures ∙ c.loop-rest-test.true) part
          (grind (arith, nat_tests))
          (omega (arith, c.in_ok-number-2.ensures.shorter, c.after_underscore.ensures.shorter)));
    }

pub returns : goal.returns
returns c = sym (ends _ _ _ _ c.loop-rest.invariant.stands (sym c.is_empty.ensures ∙ c.loop-rest-test.false))
