use Rattle.std.proofs.Common.{◌∙◌, sym}
use Rattle.std.proofs.lemmas.Result.{err_from_is_err_and}
use Rattle.st_expression.proofs.Steps.{begins_operand, begins_constant, begins_open, begins_not, begins_alone, begins_joined, deep_open, deep_not, deep_second, fails_empty, fails_close, fails_open, fails_not, fails_closer, fails_second, off_on, with_first}
use Rattle.st_expression.proofs.reading.+read_level.Goals as goal

pub returns-in_err-token-clause-fault : goal.returns-in_err-token-clause-fault
returns-in_err-token-clause-fault t c =
    let p = err_from_is_err_and c.from_residual.result c.from_residual.ensures.1 in
    rw (p.1, p.2) (fails_empty _ _ _ _ c.in_err-token.ensures.none.0 c.in_err-token.ensures.none.1)

pub returns-in_err-behind_close-in-Open-clause-fault :
    goal.returns-in_err-behind_close-in-Open-clause-fault
returns-in_err-behind_close-in-Open-clause-fault t c =
    let p = err_from_is_err_and c.from_residual-in_err-behind_close-in-Open.result c.from_residual-in_err-behind_close-in-Open.ensures.1 in
    rw (p.1, p.2) (fails_close _ _ _ _ _ _ _ c.in_err-behind_close-in-Open.ensures.none.0 (sym c.closer_than.ensures ∙ c.in_default.is)
    (with_first _ _ _ _ c.in_ok-token.ensures.first c.in-Open.is) c.in_ok-expression-in-Open.ensures.read c.in_err-behind_close-in-Open.ensures.none.1)

pub returns-in-Operand-clause-read : goal.returns-in-Operand-clause-read
returns-in-Operand-clause-read t c =
    begins_operand _ _ _ _ (sym c.closer_than.ensures ∙ c.in_default.is) (with_first _ _ _ _ c.in_ok-token.ensures.first c.in-Operand.is)

pub returns-in-Constant-clause-read : goal.returns-in-Constant-clause-read
returns-in-Constant-clause-read t c =
    begins_constant _ _ _ _ (sym c.closer_than.ensures ∙ c.in_default.is) (with_first _ _ _ _ c.in_ok-token.ensures.first c.in-Constant.is)

pub returns-in_ok-behind_close-in-Open-clause-read :
    goal.returns-in_ok-behind_close-in-Open-clause-read
returns-in_ok-behind_close-in-Open-clause-read t c =
    begins_open _ _ _ _ _ _ (sym c.closer_than.ensures ∙ c.in_default.is) (with_first _ _ _ _ c.in_ok-token.ensures.first c.in-Open.is)
    c.in_ok-expression-in-Open.ensures.read c.in_ok-behind_close-in-Open.ensures.close

pub returns-in_err-negated-clause-fault : goal.returns-in_err-negated-clause-fault
returns-in_err-negated-clause-fault t c =
    let p = err_from_is_err_and c.from_residual-in_err-negated.result c.from_residual-in_err-negated.ensures.1 in
    rw (p.1, p.2) (fails_not _ _ _ _ _ _ (c.begins_complement.ensures.0 c.if-begins_complement.true).0
    (with_first _ _ _ _ c.in_ok-token.ensures.first (c.begins_complement.ensures.0 c.if-begins_complement.true).1) c.in_ok-within.ensures.fewer c.in_err-negated.ensures.fault)

pub returns-then-begins_complement-clause-read : goal.returns-then-begins_complement-clause-read
returns-then-begins_complement-clause-read t c =
    begins_not _ _ _ _ _ _ (c.begins_complement.ensures.0 c.if-begins_complement.true).0
    (with_first _ _ _ _ c.in_ok-token.ensures.first (c.begins_complement.ensures.0 c.if-begins_complement.true).1) c.in_ok-negated.ensures.read c.in_ok-complement_of.ensures.not

pub returns-in_err-first-clause-fault : goal.returns-in_err-first-clause-fault
returns-in_err-first-clause-fault t c =
    let p = err_from_is_err_and c.from_residual-in_err-first.result c.from_residual-in_err-first.ensures.1 in
    rw (p.1, p.2) (fails_closer _ _ _ _ _ _ _ (sym c.closer_than.ensures ∙ c.in-Some.is) c.in_ok-token.ensures.first
    (λ both. off_on _ c.if-begins_complement.false (c.begins_complement.ensures.1 both)) c.in_err-first.ensures.fault)

pub returns-in_default-operator_of-clause-read : goal.returns-in_default-operator_of-clause-read
returns-in_default-operator_of-clause-read t c =
    begins_alone _ _ _ _ _ (sym c.closer_than.ensures ∙ c.in-Some.is) c.in_ok-first.ensures.read (c.operator_of.ensures.none c.in_default-operator_of.is)

pub returns-in_err-second-clause-fault : goal.returns-in_err-second-clause-fault
returns-in_err-second-clause-fault t c =
    let p = err_from_is_err_and c.from_residual-in_err-second.result c.from_residual-in_err-second.ensures.1 in
    rw (p.1, p.2) (fails_second _ _ _ _ _ _ _ _ _ _ (sym c.closer_than.ensures ∙ c.in-Some.is) c.in_ok-first.ensures.read
    c.in-Some-operator_of.ensures.operator c.in-Some-operator_of.ensures.level c.in_ok-within-2.ensures.fewer c.in_err-second.ensures.fault)

pub returns-clause-read : goal.returns-clause-read
returns-clause-read t c =
    begins_joined _ _ _ _ _ _ _ _ _ _ (sym c.closer_than.ensures ∙ c.in-Some.is) c.in_ok-first.ensures.read
    c.in-Some-operator_of.ensures.operator c.in-Some-operator_of.ensures.level c.in_ok-second.ensures.read c.in_ok-join.ensures.joined

pub returns-in_err-within-in-Open-clause-fault : goal.returns-in_err-within-in-Open-clause-fault
returns-in_err-within-in-Open-clause-fault t c =
    let p = err_from_is_err_and c.from_residual-in_err-within-in-Open.result c.from_residual-in_err-within-in-Open.ensures.1 in
    rw (p.1, p.2) (deep_open _ _ _ _ _ c.in_err-within-in-Open.ensures.none (with_first _ _ _ _ c.in_ok-token.ensures.first c.in-Open.is))

pub returns-in_err-expression-in-Open-clause-fault : goal.returns-in_err-expression-in-Open-clause-fault
returns-in_err-expression-in-Open-clause-fault t c =
    let p = err_from_is_err_and c.from_residual-in_err-expression-in-Open.result c.from_residual-in_err-expression-in-Open.ensures.1 in
    rw (p.1, p.2) (fails_open _ _ _ _ _ _ (sym c.closer_than.ensures ∙ c.in_default.is) (with_first _ _ _ _ c.in_ok-token.ensures.first c.in-Open.is)
    c.in_ok-within-in-Open.ensures.fewer c.in_err-expression-in-Open.ensures.fault)

pub returns-in_err-within-clause-fault : goal.returns-in_err-within-clause-fault
returns-in_err-within-clause-fault t c =
    let p = err_from_is_err_and c.from_residual-in_err-within.result c.from_residual-in_err-within.ensures.1 in
    rw (p.1, p.2) (deep_not _ _ _ _ _ c.in_err-within.ensures.none (with_first _ _ _ _ c.in_ok-token.ensures.first (c.begins_complement.ensures.0 c.if-begins_complement.true).1))

pub returns-in_err-within-2-clause-fault : goal.returns-in_err-within-2-clause-fault
returns-in_err-within-2-clause-fault t c =
    let p = err_from_is_err_and c.from_residual-in_err-within-2.result c.from_residual-in_err-within-2.ensures.1 in
    rw (p.1, p.2) (deep_second _ _ _ _ _ _ _ _ _ c.in_err-within-2.ensures.none c.in_ok-first.ensures.read
    c.in-Some-operator_of.ensures.operator c.in-Some-operator_of.ensures.level)
