use Rattle.assume_always.proofs.Opposites.{always, not_false, not_true, sometimes}
use Rattle.assume_always.proofs.always.is_always_true.Goals as goal

pub returns-in-Ok-clause-always : goal.returns-in-Ok-clause-always
returns-in-Ok-clause-always c = λ is.
    always c.args.expression c.in_ok-new.field-0 c.in_ok-new.ensures.ok (c.in-Ok.ensures.none (not_true c.in-Ok.is_found is))

pub returns-in-Ok-clause-sometimes : goal.returns-in-Ok-clause-sometimes
returns-in-Ok-clause-sometimes c = λ is.
    sometimes c.args.expression c.in_ok-new.field-0 c.in_ok-new.ensures.ok (c.in-Ok.ensures.some (not_false c.in-Ok.is_found is))
