use Rattle.std.proofs.Common.{inl, refl}
use Rattle.assume_always.proofs.always.says_always.Goals as goal

pub returns-in-Ok-is_always_true-clause-always : goal.returns-in-Ok-is_always_true-clause-always
returns-in-Ok-is_always_true-clause-always c = λ is number more.
    inl (c.in-Ok.expression, c.in-Ok.ensures.read, c.in-Ok-is_always_true.ensures.always is, refl)
