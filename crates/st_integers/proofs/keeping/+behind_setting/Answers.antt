use Rattle.std.proofs.Common.{sym}
use Rattle.st_integers.proofs.Begun.{first_constant}
use Rattle.st_integers.proofs.Onward.{if_none}
use Rattle.st_integers.proofs.keeping.+behind_setting.Goals as goal

pub returns-in_err-next-clause-none : goal.returns-in_err-next-clause-none
returns-in_err-next-clause-none t c = if_none c.from_residual.result _ (λ rest is.
    let first = first_constant c.args.values.now c.args.integer c.args.chosen c.args.number rest c.args.list.now c.in-len1-up.len_at_least (sym c.if-not-is_of_integer.ensures) is in
    c.in_err-next.ensures.none first.0 first.1)
