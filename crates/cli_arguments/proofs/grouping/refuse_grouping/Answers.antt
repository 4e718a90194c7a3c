use Rattle.std.proofs.lemmas.Result.{err_from_is_err_and}
use Rattle.clap.specs.Words.{found_of, rows_of}
use Rattle.cli_arguments.specs.Asking.{HasForm, HasOrder}
use Rattle.cli_arguments.specs.declared.request.GroupFormat.TheVariants.{Table}
use Rattle.cli_arguments.specs.declared.request.InputOrder.{InputOrder}
use Rattle.cli_arguments.specs.declared.request.InputOrder.TheVariants.{Given}
use Rattle.cli_arguments.proofs.Faults.{not_sifted, usage_weaker}
use Rattle.cli_arguments.proofs.grouping.refuse_grouping.Goals as goal

pub returns-in_err-order_of-clause-err : goal.returns-in_err-order_of-clause-err
returns-in_err-order_of-clause-err c =
    let none = λ (none : (o : InputOrder) → HasOrder o (rows_of (found_of c.args.found.now)) → ⊥) (form : HasForm Table (rows_of (found_of c.args.found.now))). none Given in
    let fault = err_from_is_err_and c.from_residual.result c.from_residual.ensures.1 in
    rw (fault.1, fault.2) (usage_weaker _ none c.in_err-order_of.ensures.err)

pub returns-in-Sifted-clause-err : goal.returns-in-Sifted-clause-err
returns-in-Sifted-clause-err c = λ form. not_sifted (rows_of (found_of c.args.found.now)) (rw c.in-Sifted.is at c.in_ok-order_of.ensures.ok)
