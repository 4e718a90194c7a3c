use Rattle.std.proofs.Common.{refl}
use Rattle.std.proofs.lemmas.Result.{err_from_is_err_and}
use Rattle.clap.specs.Words.{found_of, rows_of}
use Rattle.cli_arguments.specs.Asking.{HasForm, HasGrouping, HasOrder}
use Rattle.cli_arguments.specs.declared.request.GroupFormat.{GroupFormat}
use Rattle.cli_arguments.specs.declared.request.Grouping.{Grouping}
use Rattle.cli_arguments.specs.declared.request.InputOrder.{InputOrder}
use Rattle.cli_arguments.proofs.Faults.{no_grouping_of_cut, usage_weaker}
use Rattle.cli_arguments.proofs.grouping.grouping_of.Goals as goal

pub returns-in_err-form-clause-err : goal.returns-in_err-form-clause-err
returns-in_err-form-clause-err c =
    let none = λ (none : (f : GroupFormat) → HasForm f (rows_of (found_of c.args.found.now)) → ⊥) (g : Grouping) (h : HasGrouping (rows_of (found_of c.args.found.now)) g). none g.form h.0 in
    let fault = err_from_is_err_and c.from_residual.result c.from_residual.ensures.1 in
    rw (fault.1, fault.2) (usage_weaker _ none c.in_err-form.ensures.err)

pub returns-in_err-order-clause-err : goal.returns-in_err-order-clause-err
returns-in_err-order-clause-err c =
    let none = λ (none : (o : InputOrder) → HasOrder o (rows_of (found_of c.args.found.now)) → ⊥) (g : Grouping) (h : HasGrouping (rows_of (found_of c.args.found.now)) g). none g.order h.1 in
    let fault = err_from_is_err_and c.from_residual-in_err-order.result c.from_residual-in_err-order.ensures.1 in
    rw (fault.1, fault.2) (usage_weaker _ none c.in_err-order.ensures.err)

pub returns-then-is_cut-clause-err : goal.returns-then-is_cut-clause-err
returns-then-is_cut-clause-err c = no_grouping_of_cut (rows_of (found_of c.args.found.now)) _ c.in_ok-form.ensures.ok (c.if-is_cut.ensures.cut refl)
