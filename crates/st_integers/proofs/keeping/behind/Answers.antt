use Rattle.std.proofs.Common.{◌∙◌, sym, ap, subst, true≢false}
use Rattle.std.proofs.lemmas.Option.{none-some}
use Rattle.st_integers.specs.Values.{is_of_integer, stands_for}
use Rattle.st_integers.specs.Settings.{IsSetting}
use Rattle.st_integers.proofs.Begun.{chosen_is, is_chosen}
use Rattle.st_integers.proofs.Onward.{if_none, onward_none}
use Rattle.st_integers.proofs.keeping.behind.Goals as goal

pub returns-in_err-chosen-clause-none : goal.returns-in_err-chosen-clause-none
returns-in_err-chosen-clause-none c = if_none c.from_residual.result _ (λ rest sets.
    none-some _ (c.in_err-chosen.ensures ∙ chosen_is c.args.values.now c.args.integer rest c.args.list.now sets))

pub returns-then-not-is_of_integer-clause-none : goal.returns-then-not-is_of_integer-clause-none
returns-then-not-is_of_integer-clause-none c = λ rest sets.
    let same = is_chosen c.args.values.now c.args.integer c.in_ok-chosen.chosen rest c.args.list.now c.in_ok-chosen.ensures sets in
    true≢false (sym sets.is_value ∙ ap (stands_for c.args.values.now c.args.integer) (sym same) ∙ sym (ap (is_of_integer c.args.integer) c.value_of.ensures) ∙ sym c.if-not-is_of_integer.ensures)

pub returns-clause-none : goal.returns-clause-none
returns-clause-none c = onward_none c.behind_setting.result _ _ c.behind_setting.ensures.none (λ none rest sets.
    let same = is_chosen c.args.values.now c.args.integer c.in_ok-chosen.chosen rest c.args.list.now c.in_ok-chosen.ensures sets in
    none rest (subst (λ n. IsSetting c.args.values.now c.args.integer n 0 rest c.args.list.now) (sym same) sets.setting))
