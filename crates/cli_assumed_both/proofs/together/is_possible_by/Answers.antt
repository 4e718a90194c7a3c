use Rattle.std.proofs.Common.{◌∙◌, subst, sym, ℕ, List}
use Rattle.assume_both.specs.Both.{AreVariablesOf}
use Rattle.cli_assumed_both.proofs.Inputs.{are_variables}
use Rattle.cli_assumed_both.proofs.together.is_possible_by.Goals as goal

pub is_possible_together-requires-clause-old_inputs : goal.is_possible_together-requires-clause-old_inputs
is_possible_together-requires-clause-old_inputs c =
    subst (λ (xs : List ℕ). AreVariablesOf c.args.old.now xs) (sym (c.deref.ensures.value ∙ c.in_ok-old_inputs.ensures)) (are_variables c.args.old.now)

pub is_possible_together-requires-clause-new_inputs : goal.is_possible_together-requires-clause-new_inputs
is_possible_together-requires-clause-new_inputs c =
    subst (λ (xs : List ℕ). AreVariablesOf c.args.new.now xs) (sym (c.deref-2.ensures.value ∙ c.in_ok-new_inputs.ensures)) (are_variables c.args.new.now)
