use Rattle.std.proofs.Common.{◌≡◌, ◌∙◌, ap, ap₂, arith, length, map, true, false, Bool, List}
use Rattle.std.specs.Prelude.{IsFalse, IsTrue}
use Rattle.assume_truth.specs.Truth.{is_allowed}
use Rattle.invariant_cases.specs.Assuming.{assumed_of}
use Rattle.assume_both.specs.Both.{CannotBeTrueInBoth, MayBeTrueInBoth, joint_number}
use Rattle.assume_both.proofs.Jointly.{each_ok, none_together, some_together}
use Rattle.assume_both.proofs.both.is_possible_together.Goals as goal

pub joint_numbers-requires : goal.joint_numbers-requires
joint_numbers-requires c = λ k d within.
    omega (
      arith,
      c.requires.new_inputs k d within,
      c.few_variables.ensures,
      c.few_variables-2.ensures,
      ap (λ xs. length xs) (c.vars-behind.ensures.value ∙ ap (λ d. d.vars) c.decls.ensures),
    )

pub returns-in-Ok-clause-some : goal.returns-in-Ok-clause-some
returns-in-Ok-clause-some c =
    let m = c.args.matching.now in
    let a = assumed_of c.args.old_assumed in
    let b = assumed_of c.args.new_assumed in
    let behind : length c.vars-behind.result.now ≡ length c.args.old.now.decls.vars = ap (λ xs. length xs) (c.vars-behind.ensures.value ∙ ap (λ d. d.vars) c.decls.ensures) in
    let at : c.as_slice.result.now ≡ map (joint_number m.inputs (length c.args.old.now.decls.vars)) b.inputs =
    c.as_slice.ensures.value ∙ c.in_ok-numbers.ensures ∙ ap₂ (λ pairs n. map (joint_number pairs n) b.inputs) c.inputs.ensures behind in
    each_ok c.is_ever_true.result (λ found. IsTrue found → (values : List Bool) × (is_allowed c.in-Ok.joint values ≡ true)) (λ found. IsTrue found → MayBeTrueInBoth m a b)
    (λ found known is. some_together c.args.old.now c.args.new.now m c.requires.suited a b c.requires.old_inputs c.requires.new_inputs c.in-Ok.joint c.as_slice.result.now at c.in-Ok.ensures.joint (known is))
    c.is_ever_true.ensures.some

pub returns-in-Ok-clause-none : goal.returns-in-Ok-clause-none
returns-in-Ok-clause-none c =
    let m = c.args.matching.now in
    let a = assumed_of c.args.old_assumed in
    let b = assumed_of c.args.new_assumed in
    let behind : length c.vars-behind.result.now ≡ length c.args.old.now.decls.vars = ap (λ xs. length xs) (c.vars-behind.ensures.value ∙ ap (λ d. d.vars) c.decls.ensures) in
    let at : c.as_slice.result.now ≡ map (joint_number m.inputs (length c.args.old.now.decls.vars)) b.inputs =
    c.as_slice.ensures.value ∙ c.in_ok-numbers.ensures ∙ ap₂ (λ pairs n. map (joint_number pairs n) b.inputs) c.inputs.ensures behind in
    each_ok c.is_ever_true.result (λ found. IsFalse found → (values : List Bool) → is_allowed c.in-Ok.joint values ≡ false) (λ found. IsFalse found → CannotBeTrueInBoth m a b)
    (λ found known is. none_together c.args.old.now c.args.new.now m c.requires.suited a b c.requires.old_inputs c.requires.new_inputs c.in-Ok.joint c.as_slice.result.now at c.in-Ok.ensures.joint (known is))
    c.is_ever_true.ensures.none
