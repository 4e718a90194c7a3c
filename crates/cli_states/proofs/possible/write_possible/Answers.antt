use Rattle.std.proofs.Common.{◌≡◌, ◌⊎◌, List, Option, ap, inl, inr, length, refl, subst, ℕ}
use Rattle.std.specs.Prelude.{option_map}
use Rattle.cli_inputs.specs.Reports.{HasCauseFault}
use Rattle.cli_inputs.specs.declared.fault.ToolFault.{ToolFault}
use Rattle.cli_assumed.specs.Assumed.{HasTruthFault, MayBeTrue}
use Rattle.cli_questions.specs.Query.{question_of}
use Rattle.cli_questions.specs.declared.counting.ListCounts.{ListCounts}
use Rattle.cli_states.specs.AnyState.{PossibleRowsBy, possible_refusal_by}
use Rattle.cli_states.specs.Query.{at_stored}
use Rattle.cli_states.proofs.PossibleEnds.{writes_as}
use Rattle.cli_states.proofs.possible.write_possible.Goals as goal

pub returns-in-Err : goal.returns-in-Err
returns-in-Err g c = inl (inl c.in-Err.ensures.refused, refl)

pub returns : goal.returns
returns g c =
    let r = c.args.request.now in
    let q = at_stored (question_of c.args.asked.now) in
    let assumed = option_map (λ e. e.now) c.args.assumed in
    let many : length c.as_slice-texts.result.now ≡ length r.assumed.items = ap length c.as_slice-texts.ensures.value in
    let is : (text : List ℕ) (n : Option ListCounts) → PossibleRowsBy r.runs r.grouped assumed (length c.as_slice-texts.result.now) r q text n
    → MayBeTrue assumed × PossibleRowsBy r.runs r.grouped assumed (length r.assumed.items) r q text n =
    λ text n h. (c.in-Ok.ensures.satisfiable, subst (λ (k : ℕ). PossibleRowsBy r.runs r.grouped assumed k r q text n) many h) in
    let refuses : (f : ToolFault) → HasCauseFault (possible_refusal_by r.runs r.grouped q) f → HasTruthFault assumed f ⊎ HasCauseFault (possible_refusal_by r.runs r.grouped q) f =
    λ f h. inr h in
    writes_as _ _ _ _ _ _ _ is refuses c.write_any.ensures
