use Rattle.std.proofs.Common.{◌≡◌, ◌∙◌, ap, length, sym, true, false}
use Rattle.std.specs.Prelude.{◌==◌}
use Rattle.cli_questions.specs.Query.{question_of}
use Rattle.cli_states.specs.AnyState.{assumes_nothing}
use Rattle.cli_states.specs.Query.{at_stored}
use Rattle.cli_states.proofs.PossibleEnds.{written_by}
use Rattle.cli_states.proofs.possible.PossibleRowsListForm.write.Goals as goal

pub returns-then-is_empty : goal.returns-then-is_empty
returns-then-is_empty g c =
    let r = c.args.self.now.request.now in
    let nothing : assumes_nothing r ≡ true = ap (λ xs. length xs == 0) (sym c.as_slice-assumed.ensures.value) ∙ sym c.is_empty.ensures ∙ c.if-is_empty.true in
    written_by r (at_stored (question_of c.args.asked.now)) _ _ _ (assumes_nothing r) true nothing c.write_any.ensures

pub returns : goal.returns
returns g c =
    let r = c.args.self.now.request.now in
    let something : assumes_nothing r ≡ false = ap (λ xs. length xs == 0) (sym c.as_slice-assumed.ensures.value) ∙ sym c.is_empty.ensures ∙ c.if-is_empty.false in
    written_by r (at_stored (question_of c.args.asked.now)) _ _ _ (assumes_nothing r) false something c.write_assuming.ensures
