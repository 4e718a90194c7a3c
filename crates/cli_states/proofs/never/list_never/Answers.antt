use Rattle.std.proofs.Common.{◌≡◌, ◌∙◌, Bool, ap, inl, length, refl, sym, false, true}
use Rattle.std.specs.Prelude.{◌==◌}
use Rattle.cli_inputs.specs.declared.fault.ToolFault.{ToolFault}
use Rattle.cli_inputs.specs.Setting.{Given, HasSettingFault, given_by}
use Rattle.cli_arguments.specs.declared.request.NeverRequest.{NeverRequest}
use Rattle.cli_states.specs.Never.{HasNeverFaultBy, assumes_nothing}
use Rattle.cli_states.proofs.never.list_never.Goals as goal

-- A fault of the texts is one of both.
of_texts : (nothing : Bool) (g : Given) (r : NeverRequest) (f : ToolFault) → HasSettingFault g f → HasNeverFaultBy nothing g r f
of_texts true g r f has = inl has
of_texts false g r f has = inl (inl has)

pub returns-in-Err-clause-failed : goal.returns-in-Err-clause-failed
returns-in-Err-clause-failed g c = λ save status. inl (record {
  reason = c.in-Err.fault;
  has = of_texts (assumes_nothing c.args.request.now) (given_by c.args.texts.now) c.args.request.now c.in-Err.fault c.in-Err.ensures.fault;
  unwritten = refl {a = g.O.Sink.log c.args.out.now};
  unsaved = refl {a = save};
  reported = c.report.ensures.line;
})

pub returns-then-is_empty-clause-done : goal.returns-then-is_empty-clause-done
returns-then-is_empty-clause-done g c = λ status.
    let nothing : assumes_nothing c.args.request.now ≡ true = ap (λ xs. length xs == 0) (sym c.as_slice-expressions.ensures.value) ∙ sym c.is_empty.ensures ∙ c.if-is_empty.true in
    rw nothing (c.list_from.ensures.done status)

pub returns-then-is_empty-clause-failed : goal.returns-then-is_empty-clause-failed
returns-then-is_empty-clause-failed g c = λ save status.
    let nothing : assumes_nothing c.args.request.now ≡ true = ap (λ xs. length xs == 0) (sym c.as_slice-expressions.ensures.value) ∙ sym c.is_empty.ensures ∙ c.if-is_empty.true in
    rw nothing (c.list_from.ensures.failed save status)

pub returns-clause-done : goal.returns-clause-done
returns-clause-done g c = λ status.
    let something : assumes_nothing c.args.request.now ≡ false = ap (λ xs. length xs == 0) (sym c.as_slice-expressions.ensures.value) ∙ sym c.is_empty.ensures ∙ c.if-is_empty.false in
    rw something (c.list_assuming.ensures.done status)

pub returns-clause-failed : goal.returns-clause-failed
returns-clause-failed g c = λ save status.
    let something : assumes_nothing c.args.request.now ≡ false = ap (λ xs. length xs == 0) (sym c.as_slice-expressions.ensures.value) ∙ sym c.is_empty.ensures ∙ c.if-is_empty.false in
    rw something (c.list_assuming.ensures.failed save status)
