use Rattle.std.proofs.Common.{false, refl}
use Rattle.std.specs.Prelude.{slice_index_or}
use Rattle.std.proofs.lemmas.Option.{slice_get-get_or}
use Rattle.text_trace.proofs.SameAt.{same_at}
use Rattle.text_trace.proofs.alike.same_values.Goals as goal

pub returns-then-not-same_value-clause-other : goal.returns-then-not-same_value-clause-other
returns-then-not-same_value-clause-other c = λ no same.
    c.if-not-same_value.ensures.other refl
    (same_at (λ n. slice_index_or c.args.before.now.held.values n false) (λ n. slice_index_or c.args.after.now.held.values n false) c.args.outputs.now c.loop-number.number _
    (slice_get-get_or c.args.outputs.now c.loop-number.number 0 c.loop-number-test.true) same)
