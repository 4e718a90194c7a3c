use Rattle.std.proofs.Common.{refl}
use Rattle.std.proofs.lemmas.Option.{slice_get-get_or}
use Rattle.text_trace.specs.declared.column.Column.TheVariants as column
use Rattle.text_trace.specs.Watching.{column_text}
use Rattle.text_trace.proofs.SameAt.{same_at}
use Rattle.text_trace.proofs.alike.same_fields.Goals as goal

pub returns-then-not-same_field-clause-other : goal.returns-then-not-same_field-clause-other
returns-then-not-same_field-clause-other c = λ no same.
    c.if-not-same_field.ensures.other refl
    (same_at (column_text c.args.decls.now c.args.before.now) (column_text c.args.decls.now c.args.after.now) c.args.watched.now c.loop-number.number _
    (slice_get-get_or c.args.watched.now c.loop-number.number (column.Value 0) c.loop-number-test.true) same)
