use Rattle.std.specs.Prelude.{map, string_bytes}
use Rattle.io_text.proofs.Sending.{puts_err}
use Rattle.cli_views.proofs.Notes.{note_cut, notes_next}
use Rattle.cli_views.proofs.showing.+put_assumed.Goals as goal

pub returns-in_err-put_note : goal.returns-in_err-put_note
returns-in_err-put_note g t c =
    puts_err _ _ _ _ c.from_residual.ensures.0
    (note_cut _ _ (map string_bytes c.args.expressions.now) (map string_bytes c.in-Some.behind.now) c.in-Some.expression.now c.in-Some.ensures.first c.in_err-put_note.ensures)

pub returns : goal.returns
returns g t c =
    notes_next _ _ _ (map string_bytes c.args.expressions.now) (map string_bytes c.in-Some.behind.now) c.in-Some.expression.now c.put_assumed.result
    c.in-Some.ensures.first c.in_ok-put_note.ensures c.put_assumed.ensures
