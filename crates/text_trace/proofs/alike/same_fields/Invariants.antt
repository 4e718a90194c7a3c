use Rattle.std.specs.Prelude.{◌≡◌, map, take}
use Rattle.text_trace.specs.Watching.{column_text}
use Rattle.text_trace.proofs.alike.same_fields.Given as goal

abbrev pub invariant-loop-number : goal.invariant-loop-number
invariant-loop-number l =
    map (column_text l.decls l.before) (take l.number l.watched) ≡ map (column_text l.decls l.after) (take l.number l.watched)
