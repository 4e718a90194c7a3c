use Rattle.std.proofs.Common.{◌≡◌, ◌+◌, ◌++◌, ◌≤◌, length, None}
use Rattle.diagram_page.specs.ReadLines.{blanked_from, unclosed_from}
use Rattle.diagram_page.specs.declared.lines.Inside.TheVariants as inside
use Rattle.diagram_page.proofs.lines.shown_text.Given as goal

abbrev pub invariant-loop-text : goal.invariant-loop-text
invariant-loop-text l = record {
  seen : l.seen.items ++ blanked_from l.inside l.text ≡ blanked_from inside.Plain l.initial.text;
  unclosed : unclosed_from l.inside l.line l.unclosed l.text ≡ unclosed_from inside.Plain 0 None l.initial.text;
  within : l.line + length l.text ≤ length l.initial.text;
}

abbrev pub decreases-loop-text : goal.decreases-loop-text
decreases-loop-text l = length l.text
