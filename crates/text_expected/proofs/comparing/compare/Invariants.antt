use Rattle.std.specs.Prelude.{◌≡◌, List}
use Rattle.io_text.specs.Left.{Fields, Left}
use Rattle.text_expected.specs.Stepping.{ArePlain, IsAt}
use Rattle.text_expected.proofs.comparing.compare.Given as goal

abbrev pub invariant-loop-number : goal.invariant-loop-number
invariant-loop-number g l =
    ArePlain l.both × (g.W.Sink.log l.writer ≡ g.W.Sink.log l.fn.writer)
    × ((xs ys : List Fields) → Left l.fn.both.expected xs → Left l.fn.both.found ys → IsAt xs ys l.number l.both)
