use Rattle.std.proofs.Common.{◌≤◌, ◌+◌, ◌-◌, vec_len}
use Rattle.std.specs.Io.KnownBytes.{Consumes}
use Rattle.io_text.specs.Calls.{AllPass}
use Rattle.io_text.proofs.text.read_text.Given as goal

abbrev pub invariant-loop-count : goal.invariant-loop-count
invariant-loop-count g l = (vec_len l.text ≤ l.limit)
    × ((g.R.Source.log l.reader).tally.calls ≤ (g.R.Source.log l.fn.reader).tally.calls + vec_len l.text)
    × AllPass (g.R.Source.log l.fn.reader).tally (g.R.Source.log l.reader).tally
    × Consumes (g.R.Source.log l.fn.reader).remaining (g.R.Source.log l.reader).remaining l.text.items

abbrev pub decreases-loop-count : goal.decreases-loop-count
decreases-loop-count g l = l.limit - vec_len l.text
