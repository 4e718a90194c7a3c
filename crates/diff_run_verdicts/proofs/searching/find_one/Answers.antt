use Rattle.diff_runs.specs.Assuming.{assumptions}
use Rattle.diff_run_verdicts.proofs.searching.find_one.Goals as goal

pub returns-then-not-has_row : goal.returns-then-not-has_row
returns-then-not-has_row c =
    let s = c.args.seeking.sides in
    c.nothing_known.ensures (assumptions s.assumed) s.matching.now s.old.now s.new.now c.args.symbols

pub returns-in_default : goal.returns-in_default
returns-in_default c =
    let s = c.args.seeking.sides in
    c.nothing_known-in_default.ensures (assumptions s.assumed) s.matching.now s.old.now s.new.now c.args.symbols
