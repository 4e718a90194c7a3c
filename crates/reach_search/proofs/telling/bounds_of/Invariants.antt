use Rattle.scan_partial.specs.Sizes.{HasSizes}
use Rattle.reach_search.proofs.telling.bounds_of.Given as goal

abbrev pub invariant-loop-scan : goal.invariant-loop-scan
invariant-loop-scan l = record {
  before : HasSizes l.query.program.now l.before;
  after : HasSizes l.query.program.now l.after;
}
