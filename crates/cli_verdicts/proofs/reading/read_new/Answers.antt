use Rattle.std.proofs.Common.{refl}
use Rattle.cli_verdicts.proofs.reading.read_new.Goals as goal

pub returns-in-Err-clause-refused : goal.returns-in-Err-clause-refused
returns-in-Err-clause-refused g c = λ out save.
    record {
      side = c.of.result.side;
      reason = c.of.result.fault;
      has = rw c.of.ensures (c.args.old, c.requires, c.in-Err.ensures.fault);
      unwritten = refl {a = out};
      unsaved = refl {a = save};
      reported = c.report.ensures.line;
    }
