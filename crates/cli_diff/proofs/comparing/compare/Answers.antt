use Rattle.std.proofs.Common.{inl, refl}
use Rattle.cli_inputs.specs.Setting.{given_by}
use Rattle.cli_diff.specs.AssumedEnding.{assumes_nothing}
use Rattle.cli_diff.proofs.AssumedEnds.{own_fault_first}
use Rattle.cli_diff.proofs.comparing.compare.Goals as goal

pub returns-in-Err-clause-failed : goal.returns-in-Err-clause-failed
returns-in-Err-clause-failed g c = λ save status.
    let r = c.args.request.now in
    let e = c.in-Err.fault in
    inl (record {
      side = e.side;
      reason = e.fault;
      has = own_fault_first (assumes_nothing r) (given_by c.args.texts.now.old) (given_by c.args.texts.now.new) r e.side e.fault c.in-Err.ensures.fault;
      unwritten = refl {a = g.O.Sink.log c.args.out.now};
      unsaved = refl {a = save};
      reported = c.report.ensures.line;
    })
