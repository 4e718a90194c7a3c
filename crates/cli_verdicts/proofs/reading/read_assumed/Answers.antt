use Rattle.std.specs.Global.{Global}
use Rattle.std.specs.Prelude.{String}
use Rattle.std.proofs.Common.{List, inr, refl, subst}
use Rattle.cli_inputs.specs.Setting.{given_by}
use Rattle.cli_assumed_both.specs.Together.{HasAssumedFault}
use Rattle.cli_verdicts.proofs.reading.read_assumed.Goals as goal

pub returns-in-Err-clause-refused : goal.returns-in-Err-clause-refused
returns-in-Err-clause-refused g c = λ out save.
    let fault = c.in-Err.fault in
    let p = c.args.programs.now.old in
    let q = c.args.programs.now.new in
    let has = subst (λ (texts : List (String Global)). HasAssumedFault fault.side (given_by c.args.texts.now.old) (given_by c.args.texts.now.new)
    (record { expressions = texts; takes_comments = c.args.request.now.takes_comments }) p q fault.fault) c.as_slice.ensures.value c.in-Err.ensures.fault in
    record {
      side = fault.side;
      reason = fault.fault;
      has = inr (p, q, c.requires.old, c.requires.new, has);
      unwritten = refl {a = out};
      unsaved = refl {a = save};
      reported = c.report.ensures.line;
    }
