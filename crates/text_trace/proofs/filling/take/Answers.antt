use Rattle.text_trace.specs.Coming.{Comes}
use Rattle.text_trace.proofs.Coming.{none_takes, still_come}
use Rattle.text_trace.proofs.filling.take.Goals.{then-not-filling+in_ok-found+else-not-found, else-not-filling}
use Rattle.text_trace.proofs.filling.take.Goals as goal

pub returns-then-not-found-clause-takes : goal.returns-then-not-found-clause-takes
returns-then-not-found-clause-takes c = λ all comes.
    none_takes c.args.columns.now all c.in_ok-found.found c.read_ahead.new.filling c.if-not-found.true (c.in_ok-found.ensures.comes all comes)

pub returns-then-filling-gt0-clause-takes : goal.returns-then-filling-gt0-clause-takes
returns-then-filling-gt0-clause-takes c = λ all comes.
    let here : Comes c.args.columns.now c.if-not-filling.filling all = elim c.if-not-filling.branch [
      | then-not-filling+in_ok-found+else-not-found w ↦ still_come c.args.columns.now all w.in_ok-found.found w.read_ahead.new.filling c.if-not-filling.filling w.if-not-found.false w.filling-is (w.in_ok-found.ensures.comes all comes)
      | else-not-filling w ↦ rw w.filling-is comes
    ] in
    c.take_between.ensures.takes all here

pub returns-clause-takes : goal.returns-clause-takes
returns-clause-takes c = λ all comes.
    let here : Comes c.args.columns.now c.if-not-filling.filling all = elim c.if-not-filling.branch [
      | then-not-filling+in_ok-found+else-not-found w ↦ still_come c.args.columns.now all w.in_ok-found.found w.read_ahead.new.filling c.if-not-filling.filling w.if-not-found.false w.filling-is (w.in_ok-found.ensures.comes all comes)
      | else-not-filling w ↦ rw w.filling-is comes
    ] in
    c.take_ahead.ensures.takes all here
