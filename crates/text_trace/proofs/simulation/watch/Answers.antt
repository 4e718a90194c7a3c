use Rattle.text_trace.proofs.simulation.watch.Goals as goal

pub returns-in-true-clause-ends : goal.returns-in-true-clause-ends
returns-in-true-clause-ends g c = rw c.in-true.is c.watch_changes.ensures.ends

pub returns-in-false-clause-ends : goal.returns-in-false-clause-ends
returns-in-false-clause-ends g c = rw c.in-false.is c.watch_whole.ensures.ends
