use Rattle.text_power.specs.Ends.{AreAnswers, is_live, of_rung}
use Rattle.text_power.proofs.ends.live_places.Given as goal

abbrev pub invariant-loop-at : goal.invariant-loop-at
invariant-loop-at l = AreAnswers (of_rung is_live l.rung) l.rung.program.now l.rung.number l.at l.live
