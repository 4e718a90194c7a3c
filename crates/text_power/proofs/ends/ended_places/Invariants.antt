use Rattle.text_power.specs.Ends.{AreAnswers, is_ended, of_rung}
use Rattle.text_power.proofs.ends.ended_places.Given as goal

abbrev pub invariant-loop-at : goal.invariant-loop-at
invariant-loop-at l = AreAnswers (of_rung (is_ended l.end) l.rung) l.rung.program.now l.rung.number l.at l.ended
