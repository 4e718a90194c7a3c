use Rattle.std.proofs.Common.{rules}
use Rattle.xml_document.proofs.Runs.{no_run, longer_run, run_front}
use Rattle.xml_document.proofs.characters.run_of.Goals as goal

pub loop-b-init : goal.loop-b-init
loop-b-init c = no_run _ _

pub loop-b-preserved : goal.loop-b-preserved
loop-b-preserved c = longer_run _ _ _ _ _ c.loop-b.invariant c.in-Some.ensures.first (search (rules, c.is_of.ensures, c.if-not-is_of.false))

pub returns : goal.returns
returns c = run_front _ _ _ c.loop-b.invariant
