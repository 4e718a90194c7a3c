use Rattle.std.proofs.Common.{rules}
use Rattle.xml_document.proofs.Runs.{nothing_passes, one_passes, passes_within, up_to, marked}
use Rattle.xml_document.proofs.characters.up_to.Goals as goal

pub loop-rest-init : goal.loop-rest-init
loop-rest-init c = nothing_passes _ _

pub loop-rest-preserved : goal.loop-rest-preserved
loop-rest-preserved c = one_passes _ _ _ _ _ c.loop-rest.invariant c.in_ok-after.ensures.first (search (rules, c.starts_with.ensures.value))

pub slice_bounds-result-count : goal.slice_bounds-result-count
slice_bounds-result-count c = passes_within _ _ _ c.loop-rest.invariant

pub returns : goal.returns
returns c = up_to _ _ _ _ c.loop-rest.invariant (marked _ _ (search (rules, c.starts_with.ensures.value)))
