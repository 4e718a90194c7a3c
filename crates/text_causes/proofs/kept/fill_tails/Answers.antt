use Rattle.std.proofs.Common.{refl, rules}
use Rattle.text_causes.proofs.NearLaws.{tails_more}
use Rattle.text_causes.proofs.kept.fill_tails.Goals as goal

pub loop-bits-preserved : goal.loop-bits-preserved
loop-bits-preserved c =
    tails_more c.loop-bits.tails c.fill_end.new.text _ _ c.loop-bits.bits refl (search rules) (search rules) c.loop-bits.invariant c.fill_end.ensures
