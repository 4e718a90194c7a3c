use Rattle.std.proofs.Common.{refl, rules}
use Rattle.text_causes.proofs.NearLaws.{pairs_more}
use Rattle.text_causes.proofs.kept.fill_pairs.Goals as goal

pub loop-low-preserved : goal.loop-low-preserved
loop-low-preserved c =
    pairs_more c.loop-low.pairs c.copy_from_slice.new.self _ _ c.loop-low.low refl (search rules) c.copy_from_slice.ensures.after c.loop-low.invariant
