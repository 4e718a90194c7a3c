use Rattle.std.proofs.Common.{length}
use Rattle.plc_elements.proofs.body.+have_memories.Given as goal

abbrev pub decreases-have_memories : goal.decreases-have_memories
decreases-have_memories l = length l.effects.now
