use Rattle.std.proofs.Common.{◌<◌, ℕ, get_or}
use Rattle.scan_signals.specs.Words.{IsWord}
use Rattle.scan_signals.specs.declared.word.Word64.{Word64}
use Rattle.scan_held.proofs.lane_firsts.are_words.Given as goal

abbrev pub invariant-loop-input : goal.invariant-loop-input
invariant-loop-input l = (k : ℕ) (d : Word64) → k < l.input-index → IsWord (get_or l.inputs k d)
