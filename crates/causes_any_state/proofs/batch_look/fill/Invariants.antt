use Rattle.std.proofs.Common.{◌≡◌, take, map}
use Rattle.causes_query.specs.Patterns.{word_opened}
use Rattle.causes_query.specs.Prefixes.{signal_of}
use Rattle.scan_signals.specs.Words.{words}
use Rattle.causes_any_state.specs.Numbers.{block_bits}
use Rattle.causes_any_state.proofs.batch_look.fill.Given as goal

abbrev pub invariant-loop-input : goal.invariant-loop-input
invariant-loop-input l = take l.input l.image ≡ map (signal_of words word_opened l.listed (block_bits l.listed) l.base l.state.held.values) (take l.input l.inputs)
