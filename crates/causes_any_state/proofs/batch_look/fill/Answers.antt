use Rattle.std.proofs.Common.{◌∙◌}
use Rattle.causes_query.specs.Patterns.{word_opened}
use Rattle.causes_query.specs.Prefixes.{signal_of}
use Rattle.scan_signals.specs.Words.{words}
use Rattle.causes_any_state.specs.Numbers.{block_bits}
use Rattle.causes_any_state.proofs.Words.{one_more}
use Rattle.causes_any_state.proofs.batch_look.fill.Goals as goal

pub loop-input-preserved : goal.loop-input-preserved
loop-input-preserved c =
    let listed = c.args.listed.now in
    one_more (signal_of words word_opened listed (block_bits listed) c.args.base c.args.state.now.held.values) c.loop-input.image c.args.inputs.now
    c.loop-input.input c.signal.result (c.loop-input.auto.image ∙ c.requires.as_many) c.loop-input-test.true c.loop-input.invariant c.signal.ensures
