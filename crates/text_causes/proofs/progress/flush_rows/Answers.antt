use Rattle.std.proofs.Common.{◌++◌}
use Rattle.text_causes.proofs.TellLaws.{waited_text}
use Rattle.io_text.proofs.Sending.{flush_last}
use Rattle.text_causes.proofs.progress.flush_rows.Goals as goal

pub returns-clause-wrote : goal.returns-clause-wrote
returns-clause-wrote g c =
    flush_last _ _ _ _ _ c.flush.result
    (waited_text _ _ (c.args.buffer.now ++ c.args.row_buffer.now) c.hand_over.new.buffer c.hand_over.new.self c.in_ok-hand_over.ensures.empty c.in_ok-hand_over.ensures.sends) c.flush.ensures.wrote
