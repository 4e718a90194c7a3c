use Rattle.io_text.proofs.Sending.{flush_all, flush_prefix, puts_err}
use Rattle.text_runs.specs.RunText.{brief_text}
use Rattle.text_runs.proofs.brief.write_brief_run.Goals as goal

pub returns-in_err-flush : goal.returns-in_err-flush
returns-in_err-flush g c = record {
  wrote = puts_err _ _ _ _ c.from_residual-in_err-flush.ensures.0
      (flush_prefix _ _ _ _ (brief_text c.args.program.now c.args.run.now) (rw c.new-buffer.ensures at c.in_ok-add_brief.ensures) c.in_err-flush.ensures.wrote);
}

pub returns : goal.returns
returns g c = record {
  wrote = flush_all _ _ _ _ (brief_text c.args.program.now c.args.run.now) (rw c.new-buffer.ensures at c.in_ok-add_brief.ensures) c.in_ok-flush.ensures.wrote;
}
