use Rattle.std.proofs.Common.{◌++◌, sym}
use Rattle.io_text.proofs.Sending.{sends_err, sends_more, sends_prefix, sends_same}
use Rattle.cli_usage.specs.Rules.{term_text}
use Rattle.cli_usage.proofs.Parts.{parts_cut, parts_more}
use Rattle.cli_usage.proofs.telling.add_others.Goals as goal

pub loop-term-preserved : goal.loop-term-preserved
loop-term-preserved g c =
    sends_same _ _ _ _ _ _ (sym (parts_more (λ t. c.args.word.now ++ term_text t) c.args.terms.now c.loop-term.term-index _ c.loop-term-test.true))
    (sends_more _ _ _ _ _ _ _ _ c.loop-term.invariant c.in_ok-add_other.ensures)

pub returns-in_err-add_other : goal.returns-in_err-add_other
returns-in_err-add_other g c = sends_err _ _ _ _ _ _ c.from_residual.ensures.0
    (sends_prefix _ _ _ _ _ _ _ _ _ (parts_cut (λ t. c.args.word.now ++ term_text t) c.args.terms.now c.loop-term.term-index _ c.loop-term-test.true)
    c.loop-term.invariant c.in_err-add_other.ensures)
