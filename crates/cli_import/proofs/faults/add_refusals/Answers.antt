use Rattle.std.proofs.Common.{◌+◌, ◌∙◌, append_assoc, drop, get_or, sym, take}
use Rattle.io_text.proofs.Sending.{sends_prefix, sends_more, sends_same, sends_err}
use Rattle.cli_import.specs.Lines.{refusal_text, refusals_text}
use Rattle.cli_import.proofs.RefusalLaws.{refusals-cut, refusals-take}
use Rattle.cli_import.proofs.faults.add_refusals.Goals as goal

pub loop-refusal-preserved : goal.loop-refusal-preserved
loop-refusal-preserved g c =
    let rs = c.args.refusals.now in
    let i = c.loop-refusal.refusal-index in
    sends_same _ _ _ _ _ _ (sym (refusals-take c.args.why rs i _ c.loop-refusal-test.true))
    (sends_more _ _ _ _ _ _ (refusals_text c.args.why (take i rs)) _ c.loop-refusal.invariant c.in_ok-add_refusal.ensures)

pub returns-in_err-add_refusal : goal.returns-in_err-add_refusal
returns-in_err-add_refusal g c = sends_err _ _ _ _ _ _ c.from_residual.ensures.0
    (let rs = c.args.refusals.now in
    let i = c.loop-refusal.refusal-index in
    sends_prefix _ _ _ _ _ (refusals_text c.args.why rs) (refusals_text c.args.why (take i rs)) _ (refusals_text c.args.why (drop (i + 1) rs))
    (refusals-cut c.args.why rs i _ c.loop-refusal-test.true
    ∙ append_assoc (refusals_text c.args.why (take i rs)) (refusal_text c.args.why (get_or rs i _)) (refusals_text c.args.why (drop (i + 1) rs)))
    c.loop-refusal.invariant c.in_err-add_refusal.ensures)
