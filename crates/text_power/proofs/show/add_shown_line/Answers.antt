use Rattle.std.proofs.Common.{◌∷◌, [], ◌∙◌, ap, ℕ}
use Rattle.io_text.proofs.Sending.{sends_err}
use Rattle.text_power.specs.Show.{shown_at}
use Rattle.text_power.proofs.Each.{cut_off, more, none_yet}
use Rattle.text_power.proofs.show.add_shown_line.Goals as goal

pub loop-at-init : goal.loop-at-init
loop-at-init g c = none_yet _ _ _

pub returns-in_err-add : goal.returns-in_err-add
returns-in_err-add g c = sends_err _ _ _ _ _ _ c.from_residual.ensures.0
    (cut_off (λ at. shown_at c.args.marks.now c.args.rung c.args.line c.args.text.now at ∷ []) _ c.loop-at.at _ _ _ _ _ _ c.loop-at-test.true
    (c.as_slice.ensures ∙ ap (λ (b : ℕ). b ∷ []) c.shown_at.ensures) c.loop-at.invariant c.in_err-add.ensures)

pub loop-at-preserved : goal.loop-at-preserved
loop-at-preserved g c =
    more (λ at. shown_at c.args.marks.now c.args.rung c.args.line c.args.text.now at ∷ []) c.loop-at.at _ _ _ _ _ _ _
    (c.as_slice.ensures ∙ ap (λ (b : ℕ). b ∷ []) c.shown_at.ensures) c.loop-at.invariant c.in_ok-add.ensures
