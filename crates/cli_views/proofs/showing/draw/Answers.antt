use Rattle.std.proofs.Common.{inr, refl, subst}
use Rattle.text_drawing.specs.Showing.{IsDrawn, scan_of}
use Rattle.text_drawing.specs.declared.picture.Style.{Style}
use Rattle.io_text.proofs.Puts.{puts_more}
use Rattle.cli_inputs.proofs.Ends.{prefix_next, puts_cut}
use Rattle.cli_views.specs.Views.{assumed_notes}
use Rattle.cli_views.proofs.showing.draw.Goals as goal

pub returns-in-Err-Write-clause-failed : goal.returns-in-Err-Write-clause-failed
returns-in-Err-Write-clause-failed g c =
    let v = c.args.request.now in
    let part = rw c.in-Err-Write.field-0-is at c.in-Err-Write.ensures.fails in
    let is = subst (λ (s : Style). IsDrawn s (scan_of c.args.scan c.args.state.now) part.text) c.styles_of-style.ensures.drawing part.is in
    inr (refl, (part.text, is, puts_cut _ _ part.text (assumed_notes v) part.wrote))

pub returns-in-Ok-put_assumed-clause-drawn : goal.returns-in-Ok-put_assumed-clause-drawn
returns-in-Ok-put_assumed-clause-drawn g c =
    let v = c.args.request.now in
    let whole = c.in-Ok.ensures.wrote in
    let is = subst (λ (s : Style). IsDrawn s (scan_of c.args.scan c.args.state.now) whole.text) c.styles_of-style.ensures.drawing whole.is in
    (whole.text, is, puts_more _ _ _ whole.text (assumed_notes v) whole.wrote (rw c.as_slice.ensures.value at c.in-Ok-put_assumed.ensures))

pub returns-in-Err-clause-failed : goal.returns-in-Err-clause-failed
returns-in-Err-clause-failed g c =
    let v = c.args.request.now in
    let whole = c.in-Ok.ensures.wrote in
    let is = subst (λ (s : Style). IsDrawn s (scan_of c.args.scan c.args.state.now) whole.text) c.styles_of-style.ensures.drawing whole.is in
    inr (refl, (whole.text, is, prefix_next _ _ _ whole.text (assumed_notes v) whole.wrote (rw c.as_slice.ensures.value at c.in-Err.ensures)))
