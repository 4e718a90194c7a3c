use Rattle.std.proofs.Common.{◌+◌, ◌-◌, codes, refl}
use Rattle.io_text.proofs.Sending.{sends_last}
use Rattle.text_reasons.specs.Joints.{above_text, end_text, link_text}
use Rattle.text_reasons.proofs.Quoting.{first_failed}
use Rattle.text_reasons.proofs.joints.add_link.Goals as goal

pub returns-in_err-add_above : goal.returns-in_err-add_above
returns-in_err-add_above g c = first_failed _ _ _ _ (link_text c.args.text.now c.args.line c.args.place) (above_text c.args.text.now (c.args.line - 1) c.args.place) (end_text c.args.text.now (codes "below") (c.args.line + 1) c.args.place) _ c.from_residual.ensures.0 refl (rw c.saturating_sub.ensures at c.in_err-add_above.ensures)

pub returns : goal.returns
returns g c = sends_last _ _ _ _ _ _ (link_text c.args.text.now c.args.line c.args.place) (above_text c.args.text.now (c.args.line - 1) c.args.place) (end_text c.args.text.now (codes "below") (c.args.line + 1) c.args.place) _ refl (rw c.saturating_sub.ensures at c.in_ok-add_above.ensures) c.add_end.ensures
