use Rattle.std.proofs.Common.{◌∙◌, sym}
use Rattle.network_power.proofs.Routes.{coil_same, onward}
use Rattle.network_power.proofs.elements.before_coil.Goals as goal

pub returns : goal.returns
returns c =
    onward c.linked.result _ _
    (λ left is. coil_same c.args.net c.args.ids.now left.now c.in_ok-left.field-0 c.in-Coil.left c.in-len1.len_at_least c.in-len1.len_below
    (sym c.element_at.ensures ∙ c.in_ok-left.was) c.in-Coil.is is)
    c.linked.ensures
