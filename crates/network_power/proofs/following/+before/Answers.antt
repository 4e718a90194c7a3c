use Rattle.std.proofs.Common.{sym, subst}
use Rattle.network_power.specs.declared.leads.Left.{Left}
use Rattle.network_power.specs.Leading.{IsFed}
use Rattle.network_power.proofs.Routes.{in_parallel, in_series, leads_as, onward}
use Rattle.network_power.proofs.Trees.{and_is, constant_is, not_is, operand_is, or_is}
use Rattle.network_power.proofs.following.+before.Goals as goal

pub returns-in-Constant : goal.returns-in-Constant
returns-in-Constant t c =
    onward c.before_rails.result _ _ (λ way leads. leads_as _ _ _ _ _ _ (constant_is _ _ c.in-Constant.is c.if-on.true) leads) c.before_rails.ensures

pub returns-in-Operand : goal.returns-in-Operand
returns-in-Operand t c =
    onward c.before_first.result _ _ (λ way leads. leads_as _ _ _ _ _ _ (operand_is _ _ c.in-Operand.is) leads) c.before_first.ensures

pub returns-in-Not : goal.returns-in-Not
returns-in-Not t c =
    onward c.before_inverse.result _ _ (λ way leads. leads_as _ _ _ _ _ _ (not_is _ _ _ _ c.in-Not.is c.deref.ensures) leads) c.before_inverse.ensures

pub returns-in-empty : goal.returns-in-empty
returns-in-empty t c =
    leads_as _ _ _ _ _ _ (and_is _ _ _ _ _ _ _ c.deref-in-And-2.ensures c.deref-in-And.ensures c.in-And.is)
    (in_series c.args.net c.args.ids.now c.in-Elements.middle.now c.in_ok-second-in-And.second.rest.now c.in_ok-first-in-And.first.rest.now _ _ _
    c.in_ok-first-in-And.ensures c.in-empty.len_below c.in_ok-second-in-And.second.left
    (λ env fed. subst (λ (left : Left). IsFed c.args.net env left) c.in-Elements.is fed)
    (λ env fed. subst (λ (left : Left). IsFed c.args.net env left) (sym c.in-Elements.is) fed) c.in_ok-second-in-And.ensures)

pub returns-else-not-is_one_left : goal.returns-else-not-is_one_left
returns-else-not-is_one_left t c =
    leads_as _ _ _ _ _ _ (or_is _ _ _ _ _ _ _ c.deref-in-Or.ensures c.deref-in-Or-2.ensures c.in-Or.is)
    (in_parallel _ _ _ _ _ _ _ _ c.in_ok-first-in-Or.ensures c.in_ok-second-in-Or.ensures (c.is_one_left.ensures c.if-not-is_one_left.false))
