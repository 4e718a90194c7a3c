use Rattle.std.proofs.Common.{◌∙◌, refl, sym}
use Rattle.network_power.proofs.Routes.{contact_leads, flag_is, output_leads}
use Rattle.network_power.proofs.leads.before_literal.Goals as goal

pub returns-in_ok-linked-in-Contact : goal.returns-in_ok-linked-in-Contact
returns-in_ok-linked-in-Contact c =
    contact_leads c.args.net c.args.id _ c.args.negated c.in-Contact.opens c.args.operand c.in-Contact.read c.in-Contact.left c.in_ok-linked-in-Contact.field-0.now
    c.unwired.result.now _ (sym c.element_at.ensures ∙ c.in_ok-opens.was) c.in-Contact.is (flag_is _ _ c.if-opens-negated.true) (c.if-is_same_operand.ensures refl)
    c.in_ok-linked-in-Contact.ensures c.unwired.ensures (λ env fed. fed) (λ env fed. fed)

pub returns-in-Output : goal.returns-in-Output
returns-in-Output c =
    output_leads c.args.net c.args.id _ c.args.negated c.args.operand c.in-Output.read (sym c.element_at.ensures ∙ c.in_ok-opens.was) c.in-Output.is
    c.if-not-negated.true (c.if-is_same_operand-2.ensures refl)
