use Rattle.std.proofs.Common.{◌∙◌, rules, sym}
use denote.Enum.Bare.{same_true}
use Rattle.diagram_program.specs.contracts.mode.Mode.{the_type}
use Rattle.export_power.proofs.Back.{literal_is}
use Rattle.export_power.proofs.literals.is_literal.Goals as goal

pub returns-then-eq : goal.returns-then-eq
returns-then-eq c =
    λ found. literal_is _ _ c.args.on c.in-Contact.mode c.in-Contact.read c.in-Contact.memory _ c.in-Contact.is
    (same_true the_type (search rules) _ _ (sym c.if-eq.ensures) ∙ c.mode_of.ensures) (c.stands_for.ensures found)
