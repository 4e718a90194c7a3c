use Rattle.std.proofs.Common.{subst, refl}
use Rattle.diagram_declarations.specs.declared.decls.Address.{Address}
use Rattle.diagram_declarations.specs.declared.decls.VarKind.{VarKind}
use Rattle.diagram_declarations.specs.Grammar.{IsAddress}
use Rattle.draw_program.proofs.matching.is_at.Goals as goal

pub returns-then-is_same_kind : goal.returns-then-is_same_kind
returns-then-is_same_kind c = λ t. (
  c.in-Some-address.found,
  c.in-Some-address.is,
  subst (λ (k : VarKind). IsAddress c.args.word.now k c.in-Some-address.found) (c.if-is_same_kind.ensures refl)
      (subst (λ (a : Address). IsAddress c.args.word.now c.in-Some.kind a) (c.is_same_address.ensures t) c.in-Some.ensures),
)
