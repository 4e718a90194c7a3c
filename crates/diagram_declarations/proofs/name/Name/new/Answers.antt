use Rattle.std.proofs.Common.{◌≡◌, true, arith}
use Rattle.std.proofs.lemmas.Grind.{common_steps}
use Rattle.diagram_declarations.specs.Name.{is_name}
use Rattle.diagram_declarations.specs.NameView.{IsStored-written}
use Rattle.diagram_declarations.proofs.name.Name.new.Goals as goal

pub invariant_of-result : goal.invariant_of-result
invariant_of-result c =
    let named : is_name c.args.spelling.now ≡ true = grind (arith, common_steps) in
    rw c.copy_from_slice.ensures.after (IsStored-written c.args.spelling.now c.if-spelling-le-LONGEST_NAME.true named)
