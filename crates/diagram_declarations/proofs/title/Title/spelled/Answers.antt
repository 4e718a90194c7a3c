use Rattle.std.proofs.Common.{nat_le, length}
use Rattle.std.proofs.lemmas.Bool.{and_parts, leb-true}
use Rattle.diagram_declarations.specs.TitleView.{IsStored-written}
use Rattle.diagram_declarations.proofs.title.Title.spelled.Goals as goal

pub invariant_of-result : goal.invariant_of-result
invariant_of-result c =
    let parts = and_parts (nat_le 1 (length c.args.spelling.now)) _ c.requires in
    let short = and_parts (nat_le (length c.args.spelling.now) 32) _ parts.1 in
    rw c.copy_from_slice.ensures.after (IsStored-written c.args.spelling.now (leb-true (length c.args.spelling.now) 32 short.0) c.requires)
