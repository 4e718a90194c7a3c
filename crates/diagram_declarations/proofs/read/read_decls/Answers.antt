use Rattle.std.proofs.Common.{subst, ◌∙◌, arith}
use Rattle.diagram_declarations.specs.Grammar.{HasDecls}
use Rattle.diagram_declarations.proofs.DeclReads.{place_after, breaks_on}
use Rattle.diagram_declarations.proofs.read.read_decls.Goals as goal

pub overflow_sub-result : goal.overflow_sub-result
overflow_sub-result c = (place_after _ _ _ c.in-Ok.ensures.found).0

pub returns-in-Ok-clause-found : goal.returns-in-Ok-clause-found
returns-in-Ok-clause-found c =
    let place = place_after _ _ _ c.in-Ok.ensures.found in
    (omega arith, subst (λ r. HasDecls c.args.text.now c.in-Ok.decls r) place.1 c.in-Ok.ensures.found)

pub returns-in-Ok-clause-only : goal.returns-in-Ok-clause-only
returns-in-Ok-clause-only c = λ declared rest other.
    let same = c.in-Ok.ensures.only declared rest other in
    (same.0, same.1 ∙ (place_after _ _ _ c.in-Ok.ensures.found).1)

pub returns-in-Err-Broken-clause-none : goal.returns-in-Err-Broken-clause-none
returns-in-Err-Broken-clause-none c = λ _. (rw c.in-Err-Broken.field-0-is at c.in-Err-Broken.ensures.broken).1

pub returns-in-Err-Broken-clause-broken : goal.returns-in-Err-Broken-clause-broken
returns-in-Err-Broken-clause-broken c =
    let broken = rw c.in-Err-Broken.field-0-is at c.in-Err-Broken.ensures.broken in
    rw c.line_of.ensures (breaks_on c.in-Err-Broken.fault.rule c.args.text.now c.in-Err-Broken.fault.left broken.0)
