use Rattle.std.proofs.Common.{sym, ap, ◌∙◌, codes}
use Rattle.std.proofs.lemmas.Bool.{true≢false}
use Rattle.diagram_declarations.specs.Name.{same_letters}
use Rattle.diagram_declarations.specs.ReadDecls.{body_at}
use Rattle.diagram_declarations.proofs.BodyReads.{halves}
use Rattle.diagram_declarations.proofs.titles.next_decl.Goals as goal

pub returns-in_default-clause-none : goal.returns-in_default-clause-none
returns-in_default-clause-none c = λ name behind b after next. let e = sym next.0 ∙ c.in_default.ensures.value in cc

pub returns-then-same_letters-clause-none : goal.returns-then-same_letters-clause-none
returns-then-same_letters-clause-none c = λ name behind b after next.
    let p = halves _ name _ behind (sym c.in-Ok.ensures.value ∙ next.0) in
    true≢false (sym (sym c.same_letters.ensures ∙ c.if-same_letters.true) ∙ ap (λ w. same_letters w (codes "END_VAR")) p.0 ∙ next.1)

pub returns-in_default-body_at-clause-none : goal.returns-in_default-body_at-clause-none
returns-in_default-body_at-clause-none c = λ name behind b after next.
    let p = halves _ name _ behind (sym c.in-Ok.ensures.value ∙ next.0) in
    let e = sym next.2 ∙ ap body_at (sym p.1) ∙ c.in_default-body_at.ensures.value in
    cc
