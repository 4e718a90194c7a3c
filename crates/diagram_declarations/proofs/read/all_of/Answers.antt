use Rattle.std.proofs.Common.{◌≡◌, List, ◌++◌, ◌∷◌, [], ℕ, length, sym, ap, subst, ◌∙◌}
use Rattle.std.proofs.lemmas.Result.{err_from_is_err_and}
use Rattle.diagram_declarations.specs.Decls.{AreKept, AreInRange}
use Rattle.diagram_declarations.specs.Grammar.{HasDecls}
use Rattle.diagram_declarations.specs.Rules.{IsRefused}
use Rattle.diagram_declarations.specs.ReadDecls.{with_decl}
use Rattle.diagram_declarations.specs.TakeTitles.{IsNext}
use Rattle.diagram_declarations.proofs.DeclReads.{declared_by-push, starts, goes_on, IsFault, HasWord, ends, only, no_opening, no_word, no_name, no_body, refuses, IfBroken-weaker}
use Rattle.diagram_declarations.proofs.read.all_of.Goals as goal

pub returns-in_err-rest-clause-broken : goal.returns-in_err-rest-clause-broken
returns-in_err-rest-clause-broken c =
    let p = err_from_is_err_and c.from_residual.result c.from_residual.ensures.1 in
    rw (p.1, p.2) (no_opening _ _ c.in_err-rest.ensures.value)

pub loop-decls-init : goal.loop-decls-init
loop-decls-init c = ([], starts _ _ c.in_ok-rest.ensures.value, c.new-decls.ensures)

pub returns-in_err-word-clause-broken : goal.returns-in_err-word-clause-broken
returns-in_err-word-clause-broken c =
    let p = err_from_is_err_and c.from_residual-in_err-word.result c.from_residual-in_err-word.ensures.1 in
    rw (p.1, p.2) (no_word _ _ _ _ c.loop-decls.invariant.1 c.in_err-word.ensures.value)

pub returns-then-same_letters-clause-found : goal.returns-then-same_letters-clause-found
returns-then-same_letters-clause-found c =
    let inv = c.loop-decls.invariant in
    let range : AreInRange c.loop-decls.decls = subst AreInRange c.decls.view_is c.decls.invariant.0 in
    let has = ends _ _ _ _ _ inv.1 c.in_ok-word.ensures.value (sym c.same_letters.ensures ∙ c.if-same_letters.true) (subst AreKept inv.2 range.kept) in
    subst (λ d. HasDecls c.args.text.now d c.in_ok-word.after.now) (sym inv.2) has

pub returns-then-same_letters-clause-only : goal.returns-then-same_letters-clause-only
returns-then-same_letters-clause-only c = λ declared rest has.
    let inv = c.loop-decls.invariant in
    let one = only _ _ _ _ _ inv.1 c.in_ok-word.ensures.value (sym c.same_letters.ensures ∙ c.if-same_letters.true) declared rest has in
    (one.0 ∙ sym inv.2, one.1)

pub returns-in_err-name-clause-broken : goal.returns-in_err-name-clause-broken
returns-in_err-name-clause-broken c =
    let p = err_from_is_err_and c.from_residual-in_err-name.result c.from_residual-in_err-name.ensures.1 in
    let word : HasWord _ _ _ = record { word = c.in_ok-word.ensures.value; other = sym c.same_letters.ensures ∙ c.if-same_letters.false } in
    rw (p.1, p.2) (no_name _ _ _ _ _ _ c.loop-decls.invariant.1 word c.in_err-name.ensures.none)

pub returns-in_err-body-clause-broken : goal.returns-in_err-body-clause-broken
returns-in_err-body-clause-broken c =
    let p = err_from_is_err_and c.from_residual-in_err-body.result c.from_residual-in_err-body.ensures.1 in
    let word : HasWord _ _ _ = record { word = c.in_ok-word.ensures.value; other = sym c.same_letters.ensures ∙ c.if-same_letters.false } in
    rw (p.1, p.2) (no_body _ _ _ _ _ _ c.loop-decls.invariant.1 word c.in_ok-name.ensures.some.1 c.in_err-body.ensures.value)

pub returns-in_err-add-clause-broken : goal.returns-in_err-add-clause-broken
returns-in_err-add-clause-broken c =
    let p = err_from_is_err_and c.from_residual-in_err-add.result c.from_residual-in_err-add.ensures.1 in
    let inv = c.loop-decls.invariant in
    let w : List ℕ = c.in_ok-word.word.now in
    let next : IsNext c.loop-decls.rest.now w c.in_ok-word.after.now c.in_ok-body.body c.in_ok-body.next.now = (c.in_ok-word.ensures.value, sym c.same_letters.ensures ∙ c.if-same_letters.false, c.in_ok-body.ensures.value) in
    rw (p.1, p.2) (IfBroken-weaker (λ f. IsRefused f.rule c.loop-decls.decls c.in_ok-name.name c.in_ok-body.body × (f.left ≡ length c.in_ok-word.after.now))
    (λ f. IsFault f c.args.text.now) (λ f h. refuses _ _ _ w _ _ _ f inv.1 next c.in_ok-name.ensures.some.1
    (rw (sym c.in_ok-name.ensures.some.0, sym inv.2) h.0) h.1) _ c.in_err-add.ensures.refused)

pub loop-decls-preserved : goal.loop-decls-preserved
loop-decls-preserved c =
    let inv = c.loop-decls.invariant in
    let w : List ℕ = c.in_ok-word.word.now in
    let b = c.in_ok-body.body in
    let next : IsNext c.loop-decls.rest.now w c.in_ok-word.after.now b c.in_ok-body.next.now = (c.in_ok-word.ensures.value, sym c.same_letters.ensures ∙ c.if-same_letters.false, c.in_ok-body.ensures.value) in
    let made = c.in_ok-add.ensures.more ∙ ap (λ n. with_decl c.loop-decls.decls n b) c.in_ok-name.ensures.some.0 ∙ ap (λ d. with_decl d w b) inv.2 in
    (inv.0 ++ record { name = w; body = b } ∷ [], (goes_on _ _ _ w _ b _ inv.1 next c.in_ok-name.ensures.some.1).1, made ∙ sym (declared_by-push inv.0 w b))
