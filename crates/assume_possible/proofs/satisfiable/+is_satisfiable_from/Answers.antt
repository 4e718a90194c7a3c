use Rattle.std.proofs.Common.{◌≡◌, ◌∙◌, ◌++◌, ◌∷◌, ◌<◌, [], true, false, arith, ap, length, subst, sym, Some}
use Rattle.std.proofs.lemmas.Grind.{common_steps}
use Rattle.scan_signals.specs.Three.{three}
use Rattle.scan_signals.specs.declared.tri.Tri.TheVariants.{Off, On}
use Rattle.assume_truth.specs.Operands.{is_named}
use Rattle.assume_truth.specs.Truth.{truth}
use Rattle.assume_possible.specs.Satisfiable.{IsUnsatisfiableFrom, first_input}
use Rattle.assume_possible.proofs.Satisfying.{bound, is_off, is_on, more_operands, none_unnamed, none_with_both}
use Rattle.assume_possible.proofs.satisfiable.+is_satisfiable_from.Goals as goal

pub returns-in-On-clause-some : goal.returns-in-On-clause-some
returns-in-On-clause-some t c = λ _.
    let e = c.args.expression.now in
    let is : truth three (first_input c.args.known.now.items) e ≡ On = ap (λ xs. truth three (first_input xs) e) (sym c.deref.ensures.value) ∙ sym c.in-On.ensures in
    is_on e c.args.known.now.items is

pub returns-in-Off-clause-none : goal.returns-in-Off-clause-none
returns-in-Off-clause-none t c = λ _.
    let e = c.args.expression.now in
    let is : truth three (first_input c.args.known.now.items) e ≡ Off = ap (λ xs. truth three (first_input xs) e) (sym c.deref.ensures.value) ∙ sym c.in-Off.ensures in
    is_off e c.args.known.now.items is

pub is_satisfiable_from-requires : goal.is_satisfiable_from-requires
is_satisfiable_from-requires t c =
    let e = c.args.expression.now in
    let known = c.args.known.now.items in
    let more : length known < bound e = more_operands known e (ap (λ xs. truth three (first_input xs) e) (sym c.deref.ensures.value) ∙ sym c.in-Unsure.ensures) in
    (omega (arith, c.decreases, more, c.in_ok-push.ensures.len), tt)

pub returns-then-not-is_named-clause-none : goal.returns-then-not-is_named-clause-none
returns-then-not-is_named-clause-none t c = λ _.
    let e = c.args.expression.now in
    let known = c.args.known.now.items in
    let off : IsUnsatisfiableFrom (known ++ false ∷ []) e = subst (λ xs. IsUnsatisfiableFrom xs e) c.in_ok-push.ensures.items (c.in_ok-is_found.ensures.none c.if-is_found.false) in
    let unnamed : is_named (Some e) (length known) ≡ false = ap (λ n. is_named (Some e) n) (ap length (sym c.deref.ensures.value) ∙ c.deref.ensures.len ∙ sym c.len-place.ensures) ∙ sym c.is_named.ensures ∙ c.if-not-is_named.true in
    none_unnamed e known unnamed off

pub is_satisfiable_from-requires-2 : goal.is_satisfiable_from-requires-2
is_satisfiable_from-requires-2 t c =
    let e = c.args.expression.now in
    let known = c.args.known.now.items in
    let more : length known < bound e = more_operands known e (ap (λ xs. truth three (first_input xs) e) (sym c.deref.ensures.value) ∙ sym c.in-Unsure.ensures) in
    let kept : c.pop.new.self.items ≡ known = grind (arith, common_steps) in
    (omega (arith, c.decreases, more, ap length kept, c.in_ok-push-2.ensures.len), tt)

pub returns-clause-none : goal.returns-clause-none
returns-clause-none t c = λ none.
    let e = c.args.expression.now in
    let known = c.args.known.now.items in
    let kept : c.pop.new.self.items ≡ known = grind (arith, common_steps) in
    let off : IsUnsatisfiableFrom (known ++ false ∷ []) e = subst (λ xs. IsUnsatisfiableFrom xs e) c.in_ok-push.ensures.items (c.in_ok-is_found.ensures.none c.if-is_found.false) in
    let now : c.push-2.new.self.items ≡ known ++ true ∷ [] = cc (c.in_ok-push-2.ensures.items, kept) in
    none_with_both e known off (subst (λ xs. IsUnsatisfiableFrom xs e) now (c.in_ok-is_found-2.ensures.none none))
