use Rattle.std.proofs.Common.{◌≡◌, ◌-◌, List, ℕ, length, take, drop, refl, sym, subst, ◌∙◌, arith, length-drop}
use Rattle.std.proofs.lemmas.List.{drop_all, take_all}
use Rattle.diagram_page.specs.Operand.{word_in, IsWordIn}
use Rattle.diagram_page.proofs.WordLaws.{word_found}
use Rattle.diagram_page.proofs.operand.word_in.Goals as goal

told : (chars word : List ℕ) → word ≡ word_in chars → IsWordIn chars word
told chars word is = subst (IsWordIn chars) (sym is) (word_found chars)

pub returns-then-before-text : goal.returns-then-before-text
unfolding word_in
returns-then-before-text c =
    let text : List ℕ = take (length c.args.chars.now - c.spaces_after.result) c.args.chars.now in
    let whole : take (length text - c.spaces_before-before.result) (drop c.spaces_before-before.result text) ≡ drop c.spaces_before-before.result text
    = take_all _ _ (omega (arith, length-drop c.spaces_before-before.result text)) in
    told c.args.chars.now _ (whole ∙ rw (c.spaces_after.ensures.value, c.spaces_before-before.ensures.value) refl)

pub returns-else-before-text : goal.returns-else-before-text
unfolding word_in
returns-else-before-text c =
    let text : List ℕ = take (length c.args.chars.now - c.spaces_after.result) c.args.chars.now in
    told c.args.chars.now _ (sym (drop_all c.spaces_before-before.result text (omega (arith, c.if-before-text.false))) ∙ rw (c.spaces_after.ensures.value, c.spaces_before-before.ensures.value) refl)
