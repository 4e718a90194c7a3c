use Rattle.std.proofs.Common.{◌∙◌, ◌++◌, ◌∷◌, ◌<◌, [], ℕ, List, add-one, ap, length, slice_index_or, sym, take}
use Rattle.std.proofs.lemmas.Bool.{both_ways}
use Rattle.causes_one_scan.specs.Looking.{alike}
use Rattle.causes_one_scan.proofs.Deciding.{none_more, one_more}
use Rattle.causes_one_scan.proofs.relevant.alike.Goals as goal
use Rattle.causes_one_scan.proofs.relevant.alike.Goals.{then-is_alike+in_ok-push, else-is_alike}

pub loop-input-init : goal.loop-input-init
unfolding alike
loop-input-init c = c.new-found.ensures.items

pub loop-input-preserved : goal.loop-input-preserved
loop-input-preserved c =
    let image = c.args.image.now in
    let inputs = c.args.inputs.now in
    let i = c.loop-input.input in
    let there : i < length image = rw c.requires c.loop-input-test.true in
    let next = ap (λ (n : ℕ). alike (take n image) (take n inputs)) (sym (add-one i)) in
    elim c.if-is_alike.branch [
      | then-is_alike+in_ok-push w ↦
          rw w.found-is w.in_ok-push.ensures.items ∙ ap (λ (xs : List ℕ). xs ++ slice_index_or inputs i 0 ∷ []) c.loop-input.invariant
          ∙ one_more image inputs i there c.loop-input-test.true (c.is_alike.ensures.0 w.if-is_alike.true) ∙ next
      | else-is_alike w ↦
          rw w.found-is c.loop-input.invariant
          ∙ none_more image inputs i there c.loop-input-test.true (λ is. both_ways _ w.if-is_alike.false (c.is_alike.ensures.1 is)) ∙ next
    ]
