use Rattle.std.proofs.Common.{◌≡◌, ◌∙◌, ◌∷◌, [], ◌++◌, ap, map, sym}
use Rattle.std.specs.List.{range_with_len}
use Rattle.text_names.specs.Nearest.{far_from}
use Rattle.text_names.proofs.Numbers.{one_more}
use Rattle.text_names.proofs.meant.distances.Goals as goal

pub loop-number-preserved : goal.loop-number-preserved
loop-number-preserved c =
    let far = far_from c.args.decls.now c.args.wanted c.args.word.now in
    c.in_ok-push.ensures.items ∙ ap (λ xs. xs ++ c.in_ok-far.far ∷ []) c.loop-number.invariant
    ∙ ap (λ d. map far (range_with_len 0 c.loop-number.number) ++ d ∷ []) c.in_ok-far.ensures
    ∙ sym (one_more far c.loop-number.number)
