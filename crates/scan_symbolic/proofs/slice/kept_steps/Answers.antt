use Rattle.std.proofs.Common.{◌≡◌, ◌∙◌, ◌-◌, ◌+◌, ◌∷◌, ◌<◌, List, [], ap, arith, drop, get_or, length, reverse, sym}
use Rattle.std.proofs.lemmas.List.{drop_all, reverse-append}
use Rattle.diagram_program.specs.declared.steps.Step.{Step}
use Rattle.diagram_program.specs.declared.steps.Step.TheVariants.{Is}
use Rattle.scan_symbolic.specs.Slicing.{Needs, keeps, kept_of, needs_before, reads}
use Rattle.scan_symbolic.proofs.Sliced.{kept_more, kept_same}
use Rattle.scan_symbolic.proofs.slice.kept_steps.Goals as goal
use Rattle.scan_symbolic.proofs.slice.kept_steps.Goals.{then-keeps+in_ok-push, else-keeps}

pub loop-after-init : goal.loop-after-init
unfolding kept_of needs_before
loop-after-init c =
    let p = c.args.program.now in
    let ss = c.args.steps.now in
    let n = c.args.marks.now in
    let none : drop (length ss - 0) ss ≡ [] = drop_all (length ss - 0) ss (omega arith) in
    record {
      kept = ap reverse c.new-kept.ensures.items ∙ sym (ap (λ xs. kept_of p xs n) none);
      marks = sym (ap (λ xs. needs_before p xs n) none);
    }

pub loop-after-preserved : goal.loop-after-preserved
loop-after-preserved c =
    let p = c.args.program.now in
    let ss = c.args.steps.now in
    let n = c.args.marks.now in
    let h = c.loop-after.invariant in
    let after = c.loop-after.after in
    let none : Step = Is (record { place = 0; left = 0; other = 0 }) 0 in
    let i = length ss - (after + 1) in
    let at = length ss - 1 - after in
    let j = length ss - after in
    let lt : i < length ss = omega arith in
    let next : j ≡ i + 1 = omega arith in
    let is : at ≡ i = omega arith in
    let s = get_or ss at none in
    let known = ap (λ (m : Needs). keeps p m s) (sym h.marks) ∙ sym c.keeps.ensures in
    elim c.if-keeps.branch [
      | then-keeps+in_ok-push w ↦
          let more = kept_more p ss n i j at none lt next is (known ∙ w.if-keeps.true) in
          record {
            kept =
                ap (λ v. reverse v.items) w.kept-is
                ∙ ap reverse w.in_ok-push.ensures.items
                ∙ reverse-append c.loop-after.kept.items (s ∷ [])
                ∙ ap (λ (xs : List Step). s ∷ xs) h.kept ∙ sym more.0;
            marks = w.marks-is ∙ w.read_step.ensures ∙ ap (λ (m : Needs). reads p s m) h.marks ∙ sym more.1;
          }
      | else-keeps w ↦
          let same = kept_same p ss n i j at none lt next is (known ∙ w.if-keeps.false) in
          record {
            kept = ap (λ v. reverse v.items) w.kept-is ∙ h.kept ∙ sym same.0;
            marks = w.marks-is ∙ h.marks ∙ sym same.1;
          }
    ]
