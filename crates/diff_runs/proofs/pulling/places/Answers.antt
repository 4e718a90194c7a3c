use Rattle.std.proofs.Common.{◌≡◌, ◌∙◌, Some, ap, arith, length, slice_get, subst, sym, ◌++◌, ◌∷◌, [], ◌+◌, ◌<◌, Contains}
use Rattle.std.proofs.lemmas.List.{length-append}
use Rattle.std.proofs.lemmas.Option.{slice_get-get_or}
use Rattle.diff_runs.specs.Pulling.{IsPlace}
use Rattle.diff_runs.proofs.Placing.{are_inputs_of, each_of_more, placed}
use Rattle.diff_runs.proofs.pulling.places.Goals as goal

pub loop-number-preserved : goal.loop-number-preserved
loop-number-preserved c =
    let m = c.args.matching.now in
    let p = c.args.part.now in
    let b = c.args.both.now in
    let number = c.loop-number.number in
    let of_part = c.in_ok-of_part.of_part.items in
    let of_both = c.in_ok-of_both.of_both.items in
    let before = c.loop-number.places.items in
    let part_is = are_inputs_of p c.vars.result.now of_part c.in_ok-of_part.ensures (c.vars.ensures.value ∙ ap (λ d. d.vars) c.decls.ensures) in
    let both_is = are_inputs_of b c.vars-2.result.now of_both c.in_ok-of_both.ensures (c.vars-2.ensures.value ∙ ap (λ d. d.vars) c.decls-2.ensures) in
    let within : number < length of_part = omega (arith, c.loop-number-test.true, c.len-number-end.ensures) in
    let at : slice_get of_part number ≡ Some c.index.result.now =
    slice_get-get_or of_part number c.index.result.now within ∙ ap (λ i. Some i) (sym c.index.ensures) in
    let found = c.in-Some.ensures in
    let one = placed m p b of_part of_both part_is both_is number c.index.result.now c.in-Some.place at (
      found.0,
      subst (λ pairs. Contains pairs found.0) c.inputs.ensures found.1,
      found.2,
      ap (λ xs. slice_get xs c.in-Some.place) (sym c.deref.ensures.value) ∙ found.3,
    ) in
    let more : c.push.new.self.items ≡ before ++ c.in-Some.place ∷ [] = c.in_ok-push.ensures.items in
    record {
      as_many = ap (λ xs. length xs) more ∙ length-append before (c.in-Some.place ∷ []) ∙ ap (λ k. k + 1) c.loop-number.invariant.as_many;
      each = λ n place is. each_of_more (IsPlace m p b) before c.in-Some.place c.loop-number.invariant.each
          (subst (λ k. IsPlace m p b k c.in-Some.place) (sym c.loop-number.invariant.as_many) one) n place
          (ap (λ xs. slice_get xs n) (sym more) ∙ is);
    }

pub returns : goal.returns
returns c =
    let p = c.args.part.now in
    let of_part = c.in_ok-of_part.of_part.items in
    let part_is = are_inputs_of p c.vars.result.now of_part c.in_ok-of_part.ensures (c.vars.ensures.value ∙ ap (λ d. d.vars) c.decls.ensures) in
    let as_many : length c.loop-number.places.items ≡ length of_part =
    omega (arith, c.loop-number.invariant.as_many, c.loop-number-test.false, c.len-number-end.ensures, c.loop-number.auto) in
    record { as_many = as_many ∙ ap (λ xs. length xs) part_is; each = c.loop-number.invariant.each }
