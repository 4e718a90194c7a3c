use Rattle.std.proofs.Common.{◌≡◌, ◌∙◌, ◌+◌, ◌<◌, ◌≤◌, List, ap, arith, drop, length, rules, subst, sym, ℕ}
use Rattle.diff_matching.specs.declared.matching.Pair.{Pair}
use Rattle.diff_meaning.specs.Verdicts.{pairs_of}
use Rattle.diff_verdicts.proofs.Carrying.{carried_end, carried_step}
use Rattle.diff_verdicts.specs.Carrying.{Knowns, carried_all}
use Rattle.diff_verdicts.proofs.opening.carry_all.Goals as goal

pub loop-number-preserved : goal.loop-number-preserved
loop-number-preserved c =
    let sort = c.args.sort in
    let n : ℕ = c.loop-number.number in
    let read : List Pair = c.pairs_of-pairs.result.now in
    let within : n < length read = omega arith in
    let start : Knowns = record { of_old = c.args.of_old.now; of_new = c.args.of_new.now } in
    let before : Knowns = record { of_old = c.loop-number.of_old; of_new = c.loop-number.of_new } in
    let after : Knowns = record { of_old = c.carry.new.of_old; of_new = c.carry.new.of_new } in
    let so_far = subst (λ (xs : List Pair). carried_all sort (drop n xs) before ≡ carried_all sort xs start) (sym c.pairs_of-pairs.ensures) c.loop-number.invariant.known in
    record {
      known = subst (λ (xs : List Pair). carried_all sort (drop (n + 1) xs) after ≡ carried_all sort xs start) c.pairs_of-pairs.ensures
          (ap (λ (k : Knowns). carried_all sort (drop (n + 1) read) k) c.carry.ensures.known ∙ sym (carried_step sort read n _ before within) ∙ so_far);
      of_old = search rules;
      of_new = search rules;
    }

pub returns-clause-known : goal.returns-clause-known
returns-clause-known c =
    let sort = c.args.sort in
    let pairs : List Pair = pairs_of sort c.args.matching.now in
    let n : ℕ = c.loop-number.number in
    let here : Knowns = record { of_old = c.loop-number.of_old; of_new = c.loop-number.of_new } in
    let past : length pairs ≤ n = subst (λ (xs : List Pair). length xs ≤ n) c.pairs_of-pairs.ensures (omega arith) in
    sym (carried_end sort pairs n here past) ∙ c.loop-number.invariant.known
