use Rattle.std.proofs.Common.{◌≡◌, arith, inr, length, subst, ℕ}
use Rattle.assume_possible.specs.Possible.{IsImpossibleInBoth, IsPossibleInBoth}
use Rattle.cli_questions.specs.Query.{question_of}
use Rattle.cli_diff.proofs.InBothPrograms.{ever_both, never_both}
use Rattle.cli_diff.proofs.possible.check_both.Goals as goal

pub returns-then-is_possible_in_both-clause-possible : goal.returns-then-is_possible_in_both-clause-possible
returns-then-is_possible_in_both-clause-possible c = λ few.
    let e = c.args.old.now in
    let f = c.args.new.now in
    let xs = c.in-Ok.sources.items in
    let ys = c.in-Ok-sources_in.sources.items in
    let many : c.len-bits.result ≡ length c.args.asked.now.of_old.inputs.items = omega arith in
    ever_both e f (question_of c.args.asked.now.of_old) (question_of c.args.asked.now.of_new) xs ys c.in-Ok.ensures.sources c.in-Ok-sources_in.ensures.sources
    (subst (λ (k : ℕ). IsPossibleInBoth e xs f ys k) many (c.is_possible_in_both.ensures.some c.if-is_possible_in_both.true))

pub returns-clause-refused : goal.returns-clause-refused
returns-clause-refused c =
    let e = c.args.old.now in
    let f = c.args.new.now in
    let xs = c.in-Ok.sources.items in
    let ys = c.in-Ok-sources_in.sources.items in
    let many : c.len-bits.result ≡ length c.args.asked.now.of_old.inputs.items = omega arith in
    inr (
      c.never_true.ensures,
      never_both e f (question_of c.args.asked.now.of_old) (question_of c.args.asked.now.of_new) xs ys c.in-Ok.ensures.sources c.in-Ok-sources_in.ensures.sources
          (subst (λ (k : ℕ). IsImpossibleInBoth e xs f ys k) many (c.is_possible_in_both.ensures.none c.if-is_possible_in_both.false)),
    )
