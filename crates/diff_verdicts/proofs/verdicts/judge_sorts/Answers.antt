use Rattle.std.proofs.Common.{◌++◌, List}
use Rattle.std.proofs.lemmas.Result.{on_ok_weaker}
use Rattle.diagram_program.specs.Program.{Drawing}
use Rattle.diff_matching.specs.Matching.{Matching}
use Rattle.diff_meaning.specs.Verdicts.{pairs_of}
use Rattle.diff_meaning.specs.Witnesses.{Difference, told_of}
use Rattle.diff_meaning.specs.declared.counted.Counted.{Counted}
use Rattle.diff_meaning.specs.declared.verdict.PairSort.TheVariants.{Variables, Instances, Memories}
use Rattle.diff_meaning.specs.declared.witness.Witness.{Witness}
use Rattle.diff_verdicts.specs.Keeping.{AreKept}
use Rattle.diff_verdicts.proofs.Listing.{kept_more, of_same, same_then}
use Rattle.diff_verdicts.proofs.verdicts.judge_sorts.Goals as goal

pub returns-clause-kept : goal.returns-clause-kept
returns-clause-kept c =
    let j = c.args.judge.now in
    let keeps = c.args.effort.keeps in
    let k = c.judge_sort.new.judge in
    let l = c.judge_sort-2.new.judge in
    let first = c.judge_sort.ensures.same in
    let then = same_then j k l first c.judge_sort-2.ensures.same in
    let start : List Witness = c.args.judgement.now.witnesses.items in
    let one : List Witness = c.judge_sort.new.witnesses.items in
    let two : List Witness = c.judge_sort-2.new.witnesses.items in
    let three : List Witness = c.judge_sort-3.new.witnesses.items in
    let variables : List Difference = told_of Variables j.matching.variables c.judge_sort.new.verdicts.items in
    let instances : List Difference = told_of Instances j.matching.instances c.judge_sort-2.new.verdicts.items in
    let memories : List Difference = told_of Memories j.matching.memories c.judge_sort-3.new.verdicts.items in
    let second = of_same (λ (a : Counted) (m : Matching) (p q : Drawing). AreKept a m p q keeps (told_of Instances (pairs_of Instances m) c.judge_sort-2.new.verdicts.items) one two)
    j k first c.in_ok-judge_sort-2.ensures.kept in
    let both = kept_more j.counted j.matching j.old_program j.new_program keeps variables instances start one two c.in_ok-judge_sort.ensures.kept second in
    on_ok_weaker c.judge_sort-3.result (λ last.
    kept_more j.counted j.matching j.old_program j.new_program keeps (variables ++ instances) memories start two three both
    (of_same (λ (a : Counted) (m : Matching) (p q : Drawing). AreKept a m p q keeps (told_of Memories (pairs_of Memories m) c.judge_sort-3.new.verdicts.items) two three)
    j l then last)) c.judge_sort-3.ensures.kept
