use Rattle.std.proofs.Common.{◌≡◌, ◌∙◌, ◌++◌, ◌+◌, ◌<◌, ◌∷◌, List, [], ap, arith, Some, length, refl, slice_get, subst, sym, ℕ}
use Rattle.diagram_program.specs.Program.{Drawing}
use Rattle.diff_cases.specs.Alike.{LeavesAlike}
use Rattle.diff_cases.specs.declared.target.Target.{Target}
use Rattle.diff_matching.specs.declared.matching.Pair.{Pair}
use Rattle.diff_matching.specs.Matching.{Matching}
use Rattle.diff_meaning.specs.Counting.{CountAssuming}
use Rattle.diff_meaning.specs.Verdicts.{CanBeJudged, IsTrueOf, pairs_of, target_of}
use Rattle.diff_meaning.specs.Witnesses.{Difference, told_by, told_of}
use Rattle.diff_meaning.specs.declared.counted.Counted.{Counted}
use Rattle.diff_meaning.specs.declared.verdict.Verdict.{Verdict}
use Rattle.diff_meaning.specs.declared.witness.Witness.{Witness}
use Rattle.diff_verdicts.specs.Keeping.{AreKept}
use Rattle.diff_verdicts.proofs.Listing.{AreTrueBelow, can_be, kept_more, kept_none, named_there, of_same, same_then, told_more, told_none, true_more, turned}
use Rattle.diff_verdicts.proofs.verdicts.judge_sort.Goals as goal

pub loop-number-init : goal.loop-number-init
loop-number-init c =
    let j = c.args.judge.now in
    let none = c.requires.none in
    let before : List Witness = c.args.witnesses.now.items in
    let pairs : List Pair = pairs_of c.args.sort j.matching in
    let nothing : List Difference = [] in
    let told : told_of c.args.sort pairs c.args.verdicts.now.items ≡ nothing =
    ap (λ (vs : List Verdict). told_of c.args.sort pairs vs) none ∙ told_none c.args.sort pairs in
    record {
      truth = record {
        as_many = ap (λ (vs : List Verdict). length vs) none;
        each = λ n x verdict there got. absurd (nothing_at n verdict (subst (λ (vs : List Verdict). slice_get vs n ≡ Some verdict) none got));
      };
      kept = subst (λ (ds : List Difference). AreKept j.counted j.matching j.old_program j.new_program c.args.effort.keeps ds before before) (sym told)
          (kept_none j.counted j.matching j.old_program j.new_program c.args.effort.keeps before);
      same = record { old_program = refl; new_program = refl; matching = refl; counted = refl };
    }
  where
    nothing_at : (n : ℕ) (v : Verdict) → slice_get {X = Verdict} [] n ≡ Some v → ⊥
    nothing_at n v e = cc

pub judge_pair-requires-clause-target : goal.judge_pair-requires-clause-target
judge_pair-requires-clause-target c =
    let j = c.args.judge.now in
    let k = c.loop-number.judge in
    let n : ℕ = c.loop-number.number in
    let within : n < length c.pairs_of-pairs.result.now = omega arith in
    let named = named_there c.args.sort c.pairs_of-pairs.result.now (pairs_of c.args.sort j.matching) n _ c.target_of-target.result
    (c.pairs_of-pairs.ensures ∙ ap (pairs_of c.args.sort) c.matching.ensures) within c.target_of-target.ensures in
    subst (λ (m : Matching). CanBeJudged m c.target_of-target.result) (sym c.loop-number.invariant.same.matching)
    (subst (λ (t : Target). CanBeJudged j.matching t) (sym named.2) (can_be c.args.sort j.matching n named.0 named.1))

pub judge_pair-requires-clause-alike : goal.judge_pair-requires-clause-alike
judge_pair-requires-clause-alike c = λ marked.
    let j = c.args.judge.now in
    let k = c.loop-number.judge in
    let n : ℕ = c.loop-number.number in
    let within : n < length c.pairs_of-pairs.result.now = omega arith in
    let named = named_there c.args.sort c.pairs_of-pairs.result.now (pairs_of c.args.sort j.matching) n _ c.target_of-target.result
    (c.pairs_of-pairs.ensures ∙ ap (pairs_of c.args.sort) c.matching.ensures) within c.target_of-target.ensures in
    of_same (λ (a : Counted) (m : Matching) (p q : Drawing). LeavesAlike m p q c.target_of-target.result) k j (turned j k c.loop-number.invariant.same)
    (subst (λ (t : Target). LeavesAlike j.matching j.old_program j.new_program t) (sym named.2)
    (c.requires.alike n named.0 named.1 (c.is_marked-is_alike.ensures marked)))

pub loop-number-preserved : goal.loop-number-preserved
loop-number-preserved c =
    let j = c.args.judge.now in
    let k = c.loop-number.judge in
    let sort = c.args.sort in
    let keeps = c.args.effort.keeps in
    let inv = c.loop-number.invariant in
    let n : ℕ = c.loop-number.number in
    let pairs : List Pair = pairs_of sort j.matching in
    let within : n < length c.pairs_of-pairs.result.now = omega arith in
    let target : Target = c.target_of-target.result in
    let named = named_there sort c.pairs_of-pairs.result.now pairs n _ target (c.pairs_of-pairs.ensures ∙ ap (pairs_of sort) c.matching.ensures) within
    c.target_of-target.ensures in
    let x : Pair = named.0 in
    let v : Verdict = c.in_ok-verdict.verdict in
    let verdicts : List Verdict = c.loop-number.verdicts.items in
    let first : List Witness = c.args.witnesses.now.items in
    let then : List Witness = c.loop-number.witnesses.items in
    let last : List Witness = c.judge_pair.new.witnesses.items in
    let truth : IsTrueOf (CountAssuming j.counted) j.matching j.old_program j.new_program (target_of sort x) v =
    subst (λ (t : Target). IsTrueOf (CountAssuming j.counted) j.matching j.old_program j.new_program t v) named.2
    (of_same (λ (a : Counted) (m : Matching) (p q : Drawing). IsTrueOf (CountAssuming a) m p q target v) j k inv.same c.in_ok-verdict.ensures.truth) in
    let kept : AreKept j.counted j.matching j.old_program j.new_program keeps (told_by (target_of sort x) v) then last =
    subst (λ (t : Target). AreKept j.counted j.matching j.old_program j.new_program keeps (told_by t v) then last) named.2
    (of_same (λ (a : Counted) (m : Matching) (p q : Drawing). AreKept a m p q keeps (told_by target v) then last) j k inv.same c.in_ok-verdict.ensures.kept) in
    let told = told_more sort pairs verdicts x v (ap (slice_get pairs) inv.truth.as_many ∙ named.1) in
    let pushed : c.push.new.self.items ≡ verdicts ++ (v ∷ []) = c.in_ok-push.ensures.items in
    record {
      truth = subst (λ (vs : List Verdict). AreTrueBelow j.counted j.matching j.old_program j.new_program sort (n + 1) vs) (sym pushed)
          (true_more j.counted j.matching j.old_program j.new_program sort n x v verdicts named.1 inv.truth truth);
      kept = subst (λ (ds : List Difference). AreKept j.counted j.matching j.old_program j.new_program keeps ds first last)
          (sym told ∙ ap (λ (vs : List Verdict). told_of sort pairs vs) (sym pushed))
          (kept_more j.counted j.matching j.old_program j.new_program keeps (told_of sort pairs verdicts) (told_by (target_of sort x) v) first then last inv.kept kept);
      same = same_then j k c.judge_pair.new.judge inv.same c.judge_pair.ensures.same;
    }
