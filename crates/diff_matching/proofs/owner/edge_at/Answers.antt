use Rattle.std.proofs.Common.{◌≡◌, ◌∙◌, Some, None, ap, arith, below_more, subst, sym}
use Rattle.std.proofs.lemmas.List.Sums.{count_by_more_no}
use Rattle.std.proofs.lemmas.Option.{slice_get_within}
use Rattle.diff_matching.specs.Names.{IsRanked, is_owner}
use Rattle.diff_matching.proofs.Ranks.{one_ranked, other_here, ranked_here}
use Rattle.diff_matching.proofs.owner.edge_at.Goals as goal

pub loop-number-preserved-then-not-is_owner : goal.loop-number-preserved-then-not-is_owner
loop-number-preserved-then-not-is_owner c =
    let owners = c.args.owners.now in
    let n = c.loop-number.number in
    let not = sym c.is_owner.ensures ∙ c.if-not-is_owner.true in
    record {
      counted = c.loop-number.invariant.counted ∙ sym (count_by_more_no (is_owner c.args.owner) owners n None c.loop-number-test.true not);
      few = omega arith;
      none = below_more _ _ c.loop-number.invariant.none (other_here owners c.args.owner c.args.rank n not);
    }

pub returns-then-before-rank : goal.returns-then-before-rank
returns-then-before-rank c = λ n.
    let owners = c.args.owners.now in
    let is = sym c.is_owner.ensures ∙ c.if-not-is_owner.false in
    let here = ranked_here owners c.args.owner c.args.rank c.loop-number.number c.loop-number-test.true is (sym c.loop-number.invariant.counted ∙ c.if-before-rank.true) in (
      λ e. let same : c.loop-number.number ≡ n = cc in subst (IsRanked owners c.args.owner c.args.rank) same here,
      λ h. ap (λ m. Some m) (one_ranked owners c.args.owner c.args.rank c.loop-number.number n here h),
    )

pub returns : goal.returns
returns c = λ n. (
  λ e. cc e,
  λ h. absurd (c.loop-number.invariant.none n (let within = slice_get_within c.args.owners.now n (Some c.args.owner) h.0 in omega arith) h),
)
