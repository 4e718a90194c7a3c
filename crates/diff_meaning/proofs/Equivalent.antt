-- Where all that belongs together is left alike, the programs are equivalent.
use Rattle.std.proofs.Common.{◌≡◌, ◌<◌, arith, false, refl, subst, ℕ, List, Some, All, get_or, length, slice_get}
use Rattle.std.proofs.lemmas.List.{length-map, length-replicate}
use Rattle.std.proofs.lemmas.Option.{slice_get-get_or, slice_get_within}
use Rattle.diagram_program.specs.Program.{Drawing, memories_of}
use Rattle.scan_cycle.proofs.Possible.{fresh_sound}
use Rattle.scan_cycle.specs.Programs.{IsSound, diagram_of}
use Rattle.scan_cycle.specs.Rung.{Held}
use Rattle.scan_cycle.specs.Standing.{Fits, IsStanding, fresh}
use Rattle.invariant_sets.specs.Invariants.{StaysAssuming}
use Rattle.diff_cases.specs.Assuming.{BothAssumed, assumed_of_both}
use Rattle.diff_matching.specs.declared.matching.Pair.{Pair}
use Rattle.diff_matching.specs.Matching.{Matching}
use Rattle.diff_meaning.specs.Counting.{CountAssuming}
use Rattle.diff_meaning.specs.Laws.{AreEquivalentWhere, FreshRunsAgreeAssuming}
use Rattle.diff_meaning.specs.Verdicts.{AreAllSame, AreTrue, AreTrueOf, IsTrueOf, LeavesAlikeWhere, pairs_of, target_of}
use Rattle.diff_meaning.specs.declared.verdict.PairSort.{PairSort}
use Rattle.diff_meaning.specs.declared.verdict.PairSort.TheVariants.{Variables, Instances, Memories}
use Rattle.diff_meaning.specs.declared.verdict.Verdict.{Verdict}
use Rattle.diff_meaning.specs.declared.verdict.Verdict.TheVariants.{Same}
use Rattle.diff_meaning.specs.declared.verdict.Verdicts.{Verdicts}
use Rattle.diff_meaning.proofs.Running.{agree_after, fresh_count, still_count}

module _ (Counts : Held → Held → Type 0) (m : Matching) (p q : Drawing) where
  -- The verdict on a pair is that nothing differs.
  same_of : (sort : PairSort) (verdicts : List Verdict) → AreTrueOf Counts m p q sort verdicts → All (λ v. v ≡ Same) verdicts
      → (n : ℕ) (x : Pair) → slice_get (pairs_of sort m) n ≡ Some x → LeavesAlikeWhere Counts m p q (target_of sort x)
  same_of sort verdicts true_of all n x is =
      let pair_within = slice_get_within (pairs_of sort m) n x is in
      let within : n < length verdicts = omega (arith, true_of.as_many, pair_within) in
      let same : get_or verdicts n Same ≡ Same = all n Same within in
      subst (λ (v : Verdict). IsTrueOf Counts m p q (target_of sort x) v) same
      (true_of.each n x (get_or verdicts n Same) is (slice_get-get_or verdicts n Same within))

  pub equivalent : (verdicts : Verdicts) → AreTrue Counts m p q verdicts → AreAllSame verdicts → AreEquivalentWhere Counts m p q
  equivalent verdicts true_of all moment s t shared count = record {
    variables = λ n x is. same_of Variables verdicts.variables.items true_of.variables all.variables n x is moment s t shared count;
    instances = λ n x is. same_of Instances verdicts.instances.items true_of.instances all.instances n x is moment s t shared count;
    memories = λ n x is. same_of Memories verdicts.memories.items true_of.memories all.memories n x is moment s t shared count;
  }

fresh_fits : (p : Drawing) → Fits p (fresh p)
fresh_fits p = record {
  values = length-map p.decls.vars (λ v. v.initial);
  memories = length-replicate (memories_of p) false;
  kinds = refl;
}

fresh_stands : (p : Drawing) → IsStanding (fresh p)
fresh_stands p = record { sound = fresh_sound p (fresh p).held (fresh p).kinds refl refl; small = omega arith }

pub fresh_agree_assuming : (p q : Drawing) → IsSound (diagram_of p) → IsSound (diagram_of q) → StaysAssuming p → StaysAssuming q → FreshRunsAgreeAssuming p q
fresh_agree_assuming p q old_sound new_sound old_law new_law c m verdicts stay true_of all no_input agree scans runs as_assumed =
    let a : BothAssumed = assumed_of_both c.assumed in
    agree_after p q old_sound new_sound c m no_input (equivalent (CountAssuming c) m p q verdicts true_of all) (still_count p q old_law new_law a c.states stay) scans
    (fresh p) (fresh q)
    (record {
      old_fits = fresh_fits p;
      new_fits = fresh_fits q;
      old_standing = fresh_stands p;
      new_standing = fresh_stands q;
      agree = agree;
      among = fresh_count p q a c.states stay;
    }) runs (as_assumed.of_old, as_assumed.of_new)
