-- Where nothing is assumed, what is so by the states that count where something is assumed is so by those that count then.
use Rattle.std.proofs.Common.{◌≡◌, map, refl, subst, sym, Bool, List}
use Rattle.diagram_program.specs.Program.{Drawing}
use Rattle.scan_cycle.specs.Rung.{Held}
use Rattle.scan_cycle.specs.Standing.{Standing, fresh}
use Rattle.diff_matching.specs.Matching.{Matching}
use Rattle.diff_matching.specs.Runs.{new_scan, old_scan}
use Rattle.diff_cases.specs.Assuming.{AreTrueIn, BothAssumed, assumed_of_both, nothing_of_both}
use Rattle.diff_cases.specs.declared.assumptions.Assumptions.{Assumptions}
use Rattle.diff_cases.specs.declared.target.Target.{Target}
use Rattle.diff_meaning.specs.Counting.{Count, CountAssuming, StayFromFresh, StayFromFreshAssuming}
use Rattle.diff_meaning.specs.Laws.{AreAsAssumed, AreTrueOfAll, AreWitnessesOfAll, FreshRunsAgree, FreshRunsAgreeAssuming}
use Rattle.diff_meaning.specs.Verdicts.{AreTrue, AreTrueOf, IsTrueOf, Shows, target_of}
use Rattle.diff_meaning.specs.Witnesses.{AreWitnesses}
use Rattle.diff_meaning.specs.declared.counted.Counted.{Counted}
use Rattle.diff_meaning.specs.declared.counted.CountedStates.{CountedStates}
use Rattle.diff_meaning.specs.declared.counted.CountedStates.TheVariants.{All, Reachable}
use Rattle.diff_meaning.specs.declared.verdict.PairSort.{PairSort}
use Rattle.diff_meaning.specs.declared.verdict.PairSort.TheVariants.{Variables, Instances, Memories}
use Rattle.diff_meaning.specs.declared.verdict.Verdict.{Verdict}
use Rattle.diff_meaning.specs.declared.verdict.Verdict.TheVariants.{Same, Differs, Unsettled}
use Rattle.diff_meaning.specs.declared.verdict.Verdicts.{Verdicts}
use Rattle.diff_meaning.specs.declared.witness.Witness.{Witness}
use Rattle.diff_meaning.proofs.Running.{all_allowed}

-- ---- two words for the same states

module _ (These Those : Held → Held → Type 0) (there : (h g : Held) → These h g → Those h g) (back : (h g : Held) → Those h g → These h g)
    (m : Matching) (p q : Drawing) where
  shown_there : (target : Target) (s t : Standing) (a b : Bool) → Shows These m p q target s t a b → Shows Those m p q target s t a b
  shown_there target s t a b shows = record {
    witness = record { shared = shows.witness.shared; count = there s.held t.held shows.witness.count; differ = shows.witness.differ };
    of_old = shows.of_old;
    of_new = shows.of_new;
  }

  one_there : (target : Target) (verdict : Verdict) → IsTrueOf These m p q target verdict → IsTrueOf Those m p q target verdict
  one_there target Same left = λ moment s t shared count. left moment s t shared (back s.held t.held count)
  one_there target (Differs a b) some = (some.0, some.1, shown_there target some.0 some.1 a b some.2)
  one_there target Unsettled none = tt

  sort_there : (sort : PairSort) (verdicts : List Verdict) → AreTrueOf These m p q sort verdicts → AreTrueOf Those m p q sort verdicts
  sort_there sort verdicts are = record {
    as_many = are.as_many;
    each = λ n x verdict pair told. one_there (target_of sort x) verdict (are.each n x verdict pair told);
  }

  true_there : (verdicts : Verdicts) → AreTrue These m p q verdicts → AreTrue Those m p q verdicts
  true_there verdicts are = record {
    variables = sort_there Variables verdicts.variables.items are.variables;
    instances = sort_there Instances verdicts.instances.items are.instances;
    memories = sort_there Memories verdicts.memories.items are.memories;
  }

  witnesses_there : (verdicts : Verdicts) (witnesses : List Witness) → AreWitnesses These m p q verdicts witnesses → AreWitnesses Those m p q verdicts witnesses
  witnesses_there verdicts witnesses are = record {
    each = are.each;
    show = λ n w within. shown_there _ _ _ _ _ (are.show n w within);
  }

-- ---- where nothing is assumed

among : (c : Counted) (h g : Held) → CountAssuming c h g → Count c.states h g
among c h g count = count.among

module _ (c : Counted) (none : assumed_of_both c.assumed ≡ nothing_of_both) where
  all_count : (h g : Held) → Count c.states h g → CountAssuming c h g
  all_count h g count = record { among = count; true_in = subst (λ (a : BothAssumed). AreTrueIn a h g) (sym none) (refl, refl) }

pub true_of_all : (p q : Drawing) → AreTrueOfAll p q
true_of_all p q c m verdicts none = true_there (CountAssuming c) (Count c.states) (among c) (all_count c none) m p q verdicts

pub witnesses_of_all : (p q : Drawing) → AreWitnessesOfAll p q
witnesses_of_all p q c m verdicts witnesses none = witnesses_there (CountAssuming c) (Count c.states) (among c) (all_count c none) m p q verdicts witnesses

stay_so : (p q : Drawing) (c : CountedStates) → StayFromFresh c p q → StayFromFreshAssuming nothing_of_both c p q
stay_so p q All stay = tt
stay_so p q (Reachable old new) stay = stay

pub fresh_agree : (p q : Drawing) (a : Assumptions) → assumed_of_both a ≡ nothing_of_both → FreshRunsAgreeAssuming p q → FreshRunsAgree p q
fresh_agree p q a none law c m verdicts stay true_of all no_input agree scans runs =
    let d : Counted = record { states = c; assumed = a } in
    law d m verdicts (subst (λ (b : BothAssumed). StayFromFreshAssuming b c p q) (sym none) (stay_so p q c stay))
    (true_there (Count c) (CountAssuming d) (all_count d none) (among d) m p q verdicts true_of) all no_input agree scans runs
    (subst (λ (b : BothAssumed). AreAsAssumed b p q scans) (sym none)
    (record { of_old = all_allowed p (map old_scan scans) (fresh p).held; of_new = all_allowed q (map new_scan scans) (fresh q).held }))
