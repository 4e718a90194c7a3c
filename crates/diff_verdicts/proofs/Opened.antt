-- What is known of states that agree and count, before anything is asked of them, allows them.
use Rattle.std.proofs.Common.{◌≡◌, ◌∙◌, subst, sym, refl, ℕ, zero, suc, length, replicate}
use Rattle.std.proofs.lemmas.List.{length-replicate}
use Rattle.diagram_program.specs.Program.{Drawing}
use Rattle.scan_signals.specs.declared.tri.Tri.TheVariants.{Unsure}
use Rattle.scan_cycle.specs.Rung.{Held}
use Rattle.scan_cycle.specs.Standing.{Standing}
use Rattle.invariant_cases.proofs.Values.{unsure_known}
use Rattle.invariant_sets.specs.Invariants.{KnowingAllows}
use Rattle.invariant_sets.specs.Never.{IsSetOf, IsSo, claims, knowing}
use Rattle.diff_matching.specs.Matching.{AreShared, Matching}
use Rattle.diff_cases.specs.Alike.{IsComparable, SettledAlikeHolds}
use Rattle.diff_cases.specs.Assuming.{AreTrueIn, assumed_of_both}
use Rattle.diff_cases.specs.Cases.{IsSettledAlikeAssuming}
use Rattle.diff_cases.specs.declared.assumptions.Assumptions.{Assumptions}
use Rattle.diff_cases.specs.declared.target.Target.{Target}
use Rattle.diff_meaning.specs.Counting.{AreOfPrograms, Count, CountAssuming}
use Rattle.diff_meaning.specs.Verdicts.{LeavesAlikeWhere}
use Rattle.diff_meaning.specs.declared.counted.Counted.{Counted}
use Rattle.diff_meaning.specs.declared.counted.CountedStates.{CountedStates}
use Rattle.diff_meaning.specs.declared.counted.CountedStates.TheVariants.{All, Reachable}
use Rattle.diff_meaning.specs.declared.verdict.PairSort.TheVariants.{Variables, Instances}
use Rattle.diff_verdicts.specs.Carrying.{Knowns, carried_all}
use Rattle.diff_verdicts.specs.Judging.{no_claims, opening, opening_among}
use Rattle.diff_verdicts.proofs.Carrying.{AllowBoth, carried_allows}

none_in : (n i : ℕ) → claims (replicate n Unsure) i ≡ Unsure
none_in zero i = refl
none_in (suc n) zero = refl
none_in (suc n) (suc i) = none_in n i

none_is_set : (p : Drawing) → IsSetOf p (no_claims p)
none_is_set p = record {
  variables = length-replicate (length p.decls.vars) Unsure;
  instances = length-replicate (length p.decls.instances) Unsure;
  no_input = λ var e. none_in (length p.decls.vars) var;
}

none_is_so : (p : Drawing) (h : Held) → IsSo (no_claims p) h
none_is_so p h = record {
  variables = λ var value e. absurd (unsure_known value (sym (none_in (length p.decls.vars) var) ∙ e));
  instances = λ inst value e. absurd (unsure_known value (sym (none_in (length p.decls.instances) inst) ∙ e));
}

-- All that is known of two states that agree and count allows them.
opening_allows : (c : CountedStates) (m : Matching) (p q : Drawing) → KnowingAllows p → KnowingAllows q → AreOfPrograms c p q → (moment : ℕ) (s t : Standing)
    → AreShared m p q moment s t → Count c s.held t.held → AllowBoth p q moment (opening_among c m p q) s.held t.held
opening_allows All m p q old_allows new_allows of moment s t shared count = record {
  of_old = old_allows s shared.old_fits shared.old_standing (no_claims p) (none_is_set p) (none_is_so p s.held) moment;
  of_new = new_allows t shared.new_fits shared.new_standing (no_claims q) (none_is_set q) (none_is_so q t.held) moment;
}
opening_allows (Reachable old new) m p q old_allows new_allows of moment s t shared count =
    let told_of_both : Knowns = record { of_old = knowing p old.steady; of_new = knowing q new.steady } in
    carried_allows m p q moment s.held t.held shared.agree Instances (carried_all Variables m.variables told_of_both)
    (carried_allows m p q moment s.held t.held shared.agree Variables told_of_both (record {
      of_old = old_allows s shared.old_fits shared.old_standing old.steady of.0.set count.0.so moment;
      of_new = new_allows t shared.new_fits shared.new_standing new.steady of.1.set count.1.so moment;
    }))

-- What is settled alike where this is known is left alike from all states that agree and count.
pub left_alike : (c : Counted) (m : Matching) (p q : Drawing) (target : Target) → KnowingAllows p → KnowingAllows q → SettledAlikeHolds p q → AreOfPrograms c.states p q
    → IsComparable m p q target → IsSettledAlikeAssuming p q (assumed_of_both c.assumed) m target (opening c m p q).of_old (opening c m p q).of_new
    → LeavesAlikeWhere (CountAssuming c) m p q target
left_alike c m p q target old_allows new_allows holds of can settled moment s t shared count =
    let allow = opening_allows c.states m p q old_allows new_allows of moment s t shared count.among in
    holds (assumed_of_both c.assumed) m target can (opening c m p q).of_old (opening c m p q).of_new settled moment s.held t.held allow.of_old allow.of_new
    shared.agree shared.inputs count.true_in

-- What is left alike from all states that agree, in which what is assumed is true, is so from those that count.
pub from_all : (c d : Counted) (m : Matching) (p q : Drawing) (target : Target) → d.states ≡ All → d.assumed ≡ c.assumed → LeavesAlikeWhere (CountAssuming d) m p q target
    → LeavesAlikeWhere (CountAssuming c) m p q target
from_all c d m p q target all same left moment s t shared count =
    left moment s t shared (record {
      among = subst (λ (states : CountedStates). Count states s.held t.held) (sym all) tt;
      true_in = subst (λ (a : Assumptions). AreTrueIn (assumed_of_both a) s.held t.held) (sym same) count.true_in;
    })
