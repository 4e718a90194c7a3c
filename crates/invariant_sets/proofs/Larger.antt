-- What one scan leaves so of a set it leaves so of a larger one.
use Rattle.std.proofs.Common.{◌≡◌, ◌∙◌, Bool, true, false, [], subst, sym}
use Rattle.diagram_program.specs.Program.{Drawing, memories_of}
use Rattle.scan_cycle.specs.Programs.{diagram_of}
use Rattle.scan_symbolic.specs.KnownScan.{kept_at}
use Rattle.scan_symbolic.specs.KnownLaws.{BothKnown, ScanKeeps}
use Rattle.scan_symbolic.proofs.Lists.{get_both}
use Rattle.scan_signals.specs.Three.{three, three_known}
use Rattle.scan_signals.specs.declared.tri.Tri.{Tri}
use Rattle.scan_signals.specs.declared.tri.Tri.TheVariants.{Unsure}
use Rattle.invariant_sets.specs.Never.{after_knowing, knowing}
use Rattle.invariant_cases.specs.OutcomeLaws.{tells_q}
use Rattle.invariant_cases.specs.Outcomes.{KnowsMore, TellsMore, outcomes}
use Rattle.invariant_sets.specs.Removing.{LeavesSo}
use Rattle.invariant_cases.specs.declared.outcome.Outcome.TheVariants.{Anything}
use Rattle.invariant_sets.proofs.Listed.{blocks_more, memories_more, values_more}
use Rattle.invariant_cases.proofs.Settling.{both_at}

known_too : (x y : Tri) (value : Bool) → KnowsMore x y → x ≡ three_known value → y ≡ three_known value
known_too x y true h e = subst (λ (x : Tri). KnowsMore x y) e h
known_too x y false h e = subst (λ (x : Tri). KnowsMore x y) e h

pub leaves_so : (p : Drawing) → ScanKeeps (diagram_of p) three three outcomes outcomes KnowsMore (λ inst. TellsMore) 0 0 → LeavesSo p
leaves_so p grows z w set set2 within stays =
    let k = after_knowing p z in
    let l = after_knowing p w in
    let both : BothKnown KnowsMore (λ inst. TellsMore) k l = grows [] [] tt (knowing p z) (knowing p w) (record {
      values = values_more z.variables w.variables (set.variables ∙ sym set2.variables) within.variables;
      memories = memories_more (memories_of p);
      blocks = blocks_more z.instances w.instances (set.instances ∙ sym set2.instances) within.instances;
    }) in
    record {
      variables = λ var value m. known_too _ _ value (both_at KnowsMore k.values l.values both.values Unsure Unsure tt var) (stays.variables var value m);
      instances = λ inst value m.
          known_too _ _ value (tells_q (kept_at outcomes k inst) (kept_at outcomes l inst)
          (get_both (λ i. TellsMore) k.blocks l.blocks both.blocks Anything Anything (λ i. tt) inst)) (stays.instances inst value m);
    }
