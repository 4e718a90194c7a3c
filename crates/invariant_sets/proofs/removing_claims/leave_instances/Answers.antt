use Rattle.std.proofs.Common.{arith, rules, subst}
use Rattle.diagram_declarations.specs.declared.decls.Symbol.TheVariants.{Instance}
use Rattle.scan_symbolic.specs.KnownScan.{Known}
use Rattle.scan_signals.specs.declared.tri.Tri.{Tri}
use Rattle.invariant_cases.specs.declared.outcome.Outcome.{Outcome}
use Rattle.invariant_sets.specs.Removing.{IsLeftSo}
use Rattle.invariant_sets.proofs.Left.{claim_goes, claim_stays, same_left}
use Rattle.invariant_sets.proofs.Settled.{kept_on}
use Rattle.invariant_sets.proofs.removing_claims.leave_instances.Goals.{then-not-keeps, else-not-keeps}
use Rattle.invariant_cases.specs.Assuming.{assumed_of}
use Rattle.invariant_sets.proofs.removing_claims.leave_instances.Goals as goal

pub loop-inst-preserved : goal.loop-inst-preserved
loop-inst-preserved c =
    let r = c.args.round in
    let inv = c.loop-inst.invariant in
    let buffers = kept_on r.basis.program.now _ _ _ inv.buffers c.keeps.ensures.buffers in
    elim c.if-not-keeps.branch [
      | then-not-keeps w ↦ record {
        left = same_left _ _ c.args.instances.now _ _ _ _ _ w.instances-is w.removed-is
            (claim_goes _ _ c.args.instances.now c.loop-inst.instances _ c.loop-inst.inst inv.left (omega (arith, c.loop-inst-test.true, c.loop-inst.auto.instances)) c.keeps.result
            w.if-not-keeps.true _ c.keeps.ensures.told c.keeps.ensures.open);
        few = search rules;
        buffers = buffers;
      }
      | else-not-keeps w ↦ record {
        left = same_left _ _ c.args.instances.now _ _ _ _ _ w.instances-is w.removed-is
            (claim_stays _ _ c.args.instances.now c.loop-inst.instances _ c.loop-inst.inst inv.left (omega (arith, c.loop-inst-test.true, c.loop-inst.auto.instances)) c.keeps.result
            w.if-not-keeps.false _
            (λ kept value m. subst (λ (k : Known Tri Outcome). IsLeftSo r.basis.program.now (assumed_of r.basis.assumption) r.pairs.now (Instance c.loop-inst.inst) r.after.now k r.basis.scans value) inv.buffers.case (c.keeps.ensures.stays kept value m)));
        few = search rules;
        buffers = buffers;
      }
    ]
