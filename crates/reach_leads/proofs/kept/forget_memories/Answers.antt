use Rattle.std.proofs.Common.{◌∙◌, sym, subst}
use Rattle.scan_cycle.specs.Programs.{diagram_of}
use Rattle.scan_signals.specs.declared.tri.Tri.{Tri}
use Rattle.scan_symbolic.specs.KnownScan.{Known}
use Rattle.scan_partial.specs.Sizes.{HasSizes}
use Rattle.reach_states.specs.Allowing.{AllowsState}
use Rattle.reach_states.specs.declared.untimed.Untimed.{Untimed}
use Rattle.reach_leads.proofs.ForgetLaws.{memory_allows, memory_sizes}
use Rattle.reach_leads.proofs.kept.forget_memories.Goals as goal
use Rattle.reach_leads.proofs.kept.forget_memories.Goals.{then-not-is_marked, else-not-is_marked}

pub loop-number-preserved : goal.loop-number-preserved
loop-number-preserved c =
    let p = c.args.program.now in
    let k = c.loop-number.known in
    elim c.if-not-is_marked.branch [
      | then-not-is_marked w ↦
          let is = sym (w.known-is ∙ w.put_memory.ensures) in
          record {
            allows = λ timing now held a. subst (λ (known : Known Tri Untimed). AllowsState timing (diagram_of p) now known held) is
                (memory_allows timing (diagram_of p) now k held c.loop-number.number (c.loop-number.invariant.allows timing now held a));
            sizes = subst (λ (known : Known Tri Untimed). HasSizes p known) is (memory_sizes p k c.loop-number.number c.loop-number.invariant.sizes);
          }
      | else-not-is_marked w ↦ record {
        allows = λ timing now held a. subst (λ (known : Known Tri Untimed). AllowsState timing (diagram_of p) now known held) (sym w.known-is) (c.loop-number.invariant.allows timing now held a);
        sizes = subst (λ (known : Known Tri Untimed). HasSizes p known) (sym w.known-is) c.loop-number.invariant.sizes;
      }
    ]
