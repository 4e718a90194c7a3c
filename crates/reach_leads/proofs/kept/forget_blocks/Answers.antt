use Rattle.std.proofs.Common.{◌∙◌, sym, subst, ap}
use Rattle.scan_cycle.specs.Programs.{diagram_of}
use Rattle.scan_signals.specs.declared.tri.Tri.{Tri}
use Rattle.scan_symbolic.specs.KnownScan.{Known, kept_at}
use Rattle.scan_partial.specs.Sizes.{HasSizes}
use Rattle.std.specs.Prelude.{slice_set}
use Rattle.reach_states.specs.Untimed.{untimed}
use Rattle.reach_leads.specs.Forgetting.{forgotten}
use Rattle.reach_states.specs.Allowing.{AllowsState}
use Rattle.reach_states.specs.declared.untimed.Untimed.{Untimed}
use Rattle.reach_leads.proofs.ForgetLaws.{block_allows, block_sizes}
use Rattle.reach_leads.proofs.kept.forget_blocks.Goals as goal
use Rattle.reach_leads.proofs.kept.forget_blocks.Goals.{then-not-is_marked, else-not-is_marked}

pub loop-inst-preserved : goal.loop-inst-preserved
loop-inst-preserved c =
    let p = c.args.program.now in
    let k = c.loop-inst.known in
    elim c.if-not-is_marked.branch [
      | then-not-is_marked w ↦
          let is = sym (w.known-is ∙ w.keep.ensures ∙ ap (λ (b : Untimed). record k { blocks = slice_set k.blocks c.loop-inst.inst b }) (w.forgotten.ensures ∙ ap forgotten w.kept.ensures.is)) in
          record {
            allows = λ timing now held a. subst (λ (known : Known Tri Untimed). AllowsState timing (diagram_of p) now known held) is
                (block_allows timing (diagram_of p) now k held c.loop-inst.inst (c.loop-inst.invariant.allows timing now held a));
            sizes = subst (λ (known : Known Tri Untimed). HasSizes p known) is (block_sizes p k c.loop-inst.inst (forgotten (kept_at untimed k c.loop-inst.inst)) c.loop-inst.invariant.sizes);
          }
      | else-not-is_marked w ↦ record {
        allows = λ timing now held a. subst (λ (known : Known Tri Untimed). AllowsState timing (diagram_of p) now known held) (sym w.known-is) (c.loop-inst.invariant.allows timing now held a);
        sizes = subst (λ (known : Known Tri Untimed). HasSizes p known) (sym w.known-is) c.loop-inst.invariant.sizes;
      }
    ]
