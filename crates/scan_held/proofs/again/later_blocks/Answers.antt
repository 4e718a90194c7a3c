use Rattle.std.proofs.Common.{◌≡◌, false, true, IsTrue, length, refl, sym, ◌∙◌, arith}
use Rattle.diagram_declarations.specs.declared.kind.BlockKind.TheVariants.{Ton}
use Rattle.scan_signals.specs.Blocks.{new_block}
use Rattle.scan_symbolic.proofs.Lists.{each_both, both_each}
use Rattle.scan_held.specs.Partly.{partly}
use Rattle.scan_held.proofs.again.later_blocks.Goals as goal

off_on : false ≡ true → ⊥
off_on h = cc

pub returns : goal.returns
returns c =
    let many : length c.instances-inst-end.result.now ≡ length c.args.program.now.decls.instances = cc in (
      λ h. each_both _ _ _ (c.requires.before.blocks ∙ sym c.requires.after.blocks) (partly.stored (new_block Ton)) (partly.stored (new_block Ton))
          (λ i lt. c.loop-inst.invariant i (omega (arith, lt, many, c.requires.before.blocks))),
      λ h. refl,
    )

pub returns-then-not-later_partly : goal.returns-then-not-later_partly
returns-then-not-later_partly c =
    let many : length c.instances-inst-end.result.now ≡ length c.args.program.now.decls.instances = cc in (
      λ h. absurd (off_on h),
      λ h.
          let at = both_each _ _ _ h (partly.stored (new_block Ton)) (partly.stored (new_block Ton)) c.loop-inst.inst (omega (arith, many, c.requires.before.blocks)) in
          let on : IsTrue c.later_partly.result = c.later_partly.ensures.1 (rw (c.instance-kind.ensures.preset, c.kept.ensures.is, c.kept-in-loop-inst.ensures.is) at) in
          cc,
    )
