use Rattle.std.proofs.Common.{◌≡◌, false, true, IsTrue, length, map, refl, sym, ap, ◌∙◌, arith, List}
use Rattle.std.proofs.lemmas.List.{length-map}
use Rattle.diagram_declarations.specs.declared.kind.BlockKind.TheVariants.{Ton}
use Rattle.diagram_declarations.specs.declared.kind.BlockKind.{BlockKind}
use Rattle.diagram_declarations.specs.declared.decls.Instance.{Instance}
use Rattle.scan_signals.specs.declared.block.Stored.{Stored}
use Rattle.scan_signals.specs.Blocks.{new_block}
use Rattle.scan_symbolic.proofs.Lists.{each_both, both_each}
use Rattle.scan_held.proofs.later.later_blocks.Goals as goal

off_on : false ≡ true → ⊥
off_on h = cc

as_many : (blocks : List Stored) (kinds : List BlockKind) (instances : List Instance) → length blocks ≡ length kinds → kinds ≡ map (λ i. i.kind) instances → length blocks ≡ length instances
as_many blocks kinds instances h e = h ∙ ap length e ∙ length-map instances (λ i. i.kind)

pub returns : goal.returns
returns c =
    let many : length c.instances-inst-end.result.now ≡ length c.args.program.now.decls.instances = cc in
    let before = as_many _ _ c.args.program.now.decls.instances c.checked.ensures.sound.as_many c.requires.before.kinds in
    let after = as_many _ _ c.args.program.now.decls.instances c.checked-2.ensures.sound.as_many c.requires.after.kinds in (
      λ h. each_both _ _ _ (before ∙ sym after) (new_block Ton) (new_block Ton) (λ i lt. c.loop-inst.invariant i (omega (arith, lt, many, before))),
      λ h. refl,
    )

pub returns-then-not-later_stored : goal.returns-then-not-later_stored
returns-then-not-later_stored c =
    let many : length c.instances-inst-end.result.now ≡ length c.args.program.now.decls.instances = cc in
    let before = as_many _ _ c.args.program.now.decls.instances c.checked.ensures.sound.as_many c.requires.before.kinds in (
      λ h. absurd (off_on h),
      λ h.
          let at = both_each _ _ _ h (new_block Ton) (new_block Ton) c.loop-inst.inst (omega (arith, many, before)) in
          let on : IsTrue c.later_stored.result = c.later_stored.ensures.1 (rw (c.instance-kind.ensures.preset, c.stored.ensures, c.stored-in-loop-inst.ensures) at) in
          cc,
    )
