use Rattle.std.proofs.Common.{ap, length, map, sym, subst, get_or, ◌∙◌}
use Rattle.std.proofs.lemmas.List.{length-set}
use Rattle.diagram_declarations.specs.declared.kind.BlockKind.TheVariants.{Ton}
use Rattle.scan_cycle.specs.Rung.{Held}
use Rattle.scan_cycle.specs.Standing.{CanStore, Standing}
use Rattle.scan_cycle.specs.RungByRung.{ArePossible, shape}
use Rattle.scan_cycle.proofs.Possible.{are_sound, can_possible, can_shape, set_possible, set_shapes, sound_possible, sound_shapes}
use Rattle.scan_cycle.proofs.state.State.set_block.Goals as goal

pub invariant_of-self : goal.invariant_of-self
invariant_of-self c =
    let inv = c.self.invariant in
    let can = subst (λ (s : Standing). CanStore (get_or s.kinds c.args.inst Ton) s.moment c.args.stored) (sym c.self.view_is) c.requires.stored in (
      record {
        values = inv.0.values ∙ sym (ap (λ (h : Held). length h.values) c.put_block.ensures);
        ends = inv.0.ends ∙ sym (ap (λ (h : Held). length h.kept.blocks) c.put_block.ensures ∙ length-set c.self.inside.storage.kept.blocks c.args.inst c.args.stored);
      },
      are_sound _ _ c.self.inside.moment
          (ap (λ (h : Held). map shape h.kept.blocks) c.put_block.ensures ∙ set_shapes _ _ c.args.inst _ (sound_shapes _ _ _ inv.1) (can_shape _ _ _ can))
          (subst (λ (h : Held). ArePossible c.self.inside.moment h.kept.blocks) (sym c.put_block.ensures)
          (set_possible _ _ c.args.inst _ (sound_possible _ _ _ inv.1) (can_possible _ _ _ can))),
    )
