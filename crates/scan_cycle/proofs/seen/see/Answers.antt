use Rattle.std.proofs.Common.{◌≡◌, ◌∙◌, ap, sym, subst, arith, map, List}
use Rattle.diagram_declarations.specs.declared.kind.BlockKind.{BlockKind}
use Rattle.scan_cycle.specs.Rung.{Held}
use Rattle.scan_cycle.specs.RungByRung.{ArePossible, shape}
use Rattle.scan_cycle.specs.Standing.{AreSound, Standing}
use Rattle.scan_cycle.proofs.Possible.{after_sound}
use Rattle.scan_cycle.proofs.seen.see.Goals as goal

pub invariant_of-result : goal.invariant_of-result
invariant_of-result c =
    let same : c.in_ok-storage.storage ≡ c.state.inside.storage = c.in_ok-storage.ensures in (
      c.in_ok-marks.ensures.sizes,
      subst (λ (kinds : List BlockKind). AreSound kinds c.see_storage.new.storage.kept.blocks c.args.now) (sym (c.in_ok-kinds.ensures.items ∙ c.deref.ensures.value))
          (after_sound c.state.inside.moment c.args.now _ c.state.inside.storage.kept.blocks _ c.state.invariant.1
          (omega (arith, c.requires, ap (λ (s : Standing). s.moment) c.state.view_is))
          (c.in_ok-marks.ensures.shapes ∙ ap (λ (h : Held). map shape h.kept.blocks) same)
          (subst (λ (h : Held). ArePossible c.args.now h.kept.blocks → ArePossible c.args.now c.see_storage.new.storage.kept.blocks) same c.in_ok-marks.ensures.possible)),
    )
