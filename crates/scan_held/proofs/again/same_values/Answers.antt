use Rattle.std.proofs.Common.{◌≡◌, length, refl, sym, ◌∙◌, arith}
use Rattle.std.proofs.lemmas.List.{ext_get_or}
use Rattle.scan_signals.specs.declared.tri.Tri.TheVariants.{Off}
use Rattle.scan_held.proofs.again.same_values.Goals as goal

pub returns : goal.returns
returns c =
    let many : length c.vars-var-end.result.now ≡ length c.args.program.now.decls.vars = cc in (
      λ h. ext_get_or Off _ _ (c.requires.before.values ∙ sym c.requires.after.values)
          (λ i lt. c.loop-var.invariant i (omega (arith, lt, many, c.requires.before.values))),
      λ h. refl,
    )
