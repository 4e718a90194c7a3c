use Rattle.std.proofs.Common.{refl, sym, ◌∙◌, arith}
use Rattle.std.proofs.lemmas.List.{ext_get_or}
use Rattle.scan_signals.specs.declared.tri.Tri.TheVariants.{Off}
use Rattle.scan_held.proofs.again.same_memories.Goals as goal

pub returns : goal.returns
returns c = (
  λ h. ext_get_or Off _ _ (c.requires.before.memories ∙ sym c.requires.after.memories)
      (λ i lt. c.loop-number.invariant i (omega (arith, lt, c.requires.before.memories))),
  λ h. refl,
)
