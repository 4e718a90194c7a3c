use Rattle.std.proofs.Common.{◌≡◌, ◌∙◌, ap, map, arith}
use Rattle.std.proofs.lemmas.Grind.{common_steps}
use Rattle.std.proofs.lemmas.Simd.{map-map}
use Rattle.scan_signals.specs.Blocks.{q_of}
use Rattle.scan_cycle.specs.Rung.{Held}
use Rattle.scan_cycle.proofs.image.Image.know.Goals as goal

pub returns : goal.returns
returns g c =
    let known = g.S.Operations.algebra.known in
    let ends : c.know_each-2.new.signals ≡ map (λ b. known (q_of b)) c.args.storage.now.kept.blocks =
    c.know_each-2.ensures ∙ ap (map known) (c.deref-2.ensures.value ∙ c.storage.invariant) ∙ map-map known q_of c.storage.inside.blocks.items
    ∙ ap (λ (h : Held). map (λ b. known (q_of b)) h.kept.blocks) c.storage.view_is in
    grind (arith, common_steps, ends)
