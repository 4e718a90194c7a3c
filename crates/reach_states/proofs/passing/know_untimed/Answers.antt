use Rattle.std.proofs.Common.{◌∙◌, ap, arith, length}
use Rattle.std.proofs.lemmas.List.{length-map}
use Rattle.scan_signals.specs.Three.{three_known}
use Rattle.reach_runs.specs.declared.timing.Timing.TheVariants.{AnyMoments, Every}
use Rattle.reach_states.proofs.Knowing.{KnowsUntimed, untimed_allows}
use Rattle.reach_states.proofs.passing.know_untimed.Goals as goal

pub returns : goal.returns
returns c =
    let s = c.args.state.now in
    let fits = c.requires.fits in
    let is = c.loop-inst.invariant in
    let knows : KnowsUntimed c.args.program.now s c.args.now c.loop-inst.known = record {
      values = is.values;
      memories = is.memories;
      many = is.many;
      each = λ i lt. is.done i (omega (arith, ap length c.instances-inst-end.ensures.value, ap (λ decls. length decls.instances) c.decls.ensures));
    } in
    let allows = untimed_allows c.args.program.now s c.args.now c.loop-inst.known fits c.checked-2.ensures c.requires.now knows in record {
      any = allows AnyMoments;
      every = λ every. allows (Every every);
      sizes = record {
        values = ap length is.values ∙ length-map s.held.values three_known ∙ fits.values;
        memories = ap length is.memories ∙ length-map s.held.kept.memories three_known ∙ fits.memories;
        blocks = is.many;
      };
    }
