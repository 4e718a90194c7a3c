use Rattle.std.proofs.Common.{◌≡◌, drop, length, true}
use Rattle.diagram_program.specs.declared.gates.TheConstants.{LINKS}
use Rattle.scan_symbolic.specs.Stepping.{going, all_gone}
use Rattle.scan_symbolic.proofs.steps.run_steps.Given as goal

abbrev pub invariant-loop-step : goal.invariant-loop-step
invariant-loop-step g l =
    let o = g.S.Operations.algebra in
    let p = l.base.program.now in
    let k = l.base.storage.now.kept in
    record {
      values : length l.seen.values ≡ length p.decls.vars;
      links : length l.links ≡ LINKS;
      taken : length l.taken ≡ p.rungs;
      gone : all_gone o p k l.base.now (drop l.step-index l.steps) (going l.seen l.taken l.links l.guard)
          ≡ all_gone o p k l.base.now l.steps (going l.fn.seen l.fn.taken l.fn.links (o.known true));
    }
