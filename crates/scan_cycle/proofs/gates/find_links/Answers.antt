use Rattle.std.proofs.Common.{sym, subst, List}
use Rattle.scan_cycle.specs.Gating.{AreLinks}
use Rattle.scan_cycle.proofs.GateLaws.{gates_inside, links_are}
use Rattle.scan_cycle.proofs.gates.find_links.Goals as goal

pub pass_gates-requires-clause-gates : goal.pass_gates-requires-clause-gates
pass_gates-requires-clause-gates g c = gates_inside c.args.scene.program.now c.args.scene.rung

pub returns-clause-links : goal.returns-clause-links
returns-clause-links g c =
    let s = g.S.Operations in
    let o = g.S.Operations.algebra in
    subst (λ (xs : List _). AreLinks o c.args.scene.program.now c.args.storage.now.kept c.args.scene.now c.args.scene.rung c.args.seen.now xs) (sym c.pass_gates.ensures)
    (links_are o s.value g.met.S.Signal.lattice c.args.scene.program.now c.args.storage.now.kept c.args.scene.now c.args.scene.rung c.args.seen.now c.requires.values
    c.set_rails.new.links c.set_rails.ensures.length c.set_rails.ensures.on c.set_rails.ensures.off)
