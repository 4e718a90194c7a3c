use Rattle.std.proofs.Common.{◌∙◌, sym, ap, subst, List}
use Rattle.diagram_program.specs.Gates.{gates_of}
use Rattle.scan_cycle.specs.Cells.{Frame}
use Rattle.scan_cycle.specs.Programs.{diagram_of}
use Rattle.scan_cycle.proofs.GateLaws.{gates_inside}
use Rattle.scan_partial.specs.Evaluating.{ran_in, AreLinksIn}
use Rattle.scan_partial.proofs.GateLaws.{links_are}
use Rattle.scan_partial.proofs.gates.find_links.Goals as goal

pub pass_gates-requires-clause-gates : goal.pass_gates-requires-clause-gates
pass_gates-requires-clause-gates g c = gates_inside c.args.scene.program.now c.args.scene.rung

pub returns-clause-links : goal.returns-clause-links
returns-clause-links g c =
    let o = g.S.Operations.algebra in
    let w = g.B.Keep.keeping in
    let p = c.args.scene.program.now in
    let now = c.args.scene.now in
    let j = c.args.scene.rung in
    let k = c.args.known.now in
    let rails = c.set_rails.new.links in
    subst (λ (xs : List _). AreLinksIn o w p now j k xs)
    (sym (c.pass_gates.ensures ∙ ap (λ (f : Frame _). ran_in o w (diagram_of p) now j f k (gates_of p j) rails) c.requires.seen))
    (links_are o g.S.Operations.value g.met.S.Signal.lattice w g.B.Keep.kept g.met.B.Keep.keeps p now j k c.checked.ensures
    rails c.set_rails.ensures.length c.set_rails.ensures.on c.set_rails.ensures.off)
