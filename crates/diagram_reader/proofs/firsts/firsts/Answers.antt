use Rattle.std.proofs.Common.{◌≡◌, ◌*◌, length, replicate, None, ap, subst, ◌∙◌, arith, rules}
use Rattle.diagram_program.specs.declared.geometry.TheConstants.{PLACES}
use Rattle.diagram_page.specs.Tables.{AreFirsts, HasBlock}
use Rattle.diagram_reader.proofs.FirstLaws.{none_noted, one_noted}
use Rattle.diagram_reader.proofs.firsts.firsts.Goals as goal

pub loop-n-init : goal.loop-n-init
loop-n-init c =
    none_noted _ _ _ (c.in_ok-firsts.ensures.items_if_clones_equal (λ y h. search rules) ∙ ap (λ xs. replicate (length xs) None) c.instances.ensures.value)

pub loop-n-preserved : goal.loop-n-preserved
loop-n-preserved c = one_noted _ _ _ _ _ _ c.loop-n.invariant c.block_in.ensures c.note.ensures

pub returns : goal.returns
returns c =
    let end : c.loop-n.n ≡ PLACES * c.args.rungs = omega (arith, c.loop-n.auto.n-end, c.loop-n-test.false) in
    subst (λ n. AreFirsts (HasBlock c.args.decls.now c.args.forms.now c.args.overs.now) (length c.args.decls.now.instances) n c.loop-n.firsts.items) end c.loop-n.invariant
