use Rattle.std.proofs.Common.{◌≡◌, ◌+◌, ◌&&◌, ◌==◌, cond, length, ◌∙◌, subst, sym, arith}
use Rattle.std.proofs.lemmas.Grind.{common_steps}
use Rattle.diagram_declarations.specs.Decls.{is_input, AreInRange}
use Rattle.diagram_declarations.specs.ReadDecls.{with_var}
use Rattle.diagram_declarations.proofs.Keeping.{leading-var}
use Rattle.diagram_declarations.proofs.decls.Decls.push_var.Goals as goal
use Rattle.diagram_declarations.proofs.decls.Decls.push_var.Goals.{then-leading-len+then-is_input, else-leading-len, else-leading-len-via-then-leading-len+else-is_input, else-leading-len-via-else-leading-len}

pub invariant_of-self-2 : goal.invariant_of-self-2
invariant_of-self-2 c =
    let kept = subst (λ d. AreInRange (with_var d c.args.var)) (sym c.self.view_is) c.requires in
    let one : c.if-leading-len.leading ≡ cond (c.self.inside.leading == length c.self.inside.vars.items && is_input c.args.var) (c.self.inside.leading + 1) c.self.inside.leading
    = elim c.if-leading-len.branch [
      | then-leading-len+then-is_input w ↦ grind (arith, common_steps)
      | else-leading-len w ↦ elim w.else-leading-len.branch [
        | else-leading-len-via-then-leading-len+else-is_input v ↦ grind (arith, common_steps)
        | else-leading-len-via-else-leading-len v ↦ grind (arith, common_steps)
      ]
    ] in
    rw c.in_ok-push.ensures.items (kept, one ∙ leading-var c.self.inside.vars.items c.args.var c.self.inside.leading c.self.invariant.1)
