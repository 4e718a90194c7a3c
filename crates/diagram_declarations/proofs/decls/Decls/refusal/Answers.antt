use Rattle.std.proofs.Common.{◌≡◌, sym, ◌∙◌, subst, ap, length, arith}
use Rattle.diagram_declarations.specs.Decls.{Declared, AreInRange}
use Rattle.diagram_declarations.proofs.Keeping.{AreInRange-var, AreInRange-instance}
use Rattle.diagram_declarations.proofs.decls.Decls.refusal.Goals as goal

pub returns-else-len-ge-MOST_VARS-clause-none : goal.returns-else-len-ge-MOST_VARS-clause-none
returns-else-len-ge-MOST_VARS-clause-none c =
    let d : Declared = c.args.self.now in
    let kept : AreInRange d = subst AreInRange c.self.view_is c.self.invariant.0 in
    let vars : d.vars ≡ c.self.inside.vars.items = ap (λ x. x.vars) (sym c.self.view_is) in
    rw c.in-Var.is (λ _. AreInRange-var d c.args.name.now c.in-Var.kind c.in-Var.address c.in-Var.initial kept
    (sym c.is_declared.ensures ∙ c.if-is_declared.false) (cc) (omega (arith, ap length vars)))

pub returns-else-len-ge-MOST_INSTANCES-clause-none : goal.returns-else-len-ge-MOST_INSTANCES-clause-none
returns-else-len-ge-MOST_INSTANCES-clause-none c =
    let d : Declared = c.args.self.now in
    let kept : AreInRange d = subst AreInRange c.self.view_is c.self.invariant.0 in
    let instances : d.instances ≡ c.self.inside.instances.items = ap (λ x. x.instances) (sym c.self.view_is) in
    rw c.in-Instance.is (λ fits. AreInRange-instance d c.args.name.now c.in-Instance.kind c.in-Instance.preset kept
    (sym c.is_declared-else-bytes-traits.ensures ∙ c.if-is_declared-2.false)
    (omega (arith, ap length c.bytes.ensures.spelling, c.traits.ensures.longest_name)) (omega (arith, ap length instances)) fits)
