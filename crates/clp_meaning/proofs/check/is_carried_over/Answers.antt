use Rattle.std.proofs.Common.{◌∙◌, arith, sym}
use Rattle.clp_meaning.proofs.check.is_carried_over.Goals as goal

pub returns : goal.returns
returns c = (
  λ same. record {
    apart = c.are_apart.ensures.0 c.if-not-are_apart.false;
    instances = rw (c.instances.ensures.value, c.decls-decls.ensures) at (c.are_instances.ensures.0 c.if-not-are_instances.false);
    off = sym (rw (c.vars.ensures.value, c.decls-decls.ensures) at c.are_off.ensures) ∙ c.if-not-are_off.false;
    unseen = rw (c.as_slice.ensures.value, c.as_slice-rungs.ensures.value) at (c.all_unseen.ensures.0 c.if-not-all_unseen.false);
    count = omega (arith, c.rungs.ensures.value, c.as_slice-rungs.ensures.len, c.as_slice-rungs.ensures.value, c.if-rungs.false);
    rungs = rw c.as_slice-rungs.ensures.value at (c.are_carried.ensures.0 same);
  },
  λ carried. c.are_carried.ensures.1 (rw (← c.as_slice-rungs.ensures.value) at carried.rungs),
)
