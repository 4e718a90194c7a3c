use Rattle.std.proofs.Common.{arith}
use Rattle.text_state.proofs.Naming.{named_all, named_more}
use Rattle.text_state.proofs.laws.named_instances.Goals as goal

pub loop-number-init : goal.loop-number-init
loop-number-init c = λ number h. absurd (omega (arith, h))

pub loop-number-preserved : goal.loop-number-preserved
loop-number-preserved c =
    named_more (λ x. x.name) c.args.instances.now c.loop-number.number c.index-instances-number.result c.loop-number.invariant c.bytes-name.ensures.named

pub returns : goal.returns
returns c = named_all (λ x. x.name) c.args.instances.now c.loop-number.number (omega arith) c.loop-number.invariant
