use Rattle.std.proofs.Common.{ap, sym, ◌∙◌, ◌≡◌, rules}
use Rattle.scan_signals.specs.Truth.{plain}
use Rattle.scan_signals.specs.Blocks.{q_of}
use Rattle.scan_cycle.specs.Programs.{diagram_of}
use Rattle.scan_cycle.specs.Gating.{among}
use Rattle.scan_incremental.proofs.Rung.{block_woken, block_quiet}
use Rattle.scan_incremental.proofs.effects.run_action.Goals as goal

pub returns-then-q-before-clause-woken : goal.returns-then-q-before-clause-woken
returns-then-q-before-clause-woken c =
    block_woken c.args.users.now (diagram_of c.args.scene.program.now) c.args.scene.now c.args.start.now c.args.action.cell c.in-Block.inst
    (among plain c.args.links.now c.args.action.left) (among plain c.args.links.now c.args.action.below) c.args.storage.now c.change-in-Block.new.storage
    c.in-Block.is c.change-in-Block.ensures c.args.next.now c.wake_output.new.next c.wake_output.ensures

pub returns-else-q-before-clause-woken : goal.returns-else-q-before-clause-woken
returns-else-q-before-clause-woken c =
    let same : c.q.result ≡ c.q-before.result = search rules in
    block_quiet c.args.users.now (diagram_of c.args.scene.program.now) c.args.scene.now c.args.start.now c.args.action.cell c.in-Block.inst
    (among plain c.args.links.now c.args.action.left) (among plain c.args.links.now c.args.action.below) c.args.storage.now c.change-in-Block.new.storage
    c.in-Block.is c.change-in-Block.ensures c.args.next.now
    (ap q_of (sym c.stored-in-Block.ensures) ∙ sym c.q.ensures ∙ same ∙ c.q-before.ensures ∙ ap q_of c.stored.ensures)
