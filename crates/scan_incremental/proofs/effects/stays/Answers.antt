use Rattle.std.proofs.Common.{◌≡◌, rules, sym, ◌∙◌, get_or}
use Rattle.diagram_declarations.specs.declared.kind.BlockKind.TheVariants.{Ton}
use Rattle.scan_signals.specs.Blocks.{new_block}
use Rattle.scan_cycle.specs.Programs.{diagram_of}
use Rattle.scan_incremental.proofs.Settled.{stays_by}
use Rattle.scan_incremental.proofs.effects.stays.Goals as goal

pub returns-then-is_settled : goal.returns-then-is_settled
returns-then-is_settled c = λ t later le.
    let d = diagram_of c.args.scene.program.now in
    let same : c.step.result ≡ c.stored-stored.result = search rules in
    stays_by (d.kind c.args.inst) (d.preset c.args.inst) (get_or c.args.storage.now.kept.blocks c.args.inst (new_block Ton)) _ _ c.stored-stored.result c.args.first c.args.second c.args.scene.now later le
    c.instance-kind.ensures.kind c.instance-kind.ensures.preset c.stored-stored.ensures (sym c.is_settled.ensures ∙ c.if-is_settled.true) (sym c.step.ensures ∙ same)
