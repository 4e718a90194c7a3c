use Rattle.std.proofs.Common.{arith, ◌∙◌, Bool, List, ap, sym, length, map, get_or, false}
use Rattle.std.proofs.lemmas.List.{length-map}
use Rattle.diagram_declarations.specs.Decls.{Declared, is_input}
use Rattle.scan_signals.specs.Blocks.{q_of}
use Rattle.scan_cycle.specs.Cells.{Frame}
use Rattle.scan_cycle.specs.Rung.{Held}
use Rattle.scan_cycle.specs.Scan.{given}
use Rattle.scan_cycle.specs.Programs.{diagram_of}
use Rattle.scan_cycle.proofs.Scanned.{inputs_back}
use Rattle.scan_cycle.proofs.Sizes.{size-given}
use Rattle.scan_incremental.proofs.Giving.{given_rest}
use Rattle.scan_incremental.proofs.scanning.give.Goals as goal

pub wake_changed-requires : goal.wake_changed-requires
wake_changed-requires c =
    ap length c.deref.ensures.value
    ∙ ap (λ (f : Frame Bool). length f.values) c.start.view_is
    ∙ ap (λ (f : Frame Bool). length f.values) c.copy_start.ensures
    ∙ sym (ap (λ (h : Held). length h.values) c.give.ensures ∙ size-given (map is_input c.decls.result.now.vars) c.args.inputs.now c.args.storage.now.values)

pub returns-clause-given : goal.returns-clause-given
returns-clause-given c =
    c.give.ensures
    ∙ ap (λ (d : Declared). record c.args.storage.now { values = given (map is_input d.vars) c.args.inputs.now c.args.storage.now.values }) c.decls.ensures
    ∙ ap (λ (fs : List Bool). record c.args.storage.now { values = given fs c.args.inputs.now c.args.storage.now.values }) (inputs_back c.args.program.now)

pub returns-clause-sizes : goal.returns-clause-sizes
returns-clause-sizes c = record {
  values =
      ap (λ (f : Frame Bool). length f.values) c.copy_start.ensures
      ∙ sym (ap (λ (h : Held). length h.values) c.give.ensures ∙ size-given (map is_input c.decls.result.now.vars) c.args.inputs.now c.args.storage.now.values);
  ends =
      ap (λ (f : Frame Bool). length f.ends) c.copy_start.ensures ∙ length-map c.args.storage.now.kept.blocks q_of
      ∙ sym (ap (λ (h : Held). length h.kept.blocks) c.give.ensures);
}

pub returns-clause-rest : goal.returns-clause-rest
returns-clause-rest c =
    given_rest (diagram_of c.args.program.now) c.requires.program c.args.users.now c.requires.users c.args.now c.args.now (omega arith) (map is_input c.decls.result.now.vars) c.args.inputs.now c.args.storage.now c.give.new.self
    c.args.next.now c.wake_changed.new.next c.give.ensures c.wake_changed.ensures.known
    (λ j n v k on. c.wake_changed.ensures.same j n v k on ∙ ap (λ (xs : List Bool). get_or xs v false) c.deref.ensures.value ∙ ap (λ (f : Frame Bool). get_or f.values v false) c.start.view_is ∙ ap (λ (f : Frame Bool). get_or f.values v false) c.copy_start.ensures) c.requires.rest
