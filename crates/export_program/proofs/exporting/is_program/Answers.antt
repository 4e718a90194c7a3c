use Rattle.std.proofs.Common.{ℕ, ◌+◌, ◌≤◌, IsTrue, length, List, subst}
use Rattle.std.proofs.lemmas.Result.{IfOk-weaker}
use Rattle.diagram_declarations.specs.Decls.{Declared}
use Rattle.diagram_program.specs.Program.{memories_of}
use Rattle.st_program.specs.declared.program.StInstance.{StInstance}
use Rattle.st_program.specs.declared.symbols.StVariable.{StVariable}
use Rattle.export_check.specs.Meaning.{IsExportOf}
use Rattle.export_program.specs.Declarations.{AreExported}
use Rattle.export_program.specs.Exported.{IsExportedBy}
use Rattle.export_program.proofs.Begins.{begins_alike}
use Rattle.export_program.proofs.exporting.is_program.Goals as goal

pub returns : goal.returns
returns c =
    let declared : AreExported c.args.form c.args.text.now c.args.program.now.decls c.args.read.now.variables.items c.args.read.now.instances.items =
    subst (λ (xs : List StVariable). AreExported c.args.form c.args.text.now c.args.program.now.decls xs c.args.read.now.instances.items) c.as_slice-variables.ensures.value
    (subst (λ (xs : List StInstance). AreExported c.args.form c.args.text.now c.args.program.now.decls c.as_slice-variables.result.now xs) c.deref.ensures.value
    (subst (λ (d : Declared). AreExported c.args.form c.args.text.now d c.as_slice-variables.result.now c.deref.result.now) c.decls.ensures
    (c.are_exported.ensures c.if-not-are_exported.false))) in
    let enough : length c.args.program.now.decls.vars + memories_of c.args.program.now ≤ length c.args.read.now.variables.items =
    subst (λ (xs : List StVariable). length c.args.program.now.decls.vars + memories_of c.args.program.now ≤ length xs) c.as_slice-variables.ensures.value
    (c.are_enough.ensures c.if-not-are_enough.false) in
    IfOk-weaker c.is_export.result
    (λ is. IsTrue is → IsExportOf c.args.program.now (length c.as_slice-variables.result.now) c.args.read.now.statements)
    (λ is. IsTrue is → IsExportedBy c.args.form c.args.program.now c.args.text.now c.args.read.now)
    (λ is does t. record {
      read = c.requires;
      declared = declared;
      begins = begins_alike c.args.form c.args.text.now c.args.program.now c.args.read.now declared enough;
      does = subst (λ (xs : List StVariable). IsExportOf c.args.program.now (length xs) c.args.read.now.statements) c.as_slice-variables.ensures.value (does t);
    })
    c.is_export.ensures
