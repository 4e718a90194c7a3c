use Rattle.std.proofs.Common.{IsTrue, length, List, subst}
use Rattle.std.proofs.lemmas.Result.{IfOk-weaker}
use Rattle.diagram_declarations.specs.Decls.{Declared}
use Rattle.st_program.specs.Symbols.{integer_values}
use Rattle.st_program.specs.declared.program.StInstance.{StInstance}
use Rattle.st_program.specs.declared.symbols.StVariable.{StVariable}
use Rattle.draw_check.specs.Meaning.{IsDrawingOf}
use Rattle.draw_program.specs.Declarations.{AreDeclared}
use Rattle.draw_program.specs.Drawn.{IsDrawn, KeepsIntegers}
use Rattle.draw_program.proofs.drawing.is_drawn.Goals as goal

pub keeps_integers-requires : goal.keeps_integers-requires
keeps_integers-requires c =
    subst (λ (xs : List StVariable). IsDrawingOf (length xs) c.args.program.now.statements c.in-Some.read) c.as_slice-variables.ensures.value
    (c.in_ok-is_drawing.ensures c.if-not-branch-2.false)

pub returns : goal.returns
returns c =
    let declared : AreDeclared c.args.text.now c.args.program.now.variables.items c.args.program.now.instances.items c.in-Some.read.decls =
    subst (λ (xs : List StVariable). AreDeclared c.args.text.now xs c.args.program.now.instances.items c.in-Some.read.decls) c.as_slice-variables.ensures.value
    (subst (λ (xs : List StInstance). AreDeclared c.args.text.now c.as_slice-variables.result.now xs c.in-Some.read.decls) c.deref.ensures.value
    (subst (λ (d : Declared). AreDeclared c.args.text.now c.as_slice-variables.result.now c.deref.result.now d) c.decls.ensures
    (c.in_ok-are_declared.ensures c.if-not-branch.false))) in
    let does : IsDrawingOf (length c.args.program.now.variables.items) c.args.program.now.statements c.in-Some.read =
    subst (λ (xs : List StVariable). IsDrawingOf (length xs) c.args.program.now.statements c.in-Some.read) c.as_slice-variables.ensures.value
    (c.in_ok-is_drawing.ensures c.if-not-branch-2.false) in
    IfOk-weaker c.keeps_integers.result
    (λ keeps. IsTrue keeps → KeepsIntegers (integer_values c.args.program.now.variables.items) c.in-Some.read)
    (λ is. IsTrue is → IsDrawn c.args.text.now c.args.program.now c.args.bytes.now)
    (λ is keeps t. record { drawing = c.in-Some.read; read = rw c.in-Some.is at c.in_ok-read.ensures; declared = declared; does = does; integers = keeps t })
    c.keeps_integers.ensures
