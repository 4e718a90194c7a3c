use Rattle.std.proofs.Common.{[], length, refl}
use Rattle.io_text.proofs.Sending.{sends_prefix, sends_last, sends_none, sends_err}
use Rattle.diagram_declarations.specs.declared.decls.Symbol.TheVariants.{Instance, Var}
use Rattle.text_power.specs.Show.{each}
use Rattle.text_vcd.specs.Lines.{line_of}
use Rattle.text_vcd.specs.Waves.{for_each}
use Rattle.text_vcd.proofs.lines.add_lines.Goals as goal

pub returns-in_err-add_var_lines : goal.returns-in_err-add_var_lines
returns-in_err-add_var_lines g c = sends_err _ _ _ _ _ _ c.from_residual.ensures.0
    (let d = c.args.decls.now in
    let line = line_of d c.args.lines in
    sends_prefix _ _ _ c.args.buffer.now c.args.buffer.now (for_each d line) [] (each (λ n. line (Var n)) (length d.vars)) (each (λ n. line (Instance n)) (length d.instances)) refl
    (sends_none _ c.args.buffer.now) c.in_err-add_var_lines.ensures)

pub returns : goal.returns
returns g c =
    let d = c.args.decls.now in
    let line = line_of d c.args.lines in
    sends_last _ _ _ _ _ _ (for_each d line) (each (λ n. line (Var n)) (length d.vars)) (each (λ n. line (Instance n)) (length d.instances)) _ refl
    c.in_ok-add_var_lines.ensures c.add_instance_lines.ensures
