use Rattle.std.proofs.Common.{◌++◌, [], codes, refl, sym, append_assoc}
use Rattle.io_text.proofs.Sending.{sends_prefix, sends_last, sends_more, sends_none, sends_err}
use Rattle.diagram_declarations.specs.declared.decls.Symbol.TheVariants.{Instance}
use Rattle.diagram_declarations.specs.Decls.{instance_name}
use Rattle.text_vcd.specs.Waves.{declaration, output_name, scope_line, wire_line}
use Rattle.text_vcd.proofs.lines.add_instance.Goals as goal

pub returns-in_err-add_scope : goal.returns-in_err-add_scope
returns-in_err-add_scope g c = sends_err _ _ _ _ _ _ c.from_residual.ensures.0
    (sends_prefix _ _ _ c.args.buffer.now c.args.buffer.now (declaration c.args.decls.now (Instance c.args.inst)) [] (scope_line (instance_name c.args.decls.now c.args.inst)) ((wire_line (Instance c.args.inst) (output_name c.args.decls.now c.args.inst)) ++ (codes "$upscope $end\n")) refl
    (sends_none _ c.args.buffer.now) c.in_err-add_scope.ensures)

pub returns-in_err-add_output : goal.returns-in_err-add_output
returns-in_err-add_output g c = sends_err _ _ _ _ _ _ c.from_residual-in_err-add_output.ensures.0
    (sends_prefix _ _ _ _ _ (declaration c.args.decls.now (Instance c.args.inst)) (scope_line (instance_name c.args.decls.now c.args.inst)) (wire_line (Instance c.args.inst) (output_name c.args.decls.now c.args.inst)) (codes "$upscope $end\n") refl c.in_ok-add_scope.ensures c.in_err-add_output.ensures)

pub returns : goal.returns
returns g c =
    sends_last _ _ _ _ _ _ (declaration c.args.decls.now (Instance c.args.inst)) ((scope_line (instance_name c.args.decls.now c.args.inst)) ++ (wire_line (Instance c.args.inst) (output_name c.args.decls.now c.args.inst))) (codes "$upscope $end\n") _ (sym (append_assoc (scope_line (instance_name c.args.decls.now c.args.inst)) (wire_line (Instance c.args.inst) (output_name c.args.decls.now c.args.inst)) (codes "$upscope $end\n")))
    (sends_more _ _ _ _ _ _ (scope_line (instance_name c.args.decls.now c.args.inst)) (wire_line (Instance c.args.inst) (output_name c.args.decls.now c.args.inst)) c.in_ok-add_scope.ensures c.in_ok-add_output.ensures) c.add.ensures
