use Rattle.std.proofs.Common.{◌++◌, [], codes, refl, sym, append_assoc}
use Rattle.io_text.proofs.Sending.{sends_prefix, sends_last, sends_more, sends_none, sends_err}
use Rattle.text_vcd.specs.Waves.{declaration, declarations, for_each}
use Rattle.text_vcd.proofs.waves.add_declarations.Goals as goal

pub returns-in_err-add : goal.returns-in_err-add
returns-in_err-add g c = sends_err _ _ _ _ _ _ c.from_residual.ensures.0
    (sends_prefix _ _ _ c.args.buffer.now c.args.buffer.now (declarations c.args.decls.now) [] (codes "$timescale 1 ms $end\n$scope module ladder $end\n") ((for_each c.args.decls.now (declaration c.args.decls.now)) ++ (codes "$upscope $end\n$enddefinitions $end\n")) refl
    (sends_none _ c.args.buffer.now) c.in_err-add.ensures)

pub returns-in_err-add_lines : goal.returns-in_err-add_lines
returns-in_err-add_lines g c = sends_err _ _ _ _ _ _ c.from_residual-in_err-add_lines.ensures.0
    (sends_prefix _ _ _ _ _ (declarations c.args.decls.now) (codes "$timescale 1 ms $end\n$scope module ladder $end\n") (for_each c.args.decls.now (declaration c.args.decls.now)) (codes "$upscope $end\n$enddefinitions $end\n") refl c.in_ok-add.ensures c.in_err-add_lines.ensures)

pub returns : goal.returns
returns g c =
    sends_last _ _ _ _ _ _ (declarations c.args.decls.now) ((codes "$timescale 1 ms $end\n$scope module ladder $end\n") ++ (for_each c.args.decls.now (declaration c.args.decls.now))) (codes "$upscope $end\n$enddefinitions $end\n") _ (sym (append_assoc (codes "$timescale 1 ms $end\n$scope module ladder $end\n") (for_each c.args.decls.now (declaration c.args.decls.now)) (codes "$upscope $end\n$enddefinitions $end\n")))
    (sends_more _ _ _ _ _ _ (codes "$timescale 1 ms $end\n$scope module ladder $end\n") (for_each c.args.decls.now (declaration c.args.decls.now)) c.in_ok-add.ensures c.in_ok-add_lines.ensures) c.add-2.ensures
