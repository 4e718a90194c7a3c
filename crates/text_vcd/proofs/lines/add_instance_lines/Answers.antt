use Rattle.std.proofs.Common.{◌<◌, arith, ap, length, refl}
use Rattle.io_text.proofs.Sending.{sends_err}
use Rattle.diagram_declarations.specs.declared.decls.Symbol.TheVariants.{Instance}
use Rattle.text_power.proofs.Each.{cut_off, more, none_yet}
use Rattle.text_vcd.specs.Lines.{line_of}
use Rattle.text_vcd.proofs.lines.add_instance_lines.Goals as goal

pub loop-number-init : goal.loop-number-init
loop-number-init g c = none_yet _ _ _

pub returns-in_err-add_line : goal.returns-in_err-add_line
returns-in_err-add_line g c = sends_err _ _ _ _ _ _ c.from_residual.ensures.0
    (let inside : c.loop-number.number < length c.args.decls.now.instances = omega (arith, c.loop-number-test.true, ap length c.instances-instances.ensures.value) in
    cut_off (λ n. line_of c.args.decls.now c.args.lines (Instance n)) (length c.args.decls.now.instances) c.loop-number.number _ _ _ _ _ _ inside refl
    c.loop-number.invariant c.in_err-add_line.ensures)

pub loop-number-preserved : goal.loop-number-preserved
loop-number-preserved g c =
    more (λ n. line_of c.args.decls.now c.args.lines (Instance n)) c.loop-number.number _ _ _ _ _ _ _ refl c.loop-number.invariant c.in_ok-add_line.ensures
