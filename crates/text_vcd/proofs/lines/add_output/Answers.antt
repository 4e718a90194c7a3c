use Rattle.text_vcd.proofs.lines.add_output.Goals as goal

pub returns : goal.returns
returns g c = rw c.output_name.ensures at c.add_wire.ensures
