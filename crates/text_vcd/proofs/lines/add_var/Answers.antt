use Rattle.text_vcd.proofs.lines.add_var.Goals as goal

pub returns : goal.returns
returns g c = rw c.var_name.ensures at c.add_wire.ensures
