use Rattle.std.proofs.Common.{arith, refl, []}
use Rattle.csv.specs.Records.{fields_of}
use Rattle.text_report.specs.Marks.{mark_in}
use Rattle.text_report.specs.declared.marks.Mark.TheVariants.{Rule}
use Rattle.text_report.proofs.Adding.{adds_more, adds_none}
use Rattle.text_report.proofs.table.add_name_rules.Goals as goal

pub loop-init : goal.loop-init
loop-init c = adds_none _

pub loop-preserved : goal.loop-preserved
loop-preserved c =
    adds_more (λ name. mark_in c.args.form Rule) (fields_of c.args.row.now) c.loop.counter [] _ _ _ _ (omega (arith, c.loop-test.true, c.len-end.ensures)) refl
    c.loop.invariant c.add_mark.ensures
