use Rattle.std.proofs.Common.{◌≡◌, ◌∙◌, sym, true}
use Rattle.text_reasons.specs.Joints.{is_crossed}
use Rattle.text_reasons.proofs.joints.add_joint.Goals as goal

pub returns-then-is_crossed : goal.returns-then-is_crossed
returns-then-is_crossed g c =
    let yes : is_crossed c.args.line.now c.args.place ≡ true = sym c.is_crossed.ensures.value ∙ c.if-is_crossed.true in
    rw yes (rw c.word_across.ensures at c.add_crossing.ensures)
