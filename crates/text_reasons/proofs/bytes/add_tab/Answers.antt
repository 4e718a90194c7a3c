use Rattle.std.proofs.Common.{◌≡◌, ◌∙◌, sym, true}
use Rattle.text_reasons.specs.Bytes.{begins_tab}
use Rattle.text_reasons.proofs.bytes.add_tab.Goals as goal

pub returns-then-begins_tab : goal.returns-then-begins_tab
returns-then-begins_tab g c =
    let tab : begins_tab c.args.at.now ≡ true = sym c.begins_tab.ensures ∙ c.if-begins_tab.true in
    rw tab c.add.ensures
