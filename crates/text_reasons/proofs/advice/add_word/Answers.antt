use Rattle.std.proofs.Common.{◌≡◌, ◌∙◌, sym, true}
use Rattle.text_reasons.specs.Advice.{begins_in_code}
use Rattle.text_reasons.proofs.advice.add_word.Goals as goal

pub returns-then-begins_in_code : goal.returns-then-begins_in_code
returns-then-begins_in_code g c =
    let yes : begins_in_code c.args.text.now c.args.line ≡ true = sym c.begins_in_code.ensures ∙ c.if-begins_in_code.true in
    rw yes (rw c.line_in.ensures at c.add_name.ensures)
