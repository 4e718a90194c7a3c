use Rattle.std.proofs.Common.{◌++◌, [], append_assoc, refl, sym}
use Rattle.text_causes.specs.TermParts.{negation}
use Rattle.io_text.proofs.Sending.{sends_prefix, sends_last, sends_more, sends_none, sends_err}
use Rattle.text_causes.proofs.term_text.add_literal.Goals as goal

pub returns-in_err-add : goal.returns-in_err-add
returns-in_err-add g c = sends_err _ _ _ _ _ _ c.from_residual.ensures.0
    (let literal = negation c.args.is_on ++ c.args.name.now in
    sends_prefix _ _ _ c.args.buffer.now c.args.buffer.now (c.args.before.now ++ literal) [] c.args.before.now literal refl (sends_none _ c.args.buffer.now) c.in_err-add.ensures)

pub returns-in_err-add-2 : goal.returns-in_err-add-2
returns-in_err-add-2 g c = sends_err _ _ _ _ _ _ c.from_residual-in_err-add-2.ensures.0
    (let not = negation c.args.is_on in
    sends_prefix _ _ _ _ _ (c.args.before.now ++ (not ++ c.args.name.now)) c.args.before.now not c.args.name.now refl c.in_ok-add.ensures
    (rw c.negation.ensures at c.in_err-add-2.ensures))

pub returns : goal.returns
returns g c =
    let not = negation c.args.is_on in
    sends_last _ _ _ _ _ _ (c.args.before.now ++ (not ++ c.args.name.now)) (c.args.before.now ++ not) c.args.name.now _
    (sym (append_assoc c.args.before.now not c.args.name.now))
    (sends_more _ _ _ _ _ _ c.args.before.now not c.in_ok-add.ensures (rw c.negation.ensures at c.in_ok-add-2.ensures)) c.add-3.ensures
