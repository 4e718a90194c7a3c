use Rattle.std.proofs.Common.{◌++◌, ◌∷◌, ℕ, List, [], codes, refl, sym, append_assoc, map}
use Rattle.std.specs.Borrow.{Bor}
use Rattle.io_text.specs.Text.{after_commas, line_text}
use Rattle.io_text.proofs.Sending.{sends_prefix, sends_last, sends_more, sends_none, sends_err}
use Rattle.io_text.proofs.line.add_line.Goals as goal

abbrev now : Bor (List ℕ) → List ℕ
now f = f.now

pub returns-in_err-add : goal.returns-in_err-add
returns-in_err-add g c = sends_err _ _ _ _ _ _ c.from_residual.ensures.0
    (let first = c.args.first.now in
    let others = map now c.args.others.now in
    sends_prefix _ _ _ c.args.buffer.now c.args.buffer.now (line_text (first ∷ others)) [] first (after_commas others ++ codes "\n") refl
    (sends_none _ c.args.buffer.now) c.in_err-add.ensures)

pub returns-in_err-add_fields : goal.returns-in_err-add_fields
returns-in_err-add_fields g c = sends_err _ _ _ _ _ _ c.from_residual-in_err-add_fields.ensures.0
    (let first = c.args.first.now in
    let others = map now c.args.others.now in
    sends_prefix _ _ _ _ _ (line_text (first ∷ others)) first (after_commas others) (codes "\n") refl c.in_ok-add.ensures c.in_err-add_fields.ensures)

pub returns : goal.returns
returns g c =
    let first = c.args.first.now in
    let others = map now c.args.others.now in
    sends_last _ _ _ _ _ _ (line_text (first ∷ others)) (first ++ after_commas others) (codes "\n") _ (sym (append_assoc first (after_commas others) (codes "\n")))
    (sends_more _ _ _ _ _ _ first (after_commas others) c.in_ok-add.ensures c.in_ok-add_fields.ensures) c.add-2.ensures
