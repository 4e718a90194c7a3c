use Rattle.std.proofs.Common.{◌++◌, [], ◌∷◌, codes, refl, sym, append_assoc, map, slice_get}
use Rattle.io_text.specs.Text.{after_commas, line_text}
use Rattle.text_causes.specs.CauseText.{name_of}
use Rattle.text_causes.specs.Rows.{name_in}
use Rattle.io_text.proofs.Sending.{sends_prefix, sends_last, sends_more, sends_none, sends_err}
use Rattle.text_causes.proofs.row_text.add_header.Goals as goal

pub returns-in_err-add : goal.returns-in_err-add
returns-in_err-add g c = sends_err _ _ _ _ _ _ c.from_residual.ensures.0
    (let names = after_commas (map (λ v. name_in (slice_get c.args.program.now.decls.vars v)) c.args.listed.now) in
    sends_prefix _ _ _ c.args.buffer.now c.args.buffer.now (line_text (c.args.first.now ∷ map (name_of c.args.program.now) c.args.listed.now)) [] c.args.first.now (names ++ codes "\n") refl
    (sends_none _ c.args.buffer.now) c.in_err-add.ensures)

pub returns-in_err-add_names : goal.returns-in_err-add_names
returns-in_err-add_names g c = sends_err _ _ _ _ _ _ c.from_residual-in_err-add_names.ensures.0
    (let names = after_commas (map (λ v. name_in (slice_get c.args.program.now.decls.vars v)) c.args.listed.now) in
    sends_prefix _ _ _ _ _ (line_text (c.args.first.now ∷ map (name_of c.args.program.now) c.args.listed.now)) c.args.first.now names (codes "\n") refl c.in_ok-add.ensures
    (rw c.decls.ensures at c.in_err-add_names.ensures))

pub returns : goal.returns
returns g c =
    let names = after_commas (map (λ v. name_in (slice_get c.args.program.now.decls.vars v)) c.args.listed.now) in
    sends_last _ _ _ _ _ _ (line_text (c.args.first.now ∷ map (name_of c.args.program.now) c.args.listed.now)) (c.args.first.now ++ names) (codes "\n") _ (sym (append_assoc c.args.first.now names (codes "\n")))
    (sends_more _ _ _ _ _ _ c.args.first.now names c.in_ok-add.ensures (rw c.decls.ensures at c.in_ok-add_names.ensures)) c.add-2.ensures
