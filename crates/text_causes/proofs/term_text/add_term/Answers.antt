use Rattle.std.proofs.Common.{◌∙◌, ◌+◌, ◌-◌, ℕ, List, arith, length, refl, slice_get, sym}
use Rattle.text_causes.specs.Rows.{name_in}
use Rattle.text_causes.proofs.TermLaws.{said_all, said_bit, said_dash, said_none, term_all, term_cut, term_more, term_none, term_same}
use Rattle.io_text.proofs.Sending.{sends_err, sends_last}
use Rattle.text_causes.proofs.term_text.add_term.Goals as goal
use Rattle.text_causes.proofs.term_text.add_term.Goals.{then-not-is_dash+in_ok-add_literal, else-not-is_dash}

pub loop-index-init : goal.loop-index-init
loop-index-init g c =
    let f : ℕ → List ℕ = λ v. name_in (slice_get c.args.decls.now.vars v) in
    term_none _ c.args.buffer.now c.args.brackets _ _ (said_all f c.args.listed.now c.args.group)

pub returns-in_err-add_literal : goal.returns-in_err-add_literal
returns-in_err-add_literal g c =
    let f : ℕ → List ℕ = λ v. name_in (slice_get c.args.decls.now.vars v) in
    let m = length c.args.listed.now - (c.loop-index.index + 1) in
    sends_err _ _ _ _ _ _ c.from_residual.ensures.0
    (term_cut _ _ _ _ _ c.args.brackets c.loop-index.begun _ _ _ _
    (said_bit f c.args.listed.now c.args.group c.loop-index.index m 0 c.loop-index-test.true refl (sym c.is_dash.ensures ∙ c.if-not-is_dash.true))
    c.loop-index.invariant
    (rw (c.before-then-not-is_dash.ensures, c.is_on.ensures, c.name_bytes-name.ensures) at c.in_err-add_literal.ensures))

pub loop-index-preserved : goal.loop-index-preserved
loop-index-preserved g c =
    let f : ℕ → List ℕ = λ v. name_in (slice_get c.args.decls.now.vars v) in
    let m = length c.args.listed.now - (c.loop-index.index + 1) in
    elim c.if-not-is_dash.branch [
      | then-not-is_dash+in_ok-add_literal w ↦ rw (w.buffer-is, w.writer-is, w.begun-is)
          (term_more _ _ _ _ _ _ c.args.brackets c.loop-index.begun _ _ _ _
          (said_bit f c.args.listed.now c.args.group c.loop-index.index m 0 c.loop-index-test.true refl (sym c.is_dash.ensures ∙ w.if-not-is_dash.true))
          c.loop-index.invariant
          (rw (w.before-then-not-is_dash.ensures, w.is_on.ensures, w.name_bytes-name.ensures) at w.in_ok-add_literal.ensures))
      | else-not-is_dash w ↦ rw (w.buffer-is, w.writer-is, w.begun-is)
          (term_same _ _ _ _ c.args.brackets c.loop-index.begun _ _ _
          (said_dash f c.args.listed.now c.args.group c.loop-index.index m 0 c.loop-index-test.true refl (sym c.is_dash.ensures ∙ w.if-not-is_dash.false))
          c.loop-index.invariant)
    ]

pub returns : goal.returns
returns g c =
    let f : ℕ → List ℕ = λ v. name_in (slice_get c.args.decls.now.vars v) in
    let t = c.loop-index.invariant in
    let none = said_none f c.args.listed.now c.args.group c.loop-index.index (omega (arith, c.loop-index-test.false)) in
    sends_last _ _ _ _ _ _ _ t.done _ _ (term_all _ _ _ _ c.args.brackets c.loop-index.begun _ _ none t)
    t.sent (rw c.after.ensures at c.add.ensures)
