use Rattle.std.proofs.Common.{◌≡◌, ◌∙◌, ◌+◌, ◌-◌, ◌<◌, ◌==◌, [], suc, IfSome, true, false, inr, ap, arith, drop, get_or, length, length-drop, refl, subst, sym, take_all}
use Rattle.std.specs.List.{count_by, list_any}
use Rattle.std.proofs.lemmas.List.Elements.{All-push}
use Rattle.std.proofs.lemmas.Option.{slice_get-get_or}
use Rattle.csv.specs.Records.{fields_of}
use Rattle.diagram_declarations.specs.Decls.{is_input}
use Rattle.text_trace.proofs.HeaderWords.{AreColumns, bad_first, columns_more, columns_none, contains, header_to, header_with, is_headed, word_at}
use Rattle.text_trace.proofs.header.columns.Goals as goal

off_on : false ≡ true → ⊥
off_on h = cc

pub returns-then-not-is_moment-clause-refused : goal.returns-then-not-is_moment-clause-refused
returns-then-not-is_moment-clause-refused c = λ rows.
    (refl, bad_first c.args.decls.now (fields_of c.args.row.now) rows (λ h. off_on (sym c.if-not-is_moment.true ∙ c.is_moment.ensures.1 h)))

pub loop-number-init : goal.loop-number-init
loop-number-init c = (omega arith, is_headed (fields_of c.args.row.now) (c.is_moment.ensures.0 c.if-not-is_moment.false), subst (AreColumns c.args.decls.now []) (sym c.new-columns.ensures.items) (columns_none c.args.decls.now), λ k d h. absurd (omega (arith, h, ap length c.new-columns.ensures.items)))

pub returns-in_default-clause-refused : goal.returns-in_default-clause-refused
returns-in_default-clause-refused c = λ rows.
    let inv = c.loop-number.invariant in
    let fs = fields_of c.args.row.now in
    let number = c.loop-number.number in
    let columns = c.loop-number.columns.items in (
      refl,
      (
        number,
        columns,
        header_to c.args.decls.now fs number columns inv.1 inv.0 inv.2,
        (get_or fs number [], slice_get-get_or fs number [] (omega (arith, c.loop-number-test.true)), sym c.input_at.ensures.place ∙ c.in_default.is),
      ),
    )

pub returns-then-is_named-clause-refused : goal.returns-then-is_named-clause-refused
returns-then-is_named-clause-refused c = λ rows.
    let inv = c.loop-number.invariant in
    let fs = fields_of c.args.row.now in
    let number = c.loop-number.number in
    let columns = c.loop-number.columns.items in
    let again : list_any (λ k. c.in-Some.place == k) columns ≡ true = ap (list_any (λ k. c.in-Some.place == k)) (sym c.deref.ensures.value) ∙ sym c.is_named.ensures ∙ c.if-is_named.true in (
      refl,
      inr (
        fs,
        refl,
        (
          number,
          columns,
          header_to c.args.decls.now fs number columns inv.1 inv.0 inv.2,
          (get_or fs number [], slice_get-get_or fs number [] (omega (arith, c.loop-number-test.true)), (c.in-Some.place, sym c.input_at.ensures.place ∙ c.in-Some.is, contains c.in-Some.place columns again)),
        ),
      ),
    )

pub loop-number-preserved : goal.loop-number-preserved
loop-number-preserved c =
    let inv = c.loop-number.invariant in
    let fs = fields_of c.args.row.now in
    let number = c.loop-number.number in
    let place = c.in-Some.place in
    let fresh : list_any (λ k. place == k) c.loop-number.columns.items ≡ false = ap (list_any (λ k. place == k)) (sym c.deref.ensures.value) ∙ sym c.is_named.ensures ∙ c.if-is_named.false in
    let at : suc (number - 1) ≡ number + 1 - 1 = omega (arith, inv.0) in
    let below : place < count_by is_input c.args.decls.now.vars = subst (λ o. IfSome o (λ k. k < count_by is_input c.args.decls.now.vars)) c.in-Some.is c.input_at.ensures.below in
    let more = columns_more c.args.decls.now (drop 1 fs) c.loop-number.columns.items (number - 1) (get_or fs number []) place inv.2 (word_at fs number (omega (arith, c.loop-number-test.true)) (omega (arith, inv.0)))
    (sym c.input_at.ensures.place ∙ c.in-Some.is) fresh in (
      omega arith,
      inv.1,
      rw (← at, c.in-Ok.ensures.items) more,
      rw c.in-Ok.ensures.items (All-push (λ k. k < count_by is_input c.args.decls.now.vars) c.loop-number.columns.items place inv.3 below),
    )

pub returns-clause-columns : goal.returns-clause-columns
returns-clause-columns c =
    let inv = c.loop-number.invariant in
    let fs = fields_of c.args.row.now in
    let all = take_all (c.loop-number.number - 1) (drop 1 fs) (omega (arith, length-drop 1 fs)) in
    header_with c.args.decls.now fs (drop 1 fs) c.loop-number.columns.items inv.1 (subst (λ words. AreColumns c.args.decls.now words c.loop-number.columns.items) all inv.2)
