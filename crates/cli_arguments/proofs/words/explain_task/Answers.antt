use Rattle.std.proofs.Common.{◌≡◌, ◌∙◌, ap, refl, sym}
use Rattle.clap.specs.Words.{found_of, rows_of}
use Rattle.cli_arguments.proofs.Faults.{all_codes, no_pages, usage_with}
use Rattle.cli_arguments.proofs.words.explain_task.Goals as goal

pub returns-then-not-are_codes-clause-err : goal.returns-then-not-are_codes-clause-err
returns-then-not-are_codes-clause-err c =
    let items : c.deref.result.now ≡ c.in_ok-names.names.items = c.deref.ensures.value in
    usage_with c.no_code.result
    (no_pages (rows_of (found_of c.args.found.now)) c.in_ok-names.names.items c.in_ok-names.ensures.ok
    (sym (ap all_codes items) ∙ sym c.are_codes.ensures ∙ c.if-not-are_codes.true))
    c.no_code.ensures

pub returns-clause-ok : goal.returns-clause-ok
returns-clause-ok c =
    let items : c.deref.result.now ≡ c.in_ok-names.names.items = c.deref.ensures.value in
    (refl, (c.in_ok-names.ensures.ok, sym (ap all_codes items) ∙ sym c.are_codes.ensures ∙ c.if-not-are_codes.false))
