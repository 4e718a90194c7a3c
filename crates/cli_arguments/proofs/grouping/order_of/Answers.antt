use Rattle.std.proofs.Common.{◌∙◌, IfOk, Ok, Err, Result, inl, inr, refl, sym}
use Rattle.std.proofs.lemmas.Result.{IfErr-weaker}
use Rattle.clap.specs.Words.{found_of, rows_of}
use Rattle.clap.proofs.WalkLemmas.{first_value-rows}
use Rattle.cli_arguments.proofs.Faults.{no_order, usage_weaker}
use Rattle.cli_arguments.proofs.grouping.order_of.Goals as goal

weaken : {A E : Type 0} (P Q : A → Type 0) (r : Result A E) → ((a : A) → P a → Q a) → IfOk r P → IfOk r Q
weaken P Q (Ok a) f h = f a h
weaken P Q (Err e) f h = tt

pub returns-in-None-clause-ok : goal.returns-in-None-clause-ok
returns-in-None-clause-ok c = inl (sym (first_value-rows (found_of c.args.found.now) _) ∙ sym c.in-None.ensures, refl)

pub returns-in-Some-clause-ok : goal.returns-in-Some-clause-ok
returns-in-Some-clause-ok c =
    weaken _ _ c.order_named.result
    (λ order named. inr (c.in-Some.text.now, sym (first_value-rows (found_of c.args.found.now) _) ∙ sym c.in-Some.ensures, named))
    c.order_named.ensures.ok

pub returns-in-Some-clause-err : goal.returns-in-Some-clause-err
returns-in-Some-clause-err c =
    let is = sym (first_value-rows (found_of c.args.found.now) _) ∙ sym c.in-Some.ensures in
    IfErr-weaker c.order_named.result _ _
    (λ fault unnamed. usage_weaker fault (no_order (rows_of (found_of c.args.found.now)) c.in-Some.text.now is) unnamed)
    c.order_named.ensures.err
