use Rattle.std.proofs.Common.{◌≡◌, ◌∙◌, ◌++◌, [], List, ap₂, append-nil, codes, map, refl, string_bytes, sym, unwrap_or}
use Rattle.std.proofs.lemmas.Result.{IfOk-weaker}
use Rattle.clap.specs.Words.{Text, all_of, found_of, rows_of}
use Rattle.clap.proofs.WalkLemmas.{raw_values-rows}
use Rattle.cli_arguments.proofs.Faults.{inputs_of_all}
use Rattle.cli_arguments.proofs.parts.input_names.Goals as goal

pub returns-in-Some-clause-ok : goal.returns-in-Some-clause-ok
returns-in-Some-clause-ok c =
    let rows = rows_of (found_of c.args.found.now) in
    let values = raw_values-rows (found_of c.args.found.now) (codes "inputs") in
    let given = c.in-Some.ensures in
    let others : unwrap_or (all_of (codes "inputs") rows) [] ≡ map (λ s. s.now) c.in-Some.others.now = rw (← values, ← given) refl in
    IfOk-weaker c.with_copies.result _ _
    (λ v same. inputs_of_all rows (c.if-not-is_given.ensures.given refl).0 ∙ ap₂ (λ (xs ys : List Text). xs ++ ys) c.in_ok-first.ensures.ok others ∙ sym same)
    c.with_copies.ensures.ok

pub returns-in-None-clause-ok : goal.returns-in-None-clause-ok
returns-in-None-clause-ok c =
    let rows = rows_of (found_of c.args.found.now) in
    let values = raw_values-rows (found_of c.args.found.now) (codes "inputs") in
    let given = c.in-None.ensures in
    let none : unwrap_or (all_of (codes "inputs") rows) [] ≡ [] = rw (← values, ← given) refl in
    inputs_of_all rows (c.if-not-is_given.ensures.given refl).0
    ∙ ap₂ (λ (xs ys : List Text). xs ++ ys) c.in_ok-first.ensures.ok none
    ∙ append-nil (map string_bytes c.in_ok-first.first.items)
