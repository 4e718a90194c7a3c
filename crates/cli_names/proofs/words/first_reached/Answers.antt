use Rattle.std.proofs.Common.{◌∙◌, ◌++◌, ◌∷◌, [], string_bytes, sym}
use Rattle.text_names.specs.declared.meant.Wanted.TheVariants.{Any, Input}
use Rattle.cli_names.specs.Steps.{seen}
use Rattle.cli_names.specs.Words.{is_unknown, word, word_if, words_in}
use Rattle.cli_names.proofs.Finding.{find_before, find_behind}
use Rattle.cli_names.proofs.words.first_reached.Goals as goal

pub returns-in-Some : goal.returns-in-Some
returns-in-Some c =
    let r = c.args.reach.now in
    find_before (is_unknown c.args.decls.now) (word Any (string_bytes r.name) ∷ []) (word_if Any r.both ++ words_in Input r.inputs.items) (seen c.in-Some.word)
    (rw c.as_str.ensures.value at c.in-Some.ensures)

pub returns-in-None : goal.returns-in-None
returns-in-None c =
    let r = c.args.reach.now in
    (rw c.deref.ensures.value at c.first_with.ensures)
    ∙ sym (find_behind (is_unknown c.args.decls.now) (word Any (string_bytes r.name) ∷ []) (word_if Any r.both ++ words_in Input r.inputs.items)
    (rw c.as_str.ensures.value at c.in-None.ensures))
