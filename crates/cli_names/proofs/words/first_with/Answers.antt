use Rattle.std.proofs.Common.{◌∙◌, sym}
use Rattle.text_names.specs.declared.meant.Wanted.TheVariants.{Input}
use Rattle.cli_names.specs.Steps.{seen}
use Rattle.cli_names.specs.Words.{is_unknown, word_if, words_in}
use Rattle.cli_names.proofs.Finding.{find_before, find_behind}
use Rattle.cli_names.proofs.words.first_with.Goals as goal

pub returns-in-Some : goal.returns-in-Some
returns-in-Some c = find_before (is_unknown c.args.decls.now) (word_if c.args.wanted c.args.name.now) (words_in Input c.args.inputs.now) (seen c.in-Some.word) c.in-Some.ensures

pub returns-in-None : goal.returns-in-None
returns-in-None c = c.first_in.ensures ∙ sym (find_behind (is_unknown c.args.decls.now) (word_if c.args.wanted c.args.name.now) (words_in Input c.args.inputs.now) c.in-None.ensures)
