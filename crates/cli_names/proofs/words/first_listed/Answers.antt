use Rattle.std.proofs.Common.{◌∙◌, ◌∷◌, [], sym}
use Rattle.text_names.specs.declared.meant.Wanted.TheVariants.{Input, Written}
use Rattle.cli_names.specs.Words.{is_unknown, word, words_in}
use Rattle.cli_names.proofs.Finding.{find_behind}
use Rattle.cli_names.proofs.words.first_listed.Goals as goal

pub returns-in-None : goal.returns-in-None
returns-in-None c = c.first_in.ensures ∙ sym (find_behind (is_unknown c.args.decls.now) (word Written c.args.coil.now ∷ []) (words_in Input c.args.inputs.now) c.in-None.ensures)
