-- The command line as the tables of words give it.
use Rattle.std.specs.Prelude.{◌∷◌, [], List, codes, map, true}
use Rattle.clap.specs.Simple.{new_shape}
use Rattle.clap.specs.Words.{App, Rule, Shape, with_subcommand}
use Rattle.cli_options.specs.CommandLine.{flag_rule, free_place_rule, list_rule, number_rule, place_rule, positive_rule, small_rule, taking, text_rule, texts_rule}
use Rattle.cli_options.specs.declared.command.Subcommand.{Subcommand}
use Rattle.cli_options.specs.declared.command.Word.{Word}
use Rattle.cli_options.specs.declared.command.Word.TheVariants as word

-- the rule that `clap` is to have of a word: its name alone counts, and not what the help says
abbrev pub word_rule : Word → Rule
word_rule (word.Place id value help) = place_rule id.now
word_rule (word.FreePlace id value help) = free_place_rule id.now
word_rule (word.Text id value help) = text_rule id.now
word_rule (word.Number id value help) = number_rule id.now
word_rule (word.Positive id value help) = positive_rule id.now
word_rule (word.Small id value help) = small_rule id.now
word_rule (word.Texts id value help) = texts_rule id.now
word_rule (word.Flag id help) = flag_rule id.now
word_rule (word.List id value help) = list_rule id.now

-- a subcommand with its words in their order
abbrev pub shape_by : Subcommand → Shape
shape_by sub = (taking sub.name.now (map word_rule sub.words.now)).top

-- the program before it has a subcommand
abbrev pub bare_app : App
bare_app = record { top = record (new_shape (codes "ladder")) { has_version = true; arg_required_else_help = true; subcommand_required = true }; subs = [] }

-- the program with these subcommands too, in their order
abbrev pub with_all : App → List Subcommand → App
with_all app [] = app
with_all app (first ∷ rest) = with_all (with_subcommand app (shape_by first)) rest
