-- The command line, as clap's definitions of a simple command read it: `ladder check [--warn] FILE`,
-- `ladder causes [--state STATE] [--at MS] [--after N] [--upto N] [--limit N] [--scans N] [--every MS] [--assume EXPRESSION]... [--assumed] [--grouped] [--terms] [--st] [--order ORDER] [--relevant] [--all-inputs] [--progress] [--quiet] FILE COIL [INPUT]...`,
-- `ladder causes --any [--off] [--must] [--reachable] [--looks N] [--runs [--states N] [--state STATE]] [--limit N] [--all-inputs] [--quiet] FILE COIL [INPUT]...`,
-- each with `--all-coils FOLDER` in place of COIL,
-- `ladder show [--state STATE] [--at MS] [--number N] [--stimulus STIMULUS] [--html] [--coil COIL] [--all-inputs] FILE [INPUT]...`,
-- `ladder sim [--state STATE] [--save STATE] [--every MS] [--watch NAME]... [--watch-all] [--changes] [--expect TRACE] [--progress] [--vcd] FILE STIMULUS`, `ladder uses FILE` and `ladder never [--state STATE] [--off] [--pairs] [--quiet] FILE`, each with `[--aliases] [--why]`;
-- `ladder reach [--state STATE] [--at MS] [--every MS] [--scans N] [--states N] [--both NAME] [--gap MS] [--progress] [--why] FILE NAME [INPUT]...`;
-- `ladder diff [--state STATE] [--new-state STATE] [--at MS] [--after N] [--upto N] [--limit N] [--scans N] [--for MS] [--every MS] [--grouped] [--terms] [--st] [--order ORDER] [--all-inputs] [--progress] [--quiet] [--aliases] [--why] OLD NEW COIL [INPUT]...`,
-- and without COIL `ladder diff [--looks N] [--reachable] [--save FOLDER] [--quiet] [--aliases] [--why] OLD NEW`
-- and `ladder diff --runs [--states N] [--save FOLDER] [--quiet] [--aliases] [--why] OLD NEW`;
-- `ladder draw [--why] FILE`;
-- `ladder export --st|--xml [--name NAME] [--bits] [--codesys] [--aliases] [--why] FILE`;
-- `ladder import [--open] [--control on] [--hal FILE] [--pou NAME] [--why] PROJECT`;
-- `ladder explain [CODE]...`; and `ladder --version`.
use Rattle.std.specs.Prelude.{◌≡◌, List, Some, [], ◌∷◌, codes, true, false}
use Rattle.clap.specs.Simple.{new_shape}
use Rattle.clap.specs.Words.{App, Rule, Text, app_of, new_rule}
use Rattle.clap.specs.declared.builder.ArgAction.TheVariants.{Append, SetTrue}
use Rattle.clap.specs.declared.builder.Command.{Command}
use Rattle.clap.specs.declared.builder.Command.TheViews.{out-Command}
use Rattle.clap.specs.declared.builder.value_parser.ValueParser.TheVariants.{Unsigned}

-- a word that must be there
abbrev pub place_rule : Text → Rule
place_rule id = record (new_rule id) { required = true; value_names = 1 }

-- a word that may be left out
abbrev pub free_place_rule : Text → Rule
free_place_rule id = record (new_rule id) { value_names = 1 }

-- an option with a text
abbrev pub text_rule : Text → Rule
text_rule id = record (new_rule id) { long = Some id; value_names = 1 }

-- an option with a number of 64 bits
abbrev pub number_rule : Text → Rule
number_rule id = record (new_rule id) { long = Some id; value_names = 1; parser = Some (Unsigned 0 18446744073709551615) }

-- an option with a number of 64 bits that isn't 0
abbrev pub positive_rule : Text → Rule
positive_rule id = record (new_rule id) { long = Some id; value_names = 1; parser = Some (Unsigned 1 18446744073709551615) }

-- an option with a number of 32 bits that isn't 0
abbrev pub small_rule : Text → Rule
small_rule id = record (new_rule id) { long = Some id; value_names = 1; parser = Some (Unsigned 1 4294967295) }

-- an option with a text that may be given several times
abbrev pub texts_rule : Text → Rule
texts_rule id = record (new_rule id) { long = Some id; action = Some Append; value_names = 1 }

-- an option without a value
abbrev pub flag_rule : Text → Rule
flag_rule id = record (new_rule id) { long = Some id; action = Some SetTrue }

-- the arguments that are left
abbrev pub list_rule : Text → Rule
list_rule id = record (new_rule id) { action = Some Append; value_names = 1 }

-- a subcommand with these arguments
abbrev pub taking : Text → List Rule → App
taking name rules = record { top = record (new_shape name) { rules = rules }; subs = [] }

abbrev pub check_app : App
check_app = taking (codes "check") (flag_rule (codes "warn") ∷ flag_rule (codes "aliases") ∷ flag_rule (codes "why") ∷ place_rule (codes "file") ∷ [])

abbrev pub uses_app : App
uses_app = taking (codes "uses") (flag_rule (codes "aliases") ∷ flag_rule (codes "why") ∷ place_rule (codes "file") ∷ [])

abbrev pub never_app : App
never_app = taking (codes "never") (text_rule (codes "state") ∷ texts_rule (codes "assume") ∷ flag_rule (codes "assumed") ∷ flag_rule (codes "off") ∷ flag_rule (codes "pairs") ∷ flag_rule (codes "quiet") ∷ flag_rule (codes "aliases") ∷ flag_rule (codes "why") ∷ place_rule (codes "file") ∷ [])

abbrev pub reach_app : App
reach_app = taking (codes "reach") (
    text_rule (codes "state") ∷ number_rule (codes "at") ∷ positive_rule (codes "every") ∷ positive_rule (codes "scans") ∷ small_rule (codes "states")
    ∷ text_rule (codes "both") ∷ number_rule (codes "gap") ∷ texts_rule (codes "assume") ∷ flag_rule (codes "assumed") ∷ flag_rule (codes "progress") ∷ flag_rule (codes "why") ∷ place_rule (codes "file") ∷ place_rule (codes "name") ∷ list_rule (codes "inputs") ∷ []
    )

abbrev pub diff_app : App
diff_app = taking (codes "diff") (
    text_rule (codes "state") ∷ text_rule (codes "new-state") ∷ number_rule (codes "at") ∷ number_rule (codes "after") ∷ number_rule (codes "upto") ∷ number_rule (codes "limit")
    ∷ number_rule (codes "scans") ∷ number_rule (codes "for") ∷ number_rule (codes "every")
    ∷ texts_rule (codes "assume") ∷ flag_rule (codes "assumed") ∷ flag_rule (codes "grouped") ∷ flag_rule (codes "terms") ∷ flag_rule (codes "st") ∷ text_rule (codes "order")
    ∷ small_rule (codes "looks") ∷ flag_rule (codes "reachable") ∷ flag_rule (codes "runs") ∷ small_rule (codes "states") ∷ text_rule (codes "save") ∷ flag_rule (codes "all-inputs") ∷ flag_rule (codes "progress") ∷ flag_rule (codes "quiet") ∷ flag_rule (codes "aliases") ∷ flag_rule (codes "why")
    ∷ place_rule (codes "old") ∷ place_rule (codes "new") ∷ free_place_rule (codes "coil") ∷ list_rule (codes "inputs") ∷ []
    )

abbrev pub causes_app : App
causes_app = taking (codes "causes") (
    text_rule (codes "state") ∷ number_rule (codes "at") ∷ number_rule (codes "after") ∷ number_rule (codes "upto") ∷ number_rule (codes "limit")
    ∷ number_rule (codes "scans") ∷ number_rule (codes "for") ∷ number_rule (codes "every") ∷ texts_rule (codes "assume") ∷ flag_rule (codes "assumed") ∷ flag_rule (codes "grouped") ∷ flag_rule (codes "terms") ∷ flag_rule (codes "st") ∷ text_rule (codes "order")
    ∷ flag_rule (codes "any") ∷ flag_rule (codes "off") ∷ flag_rule (codes "must")
    ∷ flag_rule (codes "reachable") ∷ small_rule (codes "looks")
    ∷ flag_rule (codes "runs") ∷ small_rule (codes "states")
    ∷ flag_rule (codes "relevant") ∷ flag_rule (codes "all-inputs") ∷ text_rule (codes "all-coils") ∷ flag_rule (codes "progress") ∷ flag_rule (codes "quiet") ∷ flag_rule (codes "aliases") ∷ flag_rule (codes "why") ∷ place_rule (codes "file") ∷ free_place_rule (codes "coil") ∷ list_rule (codes "inputs") ∷ []
    )

abbrev pub show_app : App
show_app = taking (codes "show") (
    text_rule (codes "state") ∷ number_rule (codes "at") ∷ number_rule (codes "number") ∷ texts_rule (codes "assume") ∷ flag_rule (codes "assumed") ∷ flag_rule (codes "html")
    ∷ text_rule (codes "stimulus") ∷ text_rule (codes "coil") ∷ flag_rule (codes "all-inputs") ∷ flag_rule (codes "aliases") ∷ flag_rule (codes "why") ∷ place_rule (codes "file") ∷ list_rule (codes "inputs") ∷ []
    )

abbrev pub sim_app : App
sim_app = taking (codes "sim") (
    text_rule (codes "state") ∷ text_rule (codes "save") ∷ positive_rule (codes "every") ∷ texts_rule (codes "watch") ∷ flag_rule (codes "watch-all") ∷ flag_rule (codes "changes") ∷ text_rule (codes "expect") ∷ flag_rule (codes "progress") ∷ flag_rule (codes "vcd") ∷ flag_rule (codes "aliases") ∷ flag_rule (codes "why") ∷ place_rule (codes "file") ∷ place_rule (codes "stimulus") ∷ []
    )

abbrev pub import_app : App
import_app = taking (codes "import") (flag_rule (codes "open") ∷ text_rule (codes "control") ∷ text_rule (codes "hal") ∷ text_rule (codes "pou") ∷ flag_rule (codes "why") ∷ place_rule (codes "file") ∷ [])

abbrev pub draw_app : App
draw_app = taking (codes "draw") (flag_rule (codes "why") ∷ place_rule (codes "file") ∷ [])

abbrev pub export_app : App
export_app = taking (codes "export") (flag_rule (codes "st") ∷ flag_rule (codes "xml") ∷ text_rule (codes "name") ∷ flag_rule (codes "bits") ∷ flag_rule (codes "codesys") ∷ flag_rule (codes "aliases") ∷ flag_rule (codes "why") ∷ place_rule (codes "file") ∷ [])

abbrev pub explain_app : App
explain_app = taking (codes "explain") (list_rule (codes "codes") ∷ [])

-- the program, which has a version and needs a subcommand; it shows its help where it has no words
abbrev pub ladder_app : App
ladder_app = record {
  top = record (new_shape (codes "ladder")) { is_leaf = false; has_version = true; arg_required_else_help = true; subcommand_required = true };
  subs = check_app.top ∷ causes_app.top ∷ show_app.top ∷ sim_app.top ∷ uses_app.top ∷ never_app.top ∷ reach_app.top ∷ diff_app.top ∷ draw_app.top ∷ export_app.top ∷ import_app.top ∷ explain_app.top ∷ [];
}

-- a command with no argument that is common to all subcommands, which clap reads as this
abbrev pub IsApp : App → Command → Type 0
IsApp a c = (app_of c ≡ a) × ((out-Command c).has_globals ≡ false)
