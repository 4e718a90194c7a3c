-- The program with one more subcommand.
use Rattle.std.proofs.Common.{◌≡◌, ◌++◌, ◌∷◌, [], List, refl}
use Rattle.clap.specs.Words.{App, with_subcommand}
use Rattle.cli_options.specs.Table.{shape_by, with_all}
use Rattle.cli_options.specs.declared.command.Subcommand.{Subcommand}

pub with_one_more : (app : App) (subs : List Subcommand) (sub : Subcommand) → with_subcommand (with_all app subs) (shape_by sub) ≡ with_all app (subs ++ sub ∷ [])
with_one_more app [] sub = refl
with_one_more app (first ∷ rest) sub = with_one_more (with_subcommand app (shape_by first)) rest sub
