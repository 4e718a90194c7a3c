-- The text about a program, whatever tells what it is warned of.
use Rattle.std.proofs.Common.{ℕ, List}
use Rattle.diagram_program.specs.Program.{Drawing}
use Rattle.diagram_reader.specs.Titled.{HasProgram}
use Rattle.cli_inputs.specs.Setting.{Given}
use Rattle.text_warnings.specs.Decided.{decided}
use Rattle.text_warnings.specs.Told.{Told}
use Rattle.cli_views.specs.declared.printing.About.{About}
use Rattle.cli_views.specs.declared.printing.About.TheVariants.{Check, Uses}
use Rattle.cli_views.specs.About.{PrintsAbout, about_text}

pub about_prints : (about : About) (g : Given) (Written : List ℕ → Type 0) (p : Drawing) → HasProgram g.aliases g.program p
    → ((told : Told) → Written (about_text told about p)) → PrintsAbout about g Written
about_prints (Check warns) g Written p has all = (decided, (p, has, all decided))
about_prints Uses g Written p has all = (p, has, all decided)
