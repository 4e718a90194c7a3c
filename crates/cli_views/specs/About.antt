-- Private to the texts about a program: which one is asked for.
use Rattle.std.specs.Prelude.{ℕ, List}
use Rattle.diagram_program.specs.Program.{Drawing}
use Rattle.cli_inputs.specs.Setting.{Given}
use Rattle.text_cross_reference.specs.Uses.{uses_text}
use Rattle.text_warnings.specs.Told.{Told}
use Rattle.cli_views.specs.declared.printing.About.{About}
use Rattle.cli_views.specs.declared.printing.About.TheVariants.{Check, Uses}
use Rattle.cli_views.specs.Views.{Checks, Prints, check_text}

abbrev pub about_text : Told → About → Drawing → List ℕ
about_text told (Check warns) = check_text told warns
about_text told Uses = uses_text

abbrev pub PrintsAbout : About → Given → (List ℕ → Type 0) → Type 0
PrintsAbout (Check warns) g Written = Checks warns g Written
PrintsAbout Uses g Written = Prints uses_text g Written
