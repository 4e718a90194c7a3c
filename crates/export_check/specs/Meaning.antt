-- A program exported as statements: each run of them does what a scan of the drawing does.
use Rattle.std.specs.Prelude.{ℕ, Bool, List}
use Rattle.diagram_program.specs.Program.{Drawing}
use Rattle.scan_cycle.specs.Rung.{Held}
use Rattle.scan_cycle.specs.Scan.{after_scan}
use Rattle.scan_cycle.specs.Programs.{diagram_of}
use Rattle.st_statements.specs.declared.statement.StatementList.{StatementList}
use Rattle.st_statements.specs.Run.{run}
use Rattle.draw_check.specs.Meaning.{with_inputs}
use Rattle.export_rungs.specs.Matched.{AreMatched}

-- From states that match, a scan of the drawing and a run of the statements lead to states that match, whatever the inputs and the moment.
abbrev pub IsExportOf : (d : Drawing) → (variables : ℕ) → StatementList → Type 0
IsExportOf d variables list = (now : ℕ) (inputs : List Bool) (g h : Held) → AreMatched d variables g h
    → AreMatched d variables (after_scan (diagram_of d) now inputs g) (run d.decls.instances now list (with_inputs d inputs h)).held
