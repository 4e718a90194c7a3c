-- Going through all rungs leaves what a scan leaves.
use Rattle.std.proofs.Common.{◌≡◌, Bool, List, map, refl, ap, ◌∙◌, ℕ}
use Rattle.diagram_declarations.specs.Decls.{is_input}
use Rattle.diagram_program.specs.Program.{Drawing}
use Rattle.scan_cycle.specs.Scan.{given, after_scan}
use Rattle.scan_cycle.specs.RungByRung.{scanned}
use Rattle.scan_cycle.specs.Programs.{diagram_of, IsSound}
use Rattle.scan_cycle.specs.Rung.{Held}
use Rattle.scan_cycle.proofs.ByList.{scanned_is}

pub rungs_back : (p : Drawing) → p.rungs ≡ (diagram_of p).rungs
unfolding diagram_of
rungs_back p = refl

pub inputs_back : (p : Drawing) → map is_input p.decls.vars ≡ (diagram_of p).inputs
unfolding diagram_of
inputs_back p = refl

pub by_rungs : (p : Drawing) → IsSound (diagram_of p) → (now : ℕ) (inputs : List Bool) (h begun next : Held)
    → begun ≡ record h { values = given (map is_input p.decls.vars) inputs h.values } → next ≡ (scanned (diagram_of p) now begun p.rungs).held
    → next ≡ after_scan (diagram_of p) now inputs h
by_rungs p sound now inputs h begun next b n =
    n
    ∙ ap (λ m. (scanned (diagram_of p) now begun m).held) (rungs_back p)
    ∙ ap (λ (x : Held). (scanned (diagram_of p) now x (diagram_of p).rungs).held)
    (b ∙ ap (λ (fs : List Bool). record h { values = given fs inputs h.values }) (inputs_back p))
    ∙ scanned_is (diagram_of p) sound.forward now (record h { values = given (diagram_of p).inputs inputs h.values })
