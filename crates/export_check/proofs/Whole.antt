-- From all rungs to the scan.
use Rattle.std.proofs.Common.{◌≡◌, ℕ, ◌+◌, ◌≤◌, Bool, true, false, List, [], ◌∷◌, length, map, get_or, zero, suc, refl, sym, ap, subst, ◌∙◌, arith}
use Rattle.std.proofs.lemmas.Bool.{le-ltb}
use Rattle.std.proofs.lemmas.List.{length-map}
use Rattle.diagram_declarations.specs.Decls.{is_input}
use Rattle.diagram_program.specs.Program.{Drawing, memories_of}
use Rattle.scan_cycle.specs.Cells.{Kept}
use Rattle.scan_cycle.specs.Rung.{Held}
use Rattle.scan_cycle.specs.Scan.{after_scan, given}
use Rattle.scan_cycle.specs.Laws.{FollowsJumps}
use Rattle.scan_cycle.specs.Programs.{diagram_of}
use Rattle.st_statements.specs.declared.statement.StatementList.{StatementList}
use Rattle.st_statements.specs.Run.{Ran, run}
use Rattle.draw_check.specs.Meaning.{with_inputs}
use Rattle.draw_check.proofs.Arriving.{evaluates}
use Rattle.draw_check.proofs.Whole.{given_at, given_length}
use Rattle.export_rungs.specs.Matched.{AreFlagged, AreMatched}
use Rattle.export_check.specs.declared.jumps.Jump.{Jump}
use Rattle.export_check.specs.Course.{AreDue, Ends, Exports}
use Rattle.export_check.specs.Flags.{AreReset, Resets}
use Rattle.export_check.specs.Meaning.{IsExportOf}
use Rattle.export_check.proofs.Over.{off_over}

-- what is behind the variables of the drawing
given_behind : (fs xs vs : List Bool) (i : ℕ) → length fs ≤ i → get_or (given fs xs vs) i false ≡ get_or vs i false
given_behind [] xs vs i le = refl
given_behind (f ∷ fs) xs vs zero le = absurd (omega (arith, le))
given_behind (true ∷ fs) [] [] (suc i) le = refl
given_behind (true ∷ fs) (x ∷ xs) [] (suc i) le = refl
given_behind (false ∷ fs) [] [] (suc i) le = refl
given_behind (false ∷ fs) (x ∷ xs) [] (suc i) le = refl
given_behind (true ∷ fs) [] (v ∷ vs) (suc i) le = given_behind fs [] vs i (omega (arith, le))
given_behind (true ∷ fs) (x ∷ xs) (v ∷ vs) (suc i) le = given_behind fs xs vs i (omega (arith, le))
given_behind (false ∷ fs) [] (v ∷ vs) (suc i) le = given_behind fs [] vs i (omega (arith, le))
given_behind (false ∷ fs) (x ∷ xs) (v ∷ vs) (suc i) le = given_behind fs (x ∷ xs) vs i (omega (arith, le))

inputs_length : (d : Drawing) → length (diagram_of d).inputs ≡ length d.decls.vars
unfolding diagram_of
inputs_length d = length-map d.decls.vars is_input

rungs_of : (d : Drawing) → (diagram_of d).rungs ≡ d.rungs
unfolding diagram_of
rungs_of d = refl

module _ (d : Drawing) (variables : ℕ) where
  inputs_matched : (inputs : List Bool) (g h : Held) → AreMatched d variables g h → AreMatched d variables (with_inputs d inputs g) (with_inputs d inputs h)
  inputs_matched inputs g h are = record {
    fits = given_length (diagram_of d).inputs inputs g.values ∙ are.fits;
    remembers = are.remembers;
    instances = are.instances;
    long = given_length (diagram_of d).inputs inputs h.values ∙ are.long;
    enough = are.enough;
    values = given_at (diagram_of d).inputs inputs h.values g.values (length d.decls.vars) (omega (arith, are.enough, are.long)) (omega (arith, are.fits)) are.values;
    memories = λ i lt. given_behind (diagram_of d).inputs inputs h.values (length d.decls.vars + i) (omega (arith, inputs_length d)) ∙ are.memories i lt;
    blocks = are.blocks;
  }

  reset_matched : (first count : ℕ) (g h after : Held) → first ≡ length d.decls.vars + memories_of d → AreReset first count h after → AreMatched d variables g h
      → AreMatched d variables g after
  reset_matched first count g h after begins reset are = record {
    fits = are.fits;
    remembers = are.remembers;
    instances = are.instances;
    long = reset.long ∙ are.long;
    enough = are.enough;
    values = λ i lt. reset.above i (omega (arith, lt, begins)) ∙ are.values i lt;
    memories = λ i lt. reset.above (length d.decls.vars + i) (omega (arith, lt, begins)) ∙ are.memories i lt;
    blocks = ap (λ (k : Kept). k.blocks) reset.kept ∙ are.blocks;
  }

-- what the scan leaves
scanned_matched : (d : Drawing) (variables : ℕ) → FollowsJumps (diagram_of d) → (now : ℕ) (inputs : List Bool) (g : Held) (r : Ran)
    → Ends d variables now 0 (with_inputs d inputs g) r → AreMatched d variables (after_scan (diagram_of d) now inputs g) r.held
scanned_matched d variables follows now inputs g r ends =
    let listed = evaluates (diagram_of d) now 0 ends.rung (with_inputs d inputs g) ends.last (omega (arith, ends.behind, rungs_of d)) ends.reaches in
    subst (λ (s : Held). AreMatched d variables s r.held) (follows.alone g now inputs listed.0 ends.last listed.1) ends.matched

-- no jump was taken
none_taken : List Jump → List Bool
none_taken jumps = map (λ j. false) jumps

none_on : (jumps : List Jump) (i : ℕ) → get_or (none_taken jumps) i false ≡ false
unfolding none_taken
none_on [] i = refl
none_on (x ∷ xs) zero = refl
none_on (x ∷ xs) (suc i) = none_on xs i

none_length : (jumps : List Jump) → length (none_taken jumps) ≡ length jumps
unfolding none_taken
none_length jumps = length-map jumps (λ j. false)

due_first : (jumps : List Jump) → AreDue jumps (none_taken jumps) 0 0 0
due_first jumps = record {
  many = none_length jumps;
  down = omega arith;
  later = λ i le. none_on jumps i;
  over = λ i le. le-ltb i 0 (omega arith) ∙ sym (off_over jumps (none_taken jumps) i (none_on jumps));
}

module _ (d : Drawing) (variables first : ℕ) (jumps : List Jump) (begins : first ≡ length d.decls.vars + memories_of d) (room : first + length jumps ≤ variables) where
  flagged : (h after : Held) → AreReset first (length jumps) h after → length h.values ≡ variables → AreFlagged d (none_taken jumps) after
  flagged h after reset long = record {
    room = omega (arith, none_length jumps, begins, room, long, reset.long);
    each = λ i lt.
        ap (λ n. get_or after.values (n + i) false) (sym begins)
        ∙ reset.off i (omega (arith, lt, none_length jumps))
        ∙ sym (none_on jumps i);
  }

  pub whole : (list rest : StatementList) → FollowsJumps (diagram_of d) → Resets first 0 (length jumps) list rest → Exports d variables jumps 0 0 rest
      → IsExportOf d variables list
  whole list rest follows resets exports = λ now inputs g h matched.
      let begun = inputs_matched d variables inputs g h matched in
      let reset = resets d.decls.instances now (with_inputs d inputs h) (omega (arith, room, begun.long)) (λ i lt. absurd (omega (arith, lt))) in
      let ends : Ends d variables now 0 (with_inputs d inputs g) (run d.decls.instances now rest reset.0) =
      exports now (none_taken jumps) 0 (with_inputs d inputs g) reset.0
      (record {
        due = due_first jumps;
        at = record {
          matched = reset_matched d variables first (length jumps) (with_inputs d inputs g) (with_inputs d inputs h) reset.0 begins reset.1 begun;
          flagged = flagged (with_inputs d inputs h) reset.0 reset.1 begun.long;
        };
      }) in
      let all : Ends d variables now 0 (with_inputs d inputs g) (run d.decls.instances now list (with_inputs d inputs h)) =
      subst (Ends d variables now 0 (with_inputs d inputs g)) (sym reset.2) ends in
      scanned_matched d variables follows now inputs g (run d.decls.instances now list (with_inputs d inputs h)) all
