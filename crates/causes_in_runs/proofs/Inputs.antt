-- A scan leaves each input as it was given: no coil writes one.
use Rattle.std.proofs.Common.{◌≡◌, ◌∙◌, ap, refl, sym, subst, ℕ, zero, suc, Bool, true, false, List, [], ◌∷◌, Some, cond, map, get_or, nat_lt}
use Rattle.std.specs.Prelude.{slice_get}
use Rattle.diagram_declarations.specs.Decls.{Declared, is_input, is_input_at}
use Rattle.diagram_declarations.specs.declared.decls.Var.{Var}
use Rattle.diagram_program.specs.declared.cell.Cell.{Cell}
use Rattle.diagram_program.specs.declared.cell.Cell.TheVariants as cell
use Rattle.diagram_program.specs.declared.geometry.TheConstants.{PLACES}
use Rattle.diagram_program.specs.Program.{Drawing, Fits, IsWellFormed, cell_of}
use Rattle.scan_signals.specs.Truth.{plain}
use Rattle.scan_cycle.specs.Cells.{Diagram, Frame, var_in}
use Rattle.scan_cycle.specs.Programs.{diagram_of}
use Rattle.scan_cycle.specs.Rung.{Held, changes, evaluated, frame_of, link_at, second}
use Rattle.scan_cycle.specs.Scan.{after_scan, evaluated_from, given, next_rung}
use Rattle.scan_cycle.proofs.Changes.{changed_is, put_other}

off_on : false ≡ true → ⊥
off_on e = cc

some_same : (i j : ℕ) → Some i ≡ Some j → i ≡ j
some_same i j e = cc

-- ---- no coil writes an input
input_there : (vars : List Var) (i : ℕ) → get_or (map is_input vars) i false ≡ true → is_input_at (slice_get vars i) ≡ true
input_there [] i e = absurd (off_on e)
input_there (v ∷ vars) zero e = e
input_there (v ∷ vars) (suc i) e = input_there vars i e

written : (decls : Declared) (c : Cell) (var : ℕ) → Fits decls c → var_in c ≡ Some var → is_input_at (slice_get decls.vars var) ≡ false
written decls (cell.Coil mode v memory) var fits e = subst (λ (i : ℕ). is_input_at (slice_get decls.vars i) ≡ false) (some_same v var e) fits.1
written decls other var fits e = cc

no_coil : (decls : Declared) (c : Cell) (var : ℕ) → Fits decls c → get_or (map is_input decls.vars) var false ≡ true → var_in c ≡ Some var → ⊥
no_coil decls c var fits input e = off_on (sym (written decls c var fits e) ∙ input_there decls.vars var input)

no_coil_at : (p : Drawing) → IsWellFormed p → (j place var : ℕ) → (within : Bool) → get_or (map is_input p.decls.vars) var false ≡ true
    → var_in (cond within (cell_of p j place) cell.Empty) ≡ Some var → ⊥
no_coil_at p well j place var true input e = no_coil p.decls (cell_of p j place) var (well.fits _) input e
no_coil_at p well j place var false input e = cc

not_written : (p : Drawing) → IsWellFormed p → (var : ℕ) → get_or (diagram_of p).inputs var false ≡ true → (j place : ℕ) → var_in ((diagram_of p).cell j place) ≡ Some var → ⊥
unfolding diagram_of
not_written p well var input j place e = no_coil_at p well j place var (nat_lt place PLACES) input e

-- ---- what no coil writes keeps its value
module _ (d : Diagram) (now var : ℕ) (none : (j place : ℕ) → var_in (d.cell j place) ≡ Some var → ⊥) where
  changes_keep : (j : ℕ) (start : Frame Bool) (links : ℕ → Bool) (n : ℕ) (h : Held) → get_or (changes d now j start links n h).values var false ≡ get_or h.values var false
  unfolding changes
  changes_keep j start links zero h = refl
  changes_keep j start links (suc n) h =
      let before = changes d now j start links n h in
      ap (λ (x : Held). get_or x.values var false) (changed_is d now start (d.cell j n) (links n) (second plain d j links n) before)
      ∙ put_other before.values (var_in (d.cell j n)) _ false var (none j n)
      ∙ changes_keep j start links n h

  rung_keeps : (j : ℕ) (h : Held) → get_or (evaluated d now j h).values var false ≡ get_or h.values var false
  rung_keeps j h = changes_keep j (frame_of h) (link_at d now j h) PLACES h

  either_keeps : (b : Bool) (x h : Held) → get_or x.values var false ≡ get_or h.values var false → get_or (cond b x h).values var false ≡ get_or h.values var false
  either_keeps true x h e = e
  either_keeps false x h e = refl

  rungs_keep : (most j : ℕ) (h : Held) → get_or (evaluated_from d now most j h).values var false ≡ get_or h.values var false
  unfolding evaluated_from
  rungs_keep zero j h = refl
  rungs_keep (suc most) j h =
      either_keeps (nat_lt j d.rungs) (evaluated_from d now most (next_rung d now j h) (evaluated d now j h)) h
      (rungs_keep most (next_rung d now j h) (evaluated d now j h) ∙ rung_keeps j h)

pub input_after : (p : Drawing) → IsWellFormed p → (now : ℕ) (inputs : List Bool) (h : Held) (var : ℕ) → get_or (diagram_of p).inputs var false ≡ true
    → get_or (after_scan (diagram_of p) now inputs h).values var false ≡ get_or (given (diagram_of p).inputs inputs h.values) var false
input_after p well now inputs h var input =
    let d = diagram_of p in
    rungs_keep d now var (not_written p well var input) d.rungs 0 (record { values = given d.inputs inputs h.values; kept = h.kept })
