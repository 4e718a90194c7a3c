-- A rung is evaluated along the cells that write.
use Rattle.std.proofs.Common.{◌≡◌, ℕ, ◌+◌, ◌≤◌, Bool, false, List, [], ◌∷◌, ◌++◌, zero, suc, refl, sym, ap, ◌∙◌, arith, Option, Some, None, inl, inr, if◌then◌else◌, option_map}
use Rattle.std.proofs.lemmas.Bool.{cases_Bool, cond-true, cond-false}
use Rattle.diagram_program.specs.declared.geometry.TheConstants.{PLACES}
use Rattle.diagram_program.specs.declared.cell.Cell.{Cell}
use Rattle.diagram_program.specs.declared.cell.Cell.TheVariants.{Contact, Coil, Block}
use Rattle.diagram_program.specs.declared.gates.Action.{Action}
use Rattle.diagram_program.specs.Program.{Drawing, cell_of, jump_of}
use Rattle.diagram_program.specs.Gates.{acts, action_at, actions_before, actions_of}
use Rattle.scan_signals.specs.Truth.{plain}
use Rattle.scan_cycle.specs.Cells.{Frame, place_at}
use Rattle.scan_cycle.specs.Rung.{Held, changed, changes, evaluated, frame_of, link_at, second}
use Rattle.scan_cycle.specs.Scan.{next_rung}
use Rattle.scan_cycle.specs.RungByRung.{rung_after}
use Rattle.scan_cycle.specs.Programs.{diagram_of}
use Rattle.scan_cycle.proofs.Feeders.{cell_is}
use Rattle.draw_check.specs.Acted.{acted, acted_from}

abbrev after_jump : ℕ → Option (ℕ × ℕ × ℕ) → (ℕ → Bool) → ℕ
after_jump j jump links = elim jump [ Some x ↦ if links (place_at x.0 x.1) then x.2 else j + 1 | None ↦ j + 1 ]

by_jump : (j : ℕ) (jump : Option (ℕ × ℕ × ℕ)) (links : ℕ → Bool) → rung_after j (option_map (λ x. (place_at x.0 x.1, x.2)) jump) links ≡ after_jump j jump links
by_jump j None links = refl
by_jump j (Some x) links = refl

module _ (p : Drawing) (now j : ℕ) (start : Frame Bool) (links : ℕ → Bool) where
  still : (c : Cell) (x y : Bool) (h : Held) → acts c ≡ false → changed (diagram_of p) now start c x y h ≡ h
  still (Contact mode operand (Some memory)) x y h t = cc
  still (Coil mode var memory) x y h t = cc
  still (Block inst) x y h t = cc
  still _ x y h t = refl

  acted_append : (xs ys : List Action) (h : Held) → acted p now j start links (xs ++ ys) h ≡ acted p now j start links ys (acted p now j start links xs h)
  unfolding acted
  acted_append [] ys h = refl
  acted_append (x ∷ xs) ys h = acted_append xs ys _

  acted_one : (a : Action) (h : Held) → acted p now j start links (a ∷ []) h ≡ changed (diagram_of p) now start a.cell (links a.place) (second plain (diagram_of p) j links a.place) h
  unfolding acted
  acted_one a h = refl

  along : (n : ℕ) → n ≤ PLACES → (h : Held) → acted p now j start links (actions_before p j n) h ≡ changes (diagram_of p) now j start links n h
  unfolding acted changes actions_before
  along zero lt h = refl
  along (suc n) lt h = elim (cases_Bool (acts (cell_of p j n))) [
    | inl t ↦
        ap (λ xs. acted p now j start links xs h) (cond-true (acts (cell_of p j n)) (actions_before p j n ++ action_at p j n ∷ []) _ t)
        ∙ acted_append (actions_before p j n) (action_at p j n ∷ []) h
        ∙ acted_one (action_at p j n) _
        ∙ ap (λ c. changed (diagram_of p) now start c (links n) (second plain (diagram_of p) j links n) (acted p now j start links (actions_before p j n) h)) (sym (cell_is p j n (omega arith)))
        ∙ ap (changed (diagram_of p) now start ((diagram_of p).cell j n) (links n) (second plain (diagram_of p) j links n)) (along n (omega arith) h)
    | inr t ↦
        ap (λ xs. acted p now j start links xs h) (cond-false (acts (cell_of p j n)) (actions_before p j n ++ action_at p j n ∷ []) _ t)
        ∙ along n (omega arith) h
        ∙ sym (still ((diagram_of p).cell j n) (links n) (second plain (diagram_of p) j links n) _ (ap acts (cell_is p j n (omega arith)) ∙ t))
  ]

  all_along : (h : Held) → acted p now j start links (actions_of p j) h ≡ changes (diagram_of p) now j start links PLACES h
  unfolding actions_of
  all_along h = along PLACES (omega arith) h

pub evaluated_is : (p : Drawing) (now j : ℕ) (g : Held) → evaluated (diagram_of p) now j g ≡ acted_from p now j g (actions_of p j) g
evaluated_is p now j g = sym (all_along p now j (frame_of g) (link_at (diagram_of p) now j g) g)

-- The rung after this one, by its jump.
next_by : (p : Drawing) (now j : ℕ) (g : Held) → next_rung (diagram_of p) now j g ≡ after_jump j (jump_of p j) (link_at (diagram_of p) now j g)
unfolding diagram_of
next_by p now j g = by_jump j (jump_of p j) (link_at (diagram_of p) now j g)

pub next_below : (p : Drawing) (now j : ℕ) (g : Held) → jump_of p j ≡ None → next_rung (diagram_of p) now j g ≡ j + 1
next_below p now j g none = next_by p now j g ∙ ap (λ (o : Option (ℕ × ℕ × ℕ)). after_jump j o (link_at (diagram_of p) now j g)) none

pub next_there : (p : Drawing) (now j row column target : ℕ) (g : Held) → jump_of p j ≡ Some (row, column, target)
    → next_rung (diagram_of p) now j g ≡ (if link_at (diagram_of p) now j g (place_at row column) then target else j + 1)
next_there p now j row column target g is = next_by p now j g ∙ ap (λ (o : Option (ℕ × ℕ × ℕ)). after_jump j o (link_at (diagram_of p) now j g)) is
