-- Along the actions of a rung the effects over truth values are those of all its places.
use Rattle.std.proofs.Common.{◌≡◌, ℕ, ◌<◌, ◌≤◌, Bool, false, List, [], ◌∷◌, ◌++◌, zero, suc, refl, sym, ap, ap₂, subst, ◌∙◌, arith, All, Some, inl, inr}
use Rattle.std.proofs.lemmas.Bool.{cases_Bool, cond-true, cond-false}
use Rattle.std.proofs.lemmas.List.Elements.{All-append, All-nil}
use Rattle.diagram_program.specs.declared.geometry.TheConstants.{PLACES}
use Rattle.diagram_program.specs.declared.cell.Cell.{Cell}
use Rattle.diagram_program.specs.declared.cell.Cell.TheVariants.{Contact, Coil, Block}
use Rattle.diagram_program.specs.declared.gates.Action.{Action}
use Rattle.diagram_program.specs.Program.{Drawing, cell_of}
use Rattle.diagram_program.specs.Gates.{left_of, below_of, acts, action_at, actions_before, actions_of}
use Rattle.scan_signals.specs.Truth.{plain}
use Rattle.scan_cycle.specs.Cells.{Frame, Kept}
use Rattle.scan_cycle.specs.Rung.{changed, changes, Held, link, second, frame_of, evaluated}
use Rattle.scan_cycle.specs.Programs.{diagram_of}
use Rattle.scan_cycle.specs.Gating.{IsPlaced, among, changes_of, AreLinks}
use Rattle.scan_cycle.proofs.Feeders.{cell_is}
use Rattle.scan_cycle.proofs.GateLaws.{left_inside, below_inside, all_one}

-- ---- where actions look
placed_before : (p : Drawing) (j n : ℕ) → n ≤ PLACES → All IsPlaced (actions_before p j n)
unfolding actions_before
placed_before p j zero h = All-nil _
placed_before p j (suc n) h = elim (cases_Bool (acts (cell_of p j n))) [
  | inl t ↦ subst (λ (xs : List Action). All IsPlaced xs) (sym (cond-true (acts (cell_of p j n)) _ _ t))
      (All-append IsPlaced (actions_before p j n) _ (placed_before p j n (omega arith))
      (all_one IsPlaced (action_at p j n) (omega arith, left_inside p j n (omega arith), below_inside p j n (omega arith))))
  | inr t ↦ subst (λ (xs : List Action). All IsPlaced xs) (sym (cond-false (acts (cell_of p j n)) _ _ t)) (placed_before p j n (omega arith))
]

pub places : (p : Drawing) (j : ℕ) → All IsPlaced (actions_of p j)
unfolding actions_of
places p j = placed_before p j PLACES (omega arith)

-- ---- the effects
module _ (p : Drawing) (now j : ℕ) (start : Frame Bool) where
  still : (c : Cell) (x y : Bool) (h : Held) → acts c ≡ false → changed (diagram_of p) now start c x y h ≡ h
  still (Contact mode operand (Some memory)) x y h t = cc
  still (Coil mode var memory) x y h t = cc
  still (Block inst) x y h t = cc
  still _ x y h t = refl

  changes_append : (R : List Bool) (xs ys : List Action) (h : Held) → changes_of (diagram_of p) now start R (xs ++ ys) h ≡ changes_of (diagram_of p) now start R ys (changes_of (diagram_of p) now start R xs h)
  unfolding changes_of
  changes_append R [] ys h = refl
  changes_append R (x ∷ xs) ys h = changes_append R xs ys _

  changes_one : (R : List Bool) (a : Action) (h : Held) → changes_of (diagram_of p) now start R (a ∷ []) h ≡ changed (diagram_of p) now start a.cell (among plain R a.left) (among plain R a.below) h
  unfolding changes_of
  changes_one R a h = refl

  module _ (k : Kept) (R : List Bool) (are : AreLinks plain p k now j start R) where
    abbrev lb : ℕ → Bool
    lb = link plain (diagram_of p) k now j start

    change_is : (e : ℕ) → e < PLACES → (h : Held) → changed (diagram_of p) now start (cell_of p j e) (among plain R (left_of p j e)) (among plain R (below_of p j e)) h
        ≡ changed (diagram_of p) now start ((diagram_of p).cell j e) (lb e) (second plain (diagram_of p) j lb e) h
    change_is e lt h =
        ap (λ c. changed (diagram_of p) now start c (among plain R (left_of p j e)) (among plain R (below_of p j e)) h) (sym (cell_is p j e lt))
        ∙ ap₂ (λ x y. changed (diagram_of p) now start ((diagram_of p).cell j e) x y h) (are.left e lt) (are.below e lt)

    changes_along : (n : ℕ) → n ≤ PLACES → (h : Held) → changes_of (diagram_of p) now start R (actions_before p j n) h ≡ changes (diagram_of p) now j start lb n h
    unfolding changes_of changes actions_before
    changes_along zero lt h = refl
    changes_along (suc n) lt h = elim (cases_Bool (acts (cell_of p j n))) [
      | inl t ↦
          ap (λ xs. changes_of (diagram_of p) now start R xs h) (cond-true (acts (cell_of p j n)) (actions_before p j n ++ action_at p j n ∷ []) _ t)
          ∙ changes_append R (actions_before p j n) (action_at p j n ∷ []) h
          ∙ changes_one R (action_at p j n) _
          ∙ change_is n (omega arith) _
          ∙ ap (changed (diagram_of p) now start ((diagram_of p).cell j n) (lb n) (second plain (diagram_of p) j lb n)) (changes_along n (omega arith) h)
      | inr t ↦
          ap (λ xs. changes_of (diagram_of p) now start R xs h) (cond-false (acts (cell_of p j n)) (actions_before p j n ++ action_at p j n ∷ []) _ t)
          ∙ changes_along n (omega arith) h
          ∙ sym (still ((diagram_of p).cell j n) (lb n) (second plain (diagram_of p) j lb n) _ (ap acts (cell_is p j n (omega arith)) ∙ t))
    ]

    all_changes : (h : Held) → changes_of (diagram_of p) now start R (actions_of p j) h ≡ changes (diagram_of p) now j start lb PLACES h
    unfolding actions_of
    all_changes h = changes_along PLACES (omega arith) h

pub by_actions : (p : Drawing) (now j : ℕ) (h next : Held) (start : Frame Bool) (links : List Bool) → start ≡ frame_of h →
    AreLinks plain p h.kept now j start links → next ≡ changes_of (diagram_of p) now start links (actions_of p j) h →
    next ≡ evaluated (diagram_of p) now j h
by_actions p now j h next start links s are e =
    e
    ∙ all_changes p now j start h.kept links are h
    ∙ ap (λ (f : Frame Bool). changes (diagram_of p) now j f (link plain (diagram_of p) h.kept now j f) PLACES h) s
