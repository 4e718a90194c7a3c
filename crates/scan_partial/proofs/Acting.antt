-- Along the actions of a rung the changes are those of all its places.
use Rattle.std.proofs.Common.{◌≡◌, ℕ, ◌+◌, ◌<◌, ◌≤◌, false, List, [], ◌∷◌, ◌++◌, drop, length, get_or, zero, suc, refl, sym, ap, ap₂, ◌∙◌, arith, Some, inl, inr}
use Rattle.std.proofs.lemmas.Bool.{cases_Bool, cond-true, cond-false}
use Rattle.std.proofs.lemmas.List.{drop_more, drop_all}
use Rattle.std.proofs.lemmas.Option.{get_or_from_slice_get, slice_get_read}
use Rattle.diagram_program.specs.declared.geometry.TheConstants.{PLACES}
use Rattle.diagram_program.specs.declared.cell.Cell.{Cell}
use Rattle.diagram_program.specs.declared.cell.Cell.TheVariants.{Contact, Coil, Block}
use Rattle.diagram_program.specs.declared.gates.Action.{Action}
use Rattle.diagram_program.specs.Program.{Drawing, cell_of}
use Rattle.diagram_program.specs.Gates.{left_of, below_of, acts, action_at, actions_before, actions_of}
use Rattle.scan_signals.specs.Algebra.{Algebra}
use Rattle.scan_cycle.specs.Cells.{Diagram, Frame}
use Rattle.scan_cycle.specs.Rung.{second}
use Rattle.scan_cycle.specs.Programs.{diagram_of}
use Rattle.scan_cycle.specs.Gating.{among}
use Rattle.scan_cycle.proofs.Feeders.{cell_is}
use Rattle.scan_symbolic.specs.KnownScan.{Keeping, Known, link_in, frame_in, changed_in, changes_in, evaluated_in}
use Rattle.scan_partial.specs.Evaluating.{changed_by, changes_by, AreLinksIn}

-- ---- one turn of the loop
pub changes_more : {S B : Type 0} (o : Algebra S) (w : Keeping S B) (d : Diagram) (now : ℕ) (start : Frame S) (guard : S) (links : List S) (k next : Known S B) (more : List Action) (i : ℕ) (a : Action)
    → i < length more → next ≡ changed_by o w d now start guard links (get_or more i a) k
    → changes_by o w d now start guard links (drop (i + 1) more) next ≡ changes_by o w d now start guard links (drop i more) k
unfolding changes_by
changes_more o w d now start guard links k next more i a lt e =
    ap (changes_by o w d now start guard links (drop (i + 1) more)) e ∙ sym (ap (λ xs. changes_by o w d now start guard links xs k) (drop_more more i a lt))

pub changes_end : {S B : Type 0} (o : Algebra S) (w : Keeping S B) (d : Diagram) (now : ℕ) (start : Frame S) (guard : S) (links : List S) (k : Known S B) (more : List Action) (i : ℕ)
    → length more ≤ i → changes_by o w d now start guard links (drop i more) k ≡ k
unfolding changes_by
changes_end o w d now start guard links k more i le = ap (λ xs. changes_by o w d now start guard links xs k) (drop_all i more le)

pub ruleset changes_step = (changes_more, changes_end)

pub link_read : {A : Type 0} (xs : List A) (i : ℕ) (x d : A) → i < length xs → x ≡ get_or xs i x → x ≡ get_or xs i d
link_read xs i x d lt h = sym (get_or_from_slice_get xs i x d (slice_get_read xs (length xs) i x refl lt h))

-- ---- all actions
module _ {S B : Type 0} (o : Algebra S) (w : Keeping S B) (p : Drawing) (now j : ℕ) (start : Frame S) (guard : S) where
  abbrev changed : Cell → S → S → Known S B → Known S B
  changed c x y k = changed_in o w (diagram_of p) now start guard c x y k

  still : (c : Cell) (x y : S) (k : Known S B) → acts c ≡ false → changed c x y k ≡ k
  still (Contact mode operand (Some memory)) x y k t = cc
  still (Coil mode var memory) x y k t = cc
  still (Block inst) x y k t = cc
  still _ x y k t = refl

  changes_append : (R : List S) (xs ys : List Action) (k : Known S B)
      → changes_by o w (diagram_of p) now start guard R (xs ++ ys) k ≡ changes_by o w (diagram_of p) now start guard R ys (changes_by o w (diagram_of p) now start guard R xs k)
  unfolding changes_by
  changes_append R [] ys k = refl
  changes_append R (x ∷ xs) ys k = changes_append R xs ys _

  changes_one : (R : List S) (a : Action) (k : Known S B) → changes_by o w (diagram_of p) now start guard R (a ∷ []) k ≡ changed_by o w (diagram_of p) now start guard R a k
  unfolding changes_by
  changes_one R a k = refl

  module _ (from : Known S B) (R : List S) (are : AreLinksIn o w p now j from R) where
    abbrev links : ℕ → S
    links = link_in o w (diagram_of p) now j from

    change_is : (e : ℕ) → e < PLACES → (k : Known S B) → changed (cell_of p j e) (among o R (left_of p j e)) (among o R (below_of p j e)) k
        ≡ changed ((diagram_of p).cell j e) (links e) (second o (diagram_of p) j links e) k
    change_is e lt k =
        ap (λ c. changed c (among o R (left_of p j e)) (among o R (below_of p j e)) k) (sym (cell_is p j e lt))
        ∙ ap₂ (λ x y. changed ((diagram_of p).cell j e) x y k) (are.left e lt) (are.below e lt)

    changes_along : (n : ℕ) → n ≤ PLACES → (k : Known S B)
        → changes_by o w (diagram_of p) now start guard R (actions_before p j n) k ≡ changes_in o w (diagram_of p) now j start guard links n k
    unfolding changes_by changes_in actions_before
    changes_along zero lt k = refl
    changes_along (suc n) lt k = elim (cases_Bool (acts (cell_of p j n))) [
      | inl t ↦
          ap (λ xs. changes_by o w (diagram_of p) now start guard R xs k) (cond-true (acts (cell_of p j n)) (actions_before p j n ++ action_at p j n ∷ []) _ t)
          ∙ changes_append R (actions_before p j n) (action_at p j n ∷ []) k
          ∙ changes_one R (action_at p j n) _
          ∙ change_is n (omega arith) _
          ∙ ap (changed ((diagram_of p).cell j n) (links n) (second o (diagram_of p) j links n)) (changes_along n (omega arith) k)
      | inr t ↦
          ap (λ xs. changes_by o w (diagram_of p) now start guard R xs k) (cond-false (acts (cell_of p j n)) (actions_before p j n ++ action_at p j n ∷ []) _ t)
          ∙ changes_along n (omega arith) k
          ∙ sym (still ((diagram_of p).cell j n) (links n) (second o (diagram_of p) j links n) _ (ap acts (cell_is p j n (omega arith)) ∙ t))
    ]

    all_changes : (k : Known S B) → changes_by o w (diagram_of p) now start guard R (actions_of p j) k ≡ changes_in o w (diagram_of p) now j start guard links PLACES k
    unfolding actions_of
    all_changes k = changes_along PLACES (omega arith) k

pub by_actions : {S B : Type 0} (o : Algebra S) (w : Keeping S B) (p : Drawing) (now j : ℕ) (guard : S) (k next : Known S B) (start : Frame S) (links : List S) → start ≡ frame_in w k
    → AreLinksIn o w p now j k links → next ≡ changes_by o w (diagram_of p) now start guard links (actions_of p j) k
    → next ≡ evaluated_in o w (diagram_of p) now j guard k
by_actions o w p now j guard k next start links s are e =
    e
    ∙ all_changes o w p now j start guard k links are k
    ∙ ap (λ (f : Frame _). changes_in o w (diagram_of p) now j f guard (link_in o w (diagram_of p) now j k) PLACES k) s
