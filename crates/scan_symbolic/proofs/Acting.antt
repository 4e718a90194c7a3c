-- Along the actions of a rung the effects over any signal are those of all its places.
use Rattle.std.proofs.Common.{◌≡◌, ℕ, ◌+◌, ◌<◌, ◌≤◌, true, false, List, [], ◌∷◌, ◌++◌, set, get_or, zero, suc, refl, sym, ap, subst, ◌∙◌, arith, All, inl, inr}
use Rattle.std.proofs.lemmas.Bool.{cases_Bool, cond-true, cond-false}
use Rattle.std.proofs.lemmas.List.Elements.{All-append, All-nil}
use Rattle.diagram_program.specs.declared.geometry.TheConstants.{PLACES}
use Rattle.diagram_program.specs.declared.cell.Cell.{Cell}
use Rattle.diagram_program.specs.declared.cell.Cell.TheVariants.{Coil, Block}
use Rattle.diagram_program.specs.declared.gates.Action.{Action}
use Rattle.diagram_program.specs.declared.gates.TheConstants.{OWN}
use Rattle.diagram_program.specs.Program.{Drawing, cell_of, is_block}
use Rattle.diagram_program.specs.Gates.{left_of, below_of, acts, action_at, actions_before, actions_of}
use Rattle.scan_signals.specs.Algebra.{Algebra}
use Rattle.scan_cycle.specs.Cells.{Frame, Kept, q_here}
use Rattle.scan_symbolic.specs.ByFrames.{written, effects, after_rung}
use Rattle.scan_cycle.specs.Rung.{link, second}
use Rattle.scan_cycle.specs.Programs.{diagram_of}
use Rattle.scan_cycle.specs.Gating.{among, AreLinks}
use Rattle.scan_symbolic.specs.Gating.{acted, effects_of}
use Rattle.scan_cycle.proofs.Feeders.{cell_is}
use Rattle.scan_cycle.proofs.GateLaws.{all_one}

-- An action has the cell at its place.
abbrev pub HasCell : Drawing → ℕ → Action → Type 0
HasCell p j a = (diagram_of p).cell j a.place ≡ a.cell

cells_before : (p : Drawing) (j n : ℕ) → n ≤ PLACES → All (HasCell p j) (actions_before p j n)
unfolding actions_before
cells_before p j zero h = All-nil _
cells_before p j (suc n) h = elim (cases_Bool (acts (cell_of p j n))) [
  | inl t ↦ subst (λ (xs : List Action). All (HasCell p j) xs) (sym (cond-true (acts (cell_of p j n)) _ _ t))
      (All-append (HasCell p j) (actions_before p j n) _ (cells_before p j n (omega arith)) (all_one (HasCell p j) (action_at p j n) (cell_is p j n (omega arith))))
  | inr t ↦ subst (λ (xs : List Action). All (HasCell p j) xs) (sym (cond-false (acts (cell_of p j n)) _ _ t)) (cells_before p j n (omega arith))
]

pub action_cells : (p : Drawing) (j : ℕ) → All (HasCell p j) (actions_of p j)
unfolding actions_of
action_cells p j = cells_before p j PLACES (omega arith)

module _ {S : Type 0} (o : Algebra S) (p : Drawing) (k : Kept) (now j : ℕ) (guard : S) where
  -- a cell that does not act writes nothing
  quiet : (c : Cell) (x y : S) (f : Frame S) → acts c ≡ false → written o (diagram_of p) k now guard c x y f ≡ f
  quiet (Coil mode var memory) x y f h = cc
  quiet (Block inst) x y f h = cc
  quiet _ x y f h = refl

  one : (c : Cell) (place left below : ℕ) (R : List S) (x y : S) (f : Frame S) → among o R left ≡ x
      → (is_block c ≡ true → among o R (OWN + place) ≡ q_here o (diagram_of p) k now c x y)
      → acted o k guard R (record { cell = c; place = place; left = left; below = below }) f ≡ written o (diagram_of p) k now guard c x y f
  one (Coil mode var memory) place left below R x y f h q = ap (λ z. written o (diagram_of p) k now guard (Coil mode var memory) z y f) h
  one (Block inst) place left below R x y f h q = ap (λ z. record f { ends = set f.ends inst (o.choice guard z (get_or f.ends inst (o.known false))) }) (q refl)
  one _ place left below R x y f h q = refl

  effects_append : (R : List S) (xs ys : List Action) (f : Frame S) → effects_of o k guard R (xs ++ ys) f ≡ effects_of o k guard R ys (effects_of o k guard R xs f)
  unfolding effects_of
  effects_append R [] ys f = refl
  effects_append R (x ∷ xs) ys f = effects_append R xs ys _

  effects_one : (R : List S) (a : Action) (f : Frame S) → effects_of o k guard R (a ∷ []) f ≡ acted o k guard R a f
  unfolding effects_of
  effects_one R a f = refl

  module _ (f : Frame S) (R : List S) (are : AreLinks o p k now j f R) where
    abbrev lk : ℕ → S
    lk = link o (diagram_of p) k now j f

    action_is : (e : ℕ) → e < PLACES → (g : Frame S) → acted o k guard R (action_at p j e) g ≡ written o (diagram_of p) k now guard ((diagram_of p).cell j e) (lk e) (second o (diagram_of p) j lk e) g
    action_is e h g =
        ap (λ c. acted o k guard R (record { cell = c; place = e; left = left_of p j e; below = below_of p j e }) g) (sym (cell_is p j e h))
        ∙ one ((diagram_of p).cell j e) e (left_of p j e) (below_of p j e) R (lk e) (second o (diagram_of p) j lk e) g (are.left e h) (are.own e h)

    along : (n : ℕ) → n ≤ PLACES → (g : Frame S) → effects_of o k guard R (actions_before p j n) g ≡ effects o (diagram_of p) k now j guard lk n g
    unfolding effects_of effects actions_before
    along zero h g = refl
    along (suc n) h g = elim (cases_Bool (acts (cell_of p j n))) [
      | inl t ↦
          ap (λ xs. effects_of o k guard R xs g) (cond-true (acts (cell_of p j n)) (actions_before p j n ++ action_at p j n ∷ []) _ t)
          ∙ effects_append R (actions_before p j n) (action_at p j n ∷ []) g
          ∙ effects_one R (action_at p j n) _
          ∙ action_is n (omega arith) _
          ∙ ap (written o (diagram_of p) k now guard ((diagram_of p).cell j n) (lk n) (second o (diagram_of p) j lk n)) (along n (omega arith) g)
      | inr t ↦
          ap (λ xs. effects_of o k guard R xs g) (cond-false (acts (cell_of p j n)) (actions_before p j n ++ action_at p j n ∷ []) _ t)
          ∙ along n (omega arith) g
          ∙ sym (quiet ((diagram_of p).cell j n) (lk n) (second o (diagram_of p) j lk n) _ (ap acts (cell_is p j n (omega arith)) ∙ t))
    ]

    pub rung_along : effects_of o k guard R (actions_of p j) f ≡ after_rung o (diagram_of p) k now j guard f
    unfolding actions_of
    rung_along = along PLACES (omega arith) f
