-- Laws of the scan over what is known.
use Rattle.std.specs.Prelude.{◌≡◌, ℕ, suc, Bool, List, [], ◌∷◌}
use Rattle.diagram_declarations.specs.declared.kind.BlockKind.TheVariants.{Ton}
use Rattle.scan_signals.specs.Blocks.{new_block}
use Rattle.scan_signals.specs.Algebra.{Algebra}
use Rattle.scan_signals.specs.Truth.{plain}
use Rattle.scan_signals.specs.Relations.{Both}
use Rattle.scan_cycle.specs.Cells.{Diagram}
use Rattle.scan_cycle.specs.Rung.{Held}
use Rattle.scan_cycle.specs.Scan.{after_scan}
use Rattle.scan_symbolic.specs.KnownScan.{Keeping, Known, all_known, plainly, after_known}

-- Two lists are related member by member, each by the relation of its place, and are as long.
abbrev pub BothAt : {A B : Type 0} → (ℕ → A → B → Type 0) → List A → List B → Type 0
BothAt Q [] [] = Unit {0}
BothAt Q [] (y ∷ ys) = ⊥
BothAt Q (x ∷ xs) [] = ⊥
BothAt Q (x ∷ xs) (y ∷ ys) = Q 0 x y × BothAt (λ i. Q (suc i)) xs ys

-- Steps at these two moments, and choices, keep the relation Q between two ways to keep each instance; past the last there is a new TON.
pub record StepsKeep {S T B C : Type 0} (d : Diagram) (v : Keeping S B) (w : Keeping T C) (R : S → T → Type 0) (Q : ℕ → B → C → Type 0) (now then : ℕ) : Type 0 where
  pub past : (inst : ℕ) → Q inst (v.stored (new_block Ton)) (w.stored (new_block Ton))
  pub q : (inst : ℕ) (b : B) (c : C) → Q inst b c → R (v.q b) (w.q c)
  pub step : (inst : ℕ) (b : B) (c : C) (x y : S) (s t : T) → Q inst b c → R x s → R y t
      → Q inst (v.step (d.kind inst) (d.preset inst) b x y now) (w.step (d.kind inst) (d.preset inst) c s t then)
  pub choice : (inst : ℕ) (g : S) (h : T) (b e : B) (c f : C) → R g h → Q inst b c → Q inst e f → Q inst (v.choice g b e) (w.choice h c f)

-- What is known of two states is related: values, memories, and what is kept of each instance.
pub record BothKnown {S T B C : Type 0} (R : S → T → Type 0) (Q : ℕ → B → C → Type 0) (k : Known S B) (l : Known T C) : Type 0 where
  pub values : Both R k.values l.values
  pub memories : Both R k.memories l.memories
  pub blocks : BothAt Q k.blocks l.blocks

-- Relations that the operations and the steps keep are kept by a whole scan. With what a signal allows, and what may be stored, this is
-- soundness; with equality up to the passage of time, that a state which comes again goes on as before.
abbrev pub ScanKeeps : {S T B C : Type 0} → Diagram → Algebra S → Algebra T → Keeping S B → Keeping T C → (S → T → Type 0) → (ℕ → B → C → Type 0) → ℕ → ℕ → Type 0
ScanKeeps {S} {T} {B} {C} d a b v w R Q now then = (xs : List S) (ys : List T) → Both R xs ys → (k : Known S B) (l : Known T C)
    → BothKnown R Q k l → BothKnown R Q (after_known a v d now xs k) (after_known b w d then ys l)

-- Where all is known, the scan over what is known is the scan.
abbrev pub KnownIsScan : Diagram → Type 0
KnownIsScan d = (h : Held) (now : ℕ) (inputs : List Bool)
    → after_known plain plainly d now inputs (all_known plain plainly h) ≡ all_known plain plainly (after_scan d now inputs h)
