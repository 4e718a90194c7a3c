-- A block with a second input that lacks its lower cell is torn.
use Rattle.std.proofs.Common.{◌≡◌, ◌↔◌, inl, inr, ℕ, ◌+◌, ◌<◌, Bool, IsTrue, Some, sym, ap, subst, ◌∙◌}
use Rattle.std.proofs.lemmas.Option.{same_Some}
use Rattle.diagram_program.specs.declared.geometry.TheConstants.{ROWS}
use Rattle.diagram_declarations.specs.Kind.{traits_of}
use Rattle.diagram_declarations.specs.declared.kind.BlockKind.{BlockKind}
use Rattle.diagram_declarations.specs.declared.kind.Pin.{Pin}
use Rattle.diagram_page.specs.declared.form.Form.TheVariants.{Block, Lower}
use Rattle.diagram_page.specs.Page.{Page, form_at}
use Rattle.diagram_reader.specs.Rules.{IsLowerWith, IsTorn}

same_kind : (a b : BlockKind) → Some (Block a) ≡ Some (Block b) → a ≡ b
same_kind a b h = cc

no_block : (k : BlockKind) (p : Pin) (linked : Bool) → Some (Block k) ≡ Some (Lower p linked) → ⊥
no_block k p linked h = cc

pub torn_block : (page : Page) (k r c : ℕ) (kind : BlockKind) (pin : Pin) (found : Bool)
    → form_at page k r c ≡ Some (Block kind) → (traits_of kind).second_input ≡ Some pin
    → IsTrue found ↔ (r + 1 < ROWS → ¬ (IsLowerWith pin (form_at page k (r + 1) c))) → IsTrue found ↔ IsTorn page k r c
torn_block page k r c kind pin found here second told = (λ h. (pin, inl ((kind, here, second), told.0 h)), back) where
  back : IsTorn page k r c → IsTrue found
  back (p, inl ((other, is, its), none)) =
      let same : p ≡ pin = same_Some p pin (sym its ∙ ap (λ x. (traits_of x).second_input) (same_kind other kind (sym is ∙ here)) ∙ second) in
      told.1 (subst (λ q. r + 1 < ROWS → ¬ (IsLowerWith q (form_at page k (r + 1) c))) same none)
  back (p, inr (lower, none)) = absurd (no_block kind p lower.0 (sym here ∙ lower.1))
