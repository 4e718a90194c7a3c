-- The lines below a drawing of what is assumed, written one after the other.
use Rattle.std.proofs.Common.{◌≡◌, subst, sym, ℕ, List, ◌∷◌, Result}
use Rattle.std.specs.Prelude.{flat_map}
use Rattle.io_text.specs.Log.{Puts, PutsAll, PutsPrefix, WriteLog}
use Rattle.cli_inputs.proofs.Ends.{puts_cut, puts_next}
use Rattle.cli_views.specs.Views.{assumed_note}

-- a line that is cut off before others
pub note_cut : (a b : WriteLog) (texts behind : List (List ℕ)) (text : List ℕ) → texts ≡ text ∷ behind → PutsPrefix a b (assumed_note text)
    → PutsPrefix a b (flat_map assumed_note texts)
note_cut a b texts behind text is p =
    subst (λ (ts : List (List ℕ)). PutsPrefix a b (flat_map assumed_note ts)) (sym is) (puts_cut a b (assumed_note text) (flat_map assumed_note behind) p)

-- lines after another one
pub notes_next : {T E : Type 0} (a b c : WriteLog) (texts behind : List (List ℕ)) (text : List ℕ) (r : Result T E) → texts ≡ text ∷ behind
    → PutsAll a b (assumed_note text) → Puts b c r (flat_map assumed_note behind) → Puts a c r (flat_map assumed_note texts)
notes_next a b c texts behind text r is p q =
    subst (λ (ts : List (List ℕ)). Puts a c r (flat_map assumed_note ts)) (sym is) (puts_next a b c (assumed_note text) (flat_map assumed_note behind) r p q)
