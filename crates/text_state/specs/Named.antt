-- Private to the laws: items whose names are well formed.
use Rattle.std.specs.Prelude.{◌≡◌, ℕ, List, Some, true, slice_get}
use Rattle.diagram_declarations.specs.Name.{is_name}

abbrev pub IsNamed : {A : Type 0} → (A → List ℕ) → List A → ℕ → Type 0
IsNamed {A = A} name items number = (x : A) → slice_get items number ≡ Some x → is_name (name x) ≡ true

abbrev pub AreNamed : {A : Type 0} → (A → List ℕ) → List A → Type 0
AreNamed name items = (number : ℕ) → IsNamed name items number
