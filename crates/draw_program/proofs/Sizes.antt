-- The size of an address.
use Rattle.std.proofs.Common.{◌≡◌, ℕ, List, [], ◌∷◌, refl, inl, inr}
use Rattle.diagram_declarations.specs.declared.decls.Address.{Address}
use Rattle.draw_program.specs.Addresses.{IsBehindSize}

pub without : (text : List ℕ) → IsBehindSize text text
without text = ([], refl, inl refl)

pub large : (text rest : List ℕ) → text ≡ 88 ∷ rest → IsBehindSize text rest
large text rest is = (88 ∷ [], is, inr refl)

pub small : (text rest : List ℕ) → text ≡ 120 ∷ rest → IsBehindSize text rest
small text rest is = (120 ∷ [], is, inr refl)

pub same_parts : (a b : Address) → a.letter ≡ b.letter → a.first ≡ b.first → a.second ≡ b.second → a ≡ b
same_parts a b p q r = λ i. record { letter = p i; first = q i; second = r i }
