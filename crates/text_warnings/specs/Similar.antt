-- Which names are similar: most likely one of two is a slip.
use Rattle.std.specs.Prelude.{◌≡◌, ◌⊎◌, ◌+◌, ◌≤◌, ℕ, List, [], ◌∷◌, true, false, drop, length, min, take}
use Rattle.std.specs.Char.{is_ascii_digit}
use Rattle.diagram_declarations.specs.Name.{same_letters}
use Rattle.text_warnings.specs.Below.{SomeBelow}

-- The first text is the other with its first character replaced. Neither character is a digit, and more follows them: the last letter of
-- PumpA and PumpB numbers, as a digit does.
abbrev pub ReplacesFirst : List ℕ → List ℕ → Type 0
ReplacesFirst (old ∷ behind) (new ∷ after) =
    (is_ascii_digit old ≡ false) × (is_ascii_digit new ≡ false) × (1 ≤ length behind) × (same_letters behind after ≡ true)
ReplacesFirst a b = ⊥

-- The first text is the other with a character before it that is no digit.
abbrev pub AddsFirst : List ℕ → List ℕ → Type 0
AddsFirst [] b = ⊥
AddsFirst (added ∷ behind) b = (is_ascii_digit added ≡ false) × (same_letters behind b ≡ true)

-- Up to a place the names are the same. There one character is replaced, added or left out, and behind it they are the same again.
unfoldable pub DifferAt : List ℕ → List ℕ → ℕ → Type 0
DifferAt a b n =
    (same_letters (take n a) (take n b) ≡ true)
    × (ReplacesFirst (drop n a) (drop n b) ⊎ (AddsFirst (drop n a) (drop n b) ⊎ AddsFirst (drop n b) (drop n a)))

-- Two names that differ by one character, whatever the case of letters. One has 4 characters at least: shorter names are told apart at a glance.
unfoldable pub AreSimilar : List ℕ → List ℕ → Type 0
AreSimilar a b =
    ((4 ≤ length a) ⊎ (4 ≤ length b)) × (same_letters a b ≡ false) × SomeBelow (min (length a) (length b) + 1) (DifferAt a b)
