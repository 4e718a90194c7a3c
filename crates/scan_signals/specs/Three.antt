-- The signal of three values: OFF, ON, and OPEN (`Unsure`), which allows both.
use Rattle.std.specs.Prelude.{◌≡◌, ℕ, Bool, true, false}
use Rattle.scan_signals.specs.Algebra.{Algebra}
use Rattle.scan_signals.specs.declared.tri.Tri.{Tri}
use Rattle.scan_signals.specs.declared.tri.Tri.TheVariants.{Off, On, Unsure}

abbrev pub three_known : Bool → Tri
three_known true = On
three_known false = Off

-- ON where a side is ON, OFF where both are OFF, otherwise OPEN
abbrev pub three_join : Tri → Tri → Tri
three_join On y = On
three_join Off y = y
three_join Unsure On = On
three_join Unsure y = Unsure

-- OFF where a side is OFF, ON where both are ON, otherwise OPEN
abbrev pub three_meet : Tri → Tri → Tri
three_meet Off y = Off
three_meet On y = y
three_meet Unsure Off = Off
three_meet Unsure y = Unsure

-- NOT keeps OPEN
abbrev pub three_inverse : Tri → Tri
three_inverse Off = On
three_inverse On = Off
three_inverse Unsure = Unsure

-- with an OPEN condition, what both sides agree on, otherwise OPEN
abbrev pub three_choice : Tri → Tri → Tri → Tri
three_choice On x y = x
three_choice Off x y = y
three_choice Unsure On On = On
three_choice Unsure Off Off = Off
three_choice Unsure x y = Unsure

abbrev pub three : Algebra Tri
three = record { known = three_known; join = three_join; meet = three_meet; inverse = three_inverse; choice = three_choice }

-- each is a value
abbrev pub AnyTri : Tri → Type 0
AnyTri x = Unit {0}

-- the truth values that it allows, at its one place
abbrev pub three_allows : Tri → ℕ → Bool → Type 0
three_allows On p b = b ≡ true
three_allows Off p b = b ≡ false
three_allows Unsure p b = Unit {0}
