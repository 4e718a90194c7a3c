-- The codes of the faults.
use Rattle.std.specs.Prelude.{ℕ, Bool, List, [], ◌∷◌, codes, is_some, position}
use Rattle.std.specs.Str.{str_eq_ignore_ascii_case}

abbrev pub fault_codes : List (List ℕ)
fault_codes =
    codes "V1" ∷ codes "V2" ∷ codes "V3" ∷ codes "V4" ∷ codes "V5" ∷ codes "V6" ∷ codes "V7" ∷ codes "V8" ∷ codes "V9" ∷ codes "A1"
    ∷ codes "G1" ∷ codes "G2" ∷ codes "G3" ∷ codes "G4" ∷ codes "G5" ∷ codes "G6" ∷ codes "G7" ∷ codes "G8" ∷ codes "G9" ∷ codes "G10"
    ∷ codes "G11" ∷ codes "G12" ∷ codes "G13" ∷ codes "G14" ∷ codes "G15"
    ∷ codes "C1" ∷ codes "C2" ∷ codes "C3" ∷ codes "C4" ∷ codes "C5" ∷ codes "C6" ∷ codes "C7" ∷ codes "C8" ∷ codes "C9" ∷ codes "S1"
    ∷ codes "X1" ∷ codes "X2" ∷ codes "X3" ∷ codes "X4" ∷ codes "X5" ∷ codes "X6" ∷ codes "X7"
    ∷ codes "P1" ∷ codes "P2" ∷ codes "P3" ∷ codes "P4" ∷ codes "P5" ∷ codes "P6" ∷ codes "P7" ∷ codes "P8"
    ∷ codes "N1" ∷ codes "N2" ∷ codes "N3" ∷ codes "N4" ∷ codes "N5" ∷ codes "N6" ∷ codes "N7"
    ∷ codes "T1" ∷ codes "T2" ∷ codes "T3" ∷ codes "T4" ∷ codes "T5" ∷ codes "T6" ∷ codes "T7" ∷ codes "T8" ∷ codes "T9" ∷ codes "T10"
    ∷ codes "E1" ∷ codes "E2" ∷ codes "E3" ∷ codes "E4" ∷ codes "usage" ∷ []

-- The text is one of the codes, in any letter case.
abbrev pub is_fault_code : List ℕ → Bool
is_fault_code code = is_some (position (λ c. str_eq_ignore_ascii_case code c) fault_codes)
