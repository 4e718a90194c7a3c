-- What a name is (IEC 61131-3, identifiers): a letter or an underscore, then letters, digits and underscores, and no keyword.
-- The profile allows at most 11 characters, and underscores in any place. Letter case makes no difference between names.
use Rattle.std.specs.Prelude.{ℕ, Bool, false, not, ◌&&◌, ◌||◌, ◌==◌, nat_le, List, [], ◌∷◌, length, codes}
use Rattle.std.specs.List.{list_any, list_all}
use Rattle.std.specs.Char.{is_ascii_alphabetic, is_ascii_alphanumeric}
use Rattle.std.specs.Str.{str_eq_ignore_ascii_case}
use Rattle.diagram_declarations.specs.declared.limits.TheConstants.{LONGEST_NAME}

-- The words that have a place of their own in the grammar or in a drawing.
abbrev pub keywords : List (List ℕ)
keywords =
    codes "VAR" ∷ codes "END_VAR" ∷ codes "AT" ∷ codes "BOOL" ∷ codes "TRUE" ∷ codes "FALSE" ∷ codes "TON"
    ∷ codes "TOF" ∷ codes "TP" ∷ codes "CTU" ∷ codes "CTD" ∷ codes "SR" ∷ codes "RS" ∷ codes "RETURN" ∷ []

-- One word is the other but for the case of letters.
abbrev pub same_letters : List ℕ → List ℕ → Bool
same_letters a b = str_eq_ignore_ascii_case a b

-- 95 is the underscore
abbrev pub is_name_byte : ℕ → Bool
is_name_byte b = is_ascii_alphanumeric b || (b == 95)

abbrev pub has_name_form : List ℕ → Bool
has_name_form word = elim word [ b ∷ bs ↦ (is_ascii_alphabetic b || b == 95) && list_all is_name_byte bs | [] ↦ false ]

abbrev pub is_name : List ℕ → Bool
is_name word = has_name_form word && (nat_le (length word) LONGEST_NAME && not (list_any (same_letters word) keywords))
