-- Names of Structured Text (IEC 61131-3:2013, 6.1): identifiers that are no keyword.
use Rattle.std.specs.Prelude.{ℕ, Bool, not, ◌&&◌, ◌||◌, List, [], ◌∷◌, codes}
use Rattle.std.specs.List.{list_any}
use Rattle.diagram_declarations.specs.Decls.{Declared}
use Rattle.diagram_declarations.specs.Name.{has_name_form, same_letters}

-- The keywords of programs, of statements and of types.
abbrev pub keywords : List (List ℕ)
keywords =
    codes "PROGRAM" ∷ codes "END_PROGRAM" ∷ codes "FUNCTION" ∷ codes "END_FUNCTION" ∷ codes "FUNCTION_BLOCK" ∷ codes "END_FUNCTION_BLOCK" ∷
    codes "METHOD" ∷ codes "END_METHOD" ∷ codes "CLASS" ∷ codes "END_CLASS" ∷ codes "INTERFACE" ∷ codes "TYPE" ∷ codes "END_TYPE" ∷
    codes "STRUCT" ∷ codes "END_STRUCT" ∷ codes "ARRAY" ∷ codes "VAR" ∷ codes "VAR_INPUT" ∷ codes "VAR_OUTPUT" ∷ codes "VAR_IN_OUT" ∷
    codes "VAR_TEMP" ∷ codes "VAR_EXTERNAL" ∷ codes "VAR_GLOBAL" ∷ codes "END_VAR" ∷ codes "CONSTANT" ∷ codes "RETAIN" ∷
    codes "NON_RETAIN" ∷ codes "R_EDGE" ∷ codes "F_EDGE" ∷ codes "AT" ∷ codes "BOOL" ∷ codes "BYTE" ∷ codes "WORD" ∷ codes "DWORD" ∷
    codes "LWORD" ∷ codes "SINT" ∷ codes "INT" ∷ codes "DINT" ∷ codes "LINT" ∷ codes "USINT" ∷ codes "UINT" ∷ codes "UDINT" ∷
    codes "ULINT" ∷ codes "REAL" ∷ codes "LREAL" ∷ codes "STRING" ∷ codes "TIME" ∷ codes "DATE" ∷ codes "TON" ∷ codes "TOF" ∷ codes "TP" ∷
    codes "CTU" ∷ codes "CTD" ∷ codes "CTUD" ∷ codes "SR" ∷ codes "RS" ∷ codes "R_TRIG" ∷ codes "F_TRIG" ∷ codes "TRUE" ∷ codes "FALSE" ∷
    codes "IF" ∷ codes "THEN" ∷ codes "ELSIF" ∷ codes "ELSE" ∷ codes "END_IF" ∷ codes "CASE" ∷ codes "OF" ∷ codes "END_CASE" ∷
    codes "FOR" ∷ codes "TO" ∷ codes "BY" ∷ codes "DO" ∷ codes "END_FOR" ∷ codes "WHILE" ∷ codes "END_WHILE" ∷ codes "REPEAT" ∷
    codes "UNTIL" ∷ codes "END_REPEAT" ∷ []

-- The operators that are words, and the statements of one word.
abbrev pub operators : List (List ℕ)
operators =
    codes "EXIT" ∷ codes "CONTINUE" ∷ codes "RETURN" ∷ codes "NOT" ∷ codes "AND" ∷ codes "OR" ∷ codes "XOR" ∷ codes "MOD" ∷ codes "SUPER" ∷ []

abbrev pub is_one_of : List (List ℕ) → List ℕ → Bool
is_one_of words word = list_any (λ w. same_letters word w) words

-- A word that can be a name: a letter or an underscore, then letters, digits and underscores, and no keyword or operator.
abbrev pub is_name : List ℕ → Bool
is_name word = has_name_form word && (not (is_one_of keywords word) && not (is_one_of operators word))

-- A variable has the word as its name, or as its title, which is its alias where it has one.
abbrev pub is_variable : Declared → List ℕ → Bool
is_variable d word = list_any (λ v. same_letters v.name word || same_letters v.title word) d.vars

-- the same of instances
abbrev pub is_instance : Declared → List ℕ → Bool
is_instance d word = list_any (λ i. same_letters i.name word || same_letters i.title word) d.instances

abbrev pub is_declared : Declared → List ℕ → Bool
is_declared d word = is_variable d word || is_instance d word
