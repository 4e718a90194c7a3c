-- The block VAR .. END_VAR of a text, as a grammar over the spellings of its tokens (IEC 61131-3, declaration of variables).
-- Each declaration has one name, a place AT %I, AT %Q or AT %M, or none, and an initial value or a preset, or none.
use Rattle.std.specs.Prelude.{◌≡◌, ℕ, ◌≤◌, ◌⊎◌, ◌==◌, Bool, true, false, List, [], ◌∷◌, ◌++◌, length, codes, Option, Some, None}
use Rattle.std.specs.List.{filter_map, list_all}
use Rattle.std.specs.Map.{lookup}
use Rattle.std.specs.Char.{is_ascii_digit, to_ascii_uppercase}
use Rattle.diagram_declarations.specs.declared.limits.TheConstants.{MOST_DIGITS, LARGEST_COUNT}
use Rattle.diagram_declarations.specs.declared.decls.VarKind.{VarKind}
use Rattle.diagram_declarations.specs.declared.decls.VarKind.TheVariants as var_kind
use Rattle.diagram_declarations.specs.declared.kind.Parameter.{Parameter}
use Rattle.diagram_declarations.specs.declared.kind.Parameter.TheVariants as parameter
use Rattle.diagram_declarations.specs.declared.decls.Address.{Address}
use Rattle.diagram_declarations.specs.declared.decls.Var.{Var}
use Rattle.diagram_declarations.specs.declared.decls.Instance.{Instance}
use Rattle.diagram_declarations.specs.declared.decls.Body.{Body}
use Rattle.diagram_declarations.specs.declared.decls.Body.TheVariants as body
use Rattle.diagram_declarations.specs.Name.{same_letters, is_name}
use Rattle.diagram_declarations.specs.Kind.{traits_of}
use Rattle.diagram_declarations.specs.Decls.{Declared, AreKept}
use Rattle.diagram_declarations.specs.Text.{AreTokens}
use Rattle.diagram_declarations.specs.Duration.{number_of, IsDuration}

-- The token is this keyword or mark; letter case makes no difference.
abbrev pub Is : List ℕ → List ℕ → Type 0
Is word token = same_letters token word ≡ true

-- ---- phrases: what tokens in a row are

-- one token of such a sort
abbrev pub Token : (List ℕ → Type 0) → List (List ℕ) → Type 0
Token Sort ts = (t : List ℕ) × (ts ≡ t ∷ []) × Sort t

-- these phrases, one behind the other
abbrev pub Sequence : List (List (List ℕ) → Type 0) → List (List ℕ) → Type 0
Sequence [] ts = ts ≡ []
Sequence (Phrase ∷ phrases) ts = (front back : List (List ℕ)) × (ts ≡ front ++ back) × Phrase front × Sequence phrases back

-- these, or nothing, which stands for the default
abbrev pub Optional : List (List (List ℕ) → Type 0) → Type 0 → List (List ℕ) → Type 0
Optional phrases Default ts = Sequence phrases ts ⊎ ((ts ≡ []) × Default)

-- ---- numbers

-- A number of the declarations has 1 to 5 digits.
abbrev pub IsNumber : List ℕ → ℕ → Type 0
IsNumber word n = (1 ≤ length word) × (length word ≤ MOST_DIGITS) × (list_all is_ascii_digit word ≡ true) × (n ≡ number_of word)

-- ---- addresses: % I 1 . 0

-- a point (46) and the second number, or nothing
abbrev pub IsSecond : List ℕ → Option ℕ → Type 0
IsSecond text second = elim second [ Some n ↦ (digits : List ℕ) × (text ≡ 46 ∷ digits) × IsNumber digits n | None ↦ text ≡ [] ]

-- 37 is the percent sign; 73, 81 and 77 are I, Q and M; the size X of a BOOL may be left out
abbrev pub IsAddress : List ℕ → VarKind → Address → Type 0
IsAddress word kind address =
    (letter : ℕ) × (size first second : List ℕ) × (word ≡ 37 ∷ letter ∷ (size ++ (first ++ second))) × (address.letter ≡ to_ascii_uppercase letter)
    × (lookup (λ capital. address.letter == capital) ((73, var_kind.Input) ∷ (81, var_kind.Output) ∷ (77, var_kind.Memory) ∷ []) ≡ Some kind)
    × ((size ≡ []) ⊎ Is (codes "X") size) × IsNumber first address.first × IsSecond second address.second

-- ---- initial values and presets

abbrev pub bit_word : List ℕ → Option Bool
bit_word word = lookup (same_letters word) ((codes "TRUE", true) ∷ (codes "FALSE", false) ∷ (codes "1", true) ∷ (codes "0", false) ∷ [])

-- ( word := value )
abbrev pub Bracketed : List ℕ → (List ℕ → Type 0) → List (List ℕ) → Type 0
Bracketed word Value = Sequence (Token (Is (codes "(")) ∷ Token (Is word) ∷ Token (Is (codes ":=")) ∷ Token Value ∷ Token (Is (codes ")")) ∷ [])

-- A preset: `( PT := duration )` of a timer, `( PV := number )` of a counter, at most 32767 (the profile); a bistable has none.
abbrev pub Preset : Option Parameter → ℕ → List (List ℕ) → Type 0
Preset (Some parameter.Time) n = Bracketed (codes "PT") (λ word. IsDuration word n)
Preset (Some parameter.Count) n = Bracketed (codes "PV") (λ word. IsNumber word n × (n ≤ LARGEST_COUNT))
Preset None n = λ ts. ⊥

-- ---- declarations

-- What follows the name of a variable, `[AT address] : BOOL [:= bit] ;`, which is a memory variable without an address, and FALSE without a bit;
-- and that of an instance, `: type [:= preset] ;`, whose preset is 0 without one.
abbrev pub IsBody : List (List ℕ) → Body → Type 0
IsBody ts (body.Var kind address value) =
    Sequence (Optional (Token (Is (codes "AT")) ∷ Token (λ word. (a : Address) × (address ≡ Some a) × IsAddress word kind a) ∷ [])
    ((address ≡ None) × (kind ≡ var_kind.Memory)) ∷ Token (Is (codes ":")) ∷ Token (Is (codes "BOOL"))
    ∷ Optional (Token (Is (codes ":=")) ∷ Token (λ word. bit_word word ≡ Some value) ∷ []) (value ≡ false) ∷ Token (Is (codes ";")) ∷ []) ts
IsBody ts (body.Instance kind n) =
    Sequence (Token (Is (codes ":")) ∷ Token (Is (traits_of kind).word)
    ∷ Optional (Token (Is (codes ":=")) ∷ Preset (traits_of kind).parameter n ∷ []) (n ≡ 0) ∷ Token (Is (codes ";")) ∷ []) ts

-- A declaration is a name and what follows it.
pub record Decl : Type 0 where
  pub name : List ℕ
  pub body : Body

abbrev pub AreDecls : List (List ℕ) → List Decl → Type 0
AreDecls ts [] = ts ≡ []
AreDecls ts (d ∷ ds) = (behind back : List (List ℕ)) × (ts ≡ d.name ∷ (behind ++ back)) × (is_name d.name ≡ true) × IsBody behind d.body × AreDecls back ds

-- the variables among declarations, and the instances
abbrev pub declared_var : Decl → Option Var
declared_var d = elim d.body [ body.Var kind address initial ↦ Some (record { name = d.name; title = d.name; kind = kind; address = address; initial = initial }) | _ ↦ None ]

abbrev pub declared_instance : Decl → Option Instance
declared_instance d = elim d.body [ body.Instance kind preset ↦ Some (record { name = d.name; title = d.name; kind = kind; preset = preset }) | _ ↦ None ]

abbrev pub declared_by : List Decl → Declared
declared_by ds = record { vars = filter_map declared_var ds; instances = filter_map declared_instance ds }

-- VAR and declarations; and these with END_VAR
abbrev pub IsHead : List (List ℕ) → List Decl → Type 0
IsHead ts ds = (opening : List ℕ) × (between : List (List ℕ)) × (ts ≡ opening ∷ between) × Is (codes "VAR") opening × AreDecls between ds

abbrev pub IsBlock : List (List ℕ) → List Decl → Type 0
IsBlock ts ds = (head : List (List ℕ)) × (closing : List ℕ) × (ts ≡ head ++ closing ∷ []) × IsHead head ds × Is (codes "END_VAR") closing

-- The text begins with such a block, right after which the rest begins. Names, addresses and limits are kept.
abbrev pub HasDecls : List ℕ → Declared → List ℕ → Type 0
HasDecls text declared rest =
    (tokens : List (List ℕ)) × (decls : List Decl) × AreTokens tokens text rest × IsBlock tokens decls × (declared ≡ declared_by decls) × AreKept declared

-- The text has no declarations.
abbrev pub HasNoDecls : List ℕ → Type 0
HasNoDecls text = (declared : Declared) (rest : List ℕ) → HasDecls text declared rest → ⊥

-- Some block begins with these tokens and then this one. The grammar alone says so: its names, addresses and limits need not be kept.
abbrev pub CanFollow : List (List ℕ) → List ℕ → Type 0
CanFollow ts token = (more : List (List ℕ)) × (ds : List Decl) × IsBlock (ts ++ token ∷ more) ds
