-- The names of coils.
use Rattle.std.proofs.Common.{◌≡◌, ◌∙◌, ◌<◌, ◌≤◌, ◌+◌, ◌++◌, ◌∷◌, ◌||◌, ◌==◌, [], ℕ, true, false, List, Option, Some, refl, sym, ap, arith, inl, inr, add-one, append-nil, length, map, get_or}
use Rattle.std.specs.Prelude.{filter, slice_get}
use Rattle.std.specs.Int.{is_in_range}
use Rattle.std.specs.List.{All, list_all, range_with_len}
use Rattle.std.specs.Option.{option_map_or}
use Rattle.std.specs.Char.{is_ascii_alphanumeric}
use Rattle.std.specs.Str.{IsUtf8}
use Rattle.std.proofs.lemmas.Bool.{eqb-true, leb-true, and_parts, or_cases}
use Rattle.std.proofs.lemmas.List.{map-append}
use Rattle.std.proofs.lemmas.List.Elements.{All-cons, All-nil, filter-append}
use Rattle.std.proofs.lemmas.Option.{slice_get-get_or}
use Rattle.std.proofs.lemmas.Str.{IsUtf8-from_ascii}
use Rattle.std.proofs.lemmas.Str.Ascii.{IsAscii-from_all}
use Rattle.diagram_declarations.specs.Name.{has_name_form, is_name, is_name_byte}
use Rattle.diagram_declarations.specs.declared.decls.Var.{Var}
use Rattle.diagram_page.proofs.FormLaws.{form_bytes}
use Rattle.diagram_program.specs.Program.{Drawing, has_coil}
use Rattle.cli_perform.specs.CoilNames.{name_at}
use Rattle.diagram_program.proofs.Ranges.{range_more}

-- ---- a name is text

in_below : (lo hi b : ℕ) → is_in_range lo hi b ≡ true → b ≤ hi
in_below lo hi b h = leb-true b hi (and_parts _ _ h).1

ascii_byte : (b : ℕ) → is_name_byte b ≡ true → b < 128
ascii_byte b h = elim (or_cases (is_ascii_alphanumeric b) (b == 95) h) [
  | inr same ↦ let e = eqb-true b 95 same in omega (arith, e)
  | inl word ↦ elim (or_cases (is_in_range 48 57 b || is_in_range 65 90 b) (is_in_range 97 122 b) word) [
    | inr small ↦ let e = in_below 97 122 b small in omega (arith, e)
    | inl other ↦ elim (or_cases (is_in_range 48 57 b) (is_in_range 65 90 b) other) [
      | inl digit ↦ let e = in_below 48 57 b digit in omega (arith, e)
      | inr large ↦ let e = in_below 65 90 b large in omega (arith, e)
    ]
  ]
]

all_ascii : (bs : List ℕ) → list_all is_name_byte bs ≡ true → All (λ b. b < 128) bs
all_ascii [] h = All-nil (λ b. b < 128)
all_ascii (b ∷ bs) h =
    let q = and_parts (is_name_byte b) (list_all is_name_byte bs) h in
    All-cons (λ c. c < 128) b bs (ascii_byte b q.0) (all_ascii bs q.1)

pub name_utf8 : (name : List ℕ) → is_name name ≡ true → IsUtf8 name
name_utf8 name h = IsUtf8-from_ascii name (IsAscii-from_all name (all_ascii name (form_bytes name (and_parts (has_name_form name) _ h).0)))

-- ---- the coils among the first variables

abbrev pub names_before : Drawing → ℕ → List (List ℕ)
names_before p n = map (name_at p) (filter (λ var. has_coil var p) (range_with_len 0 n))

coils_more : (p : Drawing) (n : ℕ)
    → filter (λ var. has_coil var p) (range_with_len 0 (n + 1)) ≡ filter (λ var. has_coil var p) (range_with_len 0 n) ++ filter (λ var. has_coil var p) (n ∷ [])
coils_more p n =
    let same : 0 + n ≡ n = omega arith in
    ap (λ m. filter (λ var. has_coil var p) (range_with_len 0 m)) (add-one n)
    ∙ ap (filter (λ var. has_coil var p)) (range_more 0 n)
    ∙ ap (λ m. filter (λ var. has_coil var p) (range_with_len 0 n ++ m ∷ [])) same
    ∙ filter-append (λ var. has_coil var p) (range_with_len 0 n) (n ∷ [])

-- a variable that no coil writes
pub passed_over : (p : Drawing) (n : ℕ) → has_coil n p ≡ false → names_before p (n + 1) ≡ names_before p n
passed_over p n off = ap (map (name_at p)) (coils_more p n ∙ rw off (append-nil _))

-- one that a coil writes
pub taken_up : (p : Drawing) (n : ℕ) (vars : List Var) (v : Var) → vars ≡ p.decls.vars → n < length vars → v ≡ get_or vars n v → has_coil n p ≡ true
    → names_before p (n + 1) ≡ names_before p n ++ v.name ∷ []
taken_up p n vars v same there is on =
    let before = filter (λ var. has_coil var p) (range_with_len 0 n) in
    let more : filter (λ var. has_coil var p) (range_with_len 0 (n + 1)) ≡ before ++ n ∷ [] = coils_more p n ∙ rw on refl in
    let found : slice_get p.decls.vars n ≡ Some v = ap (λ (xs : List Var). slice_get xs n) (sym same) ∙ slice_get-get_or vars n v there ∙ ap Some (sym is) in
    let name : name_at p n ≡ v.name = ap (λ (o : Option Var). option_map_or (λ w. w.name) o []) found in
    ap (map (name_at p)) more ∙ map-append (name_at p) before (n ∷ []) ∙ ap (λ (x : List ℕ). map (name_at p) before ++ x ∷ []) name
