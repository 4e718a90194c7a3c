-- The rows of items, one after the other.
use Rattle.std.proofs.Common.{◌≡◌, ◌∙◌, ◌+◌, ◌-◌, ◌<◌, ◌≤◌, ◌++◌, ◌∷◌, [], ℕ, List, None, Some, sym, ap, arith, refl, append-nil, length, length-append, map, get_or, take, take_all, slice_get, Option}
use Rattle.std.specs.Prelude.{filter_map, option_map}
use Rattle.std.specs.List.{cons_option, flat_map, range_with_len}
use Rattle.std.proofs.lemmas.List.{get_or-append-add, get_or_append_left}
use Rattle.std.proofs.lemmas.List.Concat.{flat_map-cons}
use Rattle.std.proofs.lemmas.List.FromFn.{get_or-map-range_with_len, get_or-range_with_len, length-map-range_with_len, length-range_with_len}
use Rattle.std.proofs.lemmas.Option.{slice_get_read}
use Rattle.diagram_declarations.specs.Decls.{Declared}
use Rattle.diagram_declarations.specs.declared.decls.Symbol.{Symbol}
use Rattle.diagram_declarations.specs.declared.decls.Symbol.TheVariants as symbol
use Rattle.diagram_program.specs.Program.{Drawing, cell_in}
use Rattle.io_text.specs.Left.{Fields}
use Rattle.io_text.proofs.Items.{rows_more, rows_apart}
use Rattle.text_cross_reference.specs.declared.usage.Use.{Use}
use Rattle.text_cross_reference.specs.Usage.{row_of}
use Rattle.text_cross_reference.specs.Uses.{or_unused, place_rows, symbols_of, use_of, use_row}

-- the i-th of the numbers from 0 on
pub number_at : (n i : ℕ) → i < n → slice_get (range_with_len 0 n) i ≡ Some i
number_at n i h = slice_get_read (range_with_len 0 n) n i i (sym (length-range_with_len 0 n)) h (sym (get_or-range_with_len 0 n i i h ∙ omega arith))

-- ---- all that is declared

pub symbols_count : (d : Declared) → length (symbols_of d) ≡ length d.vars + length d.instances
symbols_count d =
    let vars = map symbol.Var (range_with_len 0 (length d.vars)) in
    let instances = map symbol.Instance (range_with_len 0 (length d.instances)) in
    omega (
      arith,
      length-append vars instances,
      length-map-range_with_len symbol.Var 0 (length d.vars),
      length-map-range_with_len symbol.Instance 0 (length d.instances),
    )

pub var_at : (d : Declared) (n : ℕ) → n < length d.vars → slice_get (symbols_of d) n ≡ Some (symbol.Var n)
var_at d n h =
    let vars = map symbol.Var (range_with_len 0 (length d.vars)) in
    let instances = map symbol.Instance (range_with_len 0 (length d.instances)) in
    let count = length-map-range_with_len symbol.Var 0 (length d.vars) in
    slice_get_read (symbols_of d) (length d.vars + length d.instances) n (symbol.Var n) (sym (symbols_count d)) (omega (arith, h))
    (sym (get_or_append_left vars instances (symbol.Var n) n (omega (arith, h, count)) ∙ get_or-map-range_with_len symbol.Var 0 (length d.vars) n n (symbol.Var n) h (omega arith)))

pub instance_at : (d : Declared) (n : ℕ) → n < length (symbols_of d) → length d.vars ≤ n → slice_get (symbols_of d) n ≡ Some (symbol.Instance (n - length d.vars))
instance_at d n h past =
    let vars = map symbol.Var (range_with_len 0 (length d.vars)) in
    let instances = map symbol.Instance (range_with_len 0 (length d.instances)) in
    let k = n - length d.vars in
    let below : n < length d.vars + length d.instances = omega (arith, h, symbols_count d) in
    let at : length vars + k ≡ n = omega (arith, past, length-map-range_with_len symbol.Var 0 (length d.vars)) in
    slice_get_read (symbols_of d) (length d.vars + length d.instances) n (symbol.Instance k) (sym (symbols_count d)) below
    (sym (ap (λ m. get_or (symbols_of d) m (symbol.Instance k)) (sym at)
    ∙ get_or-append-add vars instances k (symbol.Instance k)
    ∙ get_or-map-range_with_len symbol.Instance 0 (length d.instances) k k (symbol.Instance k) (omega (arith, below, past)) (omega arith)))

-- ---- the places of a symbol

one_row : (name : List ℕ) (place : ℕ) (o : Option Use) (rows : List Fields) → cons_option (option_map (λ used. use_row name used place) o) rows ≡ row_of name place o ++ rows
one_row name place None rows = refl
one_row name place (Some used) rows = refl

rows_flat : (name : List ℕ) (used : ℕ → Option Use) (places : List ℕ)
    → filter_map (λ place. option_map (λ u. use_row name u place) (used place)) places ≡ flat_map (λ place. row_of name place (used place)) places
rows_flat name used [] = refl
rows_flat name used (x ∷ places) =
    one_row name x (used x) (filter_map (λ place. option_map (λ u. use_row name u place) (used place)) places)
    ∙ ap (λ t. row_of name x (used x) ++ t) (rows_flat name used places)
    ∙ sym (flat_map-cons (λ place. row_of name place (used place)) x places)

-- the rows of the first n places
abbrev pub rows_before : Drawing → List ℕ → Symbol → ℕ → List Fields
rows_before p name s n = flat_map (λ place. row_of name place (use_of s (cell_in p place))) (take n (range_with_len 0 (length p.sites)))

pub places_more : (p : Drawing) (name : List ℕ) (s : Symbol) (i : ℕ) (o : Option Use) → i < length p.sites → o ≡ use_of s (cell_in p i)
    → rows_before p name s (i + 1) ≡ rows_before p name s i ++ row_of name i o
places_more p name s i o h is =
    rows_more (λ place. row_of name place (use_of s (cell_in p place))) (range_with_len 0 (length p.sites)) i i (row_of name i o)
    (number_at (length p.sites) i h) (ap (row_of name i) (sym is))

pub places_apart : (p : Drawing) (name : List ℕ) (s : Symbol) (i : ℕ) (o : Option Use) → i < length p.sites → o ≡ use_of s (cell_in p i)
    → (rest : List Fields) × (place_rows p name s ≡ rows_before p name s i ++ (row_of name i o ++ rest))
places_apart p name s i o h is = (
  _,
  rows_flat name (λ place. use_of s (cell_in p place)) (range_with_len 0 (length p.sites))
      ∙ rows_apart (λ place. row_of name place (use_of s (cell_in p place))) (range_with_len 0 (length p.sites)) i i (row_of name i o)
      (number_at (length p.sites) i h) (ap (row_of name i) (sym is)),
)

pub places_all : (p : Drawing) (name : List ℕ) (s : Symbol) (n : ℕ) → n ≡ length p.sites → rows_before p name s n ≡ place_rows p name s
places_all p name s n e =
    ap (flat_map (λ place. row_of name place (use_of s (cell_in p place))))
    (take_all n (range_with_len 0 (length p.sites)) (omega (arith, e, length-range_with_len 0 (length p.sites))))
    ∙ sym (rows_flat name (λ place. use_of s (cell_in p place)) (range_with_len 0 (length p.sites)))

-- ---- a name without a place

pub unused_there : (name : List ℕ) (rows : List Fields) → length rows ≡ 0 → or_unused name rows ≡ rows ++ or_unused name []
unused_there name [] e = refl
unused_there name (r ∷ rows) e = absurd (omega (arith, e))

pub unused_behind : (name : List ℕ) (rows : List Fields) → (rest : List Fields) × (or_unused name rows ≡ rows ++ rest)
unused_behind name [] = (or_unused name [], refl)
unused_behind name (r ∷ rows) = ([], sym (append-nil (r ∷ rows)))
