-- Lists that grow by one item.
use Rattle.std.proofs.Common.{◌≡◌, ◌∙◌, ℕ, ◌+◌, ◌<◌, List, [], Option, None, Some, ◌∷◌, ◌++◌, ap, append-nil, append_assoc, arith, get_or, length, map, sym, take}
use Rattle.std.specs.List.{range_with_len}
use Rattle.std.proofs.lemmas.Grind.{flat_map-append}
use Rattle.std.proofs.lemmas.List.{take_more}
use Rattle.std.proofs.lemmas.List.FromFn.{map-range_with_len_more}
use Rattle.diagram_declarations.specs.declared.decls.Symbol.{Symbol}
use Rattle.diagram_declarations.specs.declared.decls.Symbol.TheVariants as symbol
use Rattle.diagram_declarations.specs.Decls.{Declared}
use Rattle.text_trace.specs.declared.column.Column.{Column}
use Rattle.cli_views.specs.Watched.{all_columns, columns_of}

-- one instance more
pub one_instance : (before xs : List Symbol) (n : ℕ) → xs ≡ before ++ map symbol.Instance (range_with_len 0 n)
    → xs ++ symbol.Instance n ∷ [] ≡ before ++ map symbol.Instance (range_with_len 0 (n + 1))
one_instance before xs n same =
    ap (λ l. l ++ symbol.Instance n ∷ []) same
    ∙ append_assoc before (map symbol.Instance (range_with_len 0 n)) (symbol.Instance n ∷ [])
    ∙ ap (λ l. before ++ l) (sym (map-range_with_len_more symbol.Instance 0 n n (omega arith)))

-- the columns of one symbol more
pub one_symbol : (d : Declared) (watched : List Symbol) (i : ℕ) (x : Symbol) (xs : List Column) → i < length watched → xs ≡ all_columns d (take i watched)
    → xs ++ columns_of d (get_or watched i x) ≡ all_columns d (take (i + 1) watched)
one_symbol d watched i x xs there same =
    let y = get_or watched i x in
    ap (λ l. l ++ columns_of d y) same
    ∙ ap (λ l. all_columns d (take i watched) ++ l) (sym (append-nil (columns_of d y)))
    ∙ sym (flat_map-append (columns_of d) (take i watched) (y ∷ []))
    ∙ ap (all_columns d) (sym (take_more watched i x there))

-- one column, and then another one
two_columns : (old mid new : List Column) (a b : Column) → mid ≡ old ++ a ∷ [] → new ≡ mid ++ b ∷ [] → new ≡ old ++ a ∷ b ∷ []
two_columns old mid new a b first second = second ∙ ap (λ l. l ++ b ∷ []) first ∙ append_assoc old (a ∷ []) (b ∷ [])

-- an output, and what is there further
pub with_further : (old mid new : List Column) (a b : Column) (f : Option Column) → mid ≡ old ++ a ∷ [] → f ≡ Some b → new ≡ mid ++ b ∷ []
    → new ≡ old ++ a ∷ elim f [ None ↦ [] | Some further ↦ further ∷ [] ]
with_further old mid new a b None first some second = cc
with_further old mid new a b (Some c) first some second =
    let same : b ≡ c = cc in
    rw (← same) (two_columns old mid new a b first second)
