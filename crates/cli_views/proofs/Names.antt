-- The first name that isn't declared.
use Rattle.std.proofs.Common.{◌≡◌, ◌∙◌, ap, sym, ℕ, false, ◌+◌, ◌<◌, List, [], length, take, map, None, get_or, slice_index_or, arith, is_none}
use Rattle.std.proofs.lemmas.List.{get_or-map, length-map, take-map}
use Rattle.diagram_declarations.specs.declared.decls.Symbol.{Symbol}
use Rattle.diagram_declarations.specs.Decls.{Declared}
use Rattle.cli_views.specs.Watched.{AreWatched, IsUnknownName, symbol_of}
use Rattle.cli_inputs.proofs.UnknownWords.{first_at, known_count, position_there}

-- names that are the texts of items
pub unknown_name : {A : Type 0} (d : Declared) (show : A → List ℕ) (items : List A) (i : ℕ) (item : A) (symbols : List Symbol)
    → i < length items → item ≡ get_or items i item → symbol_of d (show item) ≡ None → AreWatched d false (map show (take i items)) symbols
    → IsUnknownName d (map show items) (length symbols + 1)
unknown_name d show items i item symbols there is unknown known =
    let same : slice_index_or (map show items) i [] ≡ show item = get_or-map show items i item [] there ∙ sym (ap show is) in
    let front : take i (map show items) ≡ map show (take i items) = take-map show i items in
    let within : i < length (map show items) = rw (length-map items show) there in
    let before : AreWatched d false (take i (map show items)) symbols = rw front known in
    let counted = known_count (symbol_of d) (map show items) i symbols (omega (arith, within)) before in (
      i,
      position_there (λ word. is_none (symbol_of d word)) (map show items) i within (first_at (symbol_of d) (map show items) i symbols within (rw same unknown) before),
      omega (arith, counted),
    )
