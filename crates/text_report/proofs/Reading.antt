-- The records of a text, kept one after the other.
use Rattle.std.proofs.Common.{◌≡◌, ◌∙◌, ◌++◌, ◌∷◌, [], ℕ, zero, suc, Bool, true, false, List, None, ap, sym, refl, subst, append-nil, append_assoc, map, get_or}
use Rattle.std.specs.Prelude.{not}
use Rattle.csv.specs.Records.{field_at, fields_of}
use Rattle.csv.specs.declared.reader.Reader.{Reader}
use Rattle.csv.specs.declared.record.ByteRecord.{ByteRecord}
use Rattle.std.specs.Borrow.{Bor}
use Rattle.io_text.specs.Left.{Fields, Left, TakesFirst}
use Rattle.std.proofs.lemmas.List.{map-append}

pub field_none : (fs : Fields) (i : ℕ) → field_at fs i ≡ None → get_or fs i [] ≡ []
unfolding field_at
field_none [] i e = refl
field_none (f ∷ fs) zero e = cc
field_none (f ∷ fs) (suc i) e = field_none fs i e

-- What is kept, and what is left, are all records.
pub record IsSplit (all : List Fields) (kept : List ByteRecord) (r : Reader (Bor (List ℕ))) : Type 0 where
  pub rest : List Fields
  pub are : all ≡ map fields_of kept ++ rest
  pub left : Left r rest

-- no record was left
pub ended : (all : List Fields) (kept : List ByteRecord) (r s : Reader (Bor (List ℕ))) (found : Bool) (fields : Fields) → IsSplit all kept r → found ≡ false
    → ((rows : List Fields) → Left r rows → TakesFirst rows found fields s) → map fields_of kept ≡ all
ended all kept r s found fields split none takes = none_left split.rest split.are (takes split.rest split.left)
  where
    none_left : (rest : List Fields) → all ≡ map fields_of kept ++ rest → TakesFirst rest found fields s → map fields_of kept ≡ all
    none_left [] are t = sym (are ∙ append-nil (map fields_of kept))
    none_left (x ∷ rest) are t = let bad : true ≡ false = sym t.0 ∙ none in cc

-- one record more
pub one_more : (all : List Fields) (kept : List ByteRecord) (row : ByteRecord) (r s : Reader (Bor (List ℕ))) (found : Bool) → IsSplit all kept r → found ≡ true
    → ((rows : List Fields) → Left r rows → TakesFirst rows found (fields_of row) s) → IsSplit all (kept ++ row ∷ []) s
one_more all kept row r s found split some takes = taken split.rest split.are (takes split.rest split.left)
  where
    taken : (rest : List Fields) → all ≡ map fields_of kept ++ rest → TakesFirst rest found (fields_of row) s → IsSplit all (kept ++ row ∷ []) s
    taken [] are t = let bad : true ≡ false = sym some ∙ t in cc
    taken (x ∷ rest) are t = record {
      rest = rest;
      are = are ∙ ap (λ f. map fields_of kept ++ (f ∷ rest)) (sym t.1) ∙ sym (append_assoc (map fields_of kept) (fields_of row ∷ []) rest)
          ∙ ap (λ xs. xs ++ rest) (sym (map-append fields_of kept (row ∷ [])));
      left = t.2;
    }
