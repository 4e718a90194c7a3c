-- The rows of differences as far as they are written.
use Rattle.std.proofs.Common.{◌≡◌, ◌≢◌, ◌∙◌, ℕ, ◌+◌, ◌<◌, ◌≤◌, List, [], ◌∷◌, ◌++◌, Option, Some, None, Result, Ok, Err, sym, refl, ap, add-one, append_assoc, append-nil, codes, cond, drop}
use Rattle.std.specs.Prelude.{All, IsErr, MatchOption, MatchResult}
use Rattle.std.specs.List.{AllByRecursion}
use Rattle.std.proofs.lemmas.List.Elements.{recursion_from_All}
use Rattle.std.proofs.lemmas.Bool.{le-leb, lt-leb}
use Rattle.io_text.specs.Text.{after_commas, line_text}
use Rattle.io_text.specs.Buffer.{SendsAll}
use Rattle.io_text.specs.Log.{WriteLog}
use Rattle.io_text.proofs.Commas.{after_commas-append}
use Rattle.search_differences.specs.declared.side.Side.{Side}
use Rattle.diff_causes.specs.Cursor.{DifferenceCursor, KeepsQuestions}
use Rattle.diff_causes.specs.declared.rows.Difference.{Difference}
use Rattle.text_causes.specs.CauseText.{limited}
use Rattle.text_causes.specs.Limit.{limit_left}
use Rattle.text_causes.proofs.Limits.{Added, added_more, added_none, lines}
use Rattle.text_causes.proofs.Taking.{dropped_one}
use Rattle.text_differences.specs.DifferenceText.{TakesDifferences, TakesDifferencesAtMost, columns, difference_record, part}

-- ---- the pieces of a record

-- a record whose second and third field are the columns of a side, and the pieces that it is written in
pub in_pieces : (first : List ℕ) (side : Side) (rest : List (List ℕ))
    → line_text (first ∷ (columns side ++ rest)) ≡ first ++ (after_commas (columns side) ++ ((after_commas rest ++ codes "\n") ++ []))
in_pieces first side rest =
    let sides = after_commas (columns side) in
    ap (λ t. first ++ (t ++ codes "\n")) (after_commas-append (columns side) rest)
    ∙ ap (λ t. first ++ t) (append_assoc sides (after_commas rest) (codes "\n"))
    ∙ ap (λ t. first ++ (sides ++ t)) (sym (append-nil (after_commas rest ++ codes "\n")))

-- ---- what comes next of a part

pub none_to : (last : ℕ) (ds : List Difference) → AllByRecursion (λ (d : Difference). last < d.number) ds → part (Some last) ds ≡ []
none_to last [] h = refl
none_to last (d ∷ ds) h = ap (λ b. cond b (d ∷ part (Some last) ds) (part (Some last) ds)) (lt-leb d.number last h.0) ∙ none_to last ds h.1

one_to : (last : ℕ) (o : Option Difference) (old new : List Difference) → MatchOption o (new ≡ old) (λ d. old ≡ d ∷ new)
    → MatchOption o (All (λ (d : Difference). last < d.number) old) (λ d. d.number ≤ last)
    → MatchOption o (part (Some last) old ≡ []) (λ d. part (Some last) old ≡ d ∷ part (Some last) new)
one_to last None old new gives within = none_to last old (recursion_from_All (λ (d : Difference). last < d.number) old within)
one_to last (Some d) old new gives within =
    ap (part (Some last)) gives ∙ ap (λ b. cond b (d ∷ part (Some last) new) (part (Some last) new)) (le-leb d.number last within)

pub part_next : (upto : Option ℕ) (last : ℕ) (o : Option Difference) (old new : List Difference) → upto ≡ Some last → MatchOption o (new ≡ old) (λ d. old ≡ d ∷ new)
    → MatchOption o (All (λ (d : Difference). last < d.number) old) (λ d. d.number ≤ last)
    → MatchOption o (part upto old ≡ []) (λ d. part upto old ≡ d ∷ part upto new)
part_next upto last o old new is gives within = rw is (one_to last o old new gives within)

-- ---- the rows that were written

-- So many rows were written, and the cursor has given them.
pub record Written (a b : WriteLog) (waited waits : List ℕ) (k : ℕ) (upto limit : Option ℕ) (old new : DifferenceCursor) (count : ℕ) : Type 0 where
  pub added : Added a b waited waits (lines (difference_record k)) count limit (limited limit (part upto old.rest)) (limited (limit_left limit count) (part upto new.rest))
  pub takes : TakesDifferences old new count

pub written_none : (a : WriteLog) (w : List ℕ) (k : ℕ) (upto limit : Option ℕ) (c : DifferenceCursor) → Written a a w w k upto limit c c 0
written_none a w k upto limit c = record {
  added = added_none a w (lines (difference_record k)) limit (part upto c.rest);
  takes = record { questions = (refl, refl); rest = refl };
}

-- one difference more that was given
pub taken_more : (old mid new : DifferenceCursor) (count : ℕ) (d : Difference) → TakesDifferences old mid count → mid.rest ≡ d ∷ new.rest → KeepsQuestions mid new
    → TakesDifferences old new (count + 1)
taken_more old mid new count d so_far first same = record {
  questions = (same.0 ∙ so_far.questions.0, same.1 ∙ so_far.questions.1);
  rest = dropped_one old.rest new.rest d count (sym so_far.rest ∙ first) ∙ ap (λ m. drop m old.rest) (sym (add-one count));
}

pub written_more : (a b c : WriteLog) (w0 w1 w2 : List ℕ) (k : ℕ) (upto limit : Option ℕ) (old mid new : DifferenceCursor) (count : ℕ) (d : Difference)
    → Written a b w0 w1 k upto limit old mid count → part upto mid.rest ≡ d ∷ part upto new.rest → mid.rest ≡ d ∷ new.rest → KeepsQuestions mid new
    → limit ≢ Some count → SendsAll b c w1 w2 (line_text (difference_record k d)) → Written a c w0 w2 k upto limit old new (count + 1)
written_more a b c w0 w1 w2 k upto limit old mid new count d so_far next first same short sent = record {
  added = added_more a b c w0 w1 w2 (lines (difference_record k)) count limit (limited limit (part upto old.rest)) (part upto mid.rest) d (part upto new.rest)
      (line_text (difference_record k d)) (λ left. refl) so_far.added next short sent;
  takes = taken_more old mid new count d so_far.takes first same;
}

-- what was taken before a fault
pub taken_err : {E : Type 0} (old new : DifferenceCursor) (r : Result ℕ E) (count most : ℕ) → IsErr r → count ≤ most → TakesDifferences old new count
    → MatchResult r (λ n. TakesDifferences old new n) (λ fault. TakesDifferencesAtMost old new most)
taken_err old new (Ok n) count most e few h = cc
taken_err old new (Err fault) count most e few h = (count, few, h)
