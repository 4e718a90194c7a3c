-- The groups of a side as far as they are written.
use Rattle.std.proofs.Common.{◌≡◌, ◌≢◌, ◌∙◌, ◌⊎◌, ℕ, ◌+◌, ◌≤◌, ◌^◌, ◌==◌, true, false, List, [], ◌∷◌, ◌++◌, Option, Some, Result, Ok, Err, sym, refl, ap, add-one, append-nil, arith, drop, length, map, ne_eqb}
use Rattle.std.proofs.Math.Pow.{pow_mono}
use Rattle.std.specs.Prelude.{IsErr, MatchResult}
use Rattle.io_text.specs.Buffer.{SendsAll}
use Rattle.io_text.specs.Log.{PutsPrefix, WriteLog}
use Rattle.io_text.proofs.Sending.{sends_same}
use Rattle.search_groups.specs.Groups.{cells, size}
use Rattle.search_groups.specs.declared.walk.Group.{Group}
use Rattle.search_differences.specs.declared.side.Side.{Side}
use Rattle.diff_causes.specs.GroupCursor.{DifferenceGroupCursor, KeepsGroupQuestions, differences_in}
use Rattle.text_causes.specs.CauseText.{limited}
use Rattle.text_causes.specs.Limit.{limit_left}
use Rattle.text_causes.specs.declared.group_text.GroupForm.{GroupForm}
use Rattle.text_causes.proofs.GroupRows.{counts_next, limited_few, limited_first, limited_map, nothing_left, rows_are}
use Rattle.text_causes.proofs.Limits.{Added, Next, added_more, added_none, added_prefix, added_within, limited_next, limited_short}
use Rattle.text_causes.proofs.Taking.{dropped_one}
use Rattle.text_differences.specs.Forms.{row_text, rows_text}
use Rattle.text_differences.specs.GroupText.{TakesDifferenceGroups, TakesDifferenceGroupsAtMost}

-- the text of groups that are left after so many
abbrev pub groups_text : GroupForm → Side → List (List ℕ) → ℕ → ℕ → List Group → List ℕ
groups_text form side ns k count gs = rows_text form side ns (count == 0) (map (cells k) gs)

groups_next : (form : GroupForm) (side : Side) (ns : List (List ℕ)) (k count : ℕ) (g : Group)
    → Next (groups_text form side ns k) count g (row_text form side ns (count == 0) (cells k g))
unfolding rows_text
groups_next form side ns k count g = λ left.
    let later : (count + 1 == 0) ≡ false = ne_eqb (count + 1) 0 (λ e. omega (arith, e)) in
    ap (λ b. row_text form side ns (count == 0) (cells k g) ++ rows_text form side ns b (map (cells k) left)) (sym later)

text_is : (form : GroupForm) (side : Side) (ns : List (List ℕ)) (k : ℕ) (limit : Option ℕ) (gs : List Group)
    → rows_text form side ns true (limited limit (map (cells k) gs)) ≡ groups_text form side ns k 0 (limited limit gs)
text_is form side ns k limit gs = ap (rows_text form side ns true) (limited_map k limit gs)

-- So many rows were written, for so many differences, and the cursor has given them.
pub record Written (a b : WriteLog) (waited waits : List ℕ) (form : GroupForm) (side : Side) (ns : List (List ℕ)) (old new : DifferenceGroupCursor) (k : ℕ) (limit : Option ℕ) (rows differences : ℕ) : Type 0 where
  pub added : Added a b waited waits (groups_text form side ns k) rows limit (limited limit old.rest) (limited (limit_left limit rows) new.rest)
  pub summed : differences + differences_in (map (cells k) (limited (limit_left limit rows) new.rest)) ≡ differences_in (limited limit (map (cells k) old.rest))
  pub takes : TakesDifferenceGroups old new rows

pub written_none : (a : WriteLog) (w : List ℕ) (form : GroupForm) (side : Side) (ns : List (List ℕ)) (c : DifferenceGroupCursor) (k : ℕ) (limit : Option ℕ)
    → Written a a w w form side ns c c k limit 0 0
written_none a w form side ns c k limit = record {
  added = added_none a w (groups_text form side ns k) limit c.rest;
  summed = omega (arith, ap (λ xs. differences_in (map (cells k) xs)) (limited_first limit c.rest), ap differences_in (limited_map k limit c.rest));
  takes = record { questions = (refl, refl, refl); rest = refl };
}

-- one group more that was given
pub taken_more : (old mid new : DifferenceGroupCursor) (rows : ℕ) (g : Group) → TakesDifferenceGroups old mid rows → mid.rest ≡ g ∷ new.rest → KeepsGroupQuestions mid new
    → TakesDifferenceGroups old new (rows + 1)
taken_more old mid new rows g so_far first same = record {
  questions = (same.0 ∙ so_far.questions.0, same.1 ∙ so_far.questions.1, same.2 ∙ so_far.questions.2);
  rest = dropped_one old.rest new.rest g rows (sym so_far.rest ∙ first) ∙ ap (λ m. drop m old.rest) (sym (add-one rows));
}

-- one row more, and one that is cut off
module _ (a b : WriteLog) (w0 w1 : List ℕ) (form : GroupForm) (side : Side) (ns : List (List ℕ)) (old mid new : DifferenceGroupCursor) (k : ℕ) (limit : Option ℕ) (rows differences : ℕ) (g : Group)
    (so_far : Written a b w0 w1 form side ns old mid k limit rows differences) (first : mid.rest ≡ g ∷ new.rest) (short : limit ≢ Some rows) where
  counts : differences_in (map (cells k) (limited (limit_left limit rows) mid.rest)) ≡ size (cells k g) + differences_in (map (cells k) (limited (limit_left limit (rows + 1)) new.rest))
  counts = counts_next k limit rows mid.rest g new.rest (limited_next limit rows mid.rest g new.rest first short so_far.added.within)

  pub written_more : (c : WriteLog) (w2 : List ℕ) → KeepsGroupQuestions mid new → SendsAll b c w1 w2 (row_text form side ns (rows == 0) (cells k g))
      → Written a c w0 w2 form side ns old new k limit (rows + 1) (differences + size (cells k g))
  written_more c w2 same sent = record {
    added = added_more a b c w0 w1 w2 (groups_text form side ns k) rows limit (limited limit old.rest) mid.rest g new.rest (row_text form side ns (rows == 0) (cells k g))
        (groups_next form side ns k rows g) so_far.added first short sent;
    summed = omega (arith, so_far.summed, counts);
    takes = taken_more old mid new rows g so_far.takes first same;
  }

  pub written_cut : (c : WriteLog) → PutsPrefix b c (w1 ++ row_text form side ns (rows == 0) (cells k g)) → PutsPrefix a c (w0 ++ rows_text form side ns true (limited limit (map (cells k) old.rest)))
  written_cut c failed =
      rw (text_is form side ns k limit old.rest)
      (added_prefix a b c w0 w1 (groups_text form side ns k) rows limit (limited limit old.rest) mid.rest g new.rest (row_text form side ns (rows == 0) (cells k g))
      (groups_next form side ns k rows g) so_far.added first short failed)

  pub rows_fit : rows + 1 ≤ length (limited limit (map (cells k) old.rest))
  rows_fit =
      let few = added_within a b w0 w1 (groups_text form side ns k) rows limit (limited limit old.rest) mid.rest g new.rest so_far.added first short in
      omega (arith, few, rows_are k limit old.rest)

  pub differences_fit : differences + size (cells k g) ≤ differences_in (map (cells k) old.rest)
  differences_fit = omega (arith, so_far.summed, counts, limited_few k limit old.rest)

-- ---- the end of the list
text_end : (form : GroupForm) (side : Side) (ns : List (List ℕ)) (k count : ℕ) → groups_text form side ns k count [] ≡ []
unfolding rows_text
text_end form side ns k count = refl

pub written_all : (a b : WriteLog) (w0 w1 : List ℕ) (form : GroupForm) (side : Side) (ns : List (List ℕ)) (old new : DifferenceGroupCursor) (k : ℕ) (limit : Option ℕ) (rows differences : ℕ)
    → Written a b w0 w1 form side ns old new k limit rows differences → (limit ≡ Some rows) ⊎ (new.rest ≡ [])
    → SendsAll a b w0 w1 (rows_text form side ns true (limited limit (map (cells k) old.rest)))
written_all a b w0 w1 form side ns old new k limit rows differences so_far ended =
    let none = nothing_left limit rows new.rest ended in
    let done = so_far.added.done in
    sends_same a b w0 w1 done (rows_text form side ns true (limited limit (map (cells k) old.rest)))
    (sym (text_is form side ns k limit old.rest ∙ so_far.added.split ∙ ap (λ xs. done ++ groups_text form side ns k rows xs) none
    ∙ ap (λ t. done ++ t) (text_end form side ns k rows) ∙ append-nil done))
    so_far.added.sent

-- ---- how many there are
limited_rows : (limit : Option ℕ) (k : ℕ) (gs : List Group) → length (limited limit (map (cells k) gs)) ≤ length gs
limited_rows limit k gs = omega (arith, rows_are k limit gs, limited_short limit gs)

pub side_fits : (limit : Option ℕ) (k : ℕ) (gs : List Group) (rows differences : ℕ) → rows ≡ length (limited limit (map (cells k) gs))
    → differences ≡ differences_in (limited limit (map (cells k) gs)) → k ≤ 32 → length gs ≤ differences_in (map (cells k) gs) → differences_in (map (cells k) gs) ≤ 2 ^ k
    → (rows ≤ 2 ^ 32) × (differences ≤ 2 ^ 32)
side_fits limit k gs rows differences e d few finite most =
    let fits : 2 ^ k ≤ 2 ^ 32 = pow_mono {j = 32} few in (
      omega (arith, e, finite, most, fits, limited_rows limit k gs),
      omega (arith, d, most, fits, limited_few k limit gs),
    )

-- what was taken before a fault
pub taken_err : {S E : Type 0} (rows_of : S → ℕ) (old new : DifferenceGroupCursor) (r : Result S E) (count most : ℕ) → IsErr r → count ≤ most → TakesDifferenceGroups old new count
    → MatchResult r (λ s. TakesDifferenceGroups old new (rows_of s)) (λ fault. TakesDifferenceGroupsAtMost old new most)
taken_err rows_of old new (Ok s) count most e few h = cc
taken_err rows_of old new (Err fault) count most e few h = (count, few, h)
