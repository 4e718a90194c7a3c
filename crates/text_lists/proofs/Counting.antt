-- The rows that were written, and how many numbers they have.
use Rattle.std.proofs.Common.{◌≡◌, ◌≢◌, ◌∙◌, ◌⊎◌, inl, inr, ℕ, ◌+◌, ◌-◌, ◌≤◌, List, [], ◌∷◌, ◌++◌, Option, Some, None, sym, refl, ap, suc, zero, append-nil, add-one, arith, drop, length, map, take}
use Rattle.std.proofs.lemmas.List.Sums.{sum_by-cons, sum_by-take-le}
use Rattle.search_groups.specs.Classes.{numbers_in}
use Rattle.search_groups.specs.declared.class_walk.ClassGroup.{ClassGroup}
use Rattle.search_groups.specs.Groups.{cells, size}
use Rattle.io_text.specs.Left.{Fields}
use Rattle.io_text.specs.Text.{line_text, lines_text}
use Rattle.text_causes.specs.CauseText.{limited}
use Rattle.text_causes.specs.Limit.{limit_left}
use Rattle.text_causes.proofs.Limits.{Added, added_more, added_none, added_within, limited_next, lines}
use Rattle.text_causes.proofs.Taking.{dropped_one}
use Rattle.io_text.specs.Buffer.{SendsAll}
use Rattle.io_text.specs.Log.{WriteLog}
use Rattle.io_text.proofs.Sending.{sends_same}

-- So many rows were written, which have so many numbers, and these are left.
pub record Written (a b : WriteLog) (waited waits : List ℕ) (f : ClassGroup → Fields) (k : ℕ) (limit : Option ℕ) (all left : List ClassGroup) (rows numbers : ℕ) : Type 0 where
  pub added : Added a b waited waits (lines f) rows limit (limited limit all) (limited (limit_left limit rows) left)
  pub summed : numbers + numbers_in k (limited (limit_left limit rows) left) ≡ numbers_in k (limited limit all)
  pub taken : left ≡ drop rows all

pub limited_first : (limit : Option ℕ) (xs : List ClassGroup) → limited (limit_left limit 0) xs ≡ limited limit xs
limited_first None xs = refl
limited_first (Some n) xs = let e : n - 0 ≡ n = omega arith in ap (λ m. take m xs) e

pub written_none : (a : WriteLog) (w : List ℕ) (f : ClassGroup → Fields) (k : ℕ) (limit : Option ℕ) (all : List ClassGroup) → Written a a w w f k limit all all 0 0
written_none a w f k limit all = record {
  added = added_none a w (lines f) limit all;
  summed = omega (arith, ap (numbers_in k) (limited_first limit all));
  taken = refl;
}

-- what is left to count, after one row more
counts_next : (k : ℕ) (limit : Option ℕ) (rows : ℕ) (xs : List ClassGroup) (r : ClassGroup) (rest : List ClassGroup) → limited (limit_left limit rows) xs ≡ r ∷ limited (limit_left limit (rows + 1)) rest
    → numbers_in k (limited (limit_left limit rows) xs) ≡ size (cells k r.group) + numbers_in k (limited (limit_left limit (rows + 1)) rest)
counts_next k limit rows xs r rest e =
    ap (numbers_in k) e ∙ sum_by-cons (λ (r : ClassGroup). size (cells k r.group)) r (limited (limit_left limit (rows + 1)) rest)

pub written_more : (a b c : WriteLog) (w0 w1 w2 : List ℕ) (f : ClassGroup → Fields) (k : ℕ) (limit : Option ℕ) (all left : List ClassGroup) (rows numbers : ℕ) (r : ClassGroup) (rest : List ClassGroup)
    → Written a b w0 w1 f k limit all left rows numbers → left ≡ r ∷ rest → limit ≢ Some rows → SendsAll b c w1 w2 (line_text (f r))
    → Written a c w0 w2 f k limit all rest (rows + 1) (numbers + size (cells k r.group))
written_more a b c w0 w1 w2 f k limit all left rows numbers r rest so_far first short sent =
    let next = limited_next limit rows left r rest first short so_far.added.within in
    let more = counts_next k limit rows left r rest next in
    record {
      added = added_more a b c w0 w1 w2 (lines f) rows limit (limited limit all) left r rest (line_text (f r)) (λ _. refl) so_far.added first short sent;
      summed = omega (arith, so_far.summed, more);
      taken = dropped_one all rest r rows (sym so_far.taken ∙ first) ∙ ap (λ m. drop m all) (sym (add-one rows));
    }

-- what one row more is of the rows that are left
pub row_next : (a b : WriteLog) (w0 w1 : List ℕ) (f : ClassGroup → Fields) (k : ℕ) (limit : Option ℕ) (all left : List ClassGroup) (rows numbers : ℕ) (r : ClassGroup) (rest : List ClassGroup)
    → Written a b w0 w1 f k limit all left rows numbers → left ≡ r ∷ rest → limit ≢ Some rows → limited (limit_left limit rows) left ≡ r ∷ limited (limit_left limit (rows + 1)) rest
row_next a b w0 w1 f k limit all left rows numbers r rest so_far first short = limited_next limit rows left r rest first short so_far.added.within

limited_few : (k : ℕ) (limit : Option ℕ) (rs : List ClassGroup) → numbers_in k (limited limit rs) ≤ numbers_in k rs
limited_few k None rs = omega arith
limited_few k (Some n) rs = sum_by-take-le (λ (r : ClassGroup). size (cells k r.group)) rs n

pub numbers_fit : (a b : WriteLog) (w0 w1 : List ℕ) (f : ClassGroup → Fields) (k : ℕ) (limit : Option ℕ) (all left : List ClassGroup) (rows numbers : ℕ) (r : ClassGroup) (rest : List ClassGroup)
    → Written a b w0 w1 f k limit all left rows numbers → left ≡ r ∷ rest → limit ≢ Some rows → numbers + size (cells k r.group) ≤ numbers_in k all
numbers_fit a b w0 w1 f k limit all left rows numbers r rest so_far first short =
    let next = limited_next limit rows left r rest first short so_far.added.within in
    omega (arith, so_far.summed, counts_next k limit rows left r rest next, limited_few k limit all)

-- ---- the end of the list
none : (n : ℕ) → take {A = ClassGroup} n [] ≡ []
none zero = refl
none (suc n) = refl

pub nothing_left : (limit : Option ℕ) (rows : ℕ) (rs : List ClassGroup) → (limit ≡ Some rows) ⊎ (rs ≡ []) → limited (limit_left limit rows) rs ≡ []
nothing_left limit rows rs (inl e) = let z : rows - rows ≡ 0 = omega arith in rw (e, z) refl
nothing_left None rows rs (inr e) = e
nothing_left (Some n) rows rs (inr e) = rw e (none (n - rows))
