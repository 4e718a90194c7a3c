-- A list of differences that tells how far it is: how much of it was given, and what was written of it.
use Rattle.std.proofs.Common.{◌≡◌, ◌≢◌, ◌∙◌, ℕ, ◌+◌, ◌-◌, ◌<◌, ◌≤◌, true, List, [], ◌∷◌, ◌++◌, Option, Some, None, sym, refl, ap, All, append_assoc, append-nil, arith, cond, drop, drop-drop, inl, inr, length, length-append, length-drop, map, min, nat_le, nat_lt, not, subst, take, take-add}
use Rattle.std.specs.Prelude.{IfSome}
use Rattle.std.specs.List.{AllByRecursion}
use Rattle.std.proofs.lemmas.Bool.{cases_lt, le-leb, leb-true}
use Rattle.std.proofs.lemmas.Bool.Decides.{nat_tests}
use Rattle.std.proofs.lemmas.List.{drop_at, length-take, length-take-le, take-append-drop, take-append-le, take_all}
use Rattle.std.proofs.lemmas.List.Elements.{All-append, All-filter, All-nil, All-same, All-take, All-weaker, filter-append, filter_passes, recursion_from_All}
use Rattle.std.proofs.lemmas.List.Filters.{length-filter_both}
use Rattle.std.proofs.Math.Seq.{take-append-add}
use Rattle.io_text.specs.Buffer.{SendsAll}
use Rattle.io_text.specs.Log.{PutsAll, PutsPrefix, WriteLog}
use Rattle.io_text.specs.Text.{line_text, lines_text}
use Rattle.io_text.proofs.Puts.{prefix_after, puts_more, puts_none}
use Rattle.causes_query.specs.Causes.{Question}
use Rattle.diff_causes.specs.Cursor.{DifferenceCursor}
use Rattle.diff_causes.specs.Differences.{differences_above, differences_to}
use Rattle.diff_causes.specs.declared.rows.Difference.{Difference}
use Rattle.text_causes.specs.CauseText.{limited}
use Rattle.text_causes.specs.Limit.{limit_left}
use Rattle.text_causes.specs.Progress.{TellsAll, TellsUntil, reached_line, reached_text}
use Rattle.text_causes.specs.Telling.{IsUntold, Telling}
use Rattle.text_causes.specs.declared.progress.ProgressFault.{ProgressFault}
use Rattle.text_causes.specs.declared.progress.ProgressFault.TheVariants.{Lines, Rows}
use Rattle.text_causes.proofs.Limits.{limited_short, lines_many}
use Rattle.text_differences.specs.DifferenceText.{TakesDifferences, TakesDifferencesAtMost, difference_header, difference_record, difference_text, part}
use Rattle.text_differences.proofs.RowLaws.{none_to}
use Rattle.text_differences.proofs.Telling.{told_anew, told_breaks, told_flushed, told_more, told_none, told_stops}

-- ---- rows up to a number, and those above it
abbrev Low : ℕ → List Difference → Type 0
Low n ds = All (λ (d : Difference). d.number ≤ n) ds

abbrev pub High : ℕ → List Difference → Type 0
High n ds = All (λ (d : Difference). n < d.number) ds

above_is : (n last : ℕ) → nat_lt last n ≡ true → last < n
above_is n last h = grind (arith, nat_tests)

low_to : (n : ℕ) (ds : List Difference) → Low n (differences_to n ds)
low_to n ds =
    All-weaker (λ (d : Difference). nat_le d.number n ≡ true) (λ (d : Difference). d.number ≤ n) (λ d h. leb-true d.number n h) (differences_to n ds)
    (filter_passes (λ (d : Difference). nat_le d.number n) ds)

high_above : (n : ℕ) (ds : List Difference) → High n (differences_above n ds)
high_above n ds =
    All-weaker (λ (d : Difference). nat_lt n d.number ≡ true) (λ (d : Difference). n < d.number) (λ d h. above_is d.number n h) (differences_above n ds)
    (filter_passes (λ (d : Difference). nat_lt n d.number) ds)

low_more : (a b : ℕ) (ds : List Difference) → a ≤ b → Low a ds → Low b ds
low_more a b ds le h = All-weaker (λ (d : Difference). d.number ≤ a) (λ (d : Difference). d.number ≤ b) (λ d k. omega (arith, k, le)) ds h

part_has : (P : Difference → Type 0) (upto : Option ℕ) (ds : List Difference) → All P ds → All P (part upto ds)
part_has P None ds h = h
part_has P (Some last) ds h = All-filter (λ (d : Difference). nat_le d.number last) P ds h

limited_has : (P : Difference → Type 0) (limit : Option ℕ) (ds : List Difference) → All P ds → All P (limited limit ds)
limited_has P None ds h = h
limited_has P (Some m) ds h = All-take P m ds h

all_to : (last : ℕ) (ds : List Difference) → AllByRecursion (λ (d : Difference). d.number ≤ last) ds → differences_to last ds ≡ ds
all_to last [] h = refl
all_to last (d ∷ ds) h = ap (λ b. cond b (d ∷ differences_to last ds) (differences_to last ds)) (le-leb d.number last h.0) ∙ ap (λ xs. d ∷ xs) (all_to last ds h.1)

low_all : (n : ℕ) (ds : List Difference) → Low n ds → differences_to n ds ≡ ds
low_all n ds h = all_to n ds (recursion_from_All (λ (d : Difference). d.number ≤ n) ds h)

high_none : (n : ℕ) (ds : List Difference) → High n ds → differences_to n ds ≡ []
high_none n ds h = none_to n ds (recursion_from_All (λ (d : Difference). n < d.number) ds h)

part_all : (upto : Option ℕ) (n : ℕ) (ds : List Difference) → IfSome upto (λ last. n ≤ last) → Low n ds → part upto ds ≡ ds
part_all None n ds h low = refl
part_all (Some last) n ds h low = low_all last ds (low_more n last ds h low)

part_both : (upto : Option ℕ) (xs ys : List Difference) → part upto (xs ++ ys) ≡ part upto xs ++ part upto ys
part_both None xs ys = refl
part_both (Some last) xs ys = filter-append (λ (d : Difference). nat_le d.number last) xs ys

part_short : (upto : Option ℕ) (ds : List Difference) → length (part upto ds) ≤ length ds
part_short None ds = omega arith
part_short (Some last) ds =
    let both = length-filter_both (λ (d : Difference). nat_le d.number last) (λ (d : Difference). not (nat_le d.number last)) (λ d. refl) ds in
    omega (arith, both)

-- ---- what a limit leaves
limited_is : (limit : Option ℕ) (ds : List Difference) → limited limit ds ≡ take (length (limited limit ds)) ds
limited_is None ds = sym (take_all (length ds) ds (omega arith))
limited_is (Some m) ds = elim (cases_lt m (length ds)) [
  | inl less ↦ let long = length-take m ds in ap (λ k. take k ds) (omega (arith, long, less))
  | inr more ↦
      let all : take m ds ≡ ds = take_all m ds more in
      all ∙ sym (ap (λ xs. take (length xs) ds) all ∙ take_all (length ds) ds (omega arith))
]

limited_two : (limit : Option ℕ) (count : ℕ) (all given rest : List Difference) → length given ≡ count → all ≡ given ++ rest → IfSome limit (λ m. count ≤ m)
    → limited limit all ≡ given ++ limited (limit_left limit count) rest
limited_two None count all given rest long is within = is
limited_two (Some m) count all given rest long is within =
    let e : m ≡ length given + (m - count) = omega (arith, long, within) in
    ap (take m) is ∙ ap (λ k. take k (given ++ rest)) e ∙ take-append-add given rest (m - count)

still_within : (limit : Option ℕ) (count more : ℕ) (ds : List Difference) → IfSome limit (λ m. count ≤ m) → more ≡ length (limited (limit_left limit count) ds)
    → IfSome limit (λ m. count + more ≤ m)
still_within None count more ds h is = tt
still_within (Some m) count more ds h is = let long = length-take (m - count) ds in omega (arith, long, h, is)

-- where the limit isn't reached, all were given
all_given : (limit : Option ℕ) (count more : ℕ) (ds : List Difference) → IfSome limit (λ m. count ≤ m) → more ≡ length (limited (limit_left limit count) ds)
    → limit ≢ Some (count + more) → more ≡ length ds
all_given None count more ds h is short = is
all_given (Some m) count more ds h is short = elim (cases_lt (length ds) (m - count)) [
  | inl less ↦ let long = length-take (m - count) ds in omega (arith, long, less, is)
  | inr over ↦
      let long = length-take (m - count) ds in
      let full : m ≡ count + more = omega (arith, long, over, h, is) in
      absurd (short (ap (λ (n : ℕ). Some n) full))
]

none_within : (limit : Option ℕ) → IfSome limit (λ m. 0 ≤ m)
none_within None = tt
none_within (Some m) = omega arith

-- ---- how much of a list was given
-- So many of its rows were given, none of them above `reached`.
pub record OnTheWay (upto limit : Option ℕ) (old new : DifferenceCursor) (count reached : ℕ) : Type 0 where
  pub takes : TakesDifferences old new count
  pub few : count ≤ length old.rest
  pub low : All (λ (d : Difference). d.number ≤ reached) (take count old.rest)
  pub within : IfSome limit (λ m. count ≤ m)
  pub before : IfSome upto (λ last. reached ≤ last)

-- The next rows, up to n, were given as far as the limit allows.
pub record Step (upto limit : Option ℕ) (a b : DifferenceCursor) (count reached n more : ℕ) : Type 0 where
  pub on : reached ≤ n
  pub before : IfSome upto (λ last. n ≤ last)
  pub order : a.rest ≡ differences_to n a.rest ++ differences_above n a.rest
  pub counted : more ≡ length (limited (limit_left limit count) (differences_to n a.rest))
  pub takes : TakesDifferences a b more

abbrev pub asked_of : Option ℕ → Option ℕ → DifferenceCursor → List Difference
asked_of upto limit c = limited limit (part upto c.rest)

-- the rows that are left after so many
abbrev pub left_after : Option ℕ → Option ℕ → ℕ → DifferenceCursor → List Difference
left_after upto limit count c = limited (limit_left limit count) (part upto c.rest)

pub way_begins : (upto limit : Option ℕ) (c : DifferenceCursor) → OnTheWay upto limit c c 0 0
way_begins upto limit c = record {
  takes = record { questions = (refl, refl); rest = refl };
  few = omega arith;
  low = All-nil (λ (d : Difference). d.number ≤ 0);
  within = none_within limit;
  before = none_within upto;
}

-- What was taken, and then more.
pub takes_both : (old a b : DifferenceCursor) (n k : ℕ) → TakesDifferences old a n → TakesDifferences a b k → TakesDifferences old b (n + k)
takes_both old a b n k t u = record {
  questions = (u.questions.0 ∙ t.questions.0, u.questions.1 ∙ t.questions.1);
  rest = u.rest ∙ ap (drop k) t.rest ∙ drop-drop k n old.rest;
}

module _ {upto limit : Option ℕ} {old a : DifferenceCursor} {count reached : ℕ} (w : OnTheWay upto limit old a count reached) where
  pub split_is : asked_of upto limit old ≡ take count old.rest ++ left_after upto limit count a
  split_is =
      let given = take count old.rest in
      let parts : part upto old.rest ≡ given ++ part upto a.rest =
      ap (part upto) (sym (take-append-drop count old.rest)) ∙ part_both upto given (drop count old.rest)
      ∙ ap (λ xs. xs ++ part upto (drop count old.rest)) (part_all upto reached given w.before w.low)
      ∙ ap (λ xs. given ++ part upto xs) (sym w.takes.rest) in
      limited_two limit count (part upto old.rest) given (part upto a.rest) (length-take-le count old.rest w.few) parts w.within

  pub way_long : count + length (left_after upto limit count a) ≡ length (asked_of upto limit old)
  way_long =
      let cut = ap length split_is in
      let both = length-append (take count old.rest) (left_after upto limit count a) in
      let given = length-take-le count old.rest w.few in
      omega (arith, cut, both, given)

  pub way_short : length (asked_of upto limit old) ≤ length old.rest
  way_short =
      let one = limited_short limit (part upto old.rest) in
      let other = part_short upto old.rest in
      omega (arith, one, other)

  -- those up to a number, where all that are left are above it
  pub given_to : High reached a.rest → differences_to reached (asked_of upto limit old) ≡ take count old.rest
  given_to high =
      let given = take count old.rest in
      let left = left_after upto limit count a in
      let over = limited_has (λ (d : Difference). reached < d.number) (limit_left limit count) (part upto a.rest) (part_has (λ (d : Difference). reached < d.number) upto a.rest high) in
      ap (differences_to reached) split_is ∙ filter-append (λ (d : Difference). nat_le d.number reached) given left
      ∙ ap (λ xs. xs ++ differences_to reached left) (low_all reached given w.low) ∙ ap (λ xs. given ++ xs) (high_none reached left over) ∙ append-nil given

module _ {upto limit : Option ℕ} {old a b : DifferenceCursor} {count reached n more : ℕ} (w : OnTheWay upto limit old a count reached) (s : Step upto limit a b count reached n more) where
  step_few : more ≤ length (differences_to n a.rest)
  step_few = let few = limited_short (limit_left limit count) (differences_to n a.rest) in omega (arith, few, s.counted)

  step_is : take more a.rest ≡ limited (limit_left limit count) (differences_to n a.rest)
  step_is =
      let low = differences_to n a.rest in
      ap (take more) s.order ∙ take-append-le more low (differences_above n a.rest) step_few ∙ ap (λ k. take k low) s.counted ∙ sym (limited_is (limit_left limit count) low)

  pub step_given : take (count + more) old.rest ≡ take count old.rest ++ limited (limit_left limit count) (differences_to n a.rest)
  step_given = take-add count more old.rest ∙ ap (λ xs. take count old.rest ++ take more xs) (sym w.takes.rest) ∙ ap (λ xs. take count old.rest ++ xs) step_is

  pub way_on : OnTheWay upto limit old b (count + more) n
  way_on =
      let low = differences_to n a.rest in
      let few = step_few in
      let cut = ap length s.order in
      let both = length-append low (differences_above n a.rest) in
      let behind : length a.rest ≡ length old.rest - count = ap length w.takes.rest ∙ length-drop count old.rest in
      record {
        takes = takes_both old a b count more w.takes s.takes;
        few = omega (arith, few, cut, both, behind, w.few);
        low = All-same (λ (d : Difference). d.number ≤ n) (take (count + more) old.rest) (take count old.rest ++ limited (limit_left limit count) low) step_given
            (All-append (λ (d : Difference). d.number ≤ n) (take count old.rest) (limited (limit_left limit count) low) (low_more reached n (take count old.rest) s.on w.low)
            (limited_has (λ (d : Difference). d.number ≤ n) (limit_left limit count) low (low_to n a.rest)));
        within = still_within limit count more low w.within s.counted;
        before = s.before;
      }

  -- Where the limit isn't reached, all that are left are above n.
  pub above_left : limit ≢ Some (count + more) → High n b.rest
  above_left short =
      let low = differences_to n a.rest in
      let high = differences_above n a.rest in
      let all : more ≡ length low = all_given limit count more low w.within s.counted short in
      let gone : b.rest ≡ high = s.takes.rest ∙ ap (drop more) s.order ∙ drop_at low high more (sym all) in
      All-same (λ (d : Difference). n < d.number) b.rest high gone (high_above n a.rest)

  -- The rows so far are some of the whole list.
  pub rows_few : count + more ≤ length (asked_of upto limit old)
  rows_few = let long = way_long way_on in omega (arith, long)

-- the step, as its calls say it
pub step_made : (upto limit : Option ℕ) (a b : DifferenceCursor) (count reached n more : ℕ) (left : Option ℕ) → left ≡ limit_left limit count → reached < n
    → IfSome upto (λ last. n ≤ last) → a.rest ≡ differences_to n a.rest ++ differences_above n a.rest
    → more ≡ length (limited left (part (Some n) a.rest)) → TakesDifferences a b more → Step upto limit a b count reached n more
step_made upto limit a b count reached n more left is on before order counted takes = record {
  on = omega (arith, on);
  before = before;
  order = order;
  counted = counted ∙ ap (λ l. length (limited l (differences_to n a.rest))) is;
  takes = takes;
}

-- the cursor that has given so many more
abbrev pub further : DifferenceCursor → ℕ → DifferenceCursor
further c more = record c { rest = drop more c.rest }

-- the step of that cursor
pub step_further : (upto limit : Option ℕ) (a : DifferenceCursor) (count reached n : ℕ) → reached < n → IfSome upto (λ last. n ≤ last)
    → a.rest ≡ differences_to n a.rest ++ differences_above n a.rest
    → Step upto limit a (further a (length (limited (limit_left limit count) (differences_to n a.rest)))) count reached n (length (limited (limit_left limit count) (differences_to n a.rest)))
step_further upto limit a count reached n on before order =
    step_made upto limit a (further a (length (limited (limit_left limit count) (differences_to n a.rest)))) count reached n (length (limited (limit_left limit count) (differences_to n a.rest)))
    (limit_left limit count) refl on before order refl (record { questions = (refl, refl); rest = refl })

pub listed_same : {upto limit : Option ℕ} {old a : DifferenceCursor} {count reached : ℕ} → OnTheWay upto limit old a count reached → (listed : List ℕ) → listed ≡ a.asked_old.listed
    → listed ≡ old.asked_old.listed
listed_same w listed is = is ∙ ap (λ (q : Question). q.listed) w.takes.questions.0

-- what was taken before the rows could not be written
pub took_some : {upto limit : Option ℕ} {old a : DifferenceCursor} {count reached : ℕ} → OnTheWay upto limit old a count reached → (b : DifferenceCursor) (most : ℕ)
    → count + most ≤ length (asked_of upto limit old) → TakesDifferencesAtMost a b most → TakesDifferencesAtMost old b (length (asked_of upto limit old))
took_some {old = old} {a = a} {count = count} w b most few t = (count + t.0, omega (arith, few, t.1), takes_both old a b count t.0 w.takes t.2)

-- ---- the text
abbrev pub head_of : DifferenceCursor → List ℕ
head_of c = line_text (difference_header c.asked_old.program c.asked_old.listed)

abbrev pub rows_text : DifferenceCursor → List Difference → List ℕ
rows_text c ds = lines_text (map (difference_record (length c.asked_old.listed)) ds)

abbrev pub text_of : Option ℕ → Option ℕ → DifferenceCursor → List ℕ
text_of upto limit c = difference_text c.asked_old.program c.asked_old.listed (asked_of upto limit c)

abbrev pub text_to_of : Option ℕ → Option ℕ → DifferenceCursor → ℕ → List ℕ
text_to_of upto limit c n = difference_text c.asked_old.program c.asked_old.listed (differences_to n (asked_of upto limit c))

rows_both : (c : DifferenceCursor) (xs ys : List Difference) → rows_text c (xs ++ ys) ≡ rows_text c xs ++ rows_text c ys
rows_both c xs ys = lines_many (difference_record (length c.asked_old.listed)) 0 xs ys

headed_both : (c : DifferenceCursor) (xs ys : List Difference) → head_of c ++ rows_text c (xs ++ ys) ≡ (head_of c ++ rows_text c xs) ++ rows_text c ys
headed_both c xs ys = ap (λ t. head_of c ++ t) (rows_both c xs ys) ∙ sym (append_assoc (head_of c) (rows_text c xs) (rows_text c ys))

-- the text, cut where the rows that were given end
whole_is : {upto limit : Option ℕ} {old a : DifferenceCursor} {count reached : ℕ} → OnTheWay upto limit old a count reached
    → text_of upto limit old ≡ (head_of old ++ rows_text old (take count old.rest)) ++ rows_text old (left_after upto limit count a)
whole_is {upto} {limit} {old} {a} {count} {reached} w =
    ap (λ ds. head_of old ++ rows_text old ds) (split_is w) ∙ headed_both old (take count old.rest) (left_after upto limit count a)

-- All up to the number is given, and no other row.
reached_is : {upto limit : Option ℕ} {old a : DifferenceCursor} {count reached : ℕ} → OnTheWay upto limit old a count reached → High reached a.rest
    → head_of old ++ rows_text old (take count old.rest) ≡ text_to_of upto limit old reached
reached_is {old = old} w high = ap (λ ds. head_of old ++ rows_text old ds) (sym (given_to w high))

-- the text, cut where the rows of a step end
step_whole : {upto limit : Option ℕ} {old a b : DifferenceCursor} {count reached n more : ℕ} → OnTheWay upto limit old a count reached → Step upto limit a b count reached n more
    → text_of upto limit old
    ≡ (head_of old ++ rows_text old (take count old.rest)) ++ (rows_text old (limited (limit_left limit count) (differences_to n a.rest)) ++ rows_text old (left_after upto limit (count + more) b))
step_whole {upto} {limit} {old} {a} {b} {count} {reached} {n} {more} w s =
    let given = rows_text old (limited (limit_left limit count) (differences_to n a.rest)) in
    let after = rows_text old (left_after upto limit (count + more) b) in
    whole_is (way_on w s) ∙ ap (λ ds. (head_of old ++ rows_text old ds) ++ after) (step_given w s)
    ∙ ap (λ t. t ++ after) (headed_both old (take count old.rest) (limited (limit_left limit count) (differences_to n a.rest)))
    ∙ append_assoc (head_of old ++ rows_text old (take count old.rest)) given after

-- So many rows were given and are written or wait, and the lines of some numbers are written.
pub record Stands (upto limit : Option ℕ) (old new : DifferenceCursor) (count reached : ℕ) (out out' err err' : WriteLog) (waits : List ℕ) : Type 0 where
  pub way : OnTheWay upto limit old new count reached
  pub told : List ℕ
  pub rows : Telling (text_to_of upto limit old) told out out' waits (head_of old ++ rows_text old (take count old.rest))
  pub lines : PutsAll err err' (reached_text told)

-- what is written or waits at the end
abbrev pub Sent : Option ℕ → Option ℕ → DifferenceCursor → (out out' err err' : WriteLog) → (waits : List ℕ) → Type 0
Sent upto limit old out out' err err' waits = (told : List ℕ) × Telling (text_to_of upto limit old) told out out' waits (text_of upto limit old) × PutsAll err err' (reached_text told)

abbrev pub Ends : ProgressFault → Option ℕ → Option ℕ → DifferenceCursor → (out out' err err' : WriteLog) → Type 0
Ends fault upto limit old out out' err err' = TellsUntil fault (text_to_of upto limit old) (text_of upto limit old) out out' err err'

-- the header, and nothing yet
pub headed : (upto limit : Option ℕ) (c : DifferenceCursor) (out o1 err : WriteLog) (w0 w1 : List ℕ) → w0 ≡ [] → SendsAll out o1 w0 w1 (head_of c)
    → Stands upto limit c c 0 0 out o1 err err w1
headed upto limit c out o1 err w0 w1 none sent = record {
  way = way_begins upto limit c;
  told = [];
  rows = subst (λ t. Telling (text_to_of upto limit c) [] out o1 w1 t) (sym (append-nil (head_of c)))
      (told_none (text_to_of upto limit c) out o1 w1 (head_of c) (subst (λ w. SendsAll out o1 w w1 (head_of c)) none sent));
  lines = puts_none err;
}

module _ {upto limit : Option ℕ} {old a : DifferenceCursor} {count reached : ℕ} {out o1 o2 err e1 : WriteLog} {w0 : List ℕ} (st : Stands upto limit old a count reached out o1 err e1 w0) where
  -- the last rows, written or not
  pub last_sent : (w1 : List ℕ) → SendsAll o1 o2 w0 w1 (rows_text old (left_after upto limit count a)) → Sent upto limit old out o2 err e1 w1
  last_sent w1 sent =
      let to = text_to_of upto limit old in
      let more = told_more to st.told out o1 o2 w0 (head_of old ++ rows_text old (take count old.rest)) st.rows w1 (rows_text old (left_after upto limit count a)) sent in
      (st.told, subst (λ t. Telling to st.told out o2 w1 t) (sym (whole_is st.way)) more, st.lines)

  pub breaks_at : (next after : List ℕ) → text_of upto limit old ≡ (head_of old ++ rows_text old (take count old.rest)) ++ (next ++ after) → PutsPrefix o1 o2 (w0 ++ next)
      → Ends Rows upto limit old out o2 err e1
  breaks_at next after is p =
      (st.told, told_breaks (text_to_of upto limit old) st.told out o1 o2 w0 (head_of old ++ rows_text old (take count old.rest)) st.rows next after (text_of upto limit old) is p, st.lines)

  pub last_breaks : PutsPrefix o1 o2 (w0 ++ rows_text old (left_after upto limit count a)) → Ends Rows upto limit old out o2 err e1
  last_breaks p =
      let left = rows_text old (left_after upto limit count a) in
      breaks_at left [] (whole_is st.way ∙ ap (λ t. (head_of old ++ rows_text old (take count old.rest)) ++ t) (sym (append-nil left))) p

  -- what waits could not be written
  pub flush_breaks : PutsPrefix o1 o2 w0 → Ends Rows upto limit old out o2 err e1
  flush_breaks p = (
    st.told,
    told_stops (text_to_of upto limit old) st.told out o1 o2 w0 (head_of old ++ rows_text old (take count old.rest)) st.rows (rows_text old (left_after upto limit count a))
        (text_of upto limit old) (whole_is st.way) p,
    st.lines,
  )

  all_written : PutsAll o1 o2 w0 → PutsAll out o2 (head_of old ++ rows_text old (take count old.rest))
  all_written p = told_flushed (text_to_of upto limit old) st.told out o1 o2 w0 (head_of old ++ rows_text old (take count old.rest)) st.rows p

  -- a line
  pub told_here : (e2 : WriteLog) (w1 : List ℕ) → High reached a.rest → PutsAll o1 o2 w0 → PutsAll e1 e2 (reached_line reached) → w1 ≡ []
      → Stands upto limit old a count reached out o2 err e2 w1
  told_here e2 w1 high p q empty =
      let to = text_to_of upto limit old in
      let written = head_of old ++ rows_text old (take count old.rest) in
      record {
        way = st.way;
        told = reached ∷ st.told;
        rows = subst (λ w. Telling to (reached ∷ st.told) out o2 w written) (sym empty)
            (told_anew to st.told reached out o2 written (all_written p) (reached_is st.way high));
        lines = puts_more err e1 e2 (reached_text st.told) (reached_line reached) st.lines q;
      }

-- a line that could not be written
pub untold_here : {upto limit : Option ℕ} {old a : DifferenceCursor} {count reached : ℕ} {out o1 err e1 : WriteLog} {w0 : List ℕ} (f : ProgressFault) (o2 e2 : WriteLog)
    → Stands upto limit old a count reached out o1 err e1 w0 → High reached a.rest → IsUntold true f w0 reached o1 o2 e1 e2 → Ends f upto limit old out o2 err e2
untold_here {upto} {limit} {old} {a} {count} {reached} {out} {o1} {err} {e1} {w0} Rows o2 e2 st high h =
    subst (λ (e : WriteLog). Ends Rows upto limit old out o2 err e) (sym h.1) (flush_breaks st h.0)
untold_here {upto} {limit} {old} {a} {count} {reached} {out} {o1} {err} {e1} {w0} Lines o2 e2 st high h = (
  reached,
  st.told,
  subst (λ t. PutsAll out o2 t) (reached_is st.way high) (all_written st h.1),
  prefix_after err e1 e2 (reached_text st.told ++ reached_line reached) (reached_text st.told) (reached_line reached) []
      (sym (append-nil (reached_text st.told ++ reached_line reached))) st.lines h.2,
)

-- ---- how it ends
module _ (upto limit : Option ℕ) (old : DifferenceCursor) (out o1 o2 err e1 : WriteLog) (waits : List ℕ) (s : Sent upto limit old out o1 err e1 waits) where
  -- what waits is written, or it isn't
  pub sent_all : PutsAll o1 o2 waits → TellsAll (text_of upto limit old) out o2 err e1
  sent_all p = (told_flushed (text_to_of upto limit old) s.0 out o1 o2 waits (text_of upto limit old) s.1 p, (s.0, s.2))

  pub sent_stops : PutsPrefix o1 o2 waits → Ends Rows upto limit old out o2 err e1
  sent_stops p =
      let text = text_of upto limit old in
      (s.0, told_stops (text_to_of upto limit old) s.0 out o1 o2 waits text s.1 [] text (sym (append-nil text)) p, s.2)

-- ---- a step
module _ {upto limit : Option ℕ} {old a b : DifferenceCursor} {count reached n more : ℕ} {out o1 o2 err e1 : WriteLog} {w0 : List ℕ} (st : Stands upto limit old a count reached out o1 err e1 w0)
    (s : Step upto limit a b count reached n more) where
  pub step_breaks : PutsPrefix o1 o2 (w0 ++ rows_text old (limited (limit_left limit count) (differences_to n a.rest))) → Ends Rows upto limit old out o2 err e1
  step_breaks p = breaks_at st (rows_text old (limited (limit_left limit count) (differences_to n a.rest))) (rows_text old (left_after upto limit (count + more) b)) (step_whole st.way s) p

  pub step_on : (w1 : List ℕ) → SendsAll o1 o2 w0 w1 (rows_text old (limited (limit_left limit count) (differences_to n a.rest)))
      → Stands upto limit old b (count + more) n out o2 err e1 w1
  step_on w1 sent =
      let to = text_to_of upto limit old in
      let low = limited (limit_left limit count) (differences_to n a.rest) in
      let text : (head_of old ++ rows_text old (take count old.rest)) ++ rows_text old low ≡ head_of old ++ rows_text old (take (count + more) old.rest) =
      sym (headed_both old (take count old.rest) low) ∙ ap (λ ds. head_of old ++ rows_text old ds) (sym (step_given st.way s)) in
      record {
        way = way_on st.way s;
        told = st.told;
        rows = subst (λ t. Telling to st.told out o2 w1 t) text
            (told_more to st.told out o1 o2 w0 (head_of old ++ rows_text old (take count old.rest)) st.rows w1 (rows_text old low) sent);
        lines = st.lines;
      }

-- a stretch ends before the list does
pub within_end : (upto : Option ℕ) (most end stop : ℕ) → IfSome upto (λ last. end ≡ min last most) → stop < end → IfSome upto (λ last. stop ≤ last)
within_end None most end stop h less = tt
within_end (Some last) most end stop h less = omega (arith, h, less)
