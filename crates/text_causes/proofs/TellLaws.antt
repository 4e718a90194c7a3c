-- A list that tells how far it is: how much of it was given, and what was written of it.
use Rattle.std.proofs.Common.{◌≡◌, ◌≢◌, ◌∙◌, ◌+◌, ◌-◌, ◌<◌, ◌≤◌, ℕ, zero, suc, Bool, true, false, cond, List, [], ◌∷◌, ◌++◌, Option, Some, None, inl, inr, append_assoc, append-nil, sym, refl, ap, arith, drop, length, length-append, max, nat_le, nat_lt, subst, take}
use Rattle.std.specs.Prelude.{IfSome}
use Rattle.std.specs.List.{AllByRecursion, filter}
use Rattle.std.proofs.lemmas.Bool.{cases_lt, leb-true, lt-ltb, le-ltb}
use Rattle.std.proofs.lemmas.Bool.Decides.{nat_tests}
use Rattle.std.proofs.lemmas.List.{drop-append-le, drop_at, length-take, length-take-le, take-append-drop, take-append-le, take_all}
use Rattle.std.proofs.lemmas.List.Elements.{filter-append}
use Rattle.search_tree.specs.Looks.{Search, looks_until, looks_upto}
use Rattle.search_tree.proofs.Settling.{looks_grow}
use Rattle.causes_one_scan.specs.Cursor.{Cursor, Takes, looks_of, looks_through, searched}
use Rattle.causes_one_scan.specs.Parts.{numbers_above, numbers_to}
use Rattle.text_causes.specs.CauseText.{TakesAtMost, cause_text, limited}
use Rattle.text_causes.specs.Limit.{limit_left}
use Rattle.text_causes.specs.Parts.{part, part_looks, settled}
use Rattle.text_causes.specs.Progress.{BreaksAfter, reached_line, reached_text}
use Rattle.text_causes.specs.Rows.{header, rows}
use Rattle.text_causes.specs.Telling.{AreTold, IsBase, IsTold, IsUntold, Telling, TellsEnd, TellsSent}
use Rattle.text_causes.specs.declared.progress.ProgressFault.{ProgressFault}
use Rattle.text_causes.specs.declared.progress.ProgressFault.TheVariants.{Lines, Rows}
use Rattle.text_causes.proofs.NearLaws.{drop_twice}
use Rattle.text_causes.proofs.PartLaws.{part_short, all_to, none_to}
use Rattle.io_text.specs.Buffer.{SendsAll}
use Rattle.io_text.specs.Log.{PutsAll, PutsPrefix, WriteLog}
use Rattle.io_text.proofs.Puts.{prefix_after, puts_more, puts_none}
use Rattle.io_text.proofs.Sending.{flush_all, sends_more, sends_none, sends_prefix}
use Rattle.text_causes.proofs.Taking.{through_both}
use Rattle.text_causes.proofs.RunLaws.{rows_both}

true_false : true ≡ false → ⊥
true_false e = cc

-- ---- numbers up to one and above it
above_is : (n last : ℕ) → nat_lt last n ≡ true → last < n
above_is n last h = grind (arith, nat_tests)

-- what a test keeps passes it
kept_pass : (keep : ℕ → Bool) (P : ℕ → Type 0) → ((n : ℕ) → keep n ≡ true → P n) → (ns : List ℕ) → AllByRecursion P (filter keep ns)
kept_pass keep P pass [] = tt
kept_pass keep P pass (n ∷ ns) = by (keep n) refl (kept_pass keep P pass ns)
  where
    by : (b : Bool) → keep n ≡ b → AllByRecursion P (filter keep ns) → AllByRecursion P (cond b (n ∷ filter keep ns) (filter keep ns))
    by true e more = (pass n e, more)
    by false e more = more

-- and what all have, those that are kept have
kept_have : (keep : ℕ → Bool) (P : ℕ → Type 0) (ns : List ℕ) → AllByRecursion P ns → AllByRecursion P (filter keep ns)
kept_have keep P [] h = tt
kept_have keep P (n ∷ ns) h = by (keep n) (kept_have keep P ns h.1)
  where
    by : (b : Bool) → AllByRecursion P (filter keep ns) → AllByRecursion P (cond b (n ∷ filter keep ns) (filter keep ns))
    by true more = (h.0, more)
    by false more = more

first_have : (P : ℕ → Type 0) (k : ℕ) (ns : List ℕ) → AllByRecursion P ns → AllByRecursion P (take k ns)
first_have P zero ns h = tt
first_have P (suc k) [] h = tt
first_have P (suc k) (n ∷ ns) h = (h.0, first_have P k ns h.1)

both_have : (P : ℕ → Type 0) (xs ys : List ℕ) → AllByRecursion P xs → AllByRecursion P ys → AllByRecursion P (xs ++ ys)
both_have P [] ys h k = k
both_have P (x ∷ xs) ys h k = (h.0, both_have P xs ys h.1 k)

weaker : (a b : ℕ) (ns : List ℕ) → a ≤ b → AllByRecursion (λ n. n ≤ a) ns → AllByRecursion (λ n. n ≤ b) ns
weaker a b [] h k = tt
weaker a b (n ∷ ns) h k = (omega (arith, h, k.0), weaker a b ns h k.1)

part_have : (P : ℕ → Type 0) (upto : Option ℕ) (ns : List ℕ) → AllByRecursion P ns → AllByRecursion P (part upto ns)
part_have P None ns h = h
part_have P (Some last) ns h = kept_have (λ n. nat_le n last) P ns h

limited_have : (P : ℕ → Type 0) (limit : Option ℕ) (ns : List ℕ) → AllByRecursion P ns → AllByRecursion P (limited limit ns)
limited_have P None ns h = h
limited_have P (Some m) ns h = first_have P m ns h

part_both : (upto : Option ℕ) (xs ys : List ℕ) → part upto (xs ++ ys) ≡ part upto xs ++ part upto ys
part_both None xs ys = refl
part_both (Some last) xs ys = filter-append (λ n. nat_le n last) xs ys

part_all : (upto : Option ℕ) (n : ℕ) (ns : List ℕ) → IfSome upto (λ last. n ≤ last) → AllByRecursion (λ m. m ≤ n) ns → part upto ns ≡ ns
part_all None n ns h k = refl
part_all (Some last) n ns h k = all_to last ns (weaker n last ns h k)

-- ---- what a limit leaves
limited_is : (limit : Option ℕ) (ns : List ℕ) → limited limit ns ≡ take (length (limited limit ns)) ns
limited_is None ns = sym (take_all (length ns) ns (omega arith))
limited_is (Some m) ns = elim (cases_lt m (length ns)) [
  | inl less ↦ let long = length-take m ns in ap (λ k. take k ns) (omega (arith, long, less))
  | inr more ↦
      let all : take m ns ≡ ns = take_all m ns more in
      all ∙ sym (ap (λ xs. take (length xs) ns) all ∙ take_all (length ns) ns (omega arith))
]

limited_few : (limit : Option ℕ) (ns : List ℕ) → length (limited limit ns) ≤ length ns
limited_few None ns = omega arith
limited_few (Some m) ns = let h = length-take m ns in omega (arith, h)

left_more : (limit : Option ℕ) (count k : ℕ) → limit_left limit (count + k) ≡ limit_left (limit_left limit count) k
left_more None count k = refl
left_more (Some m) count k = let e : m - (count + k) ≡ m - count - k = omega arith in ap (λ n. Some n) e

still_within : (limit : Option ℕ) (count : ℕ) (ns : List ℕ) → IfSome limit (λ m. count ≤ m) → IfSome limit (λ m. count + length (limited (limit_left limit count) ns) ≤ m)
still_within None count ns h = tt
still_within (Some m) count ns h = let long = length-take (m - count) ns in omega (arith, long, h)

-- where the limit isn't reached, all were given
all_given : (limit : Option ℕ) (count : ℕ) (ns : List ℕ) → IfSome limit (λ m. count ≤ m) → limit ≢ Some (count + length (limited (limit_left limit count) ns))
    → length (limited (limit_left limit count) ns) ≡ length ns
all_given None count ns h short = refl
all_given (Some m) count ns h short = elim (cases_lt (length ns) (m - count)) [
  | inl less ↦ let long = length-take (m - count) ns in omega (arith, long, less)
  | inr more ↦
      let long = length-take (m - count) ns in
      let full : m ≡ count + length (take (m - count) ns) = omega (arith, long, more, h) in
      absurd (short (ap (λ (n : ℕ). Some n) full))
]

-- ---- a step up to a number
-- So many were given of the numbers up to n, and the others are left.
part_cut : (upto : Option ℕ) (n k : ℕ) (low high : List ℕ) → IfSome upto (λ last. n ≤ last) → AllByRecursion (λ m. m ≤ n) low → k ≤ length low
    → part upto (low ++ high) ≡ take k low ++ part upto (drop k (low ++ high))
part_cut upto n k low high within up few =
    let front : low ≡ take k low ++ drop k low = sym (take-append-drop k low) in
    let each : AllByRecursion (λ m. m ≤ n) (take k low) = first_have (λ m. m ≤ n) k low up in
    let whole : low ++ high ≡ take k low ++ drop k (low ++ high) =
    ap (λ xs. xs ++ high) front ∙ append_assoc (take k low) (drop k low) high ∙ ap (λ xs. take k low ++ xs) (sym (drop-append-le k low high few)) in
    ap (part upto) whole ∙ part_both upto (take k low) (drop k (low ++ high)) ∙ ap (λ xs. xs ++ part upto (drop k (low ++ high))) (part_all upto n (take k low) within each)

-- The limit cuts what is left in two.
limited_two : (limit : Option ℕ) (k : ℕ) (low rest : List ℕ) → length low ≡ k → IfSome limit (λ m. k ≤ m) → limited limit (low ++ rest) ≡ low ++ limited (limit_left limit k) rest
limited_two None k low rest long within = refl
limited_two (Some m) k low rest long within =
    let e : m ≡ length low + (m - k) = omega (arith, long, within) in
    ap (λ i. take i (low ++ rest)) e ∙ first low (m - k)
  where
    first : (xs : List ℕ) (j : ℕ) → take (length xs + j) (xs ++ rest) ≡ xs ++ take j rest
    first [] j = let e : 0 + j ≡ j = omega arith in ap (λ i. take i rest) e
    first (x ∷ xs) j = let e : suc (length xs) + j ≡ suc (length xs + j) = omega arith in ap (λ i. take i (x ∷ (xs ++ rest))) e ∙ ap (λ ys. x ∷ ys) (first xs j)

-- ---- the looks
none_count : (s : Search) (before last : ℕ) → last < s.first → looks_upto s before last ≡ before
none_count s before last h =
    let t : nat_lt last s.first ≡ true = lt-ltb last s.first h in
    ap (λ b. cond b before (max before (looks_until s last))) t

some_count : (s : Search) (before last : ℕ) → s.first ≤ last → looks_upto s before last ≡ max before (looks_until s last)
some_count s before last h =
    let t : nat_lt last s.first ≡ false = le-ltb last s.first h in
    ap (λ b. cond b before (max before (looks_until s last))) t

-- A stop on the way adds no look.
upto_twice : (s : Search) (before n last : ℕ) → n ≤ last → looks_upto s (looks_upto s before n) last ≡ looks_upto s before last
upto_twice s before n last order = elim (cases_lt n s.first) [
  | inl none ↦ ap (λ b. looks_upto s b last) (none_count s before n none)
  | inr some ↦
      let here = some_count s before n some in
      let more = looks_grow 1 s s.top 0 n last order in
      let there : s.first ≤ last = omega (arith, some, order) in
      let one = some_count s (looks_upto s before n) last there in
      let other = some_count s before last there in
      omega (arith, here, more, one, other)
]

settled_twice : (upto : Option ℕ) (s : Search) (before n : ℕ) → IfSome upto (λ last. n ≤ last) → settled upto s (looks_upto s before n) ≡ settled upto s before
settled_twice None s before n h = refl
settled_twice (Some last) s before n h = upto_twice s before n last h

through_settled : (upto : Option ℕ) (s : Search) (before n : ℕ) (ys : List ℕ) → IfSome upto (λ last. n ≤ last)
    → settled upto s (looks_through s (looks_upto s before n) ys) ≡ settled upto s (looks_through s before ys)
through_settled upto s before n [] h = settled_twice upto s before n h
through_settled upto s before n (y ∷ ys) h = refl

through_some : (s : Search) (one other : ℕ) (ys : List ℕ) → 0 < length ys → looks_through s one ys ≡ looks_through s other ys
through_some s one other [] some = absurd (omega (arith, some))
through_some s one other (y ∷ ys) some = refl

-- After a step up to n the looks for the whole are as many as without it.
step_looks : (upto limit : Option ℕ) (s : Search) (before n k : ℕ) (low rest all : List ℕ) → IfSome upto (λ last. n ≤ last)
    → k ≡ length (limited limit low) → all ≡ take k low ++ rest
    → part_looks upto s (part_looks (Some n) s before limit low) (limit_left limit k) rest ≡ part_looks upto s before limit all
step_looks upto None s before n k low rest all h long is =
    let same : all ≡ low ++ rest = is ∙ ap (λ xs. xs ++ rest) (take_all k low (omega (arith, long))) in
    through_settled upto s (looks_through s before low) n rest h
    ∙ ap (settled upto s) (sym (through_both s before low rest)) ∙ ap (λ xs. settled upto s (looks_through s before xs)) (sym same)
step_looks upto (Some m) s before n k low rest all h long is = elim (cases_lt (length low) m) [
  | inl less ↦
      let cut = length-take m low in
      let whole : k ≡ length low = omega (arith, long, cut, less) in
      let same : all ≡ low ++ rest = is ∙ ap (λ xs. xs ++ rest) (take_all k low (omega (arith, whole))) in
      let size : length all ≡ length low + length rest = ap length same ∙ length-append low rest in
      let inner : part_looks (Some n) s before (Some m) low ≡ looks_upto s (looks_through s before low) n =
      ap (λ b. cond b (looks_upto s (looks_through s before low) n) (looks_through s before (take m low))) (lt-ltb (length low) m less) in
      let outer : part_looks upto s (part_looks (Some n) s before (Some m) low) (Some (m - k)) rest ≡ part_looks upto s (looks_upto s (looks_through s before low) n) (Some (m - k)) rest =
      ap (λ b. part_looks upto s b (Some (m - k)) rest) inner in
      elim (cases_lt (length rest) (m - k)) [
        | inl fewer ↦
            let left : nat_lt (length rest) (m - k) ≡ true = lt-ltb (length rest) (m - k) fewer in
            let right : nat_lt (length all) m ≡ true = lt-ltb (length all) m (omega (arith, size, fewer, whole)) in
            outer
            ∙ ap (λ b. cond b (settled upto s (looks_through s (looks_upto s (looks_through s before low) n) rest)) (looks_through s (looks_upto s (looks_through s before low) n) (take (m - k) rest))) left
            ∙ through_settled upto s (looks_through s before low) n rest h
            ∙ ap (settled upto s) (sym (through_both s before low rest)) ∙ ap (λ xs. settled upto s (looks_through s before xs)) (sym same)
            ∙ sym (ap (λ b. cond b (settled upto s (looks_through s before all)) (looks_through s before (take m all))) right)
        | inr more ↦
            let left : nat_lt (length rest) (m - k) ≡ false = le-ltb (length rest) (m - k) more in
            let right : nat_lt (length all) m ≡ false = le-ltb (length all) m (omega (arith, size, more, whole)) in
            let taken = length-take (m - k) rest in
            let front : take m all ≡ low ++ take (m - k) rest = ap (take m) same ∙ limited_two (Some m) k low rest (sym whole) (omega (arith, whole, less)) in
            outer
            ∙ ap (λ b. cond b (settled upto s (looks_through s (looks_upto s (looks_through s before low) n) rest)) (looks_through s (looks_upto s (looks_through s before low) n) (take (m - k) rest))) left
            ∙ through_some s (looks_upto s (looks_through s before low) n) (looks_through s before low) (take (m - k) rest) (omega (arith, taken, more, whole, less))
            ∙ sym (through_both s before low (take (m - k) rest)) ∙ ap (looks_through s before) (sym front)
            ∙ sym (ap (λ b. cond b (settled upto s (looks_through s before all)) (looks_through s before (take m all))) right)
      ]
  | inr more ↦
      let cut = length-take m low in
      let full : k ≡ m = omega (arith, long, cut, more) in
      let inner : part_looks (Some n) s before (Some m) low ≡ looks_through s before (take m low) =
      ap (λ b. cond b (looks_upto s (looks_through s before low) n) (looks_through s before (take m low))) (le-ltb (length low) m more) in
      let none : m - k ≡ 0 = omega (arith, full) in
      let left : nat_lt (length rest) (m - k) ≡ false = le-ltb (length rest) (m - k) (omega (arith, none)) in
      let gone : take (m - k) rest ≡ [] = ap (λ i. take i rest) none in
      let size : length all ≡ length (take k low) + length rest = ap length is ∙ length-append (take k low) rest in
      let taken = length-take k low in
      let right : nat_lt (length all) m ≡ false = le-ltb (length all) m (omega (arith, size, taken, full, more)) in
      let front : take m all ≡ take m low =
      ap (λ i. take i all) (sym full) ∙ ap (take k) is ∙ take-append-le k (take k low) rest (omega (arith, taken, full, more))
      ∙ take_all k (take k low) (omega (arith, taken)) ∙ ap (λ i. take i low) full in
      ap (λ b. part_looks upto s b (Some (m - k)) rest) inner
      ∙ ap (λ b. cond b (settled upto s (looks_through s (looks_through s before (take m low)) rest)) (looks_through s (looks_through s before (take m low)) (take (m - k) rest))) left
      ∙ ap (looks_through s (looks_through s before (take m low))) gone
      ∙ ap (looks_through s before) (sym front)
      ∙ sym (ap (λ b. cond b (settled upto s (looks_through s before all)) (looks_through s before (take m all))) right)
]

-- ---- how much of a list was given
-- So many of its numbers were given, none of them above `reached`.
pub record OnTheWay (upto limit : Option ℕ) (old new : Cursor) (count reached : ℕ) : Type 0 where
  pub given : List ℕ
  pub split : limited limit (part upto old.rest) ≡ given ++ limited (limit_left limit count) (part upto new.rest)
  pub counted : length given ≡ count
  pub low : AllByRecursion (λ n. n ≤ reached) given
  pub takes : Takes old new count
  pub within : IfSome limit (λ m. count ≤ m)
  pub looks : part_looks upto (searched old) (looks_of new) (limit_left limit count) (part upto new.rest) ≡ part_looks upto (searched old) (looks_of old) limit (part upto old.rest)

no_rows : (limit : Option ℕ) → limit ≡ limit_left limit 0
no_rows None = refl
no_rows (Some m) = let e : m ≡ m - 0 = omega arith in ap (λ n. Some n) e

none_within : (limit : Option ℕ) → IfSome limit (λ m. 0 ≤ m)
none_within None = tt
none_within (Some m) = omega arith

pub way_begins : (upto limit : Option ℕ) (c : Cursor) → OnTheWay upto limit c c 0 0
way_begins upto limit c = record {
  given = [];
  split = ap (λ l. limited l (part upto c.rest)) (no_rows limit);
  counted = refl;
  low = tt;
  takes = record { question = refl; rest = refl };
  within = none_within limit;
  looks = ap (λ l. part_looks upto (searched c) (looks_of c) l (part upto c.rest)) (sym (no_rows limit));
}

-- What was taken, and then more.
pub takes_both : (old a b : Cursor) (n k : ℕ) → Takes old a n → Takes a b k → Takes old b (n + k)
takes_both old a b n k t u = record {
  question = u.question ∙ ap (λ (c : Cursor). record c { rest = b.rest; tri = b.tri; words = b.words; lanes = b.lanes; fours = b.fours }) t.question;
  rest = u.rest ∙ ap (drop k) t.rest ∙ drop_twice n k old.rest;
}

left_within : (limit : Option ℕ) (count : ℕ) (ns : List ℕ) → IfSome (limit_left limit count) (λ m. length (limited (limit_left limit count) ns) ≤ m)
left_within None count ns = tt
left_within (Some m) count ns = let long = length-take (m - count) ns in omega (arith, long)

-- A step up to n, of which so many numbers were given.
module _ (upto limit : Option ℕ) (old a b : Cursor) (count reached n : ℕ) (w : OnTheWay upto limit old a count reached)
    (within : IfSome upto (λ last. n ≤ last)) (order : a.rest ≡ numbers_to n a.rest ++ numbers_above n a.rest)
    (takes : Takes a b (length (limited (limit_left limit count) (numbers_to n a.rest)))) where
  abbrev step_size : ℕ
  step_size = length (limited (limit_left limit count) (numbers_to n a.rest))

  step_few : step_size ≤ length (numbers_to n a.rest)
  step_few = limited_few (limit_left limit count) (numbers_to n a.rest)

  step_given : limited (limit_left limit count) (numbers_to n a.rest) ≡ take step_size (numbers_to n a.rest)
  step_given = limited_is (limit_left limit count) (numbers_to n a.rest)

  up_to : AllByRecursion (λ m. m ≤ n) (numbers_to n a.rest)
  up_to = kept_pass (λ m. nat_le m n) (λ m. m ≤ n) (λ m h. leb-true m n h) a.rest

  step_split : part upto a.rest ≡ take step_size (numbers_to n a.rest) ++ part upto b.rest
  step_split =
      ap (part upto) order
      ∙ part_cut upto n step_size (numbers_to n a.rest) (numbers_above n a.rest) within up_to step_few
      ∙ ap (λ xs. take step_size (numbers_to n a.rest) ++ part upto (drop step_size xs)) (sym order)
      ∙ ap (λ xs. take step_size (numbers_to n a.rest) ++ part upto xs) (sym takes.rest)

  pub way_on : reached ≤ n → looks_of b ≡ part_looks (Some n) (searched a) (looks_of a) (limit_left limit count) (numbers_to n a.rest)
      → OnTheWay upto limit old b (count + step_size) n
  way_on more looks =
      let low = limited (limit_left limit count) (numbers_to n a.rest) in
      let long : length (take step_size (numbers_to n a.rest)) ≡ step_size = length-take-le step_size (numbers_to n a.rest) step_few in
      let cut : limited (limit_left limit count) (part upto a.rest) ≡ low ++ limited (limit_left limit (count + step_size)) (part upto b.rest) =
      ap (limited (limit_left limit count)) step_split
      ∙ limited_two (limit_left limit count) step_size (take step_size (numbers_to n a.rest)) (part upto b.rest) long (left_within limit count (numbers_to n a.rest))
      ∙ ap (λ l. take step_size (numbers_to n a.rest) ++ limited l (part upto b.rest)) (sym (left_more limit count step_size))
      ∙ ap (λ xs. xs ++ limited (limit_left limit (count + step_size)) (part upto b.rest)) (sym step_given) in
      let same : searched a ≡ searched old = ap searched w.takes.question in
      let here : looks_of b ≡ part_looks (Some n) (searched old) (looks_of a) (limit_left limit count) (numbers_to n a.rest) =
      looks ∙ ap (λ (s : Search). part_looks (Some n) s (looks_of a) (limit_left limit count) (numbers_to n a.rest)) same in
      record {
        given = w.given ++ low;
        split = w.split ∙ ap (λ xs. w.given ++ xs) cut ∙ sym (append_assoc w.given low (limited (limit_left limit (count + step_size)) (part upto b.rest)));
        counted = length-append w.given low ∙ ap (λ m. m + step_size) w.counted;
        low = both_have (λ m. m ≤ n) w.given low (weaker reached n w.given more w.low)
            (subst (λ xs. AllByRecursion (λ m. m ≤ n) xs) (sym step_given) (first_have (λ m. m ≤ n) step_size (numbers_to n a.rest) up_to));
        takes = takes_both old a b count step_size w.takes takes;
        within = still_within limit count (numbers_to n a.rest) w.within;
        looks =
            ap (λ l. part_looks upto (searched old) (looks_of b) l (part upto b.rest)) (left_more limit count step_size)
            ∙ ap (λ x. part_looks upto (searched old) x (limit_left (limit_left limit count) step_size) (part upto b.rest)) here
            ∙ step_looks upto (limit_left limit count) (searched old) (looks_of a) n step_size (numbers_to n a.rest) (part upto b.rest) (part upto a.rest) within refl step_split
            ∙ w.looks;
      }

  -- Where the limit isn't reached, all numbers up to n were given, and no other.
  pub above_left : limit ≢ Some (count + step_size) → AllByRecursion (λ m. n < m) b.rest
  above_left short =
      let all = all_given limit count (numbers_to n a.rest) w.within short in
      let gone : drop step_size a.rest ≡ numbers_above n a.rest =
      ap (drop step_size) order ∙ drop_at (numbers_to n a.rest) (numbers_above n a.rest) step_size (sym all) in
      subst (λ xs. AllByRecursion (λ m. n < m) xs) (sym (takes.rest ∙ gone)) (kept_pass (nat_lt n) (λ m. n < m) (λ m h. above_is m n h) a.rest)

pub given_to : (upto limit : Option ℕ) (old new : Cursor) (count n : ℕ) (w : OnTheWay upto limit old new count n) → AllByRecursion (λ m. n < m) new.rest
    → numbers_to n (limited limit (part upto old.rest)) ≡ w.given
given_to upto limit old new count n w high =
    let left = limited (limit_left limit count) (part upto new.rest) in
    let above = limited_have (λ m. n < m) (limit_left limit count) (part upto new.rest) (part_have (λ m. n < m) upto new.rest high) in
    ap (numbers_to n) w.split ∙ filter-append (λ m. nat_le m n) w.given left
    ∙ ap (λ xs. xs ++ numbers_to n left) (all_to n w.given w.low) ∙ ap (λ xs. w.given ++ xs) (none_to n left above) ∙ append-nil w.given

-- ---- what was written
pub telling_begins : (text_to : ℕ → List ℕ) (old : WriteLog) → Telling text_to [] old old [] []
telling_begins text_to old = record { base = old; before = []; since = []; first = (refl, refl); sent = sends_none old []; all = refl }

pub telling_more : (text_to : ℕ → List ℕ) (told : List ℕ) (old a b : WriteLog) (w0 w1 written more : List ℕ) → Telling text_to told old a w0 written → SendsAll a b w0 w1 more
    → Telling text_to told old b w1 (written ++ more)
telling_more text_to told old a b w0 w1 written more t s = record {
  base = t.base;
  before = t.before;
  since = t.since ++ more;
  first = t.first;
  sent = sends_more t.base a b [] w0 w1 t.since more t.sent s;
  all = ap (λ xs. xs ++ more) t.all ∙ append_assoc t.before t.since more;
}

-- a writer that fails
broken : (text_to : ℕ → List ℕ) (told : List ℕ) (old base b : WriteLog) (before left whole : List ℕ) → IsBase text_to told old base before → whole ≡ before ++ left
    → PutsPrefix base b left → BreaksAfter told text_to whole old b
broken text_to [] old base b before left whole first is p =
    let same : left ≡ whole = sym (is ∙ ap (λ xs. xs ++ left) first.1) in
    subst (λ xs. PutsPrefix old b xs) same (subst (λ (a : WriteLog). PutsPrefix a b left) first.0 p)
broken text_to (n ∷ told) old base b before left whole first is p = (base, left, is ∙ ap (λ xs. xs ++ left) first.1, first.0, p)

pub telling_breaks : (text_to : ℕ → List ℕ) (told : List ℕ) (old a b : WriteLog) (waits written next after whole : List ℕ) → Telling text_to told old a waits written
    → whole ≡ written ++ (next ++ after) → PutsPrefix a b (waits ++ next) → BreaksAfter told text_to whole old b
telling_breaks text_to told old a b waits written next after whole t is p =
    broken text_to told old t.base b t.before (t.since ++ (next ++ after)) whole t.first
    (is ∙ ap (λ xs. xs ++ (next ++ after)) t.all ∙ append_assoc t.before t.since (next ++ after))
    (sends_prefix t.base a b [] waits (t.since ++ (next ++ after)) t.since next after refl t.sent p)

pub telling_stops : (text_to : ℕ → List ℕ) (told : List ℕ) (old a b : WriteLog) (waits written after whole : List ℕ) → Telling text_to told old a waits written
    → whole ≡ written ++ after → PutsPrefix a b waits → BreaksAfter told text_to whole old b
telling_stops text_to told old a b waits written after whole t is p =
    telling_breaks text_to told old a b waits written [] after whole t is (subst (λ xs. PutsPrefix a b xs) (sym (append-nil waits)) p)

-- all that waited is written
flushed : (text_to : ℕ → List ℕ) (told : List ℕ) (old base b : WriteLog) (before since : List ℕ) → IsBase text_to told old base before → PutsAll base b since → PutsAll old b (before ++ since)
flushed text_to [] old base b before since first p =
    let same : since ≡ before ++ since = sym (ap (λ xs. xs ++ since) first.1) in
    subst (λ xs. PutsAll old b xs) same (subst (λ (a : WriteLog). PutsAll a b since) first.0 p)
flushed text_to (n ∷ told) old base b before since first p =
    subst (λ xs. PutsAll old b (xs ++ since)) (sym first.1) (puts_more old base b (text_to n) since first.0 p)

pub telling_flushed : (text_to : ℕ → List ℕ) (told : List ℕ) (old a b : WriteLog) (waits written : List ℕ) → Telling text_to told old a waits written → PutsAll a b waits → PutsAll old b written
telling_flushed text_to told old a b waits written t p =
    subst (λ xs. PutsAll old b xs) (sym t.all) (flushed text_to told old t.base b t.before t.since t.first (flush_all t.base a b waits t.since t.sent p))

pub telling_anew : (text_to : ℕ → List ℕ) (told : List ℕ) (n : ℕ) (old b : WriteLog) (written : List ℕ) → PutsAll old b written → written ≡ text_to n → Telling text_to (n ∷ told) old b [] written
telling_anew text_to told n old b written p is = record {
  base = b;
  before = text_to n;
  since = [];
  first = (subst (λ xs. PutsAll old b xs) is p, refl);
  sent = sends_none b [];
  all = is ∙ sym (append-nil (text_to n));
}

-- ---- both
abbrev pub asked_of : Option ℕ → Option ℕ → Cursor → List ℕ
asked_of upto limit c = limited limit (part upto c.rest)

abbrev pub text_to_of : Option ℕ → Option ℕ → Cursor → ℕ → List ℕ
text_to_of upto limit c n = cause_text c.program c.listed (numbers_to n (asked_of upto limit c))

abbrev pub text_of : Option ℕ → Option ℕ → Cursor → List ℕ
text_of upto limit c = cause_text c.program c.listed (asked_of upto limit c)

abbrev pub head_of : Cursor → List ℕ
head_of c = header c.program c.listed

-- what was told before the rows could not be written
abbrev pub EndsAtRows : Bool → Option ℕ → Option ℕ → Cursor → (out out' err err' : WriteLog) → Type 0
EndsAtRows lines upto limit old out out' err err' = (told : List ℕ) × BreaksAfter told (text_to_of upto limit old) (text_of upto limit old) out out' × AreTold lines told err err'

-- So many rows were given and are written or wait, and the lines of some numbers are written.
pub record Stands (lines : Bool) (upto limit : Option ℕ) (old new : Cursor) (count reached : ℕ) (out out' err err' : WriteLog) (waits : List ℕ) : Type 0 where
  pub way : OnTheWay upto limit old new count reached
  pub told : List ℕ
  pub rows : Telling (text_to_of upto limit old) told out out' waits (head_of old ++ rows (length old.listed) way.given)
  pub told_lines : AreTold lines told err err'

-- the text, cut where the rows that were given end
whole_is : (upto limit : Option ℕ) (old new : Cursor) (count reached : ℕ) (w : OnTheWay upto limit old new count reached)
    → text_of upto limit old ≡ (head_of old ++ rows (length old.listed) w.given) ++ rows (length old.listed) (limited (limit_left limit count) (part upto new.rest))
whole_is upto limit old new count reached w =
    let k = length old.listed in
    let left = limited (limit_left limit count) (part upto new.rest) in
    ap (λ xs. head_of old ++ rows k xs) w.split ∙ ap (λ xs. head_of old ++ xs) (rows_both k w.given left)
    ∙ sym (append_assoc (head_of old) (rows k w.given) (rows k left))

module _ (lines : Bool) (upto limit : Option ℕ) (old new : Cursor) (count reached : ℕ) (out a b err err' : WriteLog) (waits : List ℕ) (s : Stands lines upto limit old new count reached out a err err' waits) where
  -- the next rows could not be written
  pub breaks_at_rows : (next after : List ℕ) → rows (length old.listed) (limited (limit_left limit count) (part upto new.rest)) ≡ next ++ after → PutsPrefix a b (waits ++ next)
      → EndsAtRows lines upto limit old out b err err'
  breaks_at_rows next after is p = (
    s.told,
    telling_breaks (text_to_of upto limit old) s.told out a b waits (head_of old ++ rows (length old.listed) s.way.given) next after (text_of upto limit old) s.rows
        (whole_is upto limit old new count reached s.way ∙ ap (λ xs. (head_of old ++ rows (length old.listed) s.way.given) ++ xs) is) p,
    s.told_lines,
  )

  -- what waits could not be written
  pub breaks_at_flush : PutsPrefix a b waits → EndsAtRows lines upto limit old out b err err'
  breaks_at_flush p = (
    s.told,
    telling_stops (text_to_of upto limit old) s.told out a b waits (head_of old ++ rows (length old.listed) s.way.given)
        (rows (length old.listed) (limited (limit_left limit count) (part upto new.rest))) (text_of upto limit old) s.rows (whole_is upto limit old new count reached s.way) p,
    s.told_lines,
  )

  -- the last rows
  pub all_sent : (w1 : List ℕ) → SendsAll a b waits w1 (rows (length old.listed) (limited (limit_left limit count) (part upto new.rest)))
      → TellsSent lines (text_to_of upto limit old) (text_of upto limit old) out b w1 err err'
  all_sent w1 sent =
      let more = telling_more (text_to_of upto limit old) s.told out a b waits w1 (head_of old ++ rows (length old.listed) s.way.given)
      (rows (length old.listed) (limited (limit_left limit count) (part upto new.rest))) s.rows sent in
      (s.told, subst (λ xs. Telling (text_to_of upto limit old) s.told out b w1 xs) (sym (whole_is upto limit old new count reached s.way)) more, s.told_lines)

-- ---- a step and then a line
module _ (lines : Bool) (upto limit : Option ℕ) (old a b : Cursor) (count reached n : ℕ) (out o1 o2 err e1 : WriteLog) (w0 w1 : List ℕ)
    (s : Stands lines upto limit old a count reached out o1 err e1 w0)
    (within : IfSome upto (λ last. n ≤ last)) (order : a.rest ≡ numbers_to n a.rest ++ numbers_above n a.rest)
    (takes : Takes a b (length (limited (limit_left limit count) (numbers_to n a.rest)))) (more : reached ≤ n)
    (looks : looks_of b ≡ part_looks (Some n) (searched a) (looks_of a) (limit_left limit count) (numbers_to n a.rest))
    (sent : SendsAll o1 o2 w0 w1 (rows (length old.listed) (limited (limit_left limit count) (numbers_to n a.rest)))) where
  abbrev pub size : ℕ
  size = length (limited (limit_left limit count) (numbers_to n a.rest))

  pub stepped : Stands lines upto limit old b (count + size) n out o2 err e1 w1
  unfolding way_on
  stepped =
      let k = length old.listed in
      let low = limited (limit_left limit count) (numbers_to n a.rest) in
      let way = way_on upto limit old a b count reached n s.way within order takes more looks in
      let text : (head_of old ++ rows k s.way.given) ++ rows k low ≡ head_of old ++ rows k (s.way.given ++ low) =
      append_assoc (head_of old) (rows k s.way.given) (rows k low) ∙ ap (λ xs. head_of old ++ xs) (sym (rows_both k s.way.given low)) in
      record {
        way = way;
        told = s.told;
        rows = subst (λ xs. Telling (text_to_of upto limit old) s.told out o2 w1 xs) text
            (telling_more (text_to_of upto limit old) s.told out o1 o2 w0 w1 (head_of old ++ rows k s.way.given) (rows k low) s.rows sent);
        told_lines = s.told_lines;
      }

  -- all up to n is written, and no other
  up_to_is : limit ≢ Some (count + size) → head_of old ++ rows (length old.listed) (s.way.given ++ limited (limit_left limit count) (numbers_to n a.rest)) ≡ text_to_of upto limit old n
  unfolding way_on
  up_to_is short =
      let way = way_on upto limit old a b count reached n s.way within order takes more looks in
      let high = above_left upto limit old a b count reached n s.way within order takes short in
      ap (λ xs. head_of old ++ rows (length old.listed) xs) (sym (given_to upto limit old b (count + size) n way high))

  pub told_on : (o3 e2 : WriteLog) → lines ≡ true → limit ≢ Some (count + size) → PutsAll o2 o3 w1 → PutsAll e1 e2 (reached_line n) → Stands lines upto limit old b (count + size) n out o3 err e2 []
  unfolding stepped way_on
  told_on o3 e2 some short p q =
      let k = length old.listed in
      let low = limited (limit_left limit count) (numbers_to n a.rest) in
      let st = stepped in
      let all = telling_flushed (text_to_of upto limit old) s.told out o2 o3 w1 (head_of old ++ rows k (s.way.given ++ low)) st.rows p in
      record {
        way = st.way;
        told = n ∷ s.told;
        rows = telling_anew (text_to_of upto limit old) s.told n out o3 (head_of old ++ rows k (s.way.given ++ low)) all (up_to_is short);
        told_lines = (λ none. absurd (true_false (sym some ∙ none)), puts_more err e1 e2 (reached_text s.told) (reached_line n) s.told_lines.1 q);
      }

  -- what waited is written, and no number is told
  pub flushed_on : (o3 : WriteLog) → PutsAll o2 o3 w1 → Stands lines upto limit old b (count + size) n out o3 err e1 []
  unfolding stepped way_on
  flushed_on o3 p =
      let k = length old.listed in
      let written = head_of old ++ rows k (s.way.given ++ limited (limit_left limit count) (numbers_to n a.rest)) in
      let st = stepped in
      let sent : SendsAll o2 o3 w1 [] [] = record { sent = w1; cut = refl; wrote = p } in
      record {
        way = st.way;
        told = s.told;
        rows = subst (λ xs. Telling (text_to_of upto limit old) s.told out o3 [] xs) (append-nil written)
            (telling_more (text_to_of upto limit old) s.told out o2 o3 w1 [] written [] st.rows sent);
        told_lines = s.told_lines;
      }

  -- the line could not be written
  pub untold : (o3 e2 : WriteLog) → limit ≢ Some (count + size) → PutsAll o2 o3 w1 → PutsPrefix e1 e2 (reached_line n)
      → (m : ℕ) × (told : List ℕ) × PutsAll out o3 (text_to_of upto limit old m) × PutsPrefix err e2 (reached_text (m ∷ told))
  unfolding stepped way_on
  untold o3 e2 short p q =
      let k = length old.listed in
      let low = limited (limit_left limit count) (numbers_to n a.rest) in
      let st = stepped in
      let all = telling_flushed (text_to_of upto limit old) s.told out o2 o3 w1 (head_of old ++ rows k (s.way.given ++ low)) st.rows p in (
        n,
        s.told,
        subst (λ xs. PutsAll out o3 xs) (up_to_is short) all,
        prefix_after err e1 e2 (reached_text s.told ++ reached_line n) (reached_text s.told) (reached_line n) []
            (sym (append-nil (reached_text s.told ++ reached_line n))) s.told_lines.1 q,
      )

-- ---- how it ends
-- the header, and then nothing yet
pub headed : (lines : Bool) (upto limit : Option ℕ) (c : Cursor) (out o1 err : WriteLog) (w0 w1 held : List ℕ) → w0 ≡ [] → held ≡ [] → SendsAll out o1 w0 w1 (head_of c)
    → Stands lines upto limit c c 0 0 out o1 err err (w1 ++ held)
unfolding way_begins
headed lines upto limit c out o1 err w0 block held none empty first =
    let w1 = block ++ held in
    let same : block ≡ w1 = sym (ap (λ xs. block ++ xs) empty ∙ append-nil block) in
    let sent0 = subst (λ w. SendsAll out o1 [] w (head_of c)) same (subst (λ w. SendsAll out o1 w block (head_of c)) none first) in
    record {
      way = way_begins upto limit c;
      told = [];
      rows = subst (λ xs. Telling (text_to_of upto limit c) [] out o1 w1 xs) (sym (append-nil (head_of c)))
          (telling_more (text_to_of upto limit c) [] out out o1 [] w1 [] (head_of c) (telling_begins (text_to_of upto limit c) out) sent0);
      told_lines = (λ none. refl, puts_none err);
    }

-- What waited is the text.
pub waited_text : (a b : WriteLog) (w w1 held : List ℕ) → held ≡ [] → SendsAll a b w (w1 ++ held) [] → SendsAll a b [] w1 w
waited_text a b w w1 held none s = record {
  sent = s.sent;
  cut = sym (append-nil w) ∙ s.cut ∙ ap (λ xs. s.sent ++ (w1 ++ xs)) none ∙ ap (λ xs. s.sent ++ xs) (append-nil w1);
  wrote = s.wrote;
}

pub listed_same : (old new : Cursor) (n : ℕ) → Takes old new n → new.listed ≡ old.listed
listed_same old new n t = ap (λ (c : Cursor). c.listed) t.question

-- ---- a step, as its calls say it
pub within_end : (upto : Option ℕ) (end stop : ℕ) → IfSome upto (λ last. end ≡ last) → stop < end → IfSome upto (λ last. stop ≤ last)
within_end None end stop h less = tt
within_end (Some last) end stop h less = omega (arith, h, less)

-- What was given and what comes next are some of the whole.
module _ (upto limit : Option ℕ) (old a : Cursor) (count reached : ℕ) (w : OnTheWay upto limit old a count reached) where
  pub way_long : count + length (limited (limit_left limit count) (part upto a.rest)) ≡ length (limited limit (part upto old.rest))
  way_long =
      let left = limited (limit_left limit count) (part upto a.rest) in
      ap (λ m. m + length left) (sym w.counted) ∙ sym (length-append w.given left) ∙ sym (ap length w.split)

  pub way_short : length (limited limit (part upto old.rest)) ≤ length old.rest
  way_short =
      let one = limited_few limit (part upto old.rest) in
      let other = part_short upto old.rest in
      omega (arith, one, other)

-- The numbers up to n are the first of what is left.
module _ (upto limit : Option ℕ) (a : Cursor) (count n : ℕ) (within : IfSome upto (λ last. n ≤ last)) (order : a.rest ≡ numbers_to n a.rest ++ numbers_above n a.rest) where
  next_cut : limited (limit_left limit count) (part upto a.rest)
      ≡ limited (limit_left limit count) (numbers_to n a.rest)
      ++ limited (limit_left (limit_left limit count) (length (limited (limit_left limit count) (numbers_to n a.rest))))
      (part upto (drop (length (limited (limit_left limit count) (numbers_to n a.rest))) a.rest))
  next_cut =
      let left = limit_left limit count in
      let low = numbers_to n a.rest in
      let size = length (limited left low) in
      let few = limited_few left low in
      let split : part upto a.rest ≡ take size low ++ part upto (drop size a.rest) =
      ap (part upto) order
      ∙ part_cut upto n size low (numbers_above n a.rest) within (kept_pass (λ m. nat_le m n) (λ m. m ≤ n) (λ m h. leb-true m n h) a.rest) few
      ∙ ap (λ xs. take size low ++ part upto (drop size xs)) (sym order) in
      ap (limited left) split
      ∙ limited_two left size (take size low) (part upto (drop size a.rest)) (length-take-le size low few) (left_within limit count low)
      ∙ ap (λ xs. xs ++ limited (limit_left left size) (part upto (drop size a.rest))) (sym (limited_is left low))

  pub next_rows : (k : ℕ) → rows k (limited (limit_left limit count) (part upto a.rest))
      ≡ rows k (limited (limit_left limit count) (numbers_to n a.rest))
      ++ rows k (limited (limit_left (limit_left limit count) (length (limited (limit_left limit count) (numbers_to n a.rest))))
      (part upto (drop (length (limited (limit_left limit count) (numbers_to n a.rest))) a.rest)))
  next_rows k = ap (rows k) next_cut ∙ rows_both k _ _

  pub next_few : length (limited (limit_left limit count) (numbers_to n a.rest)) ≤ length (limited (limit_left limit count) (part upto a.rest))
  next_few =
      let cut = ap length next_cut in
      let both = length-append (limited (limit_left limit count) (numbers_to n a.rest))
      (limited (limit_left (limit_left limit count) (length (limited (limit_left limit count) (numbers_to n a.rest))))
      (part upto (drop (length (limited (limit_left limit count) (numbers_to n a.rest))) a.rest))) in
      omega (arith, cut, both)

module _ (lines : Bool) (upto limit : Option ℕ) (old a : Cursor) (count reached n : ℕ) (out o1 err e1 : WriteLog) (w0 : List ℕ) (s : Stands lines upto limit old a count reached out o1 err e1 w0)
    (left : Option ℕ) (listed : List ℕ) (is_left : left ≡ limit_left limit count) (is_listed : listed ≡ old.listed) where
  -- the last rows, written or not
  pub last_sent : (o2 : WriteLog) (w1 : List ℕ) → SendsAll o1 o2 w0 w1 (rows (length listed) (limited left (part upto a.rest)))
      → TellsSent lines (text_to_of upto limit old) (text_of upto limit old) out o2 w1 err e1
  last_sent o2 w1 sent =
      all_sent lines upto limit old a count reached out o1 o2 err e1 w0 s w1
      (subst (λ l. SendsAll o1 o2 w0 w1 (rows (length old.listed) (limited l (part upto a.rest)))) is_left
      (subst (λ (xs : List ℕ). SendsAll o1 o2 w0 w1 (rows (length xs) (limited left (part upto a.rest)))) is_listed sent))

  pub last_breaks : (o2 : WriteLog) → PutsPrefix o1 o2 (w0 ++ rows (length listed) (limited left (part upto a.rest)))
      → EndsAtRows lines upto limit old out o2 err e1
  last_breaks o2 p =
      breaks_at_rows lines upto limit old a count reached out o1 o2 err e1 w0 s (rows (length old.listed) (limited (limit_left limit count) (part upto a.rest))) [] (sym (append-nil _))
      (subst (λ l. PutsPrefix o1 o2 (w0 ++ rows (length old.listed) (limited l (part upto a.rest)))) is_left
      (subst (λ (xs : List ℕ). PutsPrefix o1 o2 (w0 ++ rows (length xs) (limited left (part upto a.rest)))) is_listed p))

  pub last_counted : (more : ℕ) → more ≡ length (limited left (part upto a.rest)) → count + more ≡ length (limited limit (part upto old.rest))
  last_counted more is =
      ap (λ m. count + m) (is ∙ ap (λ l. length (limited l (part upto a.rest))) is_left) ∙ way_long upto limit old a count reached s.way

  module _ (within : IfSome upto (λ last. n ≤ last)) (order : a.rest ≡ numbers_to n a.rest ++ numbers_above n a.rest) where
    -- rows up to n that could not be written
    pub step_breaks : (o2 : WriteLog) → PutsPrefix o1 o2 (w0 ++ rows (length listed) (limited left (part (Some n) a.rest)))
        → EndsAtRows lines upto limit old out o2 err e1
    step_breaks o2 p =
        breaks_at_rows lines upto limit old a count reached out o1 o2 err e1 w0 s _ _ (next_rows upto limit a count n within order (length old.listed))
        (subst (λ l. PutsPrefix o1 o2 (w0 ++ rows (length old.listed) (limited l (numbers_to n a.rest)))) is_left
        (subst (λ (xs : List ℕ). PutsPrefix o1 o2 (w0 ++ rows (length xs) (limited left (numbers_to n a.rest)))) is_listed p))

    pub rows_few : count + length (limited left (part (Some n) a.rest)) ≤ length (limited limit (part upto old.rest))
    rows_few =
        let same : length (limited left (numbers_to n a.rest)) ≡ length (limited (limit_left limit count) (numbers_to n a.rest)) = ap (λ l. length (limited l (numbers_to n a.rest))) is_left in
        let few = next_few upto limit a count n within order in
        let long = way_long upto limit old a count reached s.way in
        omega (arith, same, few, long)

    pub step_took : (b : Cursor) → TakesAtMost a b (length (limited left (part (Some n) a.rest))) → TakesAtMost old b (length (limited limit (part upto old.rest)))
    step_took b t =
        let few = rows_few in
        (count + t.0, omega (arith, few, t.1), takes_both old a b count t.0 s.way.takes t.2)

    module _ (b : Cursor) (o2 : WriteLog) (w1 : List ℕ) (more : ℕ) (up : reached ≤ n) (counted : more ≡ length (limited left (part (Some n) a.rest))) (took : Takes a b more)
        (looked : looks_of b ≡ part_looks (Some n) (searched a) (looks_of a) left (part (Some n) a.rest))
        (sent : SendsAll o1 o2 w0 w1 (rows (length listed) (limited left (part (Some n) a.rest)))) where
      is_size : more ≡ length (limited (limit_left limit count) (numbers_to n a.rest))
      is_size = counted ∙ ap (λ l. length (limited l (numbers_to n a.rest))) is_left

      takes_size : Takes a b (length (limited (limit_left limit count) (numbers_to n a.rest)))
      takes_size = subst (λ m. Takes a b m) is_size took

      looks_size : looks_of b ≡ part_looks (Some n) (searched a) (looks_of a) (limit_left limit count) (numbers_to n a.rest)
      looks_size = looked ∙ ap (λ l. part_looks (Some n) (searched a) (looks_of a) l (numbers_to n a.rest)) is_left

      sends_size : SendsAll o1 o2 w0 w1 (rows (length old.listed) (limited (limit_left limit count) (numbers_to n a.rest)))
      sends_size =
          subst (λ l. SendsAll o1 o2 w0 w1 (rows (length old.listed) (limited l (numbers_to n a.rest)))) is_left
          (subst (λ (xs : List ℕ). SendsAll o1 o2 w0 w1 (rows (length xs) (limited left (numbers_to n a.rest)))) is_listed sent)

      pub step_on : Stands lines upto limit old b (count + more) n out o2 err e1 w1
      step_on =
          subst (λ m. Stands lines upto limit old b (count + m) n out o2 err e1 w1) (sym is_size)
          (stepped lines upto limit old a b count reached n out o1 o2 err e1 w0 w1 s within order takes_size up looks_size sends_size)

      short_size : limit ≢ Some (count + more) → limit ≢ Some (count + length (limited (limit_left limit count) (numbers_to n a.rest)))
      short_size short e = short (e ∙ ap (λ m. Some (count + m)) (sym is_size))

      pub step_told : (o3 e2 : WriteLog) (block held : List ℕ) → limit ≢ Some (count + more) → PutsAll o2 o3 w1 → IsTold lines n e1 e2 → block ≡ [] → held ≡ []
          → Stands lines upto limit old b (count + more) n out o3 err e2 (block ++ held)
      step_told o3 e2 block held short p q no_block none =
          let empty : [] ≡ block ++ held = sym (ap (λ xs. xs ++ held) no_block ∙ none) in
          subst (λ ws. Stands lines upto limit old b (count + more) n out o3 err e2 ws) empty
          (subst (λ m. Stands lines upto limit old b (count + m) n out o3 err e2 []) (sym is_size) (by lines refl q))
        where
          by : (told : Bool) → lines ≡ told → IsTold told n e1 e2 → Stands lines upto limit old b (count + length (limited (limit_left limit count) (numbers_to n a.rest))) n out o3 err e2 []
          by true is h = told_on lines upto limit old a b count reached n out o1 o2 err e1 w0 w1 s within order takes_size up looks_size sends_size o3 e2 is (short_size short) p h
          by false is h =
              subst (λ (e : WriteLog). Stands lines upto limit old b (count + length (limited (limit_left limit count) (numbers_to n a.rest))) n out o3 err e []) (sym h)
              (flushed_on lines upto limit old a b count reached n out o1 o2 err e1 w0 w1 s within order takes_size up looks_size sends_size o3 p)

      pub step_untold : (f : ProgressFault) (o3 e2 : WriteLog) → limit ≢ Some (count + more) → IsUntold lines f w1 n o2 o3 e1 e2
          → TellsEnd lines f (text_to_of upto limit old) (text_of upto limit old) out o3 err e2
      step_untold Rows o3 e2 short h =
          let at = breaks_at_flush lines upto limit old b (count + more) n out o2 o3 err e1 w1 step_on h.0 in
          (at.0, at.1, subst (λ (e : WriteLog). AreTold lines at.0 err e) (sym h.1) at.2)
      step_untold Lines o3 e2 short h =
          (h.0, untold lines upto limit old a b count reached n out o1 o2 err e1 w0 w1 s within order takes_size up looks_size sends_size o3 e2 (short_size short) h.1 h.2)
