-- One record more of a limited list.
use Rattle.std.proofs.Common.{◌≡◌, ◌≢◌, ◌∙◌, ◌+◌, ◌-◌, ◌<◌, ◌≤◌, ℕ, suc, List, [], ◌∷◌, ◌++◌, Option, Some, None, sym, refl, ap, append_assoc, arith, length, length-append, map, take}
use Rattle.std.specs.Prelude.{IfSome}
use Rattle.std.proofs.lemmas.List.{length-take, map-append}
use Rattle.std.proofs.Math.Seq.{take-append-add}
use Rattle.io_text.proofs.Commas.{lines_text-append}
use Rattle.text_causes.specs.CauseText.{limited}
use Rattle.io_text.specs.Left.{Fields}
use Rattle.io_text.specs.Text.{lines_text}
use Rattle.io_text.specs.Buffer.{SendsAll}
use Rattle.text_causes.specs.Limit.{limit_left}
use Rattle.io_text.specs.Log.{PutsPrefix, WriteLog}
use Rattle.io_text.proofs.Sending.{sends_prefix, sends_more, sends_none}

pub limited_next : {A : Type 0} (limit : Option ℕ) (count : ℕ) (xs : List A) (n : A) (rest : List A) → xs ≡ n ∷ rest → limit ≢ Some count → IfSome limit (λ m. count ≤ m)
    → limited (limit_left limit count) xs ≡ n ∷ limited (limit_left limit (count + 1)) rest
limited_next None count xs n rest e d h = e
limited_next (Some m) count xs n rest e d h =
    let other : m ≢ count = λ q. d (ap (λ (x : ℕ). Some x) q) in
    let k : m - count ≡ suc (m - (count + 1)) = omega (arith, other) in
    rw (e, k) refl

pub below : (limit : Option ℕ) (count : ℕ) → limit ≢ Some count → IfSome limit (λ m. count ≤ m) → IfSome limit (λ m. count + 1 ≤ m)
below None count d h = tt
below (Some m) count d h = let other : m ≢ count = λ q. d (ap (λ (x : ℕ). Some x) q) in omega (arith, other)

-- the lines of records, of which so many were written before
abbrev pub lines : {A : Type 0} → (A → Fields) → ℕ → List A → List ℕ
lines f count xs = lines_text (map f xs)

-- So many items of the whole list were added, and this is left of it. `text` is that of what is left after so many.
pub record Added {A : Type 0} (a b : WriteLog) (waited waits : List ℕ) (text : ℕ → List A → List ℕ) (count : ℕ) (limit : Option ℕ) (whole left : List A) : Type 0 where
  pub done : List ℕ
  pub split : text 0 whole ≡ done ++ text count left
  pub sent : SendsAll a b waited waits done
  pub counted : count + length left ≡ length whole
  pub within : IfSome limit (λ m. count ≤ m)

-- before the first row
pub added_none : {A : Type 0} (a : WriteLog) (w : List ℕ) (text : ℕ → List A → List ℕ) (limit : Option ℕ) (xs : List A)
    → Added a a w w text 0 limit (limited limit xs) (limited (limit_left limit 0) xs)
added_none a w text None xs = record { done = []; split = refl; sent = sends_none a w; counted = omega arith; within = tt }
added_none a w text (Some m) xs =
    let same : m - 0 ≡ m = omega arith in
    record {
      done = [];
      split = ap (λ j. text 0 (take j xs)) (sym same);
      sent = sends_none a w;
      counted = omega (arith, ap (λ j. length (take j xs)) same);
      within = omega arith;
    }

-- the text of an item that comes next
abbrev pub Next : {A : Type 0} → (ℕ → List A → List ℕ) → ℕ → A → List ℕ → Type 0
Next {A = A} text count n one = (left : List A) → text count (n ∷ left) ≡ one ++ text (count + 1) left

-- one row more
pub added_more : {A : Type 0} (a b c : WriteLog) (w0 w1 w2 : List ℕ) (text : ℕ → List A → List ℕ) (count : ℕ) (limit : Option ℕ) (whole xs : List A) (n : A) (rest : List A)
    → (one : List ℕ) → Next text count n one
    → Added a b w0 w1 text count limit whole (limited (limit_left limit count) xs) → xs ≡ n ∷ rest → limit ≢ Some count → SendsAll b c w1 w2 one
    → Added a c w0 w2 text (count + 1) limit whole (limited (limit_left limit (count + 1)) rest)
added_more a b c w0 w1 w2 text count limit whole xs n rest one step so_far first short sent =
    let next = limited_next limit count xs n rest first short so_far.within in
    let left = limited (limit_left limit (count + 1)) rest in
    let counts : count + suc (length left) ≡ length whole = ap (λ ys. count + length ys) (sym next) ∙ so_far.counted in
    record {
      done = so_far.done ++ one;
      split = so_far.split ∙ ap (λ ys. so_far.done ++ text count ys) next ∙ ap (λ t. so_far.done ++ t) (step left)
          ∙ sym (append_assoc so_far.done one (text (count + 1) left));
      sent = sends_more a b c w0 w1 w2 so_far.done one so_far.sent sent;
      counted = omega (arith, counts);
      within = below limit count short so_far.within;
    }

-- the row that comes next is one of the whole list
pub added_within : {A : Type 0} (a b : WriteLog) (w0 w1 : List ℕ) (text : ℕ → List A → List ℕ) (count : ℕ) (limit : Option ℕ) (whole xs : List A) (n : A) (rest : List A)
    → Added a b w0 w1 text count limit whole (limited (limit_left limit count) xs) → xs ≡ n ∷ rest → limit ≢ Some count → count + 1 ≤ length whole
added_within a b w0 w1 text count limit whole xs n rest so_far first short =
    let next = limited_next limit count xs n rest first short so_far.within in
    let counts : count + suc (length (limited (limit_left limit (count + 1)) rest)) ≡ length whole = ap (λ ys. count + length ys) (sym next) ∙ so_far.counted in
    omega (arith, counts)

-- a row that is cut off
pub added_prefix : {A : Type 0} (a b c : WriteLog) (w0 w1 : List ℕ) (text : ℕ → List A → List ℕ) (count : ℕ) (limit : Option ℕ) (whole xs : List A) (n : A) (rest : List A)
    → (one : List ℕ) → Next text count n one
    → Added a b w0 w1 text count limit whole (limited (limit_left limit count) xs) → xs ≡ n ∷ rest → limit ≢ Some count → PutsPrefix b c (w1 ++ one)
    → PutsPrefix a c (w0 ++ text 0 whole)
added_prefix a b c w0 w1 text count limit whole xs n rest one step so_far first short failed =
    let next = limited_next limit count xs n rest first short so_far.within in
    let left = limited (limit_left limit (count + 1)) rest in
    sends_prefix a b c w0 w1 (text 0 whole) so_far.done one (text (count + 1) left)
    (so_far.split ∙ ap (λ ys. so_far.done ++ text count ys) next ∙ ap (λ t. so_far.done ++ t) (step left)) so_far.sent failed

-- ---- several items at once
pub limited_many : {A : Type 0} (limit : Option ℕ) (count : ℕ) (xs ns rest : List A) → xs ≡ ns ++ rest → IfSome limit (λ m. count + length ns ≤ m)
    → limited (limit_left limit count) xs ≡ ns ++ limited (limit_left limit (count + length ns)) rest
limited_many None count xs ns rest e h = e
limited_many (Some m) count xs ns rest e h =
    let k : m - count ≡ length ns + (m - (count + length ns)) = omega (arith, h) in
    ap (λ ys. take (m - count) ys) e ∙ ap (λ n. take n (ns ++ rest)) k ∙ take-append-add ns rest (m - (count + length ns))

-- the text of the items that come next
abbrev pub NextMany : {A : Type 0} → (ℕ → List A → List ℕ) → ℕ → List A → List ℕ → Type 0
NextMany {A = A} text count ns many = (left : List A) → text count (ns ++ left) ≡ many ++ text (count + length ns) left

pub lines_many : {A : Type 0} (f : A → Fields) (count : ℕ) (ns : List A) → NextMany (lines f) count ns (lines_text (map f ns))
lines_many f count ns left = ap lines_text (map-append f ns left) ∙ lines_text-append (map f ns) (map f left)

pub added_many : {A : Type 0} (a b c : WriteLog) (w0 w1 w2 : List ℕ) (text : ℕ → List A → List ℕ) (count : ℕ) (limit : Option ℕ) (whole xs ns rest : List A)
    → (many : List ℕ) → NextMany text count ns many
    → Added a b w0 w1 text count limit whole (limited (limit_left limit count) xs) → xs ≡ ns ++ rest → IfSome limit (λ m. count + length ns ≤ m) → SendsAll b c w1 w2 many
    → Added a c w0 w2 text (count + length ns) limit whole (limited (limit_left limit (count + length ns)) rest)
added_many a b c w0 w1 w2 text count limit whole xs ns rest many step so_far first within sent =
    let next = limited_many limit count xs ns rest first within in
    let left = limited (limit_left limit (count + length ns)) rest in
    let counts : count + length (ns ++ left) ≡ length whole = ap (λ ys. count + length ys) (sym next) ∙ so_far.counted in
    record {
      done = so_far.done ++ many;
      split = so_far.split ∙ ap (λ ys. so_far.done ++ text count ys) next ∙ ap (λ t. so_far.done ++ t) (step left)
          ∙ sym (append_assoc so_far.done many (text (count + length ns) left));
      sent = sends_more a b c w0 w1 w2 so_far.done many so_far.sent sent;
      counted = omega (arith, counts, length-append ns left);
      within = within;
    }

pub many_within : {A : Type 0} (a b : WriteLog) (w0 w1 : List ℕ) (text : ℕ → List A → List ℕ) (count : ℕ) (limit : Option ℕ) (whole xs ns rest : List A)
    → Added a b w0 w1 text count limit whole (limited (limit_left limit count) xs) → xs ≡ ns ++ rest → IfSome limit (λ m. count + length ns ≤ m) → count + length ns ≤ length whole
many_within a b w0 w1 text count limit whole xs ns rest so_far first within =
    let next = limited_many limit count xs ns rest first within in
    let left = limited (limit_left limit (count + length ns)) rest in
    let counts : count + length (ns ++ left) ≡ length whole = ap (λ ys. count + length ys) (sym next) ∙ so_far.counted in
    omega (arith, counts, length-append ns left)

-- rows that are cut off
pub many_prefix : {A : Type 0} (a b c : WriteLog) (w0 w1 : List ℕ) (text : ℕ → List A → List ℕ) (count : ℕ) (limit : Option ℕ) (whole xs ns rest : List A)
    → (many : List ℕ) → NextMany text count ns many
    → Added a b w0 w1 text count limit whole (limited (limit_left limit count) xs) → xs ≡ ns ++ rest → IfSome limit (λ m. count + length ns ≤ m) → PutsPrefix b c (w1 ++ many)
    → PutsPrefix a c (w0 ++ text 0 whole)
many_prefix a b c w0 w1 text count limit whole xs ns rest many step so_far first within failed =
    let next = limited_many limit count xs ns rest first within in
    let left = limited (limit_left limit (count + length ns)) rest in
    sends_prefix a b c w0 w1 (text 0 whole) so_far.done many (text (count + length ns) left)
    (so_far.split ∙ ap (λ ys. so_far.done ++ text count ys) next ∙ ap (λ t. so_far.done ++ t) (step left)) so_far.sent failed

-- ---- what a limit leaves
pub fits_left : (limit : Option ℕ) (count n left : ℕ) → IfSome limit (λ m. count ≤ m) → IfSome limit (λ m. left ≡ m - count) → n ≤ left → IfSome limit (λ m. count + n ≤ m)
fits_left None count n left h e few = tt
fits_left (Some m) count n left h e few = omega (arith, h, e, few)

pub some_left : (limit : Option ℕ) (count left : ℕ) → limit ≢ Some count → IfSome limit (λ m. count ≤ m) → IfSome limit (λ m. left ≡ m - count) → (limit ≡ None → left ≡ 18446744073709551615) → 0 < left
some_left None count left d h e whole = let all = whole refl in omega (arith, all)
some_left (Some m) count left d h e whole = let other : m ≢ count = λ q. d (ap (λ (x : ℕ). Some x) q) in omega (arith, other, h, e)

pub limited_short : {A : Type 0} (limit : Option ℕ) (xs : List A) → length (limited limit xs) ≤ length xs
limited_short None xs = omega arith
limited_short (Some m) xs = let h = length-take m xs in omega (arith, h)
