-- The parts of a duration are read exactly where they stand, and their sum is made.
use Rattle.std.proofs.Common.{◌≡◌, ℕ, zero, suc, ◌+◌, ◌*◌, ◌<◌, ◌≤◌, ◌⊎◌, inl, inr, min, true, false, ◌==◌, nat_lt, List, [], ◌∷◌, ◌++◌, length, Some, refl, sym, ap, subst, ◌∙◌, arith, ◌^◌, ◌&&◌}
use Rattle.std.specs.List.{list_all, sum_by}
use Rattle.std.specs.Char.{is_ascii_digit, is_ascii_alphabetic}
use Rattle.std.proofs.lemmas.Bool.{eqb-true, and_parts, ltb-true, lt-ltb}
use Rattle.std.proofs.lemmas.Bool.Decides.{nat_tests}
use Rattle.std.proofs.lemmas.List.{length-append, append-nil}
use Rattle.std.proofs.lemmas.List.Sums.{sum_by-cons}
use Rattle.diagram_declarations.specs.declared.time.Unit.{Unit as TimeUnit}
use Rattle.diagram_declarations.specs.declared.time.Unit.TheVariants as time_unit
use Rattle.diagram_declarations.specs.Duration.{number_of, Time, IsTime, AreTimes}
use Rattle.diagram_declarations.specs.ReadTimes.{millis_of, range_of, PartAt, part_at, after_underscore, total_from, total_of}
use Rattle.diagram_declarations.proofs.Steps.{bind_some, chosen}
use Rattle.diagram_declarations.proofs.Runs.{begins}
use Rattle.diagram_declarations.proofs.PartLaws.{cap, part_reads, TakesPart, part_takes}

-- ---- sums that are cut at a limit

range-le : (u : TimeUnit) → range_of u ≤ 1000
range-le time_unit.Day = omega arith
range-le time_unit.Hour = omega arith
range-le time_unit.Minute = omega arith
range-le time_unit.Second = omega arith
range-le time_unit.Milli = omega arith

-- a number that is cut makes no difference to a sum that is
with_part-cut : (t v : ℕ) (u : TimeUnit) → min (t + min v cap * millis_of u) (2 ^ 32) ≡ min (t + v * millis_of u) cap
with_part-cut t v time_unit.Day = omega arith
with_part-cut t v time_unit.Hour = omega arith
with_part-cut t v time_unit.Minute = omega arith
with_part-cut t v time_unit.Second = omega arith
with_part-cut t v time_unit.Milli = omega arith

abbrev pub sum_of : List Time → ℕ
sum_of ps = sum_by (λ p. number_of p.digits * millis_of p.unit) ps

sum_of-cons : (p : Time) (ps : List Time) → sum_of (p ∷ ps) ≡ number_of p.digits * millis_of p.unit + sum_of ps
sum_of-cons p ps = sum_by-cons (λ x. number_of x.digits * millis_of x.unit) p ps

-- ---- what follows a part

-- behind the part p come these parts
abbrev Follows : Time → List Time → List ℕ → Type 0
Follows p [] rest = rest ≡ []
Follows p (q ∷ ps) rest =
    (between after : List ℕ) × (rest ≡ between ++ after) × ((between ≡ []) ⊎ (between ≡ 95 ∷ [])) × (millis_of q.unit < millis_of p.unit)
    × (number_of q.digits < range_of q.unit) × AreTimes (q ∷ ps) after

record FirstPart (p : Time) (ps : List Time) (text : List ℕ) : Type 0 where
  is_part : IsTime p
  rest : List ℕ
  parts : text ≡ p.digits ++ (p.letters ++ rest)
  follows : Follows p ps rest

first_part : (p : Time) (ps : List Time) (text : List ℕ) → AreTimes (p ∷ ps) text → FirstPart p ps text
first_part p [] text h =
    record { is_part = h.0; rest = []; parts = h.1 ∙ ap (λ z. p.digits ++ z) (sym (append-nil p.letters)); follows = refl }
first_part p (q ∷ ps) text h =
    record { is_part = h.2; rest = h.0 ++ h.1; parts = h.3; follows = (h.0, h.1, refl, h.4, h.5, h.6, h.7) }

make_parts : (p : Time) (ps : List Time) (text rest : List ℕ) → IsTime p → text ≡ p.digits ++ (p.letters ++ rest) → Follows p ps rest → AreTimes (p ∷ ps) text
make_parts p [] text rest is_part parts f = (is_part, parts ∙ ap (λ z. p.digits ++ z) (ap (λ z. p.letters ++ z) f ∙ append-nil p.letters))
make_parts p (q ∷ ps) text rest is_part parts f =
    (f.0, f.1, is_part, parts ∙ ap (λ z. p.digits ++ (p.letters ++ z)) f.2, f.3, f.4, f.5, f.6)

-- a part begins with a digit
record Starts (text : List ℕ) : Type 0 where
  digit : ℕ
  others : List ℕ
  text_is : text ≡ digit ∷ others
  is_digit : is_ascii_digit digit ≡ true

digits_start : (ds rest : List ℕ) → 1 ≤ length ds → list_all is_ascii_digit ds ≡ true → Starts (ds ++ rest)
digits_start [] rest some all = absurd (omega arith)
digits_start (d ∷ ds) rest some all =
    record { digit = d; others = ds ++ rest; text_is = refl; is_digit = (and_parts (is_ascii_digit d) (list_all is_ascii_digit ds) all).0 }

starts : (p : Time) (ps : List Time) (text : List ℕ) → FirstPart p ps text → Starts text
starts p ps text f = rw f.parts (digits_start p.digits (p.letters ++ f.rest) f.is_part.0 f.is_part.1)

digit_no_letter : (d : ℕ) → is_ascii_digit d ≡ true → is_ascii_alphabetic d ≡ false
digit_no_letter d h = grind (arith, nat_tests)

digit_no_underscore : (d : ℕ) → is_ascii_digit d ≡ true → (d == 95) ≡ false
digit_no_underscore d h = grind (arith, nat_tests)

no_letter : (p : Time) (ps : List Time) (rest : List ℕ) → Follows p ps rest → begins is_ascii_alphabetic rest ≡ false
no_letter p [] rest h = ap (begins is_ascii_alphabetic) h
no_letter p (q ∷ ps) rest (between, after, parts, inl none, smaller, range, more) =
    let s = starts q ps after (first_part q ps after more) in
    rw (parts, none, s.text_is) (digit_no_letter s.digit s.is_digit)
no_letter p (q ∷ ps) rest (between, after, parts, inr one, smaller, range, more) = rw (parts, one) refl

-- what stands behind the underscore, and that something does
record Behind (rest after : List ℕ) : Type 0 where
  first : ℕ
  others : List ℕ
  rest_is : rest ≡ first ∷ others
  after_is : after_underscore rest ≡ after

behind : (between rest after : List ℕ) → rest ≡ between ++ after → (between ≡ []) ⊎ (between ≡ 95 ∷ []) → Starts after → Behind rest after
behind between rest after parts (inl none) s =
    let same : rest ≡ s.digit ∷ s.others = parts ∙ ap (λ z. z ++ after) none ∙ s.text_is in
    let skipped : after_underscore (s.digit ∷ s.others) ≡ s.digit ∷ s.others = rw (digit_no_underscore s.digit s.is_digit) refl in
    record { first = s.digit; others = s.others; rest_is = same; after_is = ap after_underscore same ∙ skipped ∙ sym s.text_is }
behind between rest after parts (inr one) s =
    let same : rest ≡ 95 ∷ after = parts ∙ ap (λ z. z ++ after) one in
    record { first = 95; others = after; rest_is = same; after_is = ap after_underscore same }

-- ---- totals

cut_twice : (t x y c : ℕ) → min (min (t + x) c + y) c ≡ min (t + (x + y)) c
cut_twice t x y c = omega arith

cut_end : (total c : ℕ) → total ≤ c → total ≡ min (total + 0) c
cut_end total c small = omega arith

from_zero : (x c : ℕ) → min (0 + x) c ≡ min x c
from_zero x c = omega arith

follows_test : (p q : Time) → millis_of q.unit < millis_of p.unit → number_of q.digits < range_of q.unit → (nat_lt (millis_of q.unit) (millis_of p.unit) && nat_lt (min (number_of q.digits) cap) (range_of q.unit)) ≡ true
follows_test p q smaller range =
    rw (lt-ltb (millis_of q.unit) (millis_of p.unit) smaller) (lt-ltb (min (number_of q.digits) cap) (range_of q.unit) (omega arith))

total_step : (n : ℕ) (last : TimeUnit) (total b : ℕ) (bs : List ℕ) (x : PartAt) → part_at (after_underscore (b ∷ bs)) ≡ Some x → (nat_lt (millis_of x.unit) (millis_of last) && nat_lt x.number (range_of x.unit)) ≡ true
    → total_from (suc n) last total (b ∷ bs) ≡ total_from n x.unit (min (total + x.number * millis_of x.unit) (2 ^ 32)) x.rest
unfolding total_from
total_step n last total b bs x part ok = rw (part, ok) refl

total_end : (n : ℕ) (last : TimeUnit) (total : ℕ) → total_from (suc n) last total [] ≡ Some total
unfolding total_from
total_end n last total = refl

total_reads : (ps : List Time) (p : Time) (n total : ℕ) (rest : List ℕ) → length rest < n → total ≤ cap → Follows p ps rest
    → total_from n p.unit total rest ≡ Some (min (total + sum_of ps) cap)
total_reads ps p zero total rest enough small h = absurd (omega arith)
total_reads [] p (suc n) total rest enough small h =
    let same : total ≡ min (total + 0) cap = omega arith in
    rw h (total_end n p.unit total ∙ ap Some same)
total_reads (q ∷ ps) p (suc n) total rest enough small (between, after, parts, joint, smaller, range, more) =
    let f : FirstPart q ps after = first_part q ps after more in
    let b : Behind rest after = behind between rest after parts joint (starts q ps after f) in
    let v : ℕ = number_of q.digits in
    let x : PartAt = record { number = min v cap; unit = q.unit; rest = f.rest } in
    let part : part_at after ≡ Some x = ap part_at f.parts ∙ part_reads q f.rest f.is_part (no_letter q ps f.rest f.follows) in
    let there : part_at (after_underscore (b.first ∷ b.others)) ≡ Some x = ap part_at (ap after_underscore (sym b.rest_is) ∙ b.after_is) ∙ part in
    let step : total_from (suc n) p.unit total rest ≡ total_from n q.unit (min (total + min v cap * millis_of q.unit) (2 ^ 32)) f.rest
    = ap (total_from (suc n) p.unit total) b.rest_is ∙ total_step n p.unit total b.first b.others x there (follows_test p q smaller range) in
    let whole : length rest ≡ length between + length after = ap length parts ∙ length-append {A = ℕ} between after in
    let first : length after ≡ length q.digits + (length q.letters + length f.rest)
    = ap length f.parts ∙ length-append {A = ℕ} q.digits (q.letters ++ f.rest) ∙ ap (λ k. length q.digits + k) (length-append {A = ℕ} q.letters f.rest) in
    let shorter : length f.rest < n = omega (arith, whole, first, f.is_part.0) in
    let all : total_from n q.unit (min (total + v * millis_of q.unit) cap) f.rest ≡ Some (min (min (total + v * millis_of q.unit) cap + sum_of ps) cap)
    = total_reads ps q n (min (total + v * millis_of q.unit) cap) f.rest shorter (omega arith) f.follows in
    step ∙ ap (λ t. total_from n q.unit t f.rest) (with_part-cut total v q.unit) ∙ all
    ∙ ap Some (cut_twice total (v * millis_of q.unit) (sum_of ps) cap ∙ ap (λ k. min (total + k) cap) (sym (sum_of-cons q ps)))

after_underscore_is : (text : List ℕ) → (between : List ℕ) × (text ≡ between ++ after_underscore text) × ((between ≡ []) ⊎ (between ≡ 95 ∷ []))
after_underscore_is [] = ([], refl, inl refl)
after_underscore_is (b ∷ bs) =
    elim (b == 95) as (λ t. (b == 95) ≡ t → (between : List ℕ) × (b ∷ bs ≡ between ++ after_underscore (b ∷ bs)) × ((between ≡ []) ⊎ (between ≡ 95 ∷ []))) [
      | true ↦ λ e. let same : b ≡ 95 = eqb-true b 95 e in (95 ∷ [], rw e (ap (λ x. x ∷ bs) same), inr refl)
      | false ↦ λ e. ([], rw e refl, inl refl)
    ] refl

in_range : (v number range : ℕ) → number ≡ min v cap → range ≤ 1000 → number < range → v < range
in_range v number range cut small less = omega arith

record TakesParts (p : Time) (total : ℕ) (rest : List ℕ) (m : ℕ) : Type 0 where
  others : List Time
  follows : Follows p others rest
  sum : m ≡ min (total + sum_of others) cap

total_takes : (n : ℕ) (p : Time) (total : ℕ) (rest : List ℕ) (m : ℕ) → total ≤ cap → total_from n p.unit total rest ≡ Some m → TakesParts p total rest m
unfolding total_from
total_takes zero p total rest m small h = absurd cc
total_takes (suc n) p total [] m small h =
    let same : total ≡ m = cc in
    record { others = []; follows = refl; sum = sym same ∙ cut_end total cap small }
total_takes (suc n) p total (b ∷ bs) m small h =
    let x = bind_some (part_at (after_underscore (b ∷ bs))) _ m h in
    let q : PartAt = x.0 in
    elim (chosen (nat_lt (millis_of q.unit) (millis_of p.unit) && nat_lt q.number (range_of q.unit)) _ _ _ x.2) [
      | inr wrong ↦ absurd cc
      | inl ok ↦
          let t : TakesPart q (after_underscore (b ∷ bs)) = part_takes q (after_underscore (b ∷ bs)) x.1 in
          let both = and_parts (nat_lt (millis_of q.unit) (millis_of p.unit)) (nat_lt q.number (range_of q.unit)) ok.0 in
          let smaller : millis_of t.part.unit < millis_of p.unit
          = subst (λ u. millis_of u < millis_of p.unit) t.unit (ltb-true (millis_of q.unit) (millis_of p.unit) both.0) in
          let range : number_of t.part.digits < range_of t.part.unit
          = subst (λ u. number_of t.part.digits < range_of u) t.unit
          (in_range (number_of t.part.digits) q.number (range_of q.unit) t.number (range-le q.unit) (ltb-true q.number (range_of q.unit) both.1)) in
          let added : min (total + q.number * millis_of q.unit) (2 ^ 32) ≡ min (total + number_of t.part.digits * millis_of t.part.unit) cap
          = ap (λ k. min (total + k * millis_of q.unit) (2 ^ 32)) t.number ∙ with_part-cut total (number_of t.part.digits) q.unit
          ∙ ap (λ u. min (total + number_of t.part.digits * millis_of u) cap) t.unit in
          let next : total_from n t.part.unit (min (total + number_of t.part.digits * millis_of t.part.unit) cap) q.rest ≡ Some m
          = subst (λ k. total_from n t.part.unit k q.rest ≡ Some m) added (subst (λ u. total_from n u (min (total + q.number * millis_of q.unit) (2 ^ 32)) q.rest ≡ Some m) t.unit ok.1) in
          let more : TakesParts t.part (min (total + number_of t.part.digits * millis_of t.part.unit) cap) q.rest m
          = total_takes n t.part (min (total + number_of t.part.digits * millis_of t.part.unit) cap) q.rest m (omega arith) next in
          let gap = after_underscore_is (b ∷ bs) in
          record {
            others = t.part ∷ more.others;
            follows = (
              gap.0,
              after_underscore (b ∷ bs),
              gap.1,
              gap.2,
              smaller,
              range,
              make_parts t.part more.others (after_underscore (b ∷ bs)) q.rest t.is_part t.parts more.follows,
            );
            sum = more.sum ∙ cut_twice total (number_of t.part.digits * millis_of t.part.unit) (sum_of more.others) cap
                ∙ ap (λ k. min (total + k) cap) (sym (sum_of-cons t.part more.others));
          }
    ]

pub all_reads : (p : Time) (ps : List Time) (text : List ℕ) → AreTimes (p ∷ ps) text → total_of text ≡ Some (min (sum_of (p ∷ ps)) cap)
unfolding total_of
all_reads p ps text h =
    let f : FirstPart p ps text = first_part p ps text h in
    let v : ℕ = number_of p.digits in
    let x : PartAt = record { number = min v cap; unit = p.unit; rest = f.rest } in
    let part : part_at text ≡ Some x = ap part_at f.parts ∙ part_reads p f.rest f.is_part (no_letter p ps f.rest f.follows) in
    let all : total_from (length f.rest + 1) p.unit (min (0 + v * millis_of p.unit) cap) f.rest ≡ Some (min (min (0 + v * millis_of p.unit) cap + sum_of ps) cap)
    = total_reads ps p (length f.rest + 1) (min (0 + v * millis_of p.unit) cap) f.rest (omega arith) (omega arith) f.follows in
    let same : total_from (length f.rest + 1) p.unit (min (0 + min v cap * millis_of p.unit) (2 ^ 32)) f.rest ≡ Some (min (sum_of (p ∷ ps)) cap)
    = ap (λ t. total_from (length f.rest + 1) p.unit t f.rest) (with_part-cut 0 v p.unit) ∙ all
    ∙ ap Some (cut_twice 0 (v * millis_of p.unit) (sum_of ps) cap ∙ ap (λ k. min (0 + k) cap) (sym (sum_of-cons p ps)) ∙ from_zero (sum_of (p ∷ ps)) cap) in
    rw part same

pub record TakesAll (text : List ℕ) (m : ℕ) : Type 0 where
  pub parts : List Time
  pub are_parts : AreTimes parts text
  pub sum : m ≡ min (sum_of parts) cap

pub all_takes : (text : List ℕ) (m : ℕ) → total_of text ≡ Some m → TakesAll text m
unfolding total_of
all_takes text m h =
    let x = bind_some (part_at text) _ m h in
    let q : PartAt = x.0 in
    let t : TakesPart q text = part_takes q text x.1 in
    let added : min (0 + q.number * millis_of q.unit) (2 ^ 32) ≡ min (0 + number_of t.part.digits * millis_of t.part.unit) cap
    = ap (λ k. min (0 + k * millis_of q.unit) (2 ^ 32)) t.number ∙ with_part-cut 0 (number_of t.part.digits) q.unit
    ∙ ap (λ u. min (0 + number_of t.part.digits * millis_of u) cap) t.unit in
    let next : total_from (length q.rest + 1) t.part.unit (min (0 + number_of t.part.digits * millis_of t.part.unit) cap) q.rest ≡ Some m
    = subst (λ k. total_from (length q.rest + 1) t.part.unit k q.rest ≡ Some m) added
    (subst (λ u. total_from (length q.rest + 1) u (min (0 + q.number * millis_of q.unit) (2 ^ 32)) q.rest ≡ Some m) t.unit x.2) in
    let more : TakesParts t.part (min (0 + number_of t.part.digits * millis_of t.part.unit) cap) q.rest m
    = total_takes (length q.rest + 1) t.part (min (0 + number_of t.part.digits * millis_of t.part.unit) cap) q.rest m (omega arith) next in
    record {
      parts = t.part ∷ more.others;
      are_parts = make_parts t.part more.others text q.rest t.is_part t.parts more.follows;
      sum = more.sum ∙ cut_twice 0 (number_of t.part.digits * millis_of t.part.unit) (sum_of more.others) cap
          ∙ ap (λ k. min (0 + k) cap) (sym (sum_of-cons t.part more.others)) ∙ from_zero (sum_of (t.part ∷ more.others)) cap;
    }
