-- Causes that a cursor has given.
use Rattle.std.proofs.Common.{◌≡◌, ◌∙◌, ◌+◌, ◌-◌, ◌<◌, ◌≤◌, ℕ, zero, suc, List, [], ◌∷◌, ◌++◌, sym, refl, ap, arith, drop, length, length-append, length-drop, subst, take, Result, Ok, Err}
use Rattle.std.specs.Prelude.{All, IsErr, MatchResult}
use Rattle.std.specs.List.{AllByRecursion}
use Rattle.std.proofs.lemmas.List.{drop_at, length-take-le, take-append-drop, take_at}
use Rattle.std.proofs.lemmas.List.Elements.{recursion_from_All}
use Rattle.std.proofs.Math.Seq.{take-append-add}
use Rattle.text_causes.proofs.NearLaws.{drop_twice}
use Rattle.search_tree.specs.Looks.{Search, looks_until}
use Rattle.causes_one_scan.specs.Cursor.{Cursor, KeepsQuestion, Takes, looks_of, looks_through, searched}
use Rattle.text_causes.specs.CauseText.{TakesAtMost}

-- So many causes were given, and so many looks were made for them.
pub record Going (old new : Cursor) (count : ℕ) : Type 0 where
  pub takes : Takes old new count
  pub looks : looks_of new ≡ looks_through (searched old) (looks_of old) (take count old.rest)
  pub within : count ≤ length old.rest

pub going_none : (c : Cursor) → Going c c 0
going_none c = record {
  takes = record { question = refl; rest = refl };
  looks = refl;
  within = omega arith;
}

-- What is left after n and one item more.
pub dropped_one : {A : Type 0} (xs rest : List A) (x : A) (n : ℕ) → drop n xs ≡ x ∷ rest → rest ≡ drop (suc n) xs
dropped_one [] rest x zero e = cc
dropped_one [] rest x (suc n) e = cc
dropped_one (y ∷ ys) rest x zero e = cc
dropped_one (y ∷ ys) rest x (suc n) e = dropped_one ys rest x n e

-- What is left after n and some items more.
pub dropped_many : (xs ns rest : List ℕ) (n : ℕ) → drop n xs ≡ ns ++ rest → rest ≡ drop (n + length ns) xs
dropped_many xs ns rest n e = sym (drop_at ns rest (length ns) refl) ∙ ap (drop (length ns)) (sym e) ∙ drop_twice n (length ns) xs

pub taken_many : (xs ns rest : List ℕ) (n : ℕ) → n ≤ length xs → drop n xs ≡ ns ++ rest → take (n + length ns) xs ≡ take n xs ++ ns
taken_many xs ns rest n within e =
    let long = length-take-le n xs within in
    let cut : xs ≡ take n xs ++ (ns ++ rest) = sym (take-append-drop n xs) ∙ ap (λ ys. take n xs ++ ys) e in
    ap (take (n + length ns)) cut
    ∙ ap (λ m. take (m + length ns) (take n xs ++ (ns ++ rest))) (sym long)
    ∙ take-append-add (take n xs) (ns ++ rest) (length ns)
    ∙ ap (λ ys. take n xs ++ ys) (take_at ns rest (length ns) refl)

pub room_for_many : (xs ns rest : List ℕ) (n : ℕ) → n ≤ length xs → drop n xs ≡ ns ++ rest → n + length ns ≤ length xs
room_for_many xs ns rest n within e =
    let left : length xs - n ≡ length (ns ++ rest) = sym (length-drop n xs) ∙ ap length e in
    omega (arith, left, within, length-append ns rest)

-- the looks are those until the last number
pub through_both : (s : Search) (before : ℕ) (xs ys : List ℕ) → looks_through s before (xs ++ ys) ≡ looks_through s (looks_through s before xs) ys
through_both s before [] ys = refl
through_both s before (x ∷ xs) ys = through_both s (looks_until s x) xs ys

through_same : (s : Search) (before looks : ℕ) (ns : List ℕ) → before ≡ looks → AllByRecursion (λ n. looks ≡ looks_until s n) ns → looks_through s before ns ≡ looks
through_same s before looks [] e same = e
through_same s before looks (n ∷ ns) e same = through_same s (looks_until s n) looks ns (sym same.0) same.1

through_some : (s : Search) (before looks : ℕ) (ns : List ℕ) → 0 < length ns → AllByRecursion (λ n. looks ≡ looks_until s n) ns → looks_through s before ns ≡ looks
through_some s before looks [] some same = absurd (omega (arith, some))
through_some s before looks (n ∷ ns) some same = through_same s (looks_until s n) looks ns (sym same.0) same.1

pub going_many : (old a b : Cursor) (count : ℕ) (ns : List ℕ) → Going old a count → a.rest ≡ ns ++ b.rest → KeepsQuestion a b → 0 < length ns
    → All (λ n. looks_of b ≡ looks_until (searched a) n) ns → Going old b (count + length ns)
going_many old a b count ns g first same some looks =
    let left : drop count old.rest ≡ ns ++ b.rest = sym g.takes.rest ∙ first in
    let question : searched a ≡ searched old = ap searched g.takes.question in
    let counted : All (λ n. looks_of b ≡ looks_until (searched old) n) ns = subst (λ (s : Search). All (λ n. looks_of b ≡ looks_until s n) ns) question looks in
    let each = recursion_from_All (λ n. looks_of b ≡ looks_until (searched old) n) ns counted in
    record {
      takes = record {
        question = same ∙ ap (λ (c : Cursor). record c { rest = b.rest; tri = b.tri; words = b.words; lanes = b.lanes; fours = b.fours }) g.takes.question;
        rest = dropped_many old.rest ns b.rest count left;
      };
      looks = sym (ap (looks_through (searched old) (looks_of old)) (taken_many old.rest ns b.rest count g.within left)
          ∙ through_both (searched old) (looks_of old) (take count old.rest) ns
          ∙ through_some (searched old) (looks_through (searched old) (looks_of old) (take count old.rest)) (looks_of b) ns some each);
      within = room_for_many old.rest ns b.rest count g.within left;
    }

-- what was taken before a fault
pub takes_err : {E : Type 0} (old new : Cursor) (r : Result ℕ E) (count most : ℕ) → IsErr r → count ≤ most → Takes old new count
    → MatchResult r (λ n. Takes old new n) (λ fault. TakesAtMost old new most)
takes_err old new (Ok n) count most e few h = cc
takes_err old new (Err fault) count most e few h = (count, few, h)
