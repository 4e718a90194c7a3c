-- A whole list, or the part of it up to a number.
use Rattle.std.proofs.Common.{◌≡◌, ◌≢◌, ◌∙◌, ◌+◌, ◌-◌, ◌<◌, ◌≤◌, ℕ, zero, suc, Bool, true, false, cond, List, [], ◌∷◌, ◌++◌, Option, Some, None, append_assoc, append-nil, sym, refl, ap, arith, drop, length, length-append, nat_le, nat_lt, take}
use Rattle.std.specs.Prelude.{All, IfSome, MatchOption}
use Rattle.std.specs.List.{AllByRecursion, filter}
use Rattle.std.proofs.lemmas.List.{length-take-le, take_at}
use Rattle.std.proofs.lemmas.List.Elements.{filter-append, recursion_from_All}
use Rattle.std.proofs.lemmas.Bool.{le-leb, lt-leb, lt-ltb, le-ltb}
use Rattle.search_tree.specs.Looks.{Search, looks_in_all, looks_upto}
use Rattle.search_tree.specs.Marked.{marked}
use Rattle.search_tree.specs.declared.marked.Marked.{Marked}
use Rattle.causes_one_scan.specs.Cursor.{Cursor, KeepsQuestion, Takes, looks_of, looks_through, searched}
use Rattle.causes_one_scan.specs.Parts.{numbers_to}
use Rattle.text_causes.specs.CauseText.{limited}
use Rattle.text_causes.specs.Limit.{limit_left}
use Rattle.text_causes.specs.Parts.{part, part_looks, settled}
use Rattle.text_causes.proofs.Taking.{Going}

-- all are up to a number, or none
pub all_to : (last : ℕ) (ns : List ℕ) → AllByRecursion (λ n. n ≤ last) ns → numbers_to last ns ≡ ns
all_to last [] h = refl
all_to last (n ∷ ns) h = ap (λ b. cond b (n ∷ numbers_to last ns) (numbers_to last ns)) (le-leb n last h.0) ∙ ap (λ ms. n ∷ ms) (all_to last ns h.1)

pub none_to : (last : ℕ) (ns : List ℕ) → AllByRecursion (λ n. last < n) ns → numbers_to last ns ≡ []
none_to last [] h = refl
none_to last (n ∷ ns) h = ap (λ b. cond b (n ∷ numbers_to last ns) (numbers_to last ns)) (lt-leb n last h.0) ∙ none_to last ns h.1

pub part_gives : (last : Option ℕ) (end : ℕ) (old ns new : List ℕ) → last ≡ Some end → old ≡ ns ++ new → All (λ n. n ≤ end) ns → part last old ≡ ns ++ part last new
part_gives last end old ns new is first within =
    let each = recursion_from_All (λ n. n ≤ end) ns within in
    rw is (ap (numbers_to end) first ∙ filter-append (λ n. nat_le n end) ns new ∙ ap (λ ms. ms ++ numbers_to end new) (all_to end ns each))

pub part_ends : (last : Option ℕ) (end : ℕ) (old : List ℕ) → last ≡ Some end → All (λ n. end < n) old → part last old ≡ []
part_ends last end old is above = rw is (none_to end old (recursion_from_All (λ n. end < n) old above))

pub whole_gives : (last : Option ℕ) (old ns new : List ℕ) → last ≡ None → old ≡ ns ++ new → part last old ≡ ns ++ part last new
whole_gives last old ns new is first = rw is first

pub whole_ends : (last : Option ℕ) (old : List ℕ) → last ≡ None → old ≡ [] → part last old ≡ []
whole_ends last old is none = rw is none

-- ---- how far a part was gone through
-- So many of its numbers were given, and these are left.
pub record PartGoing (last : Option ℕ) (old new : List ℕ) (count : ℕ) : Type 0 where
  pub split : part last old ≡ take count old ++ part last new

pub part_none : (last : Option ℕ) (old : List ℕ) → PartGoing last old old 0
part_none last old = record { split = refl }

pub part_many : (last : Option ℕ) (old a b : List ℕ) (count : ℕ) (ns : List ℕ) → PartGoing last old a count → part last a ≡ ns ++ part last b
    → take (count + length ns) old ≡ take count old ++ ns → PartGoing last old b (count + length ns)
part_many last old a b count ns g first taken = record {
  split = g.split ∙ ap (λ xs. take count old ++ xs) first ∙ sym (append_assoc (take count old) ns (part last b)) ∙ ap (λ xs. xs ++ part last b) (sym taken);
}

-- The looks where none is left, and those where the limit is reached.
pub looks_at_end : (last limit : Option ℕ) (old a b : Cursor) (count : ℕ) → Going old a count → PartGoing last old.rest a.rest count → part last a.rest ≡ []
    → limit ≢ Some count → IfSome limit (λ m. count ≤ m) → looks_of b ≡ settled last (searched a) (looks_of a)
    → looks_of b ≡ part_looks last (searched old) (looks_of old) limit (part last old.rest)
looks_at_end last limit old a b count g p none short within looks =
    let all : part last old.rest ≡ take count old.rest = p.split ∙ ap (λ xs. take count old.rest ++ xs) none ∙ append-nil (take count old.rest) in
    let same : searched a ≡ searched old = ap searched g.takes.question in
    let here : looks_of b ≡ settled last (searched old) (looks_through (searched old) (looks_of old) (part last old.rest)) =
    looks ∙ ap (λ (s : Search). settled last s (looks_of a)) same ∙ ap (settled last (searched old)) (g.looks ∙ ap (looks_through (searched old) (looks_of old)) (sym all)) in
    by limit short within here (ap length all ∙ length-take-le count old.rest g.within)
  where
    by : (limit : Option ℕ) → limit ≢ Some count → IfSome limit (λ m. count ≤ m)
        → looks_of b ≡ settled last (searched old) (looks_through (searched old) (looks_of old) (part last old.rest)) → length (part last old.rest) ≡ count
        → looks_of b ≡ part_looks last (searched old) (looks_of old) limit (part last old.rest)
    by None short within here long = here
    by (Some m) short within here long =
        let other : m ≢ count = λ q. short (ap (λ (x : ℕ). Some x) q) in
        let less : length (part last old.rest) < m = omega (arith, other, within, long) in
        let t : nat_lt (length (part last old.rest)) m ≡ true = lt-ltb (length (part last old.rest)) m less in
        here ∙ sym (ap (λ c. cond c (settled last (searched old) (looks_through (searched old) (looks_of old) (part last old.rest)))
        (looks_through (searched old) (looks_of old) (take m (part last old.rest)))) t)

pub looks_at_limit : (last limit : Option ℕ) (old a : Cursor) (count : ℕ) → Going old a count → PartGoing last old.rest a.rest count → limit ≡ Some count
    → looks_of a ≡ part_looks last (searched old) (looks_of old) limit (part last old.rest)
looks_at_limit last limit old a count g p is =
    let long = length-take-le count old.rest g.within in
    let cut : length (part last old.rest) ≡ length (take count old.rest ++ part last a.rest) = ap length p.split in
    let more : count ≤ length (part last old.rest) = omega (arith, cut, long, length-append (take count old.rest) (part last a.rest)) in
    let t : nat_lt (length (part last old.rest)) count ≡ false = le-ltb (length (part last old.rest)) count more in
    let first : take count (part last old.rest) ≡ take count old.rest = ap (take count) p.split ∙ take_at (take count old.rest) (part last a.rest) count long in
    rw is (g.looks ∙ ap (looks_through (searched old) (looks_of old)) (sym first)
    ∙ sym (ap (λ c. cond c (settled last (searched old) (looks_through (searched old) (looks_of old) (part last old.rest)))
    (looks_through (searched old) (looks_of old) (take count (part last old.rest)))) t))

-- A cursor that gave none has given what it had given.
pub takes_on : (old a b : Cursor) (n : ℕ) → Takes old a n → KeepsQuestion a b → b.rest ≡ a.rest → Takes old b n
takes_on old a b n t same rest = record {
  question = same ∙ ap (λ (c : Cursor). record c { rest = b.rest; tri = b.tri; words = b.words; lanes = b.lanes; fours = b.fours }) t.question;
  rest = rest ∙ t.rest;
}

pub drop_taken : (old a : Cursor) (count : ℕ) → Going old a count → drop count old.rest ≡ a.rest
drop_taken old a count g = sym g.takes.rest

filter_shorter : (keep : ℕ → Bool) (ns : List ℕ) → length (filter keep ns) ≤ length ns
filter_shorter keep [] = omega arith
filter_shorter keep (n ∷ ns) =
    let more = filter_shorter keep ns in
    elim (keep n) as (λ b. length (cond b (n ∷ filter keep ns) (filter keep ns)) ≤ length (n ∷ ns)) [
      | true ↦ omega (arith, more)
      | false ↦ omega (arith, more)
    ]

pub part_short : (last : Option ℕ) (ns : List ℕ) → length (part last ns) ≤ length ns
part_short None ns = omega arith
part_short (Some last) ns = filter_shorter (λ n. nat_le n last) ns

-- ---- what comes next, of a part or of a whole list
module _ (last : Option ℕ) (o : Option Marked) (old new : List ℕ) where
  pub part_next : (end : ℕ) → last ≡ Some end → MatchOption o (new ≡ old) (λ m. old ≡ marked m.number m.mask ++ new)
      → MatchOption o (All (λ n. end < n) old) (λ m. All (λ n. n ≤ end) (marked m.number m.mask))
      → MatchOption o (part last old ≡ []) (λ m. part last old ≡ marked m.number m.mask ++ part last new)
  part_next end is gives within = by o gives within
    where
      by : (o : Option Marked) → MatchOption o (new ≡ old) (λ m. old ≡ marked m.number m.mask ++ new)
          → MatchOption o (All (λ n. end < n) old) (λ m. All (λ n. n ≤ end) (marked m.number m.mask))
          → MatchOption o (part last old ≡ []) (λ m. part last old ≡ marked m.number m.mask ++ part last new)
      by None gives within = part_ends last end old is within
      by (Some m) gives within = part_gives last end old (marked m.number m.mask) new is gives within

  pub whole_next : last ≡ None → MatchOption o (old ≡ []) (λ m. old ≡ marked m.number m.mask ++ new)
      → MatchOption o (part last old ≡ []) (λ m. part last old ≡ marked m.number m.mask ++ part last new)
  whole_next is gives = by o gives
    where
      by : (o : Option Marked) → MatchOption o (old ≡ []) (λ m. old ≡ marked m.number m.mask ++ new)
          → MatchOption o (part last old ≡ []) (λ m. part last old ≡ marked m.number m.mask ++ part last new)
      by None gives = whole_ends last old is gives
      by (Some m) gives = whole_gives last old (marked m.number m.mask) new is gives

pub next_gives : (P : Type 0) (Q : Marked → Type 0) (o : Option Marked) → MatchOption o P Q → IfSome o Q
next_gives P Q None h = tt
next_gives P Q (Some m) h = h

pub next_stays : (P : Type 0) (Q : Marked → Type 0) (o : Option Marked) → MatchOption o P Q → o ≡ None → P
next_stays P Q None h e = h
next_stays P Q (Some m) h e = cc

pub part_settled : (last : Option ℕ) (end : ℕ) (o : Option Marked) (s : Search) (a b : ℕ) (Q : Marked → Type 0) → last ≡ Some end → MatchOption o (b ≡ looks_upto s a end) Q
    → MatchOption o (b ≡ settled last s a) Q
part_settled last end o s a b Q is h = rw is h

pub whole_settled : (last : Option ℕ) (o : Option Marked) (s : Search) (a b : ℕ) (Q : Marked → Type 0) → last ≡ None → MatchOption o (b ≡ looks_in_all s) Q
    → MatchOption o (b ≡ settled last s a) Q
whole_settled last o s a b Q is h = rw is h

-- what a limit leaves of nothing
pub limited_none : (limit : Option ℕ) (count : ℕ) (ns : List ℕ) → ns ≡ [] → limited (limit_left limit count) ns ≡ []
limited_none None count ns e = e
limited_none (Some most) count ns e = ap (take (most - count)) e ∙ none (most - count)
  where
    none : (n : ℕ) → take {A = ℕ} n [] ≡ []
    none zero = refl
    none (suc n) = refl
