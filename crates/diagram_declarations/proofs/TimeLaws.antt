-- Durations: a word is read as so many milliseconds exactly where it is a literal of them.
use Rattle.std.proofs.Common.{◌≡◌, ℕ, ◌≤◌, ◌⊎◌, inl, inr, ◌||◌, min, Bool, true, false, nat_le, List, [], ◌∷◌, ◌++◌, length, take, drop, codes, Option, Some, None, IfSome, IfNone, refl, sym, ap, subst, ◌∙◌, arith}
use Rattle.std.specs.Str.{str_to_ascii_lowercase, str_eq_ignore_ascii_case}
use Rattle.std.specs.List.{list_any}
use Rattle.std.specs.Char.{to_ascii_lowercase}
use Rattle.std.proofs.lemmas.Bool.{leb-true, le-leb, or_cases}
use Rattle.std.proofs.lemmas.List.{take-append-drop, length-map}
use Rattle.std.proofs.Math.Seq.{take-append_seam, drop-append_seam}
use Rattle.diagram_declarations.specs.Duration.{IsDuration}
use Rattle.diagram_declarations.specs.ReadTimes.{or_else, after_word, after_prefix, total_of, time_of}
use Rattle.diagram_declarations.proofs.Steps.{bind_some, chosen}
use Rattle.diagram_declarations.proofs.PartLaws.{cap, same_bytes}
use Rattle.diagram_declarations.proofs.DurationLaws.{sum_of, all_reads, TakesAll, all_takes}

-- ---- the prefix

pub same_length : (a b : List ℕ) → str_eq_ignore_ascii_case a b ≡ true → length a ≡ length b
same_length a b h =
    let same : str_to_ascii_lowercase a ≡ str_to_ascii_lowercase b = same_bytes (str_to_ascii_lowercase a) (str_to_ascii_lowercase b) h in
    omega (arith, ap length same, length-map {A = ℕ} {B = ℕ})

after_word-found : (word prefix after : List ℕ) → str_eq_ignore_ascii_case prefix word ≡ true → after_word word (prefix ++ after) ≡ Some after
after_word-found word prefix after h =
    let len : length word ≡ length prefix = sym (same_length prefix word h) in
    rw (len, take-append_seam prefix after, drop-append_seam prefix after, h) refl

-- TIME# does not begin with T#
time_first : (prefix after : List ℕ) → str_eq_ignore_ascii_case prefix (codes "TIME#") ≡ true → after_word (codes "T#") (prefix ++ after) ≡ None
time_first [] after h = absurd cc
time_first (a ∷ []) after h = absurd (let e = same_bytes (str_to_ascii_lowercase (a ∷ [])) (codes "time#") h in cc)
time_first (a ∷ b ∷ more) after h =
    let e : str_to_ascii_lowercase (a ∷ b ∷ more) ≡ codes "time#" = same_bytes (str_to_ascii_lowercase (a ∷ b ∷ more)) (codes "time#") h in
    let first : to_ascii_lowercase a ≡ 116 = cc in
    let second : to_ascii_lowercase b ≡ 105 = cc in
    rw (first, second) refl

prefix_reads : (prefix after : List ℕ) → list_any (str_eq_ignore_ascii_case prefix) (codes "T#" ∷ codes "TIME#" ∷ []) ≡ true → after_prefix (prefix ++ after) ≡ Some after
prefix_reads prefix after h =
    elim (or_cases (str_eq_ignore_ascii_case prefix (codes "T#")) _ h) [
      | inl t ↦ rw (after_word-found (codes "T#") prefix after t) refl
      | inr other ↦ elim (or_cases (str_eq_ignore_ascii_case prefix (codes "TIME#")) false other) [
        | inl time ↦ rw (time_first prefix after time) (after_word-found (codes "TIME#") prefix after time)
        | inr none ↦ absurd cc
      ]
    ]

after_word-is : (word text after : List ℕ) → after_word word text ≡ Some after → (prefix : List ℕ) × (text ≡ prefix ++ after) × (str_eq_ignore_ascii_case prefix word ≡ true)
after_word-is word text after h =
    elim (chosen (str_eq_ignore_ascii_case (take (length word) text) word) _ _ _ h) [
      | inl same ↦
          let left : drop (length word) text ≡ after = cc in
          (take (length word) text, sym (take-append-drop (length word) text) ∙ ap (λ z. take (length word) text ++ z) left, same.0)
      | inr other ↦ absurd cc
    ]

or_true : (b : Bool) → (b || (true || false)) ≡ true
or_true true = refl
or_true false = refl

or_else-cases : (a b : Option (List ℕ)) (x : List ℕ) → or_else a b ≡ Some x → (a ≡ Some x) ⊎ (b ≡ Some x)
or_else-cases (Some y) b x h = inl h
or_else-cases None b x h = inr h

prefix_takes : (text after : List ℕ) → after_prefix text ≡ Some after
    → (prefix : List ℕ) × (text ≡ prefix ++ after) × (list_any (str_eq_ignore_ascii_case prefix) (codes "T#" ∷ codes "TIME#" ∷ []) ≡ true)
prefix_takes text after h =
    elim (or_else-cases (after_word (codes "T#") text) (after_word (codes "TIME#") text) after h) [
      | inl t ↦ let p = after_word-is (codes "T#") text after t in (p.0, p.1, rw p.2 refl)
      | inr time ↦ let p = after_word-is (codes "TIME#") text after time in (p.0, p.1, rw p.2 (or_true (str_eq_ignore_ascii_case p.0 (codes "T#"))))
    ]

-- ---- whole literals

uncut : (s : ℕ) → s ≤ 4294967295 → min s cap ≡ s
uncut s h = omega arith

below_cap : (m s : ℕ) → m ≡ min s cap → m ≤ 4294967295 → m ≡ s
below_cap m s e h = omega arith

pub time_reads : (word : List ℕ) (n : ℕ) → IsDuration word n → time_of word ≡ Some n
unfolding time_of
time_reads word n (prefix, after, [], spelled, is_prefix, are_parts, sum, small) = absurd are_parts
time_reads word n (prefix, after, p ∷ ps, spelled, is_prefix, are_parts, sum, small) =
    let total : total_of after ≡ Some n = all_reads p ps after are_parts ∙ ap (λ k. Some (min k cap)) (sym sum) ∙ ap Some (uncut n small) in
    let behind : after_prefix word ≡ Some after = ap after_prefix spelled ∙ prefix_reads prefix after is_prefix in
    rw (behind, total, le-leb n 4294967295 small) refl

pub time_takes : (word : List ℕ) (n : ℕ) → time_of word ≡ Some n → IsDuration word n
unfolding time_of
time_takes word n h =
    let a = bind_some (after_prefix word) _ n h in
    let t = bind_some (total_of a.0) _ n a.2 in
    elim (chosen (nat_le t.0 4294967295) _ _ _ t.2) [
      | inr large ↦ absurd cc
      | inl fits ↦
          let same : t.0 ≡ n = cc in
          let all : TakesAll a.0 t.0 = all_takes a.0 t.0 t.1 in
          let p = prefix_takes word a.0 a.1 in
          let small : t.0 ≤ 4294967295 = leb-true t.0 4294967295 fits.0 in
          let sum : n ≡ sum_of all.parts = sym same ∙ below_cap t.0 (sum_of all.parts) all.sum small in
          (p.0, a.0, all.parts, p.1, p.2, all.are_parts, sum, subst (λ k. k ≤ 4294967295) same small)
    ]

-- what is told of a literal by its values alone is how it is read
pub time_is : (o : Option ℕ) (word : List ℕ) → IfSome o (λ n. IsDuration word n) → IfNone o ((n : ℕ) → IsDuration word n → ⊥) → o ≡ time_of word
time_is (Some n) word some none = sym (time_reads word n some)
time_is None word some none =
    elim (time_of word) as (λ r. time_of word ≡ r → None ≡ r) [ None ↦ λ e. refl | Some n ↦ λ e. absurd (none n (time_takes word n e)) ] refl
