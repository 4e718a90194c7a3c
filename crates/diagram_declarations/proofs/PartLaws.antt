-- One part of a duration: digits with a unit are read exactly where they stand.
use Rattle.std.proofs.Common.{◌≡◌, ℕ, ◌^◌, ◌≤◌, inl, inr, min, true, false, nat_le, List, [], ◌∷◌, ◌++◌, length, map, take, drop, codes, Some, refl, sym, ap, subst, ◌∙◌, arith}
use Rattle.std.specs.List.{list_all, prefix_len}
use Rattle.std.specs.Str.{str_to_ascii_lowercase, str_eq_ignore_ascii_case, bytes_eq}
use Rattle.std.specs.Char.{is_ascii_digit, is_ascii_alphabetic, is_ascii_lowercase, to_ascii_lowercase}
use Rattle.std.proofs.lemmas.Bool.{and_parts, leb-true, le-leb}
use Rattle.std.proofs.lemmas.Bool.Decides.{nat_tests}
use Rattle.std.proofs.lemmas.List.{take-append-drop}
use Rattle.std.proofs.lemmas.Slice.Eq.{bytes_eq-Decides}
use Rattle.diagram_declarations.specs.declared.time.Unit.{Unit as TimeUnit}
use Rattle.diagram_declarations.specs.declared.time.Unit.TheVariants as time_unit
use Rattle.diagram_declarations.specs.Duration.{number_of, Time, IsTime}
use Rattle.std.specs.Map.{lookup}
use Rattle.diagram_declarations.specs.ReadTimes.{letters_of, PartAt, part_at, units}
use Rattle.diagram_declarations.proofs.Steps.{bind_some, chosen}
use Rattle.diagram_declarations.proofs.Runs.{begins, take_run, drop_run, run_passes}

-- ---- letters

pub same_bytes : (a b : List ℕ) → bytes_eq a b ≡ true → a ≡ b
same_bytes a b h = (bytes_eq-Decides a b).0 h

small_letter : (b c : ℕ) → to_ascii_lowercase b ≡ c → is_ascii_lowercase c ≡ true → is_ascii_alphabetic b ≡ true
small_letter b c e h = grind (arith, nat_tests)

letter_no_digit : (b c : ℕ) → to_ascii_lowercase b ≡ c → is_ascii_lowercase c ≡ true → is_ascii_digit b ≡ false
letter_no_digit b c e h = grind (arith, nat_tests)

letters_alphabetic : (w us : List ℕ) → map to_ascii_lowercase w ≡ us → list_all is_ascii_lowercase us ≡ true → list_all is_ascii_alphabetic w ≡ true
letters_alphabetic [] us e h = refl
letters_alphabetic (b ∷ bs) [] e h = absurd cc
letters_alphabetic (b ∷ bs) (u ∷ us) e h =
    let first : to_ascii_lowercase b ≡ u = cc in
    let others : map to_ascii_lowercase bs ≡ us = cc in
    let parts = and_parts (is_ascii_lowercase u) (list_all is_ascii_lowercase us) h in
    rw (small_letter b u first parts.0, letters_alphabetic bs us others parts.1) refl

spelled_small : (u : TimeUnit) → list_all is_ascii_lowercase (letters_of u) ≡ true
spelled_small time_unit.Day = refl
spelled_small time_unit.Hour = refl
spelled_small time_unit.Minute = refl
spelled_small time_unit.Second = refl
spelled_small time_unit.Milli = refl

lower_is : (w : List ℕ) (u : TimeUnit) → str_eq_ignore_ascii_case w (letters_of u) ≡ true → str_to_ascii_lowercase w ≡ letters_of u
lower_is w time_unit.Day h = same_bytes (str_to_ascii_lowercase w) (codes "d") h
lower_is w time_unit.Hour h = same_bytes (str_to_ascii_lowercase w) (codes "h") h
lower_is w time_unit.Minute h = same_bytes (str_to_ascii_lowercase w) (codes "m") h
lower_is w time_unit.Second h = same_bytes (str_to_ascii_lowercase w) (codes "s") h
lower_is w time_unit.Milli h = same_bytes (str_to_ascii_lowercase w) (codes "ms") h

unit_reads : (w : List ℕ) (u : TimeUnit) → str_to_ascii_lowercase w ≡ letters_of u → lookup (str_eq_ignore_ascii_case w) units ≡ Some u
unit_reads w time_unit.Day e = rw e refl
unit_reads w time_unit.Hour e = rw e refl
unit_reads w time_unit.Minute e = rw e refl
unit_reads w time_unit.Second e = rw e refl
unit_reads w time_unit.Milli e = rw e refl

unit_takes : (w : List ℕ) (u : TimeUnit) → lookup (str_eq_ignore_ascii_case w) units ≡ Some u → str_eq_ignore_ascii_case w (letters_of u) ≡ true
unit_takes w u h =
    let found : (v : TimeUnit) → str_eq_ignore_ascii_case w (letters_of v) ≡ true → Some v ≡ Some u → str_eq_ignore_ascii_case w (letters_of u) ≡ true
    = λ v same e. let v_is : v ≡ u = cc in subst (λ x. str_eq_ignore_ascii_case w (letters_of x) ≡ true) v_is same in
    elim (chosen (str_eq_ignore_ascii_case w (codes "d")) _ _ _ h) [
      | inl a ↦ found time_unit.Day a.0 a.1
      | inr b ↦ elim (chosen (str_eq_ignore_ascii_case w (codes "h")) _ _ _ b.1) [
        | inl a ↦ found time_unit.Hour a.0 a.1
        | inr c ↦ elim (chosen (str_eq_ignore_ascii_case w (codes "m")) _ _ _ c.1) [
          | inl a ↦ found time_unit.Minute a.0 a.1
          | inr d ↦ elim (chosen (str_eq_ignore_ascii_case w (codes "s")) _ _ _ d.1) [
            | inl a ↦ found time_unit.Second a.0 a.1
            | inr e ↦ elim (chosen (str_eq_ignore_ascii_case w (codes "ms")) _ _ _ e.1) [
              | inl a ↦ found time_unit.Milli a.0 a.1
              | inr f ↦ absurd cc
            ]
          ]
        ]
      ]
    ]

-- ---- one part

-- letters end the run of digits
no_digit : (w us after : List ℕ) → map to_ascii_lowercase w ≡ us → list_all is_ascii_lowercase us ≡ true → 1 ≤ length us → begins is_ascii_digit (w ++ after) ≡ false
no_digit [] us after e small some = absurd (omega (arith, ap length e))
no_digit (b ∷ bs) [] after e small some = absurd cc
no_digit (b ∷ bs) (u ∷ us) after e small some =
    let first : to_ascii_lowercase b ≡ u = cc in
    let parts = and_parts (is_ascii_lowercase u) (list_all is_ascii_lowercase us) small in
    letter_no_digit b u first parts.0

spelled_some : (u : TimeUnit) → 1 ≤ length (letters_of u)
spelled_some time_unit.Day = omega arith
spelled_some time_unit.Hour = omega arith
spelled_some time_unit.Minute = omega arith
spelled_some time_unit.Second = omega arith
spelled_some time_unit.Milli = omega arith

abbrev pub cap : ℕ
cap = 2 ^ 32

pub part_reads : (p : Time) (after : List ℕ) → IsTime p → begins is_ascii_alphabetic after ≡ false
    → part_at (p.digits ++ (p.letters ++ after)) ≡ Some (record { number = min (number_of p.digits) cap; unit = p.unit; rest = after })
unfolding part_at
part_reads p after h end =
    let lower : str_to_ascii_lowercase p.letters ≡ letters_of p.unit = lower_is p.letters p.unit h.2 in
    let digits_end : begins is_ascii_digit (p.letters ++ after) ≡ false = no_digit p.letters (letters_of p.unit) after lower (spelled_small p.unit) (spelled_some p.unit) in
    let letters : list_all is_ascii_alphabetic p.letters ≡ true = letters_alphabetic p.letters (letters_of p.unit) lower (spelled_small p.unit) in
    rw (
      take_run is_ascii_digit p.digits (p.letters ++ after) h.1 digits_end,
      drop_run is_ascii_digit p.digits (p.letters ++ after) h.1 digits_end,
      le-leb 1 (length p.digits) h.0,
      take_run is_ascii_alphabetic p.letters after letters end,
      drop_run is_ascii_alphabetic p.letters after letters end,
      unit_reads p.letters p.unit lower,
    ) refl

pub record TakesPart (q : PartAt) (text : List ℕ) : Type 0 where
  pub part : Time
  pub is_part : IsTime part
  pub parts : text ≡ part.digits ++ (part.letters ++ q.rest)
  pub number : q.number ≡ min (number_of part.digits) cap
  pub unit : q.unit ≡ part.unit

pub part_takes : (q : PartAt) (text : List ℕ) → part_at text ≡ Some q → TakesPart q text
unfolding part_at
part_takes q text h =
    let n : ℕ = prefix_len is_ascii_digit text in
    let after : List ℕ = drop n text in
    let m : ℕ = prefix_len is_ascii_alphabetic after in
    elim (chosen (nat_le 1 (length (take n text))) _ _ _ h) [
      | inr none ↦ absurd cc
      | inl some ↦
          let u = bind_some (lookup (str_eq_ignore_ascii_case (take m after)) units) _ q some.1 in
          let made : PartAt = record { number = min (number_of (take n text)) cap; unit = u.0; rest = drop m after } in
          let same : made ≡ q = cc in
          let p : Time = record { digits = take n text; letters = take m after; unit = u.0 } in
          let spelled : text ≡ take n text ++ (take m after ++ drop m after)
          = sym (take-append-drop n text) ∙ ap (λ z. take n text ++ z) (sym (take-append-drop m after)) in
          let taken : TakesPart made text = record {
            part = p;
            is_part = (leb-true 1 (length (take n text)) some.0, run_passes is_ascii_digit text, unit_takes (take m after) u.0 u.1);
            parts = spelled;
            number = refl;
            unit = refl;
          } in
          subst (λ x. TakesPart x text) same taken
    ]
