-- The label that a gap line is.
use Rattle.std.proofs.Common.{◌≡◌, ℕ, ◌+◌, inl, inr, Bool, true, false, ◌&&◌, ◌||◌, ◌==◌, cond, nat_le, one-add, Option, List, [], ◌∷◌, ◌++◌, length, take, drop, Some, None, refl, sym, ap, ◌∙◌, append-nil}
use Rattle.std.specs.List.{list_all, prefix_len}
use Rattle.std.specs.Char.{is_ascii_alphabetic}
use Rattle.std.proofs.lemmas.Bool.{and_parts, or_cases, eqb-true, true≢false}
use Rattle.std.proofs.lemmas.List.{take-append-drop}
use Rattle.std.proofs.Math.Seq.{take-append_seam, drop-append_seam}
use Rattle.diagram_declarations.specs.Name.{is_name, is_name_byte, has_name_form}
use Rattle.diagram_page.specs.Form.{is_label_name}
use Rattle.diagram_page.specs.Gap.{is_gap_blank, after_blanks, label_in, IsLabelIn}
use Rattle.diagram_page.proofs.FormLaws.{prefix_stops, label_bytes}

blanks_taken : (text : List ℕ) → (before : List ℕ) × (text ≡ before ++ after_blanks text) × (list_all is_gap_blank before ≡ true)
blanks_taken [] = ([], refl, refl)
blanks_taken (b ∷ bs) =
    elim (is_gap_blank b) as (λ t. is_gap_blank b ≡ t → (before : List ℕ) × (b ∷ bs ≡ before ++ drop (cond t (1 + prefix_len is_gap_blank bs) 0) (b ∷ bs)) × (list_all is_gap_blank before ≡ true)) [
      | true ↦ λ e. let t = blanks_taken bs in rw one-add (b ∷ t.0, ap (λ z. b ∷ z) t.1, rw (e, t.2) refl)
      | false ↦ λ e. ([], refl, refl)
    ] refl

-- by the word at the start, and what is behind it and blanks
abbrev label_with : List ℕ → List ℕ → Option (List ℕ)
label_with word rest = elim rest [ b ∷ end ↦ cond (b == 58 && (list_all is_gap_blank end && is_label_name word)) (Some word) None | [] ↦ None ]

pub label_by : (text word rest : List ℕ) (found : Option (List ℕ)) → word ≡ take (prefix_len is_name_byte (after_blanks text)) (after_blanks text)
    → rest ≡ after_blanks (drop (prefix_len is_name_byte (after_blanks text)) (after_blanks text)) → found ≡ label_with word rest → found ≡ label_in text
unfolding label_in
label_by text word rest found is behind told = told ∙ ap (λ r. label_with word r) behind ∙ ap (λ w. label_with w (after_blanks (drop (prefix_len is_name_byte (after_blanks text)) (after_blanks text)))) is

-- such a word and such a rest
with_taken : (word rest label : List ℕ) → label_with word rest ≡ Some label
    → (end : List ℕ) × (rest ≡ 58 ∷ end) × (list_all is_gap_blank end ≡ true) × (word ≡ label) × (is_label_name word ≡ true)
with_taken word [] label h = absurd cc
with_taken word (b ∷ end) label h =
    elim (b == 58 && (list_all is_gap_blank end && is_label_name word))
    as (λ t. (b == 58 && (list_all is_gap_blank end && is_label_name word)) ≡ t → cond t (Some word) None ≡ Some label
    → (end' : List ℕ) × (b ∷ end ≡ 58 ∷ end') × (list_all is_gap_blank end' ≡ true) × (word ≡ label) × (is_label_name word ≡ true)) [
      | false ↦ λ _ none. absurd cc
      | true ↦ λ is some.
          let parts = and_parts (b == 58) _ is in
          let more = and_parts (list_all is_gap_blank end) (is_label_name word) parts.1 in
          (end, ap (λ z. z ∷ end) (eqb-true b 58 parts.0), more.0, cc, more.1)
    ] refl h

pub label_known : (text label : List ℕ) → label_in text ≡ Some label → IsLabelIn text label
unfolding label_in
label_known text label h =
    let t : List ℕ = after_blanks text in
    let len : ℕ = prefix_len is_name_byte t in
    let front = blanks_taken text in
    let gap = blanks_taken (drop len t) in
    let taken = with_taken (take len t) (after_blanks (drop len t)) label h in
    let whole : t ≡ label ++ (gap.0 ++ (58 ∷ taken.0))
    = sym (take-append-drop len t) ∙ ap (λ w. w ++ drop len t) taken.3 ∙ ap (λ z. label ++ z) (gap.1 ∙ ap (λ z. gap.0 ++ z) taken.1) in
    record {
      before = front.0;
      middle = gap.0;
      after = taken.0;
      spelled = front.1 ∙ ap (λ z. front.0 ++ z) whole;
      blank_before = front.2;
      blank_middle = gap.2;
      blank_after = taken.2;
      named = ap is_label_name (sym taken.3) ∙ taken.4;
    }

blanks_off : (before text : List ℕ) → list_all is_gap_blank before ≡ true → after_blanks (before ++ text) ≡ after_blanks text
blanks_off [] text h = refl
blanks_off (b ∷ bs) text h = let parts = and_parts (is_gap_blank b) (list_all is_gap_blank bs) h in rw (parts.0, one-add) (blanks_off bs text parts.1)

abbrev is_name_start : ℕ → Bool
is_name_start b = is_ascii_alphabetic b || b == 95

start_stays : (b : ℕ) (bs : List ℕ) → is_name_start b ≡ true → after_blanks (b ∷ bs) ≡ b ∷ bs
start_stays b bs h =
    elim (is_gap_blank b) as (λ t. is_gap_blank b ≡ t → drop (cond t (1 + prefix_len is_gap_blank bs) 0) (b ∷ bs) ≡ b ∷ bs) [
      | false ↦ λ _. refl
      | true ↦ λ e. elim (or_cases (b == 32) (b == 9) e) [
        | inl space ↦ absurd (true≢false (sym h ∙ ap is_name_start (eqb-true b 32 space)))
        | inr tab ↦ absurd (true≢false (sym h ∙ ap is_name_start (eqb-true b 9 tab)))
      ]
    ] refl

name_stays : (label tail : List ℕ) → is_label_name label ≡ true → after_blanks (label ++ tail) ≡ label ++ tail
name_stays label tail h = named label tail (and_parts (has_name_form label) _ (and_parts (nat_le (length label) 8) (is_name label) h).1).0 where
  named : (label tail : List ℕ) → has_name_form label ≡ true → after_blanks (label ++ tail) ≡ label ++ tail
  named [] tail h = absurd (true≢false (sym h))
  named (b ∷ bs) tail h = start_stays b (bs ++ tail) (and_parts (is_name_start b) _ h).0

no_name_blank : (middle after : List ℕ) → list_all is_gap_blank middle ≡ true → prefix_len is_name_byte (middle ++ (58 ∷ after)) ≡ 0
no_name_blank [] after h = refl
no_name_blank (b ∷ bs) after h =
    elim (or_cases (b == 32) (b == 9) (and_parts (is_gap_blank b) (list_all is_gap_blank bs) h).0) [
      | inl space ↦ rw (eqb-true b 32 space) refl
      | inr tab ↦ rw (eqb-true b 9 tab) refl
    ]

pub label_found : (text label : List ℕ) → IsLabelIn text label → label_in text ≡ Some label
label_found text label h =
    let tail : List ℕ = h.middle ++ (58 ∷ h.after) in
    let start : after_blanks text ≡ label ++ tail
    = ap after_blanks h.spelled ∙ blanks_off h.before (label ++ tail) h.blank_before ∙ name_stays label tail h.named in
    let stop : prefix_len is_name_byte (label ++ tail) ≡ length label
    = prefix_stops is_name_byte label tail (label_bytes label h.named) (no_name_blank h.middle h.after h.blank_middle) in
    let word : take (prefix_len is_name_byte (label ++ tail)) (label ++ tail) ≡ label = ap (λ n. take n (label ++ tail)) stop ∙ take-append_seam label tail in
    let rest : after_blanks (drop (prefix_len is_name_byte (label ++ tail)) (label ++ tail)) ≡ 58 ∷ h.after
    = ap (λ n. after_blanks (drop n (label ++ tail))) stop ∙ ap after_blanks (drop-append_seam label tail) ∙ blanks_off h.middle (58 ∷ h.after) h.blank_middle in
    let named : label_with label (58 ∷ h.after) ≡ Some label = rw (h.named, h.blank_after) refl in
    sym (label_by text label (58 ∷ h.after) (Some label) (sym (ap (λ z. take (prefix_len is_name_byte z) z) start ∙ word))
    (sym (ap (λ z. after_blanks (drop (prefix_len is_name_byte z) z)) start ∙ rest)) (sym named))

pub blank_line : (text : List ℕ) → list_all is_gap_blank text ≡ true → None ≡ label_in text
blank_line text blank =
    let none : [] ≡ after_blanks text = sym (ap after_blanks (sym (append-nil text)) ∙ blanks_off text [] blank) in
    label_by text [] [] None (ap (λ z. take (prefix_len is_name_byte z) z) none) (ap (λ z. after_blanks (drop (prefix_len is_name_byte z) z)) none) refl
