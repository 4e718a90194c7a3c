-- The rungs of lines are the parts that the reader makes, and no others.
use Rattle.std.proofs.Common.{◌≡◌, ℕ, suc, ◌+◌, ◌-◌, ◌<◌, ◌≤◌, inl, inr, Bool, true, false, cond, nat_le, ◌&&◌, List, [], ◌∷◌, slice_index_or, Option, Some, None, refl, sym, ap, ◌∙◌, arith}
use Rattle.std.proofs.lemmas.Bool.{cases_lt, false≢true, le-leb}
use Rattle.diagram_declarations.specs.Text.{begins}
use Rattle.diagram_program.specs.Bytes.{is_upright}
use Rattle.diagram_page.specs.declared.lines.Part.{Part}
use Rattle.diagram_page.specs.Picture.{Lines}
use Rattle.diagram_page.specs.Lines.{is_rung_line, IsRung, AreRungs}
use Rattle.diagram_page.specs.ReadLines.{parts_from, parts_of}

-- ---- no others

apart : (b : Bool) → b ≡ true → b ≡ false → ⊥
apart b yes_it no_it = false≢true (sym no_it ∙ yes_it)

and_off : (b : Bool) → (b && false) ≡ false
and_off true = refl
and_off false = refl

abbrev part : ℕ → ℕ → ℕ → Part
part from start end = record { from = from; start = start; end = end }

module _ (lines : Lines) where
  not_before : (p q : Part) → p.from ≡ q.from → IsRung lines p → IsRung lines q → p.start < q.start → ⊥
  not_before p q from a b less =
      let gap = b.gap p.start (omega (arith, from, a.ordered.0)) less in
      let run = a.run p.start (omega arith) a.ordered.1 in
      apart (is_rung_line lines p.start) run gap

  not_shorter : (p q : Part) → p.start ≡ q.start → IsRung lines p → IsRung lines q → p.end < q.end → ⊥
  not_shorter p q start a b less = apart (is_rung_line lines p.end) (b.run p.end (omega (arith, start, a.ordered.1)) less) a.longest

  same : (m n : ℕ) → (m < n → ⊥) → (n < m → ⊥) → m ≡ n
  same m n less more = elim (cases_lt m n) [
    | inl h ↦ absurd (less h)
    | inr h ↦ elim (cases_lt n m) [ inl k ↦ absurd (more k) | inr k ↦ omega (arith, h, k) ]
  ]

  part_same : (p q : Part) → p.from ≡ q.from → IsRung lines p → IsRung lines q → p ≡ q
  part_same p q from a b =
      let start : p.start ≡ q.start = same p.start q.start (not_before p q from a b) (not_before q p (sym from) b a) in
      let end : p.end ≡ q.end = same p.end q.end (not_shorter p q start a b) (not_shorter q p (sym start) b a) in
      ap (λ n. part n p.start p.end) from ∙ ap (λ n. part q.from n p.end) start ∙ ap (λ n. part q.from q.start n) end

  none_left : (q : Part) (at : ℕ) → ((n : ℕ) → at ≤ n → is_rung_line lines n ≡ false) → q.from ≡ at → IsRung lines q → ⊥
  none_left q at none from b = apart (is_rung_line lines q.start) (b.run q.start (omega arith) b.ordered.1) (none q.start (omega (arith, from, b.ordered.0)))

  same_from : (at : ℕ) (ps qs : List Part) → AreRungs lines at ps → AreRungs lines at qs → ps ≡ qs
  same_from at [] [] a b = refl
  same_from at [] (q ∷ qs) a b = absurd (none_left q at a b.0 b.1)
  same_from at (p ∷ ps) [] a b = absurd (none_left p at b a.0 a.1)
  same_from at (p ∷ ps) (q ∷ qs) a b =
      let first : p ≡ q = part_same p q (a.0 ∙ sym b.0) a.1 b.1 in
      let behind : p.end ≡ q.end = ap (λ x. x.end) first in
      let rest : ps ≡ qs = same_from p.end ps qs a.2 (rw behind b.2) in
      rw (first, rest) refl

  -- ---- those of the reader

  -- these are the lines from this one on
  abbrev Follow : ℕ → Lines → Type 0
  Follow line ls = (k : ℕ) → slice_index_or lines (line + k) [] ≡ slice_index_or ls k []

  following : (line : ℕ) (l : List ℕ) (ls : Lines) → Follow line (l ∷ ls) → Follow (line + 1) ls
  following line l ls h = λ k. let same : line + 1 + k ≡ line + suc k = omega arith in ap (λ n. slice_index_or lines n []) same ∙ h (suc k)

  here : (line : ℕ) (l : List ℕ) (ls : Lines) → 1 ≤ line → Follow line (l ∷ ls) → is_rung_line lines line ≡ begins is_upright l
  here line l ls some h =
      let first : nat_le 1 line ≡ true = le-leb 1 line some in
      let same : line ≡ line + 0 = omega arith in
      ap (λ t. t && begins is_upright (slice_index_or lines line [])) first ∙ ap (λ n. begins is_upright (slice_index_or lines n [])) same ∙ ap (begins is_upright) (h 0)

  past : (line : ℕ) → Follow line [] → (n : ℕ) → line ≤ n → is_rung_line lines n ≡ false
  past line h n below =
      let same_place : n ≡ line + (n - line) = omega (arith, below) in
      let nothing : slice_index_or lines n [] ≡ [] = ap (λ m. slice_index_or lines m []) same_place ∙ h (n - line) in
      ap (λ l. nat_le 1 n && begins is_upright l) nothing ∙ and_off (nat_le 1 n)

  abbrev NoneIn : ℕ → ℕ → Type 0
  NoneIn from to = (n : ℕ) → from ≤ n → n < to → is_rung_line lines n ≡ false

  abbrev AllIn : ℕ → ℕ → Type 0
  AllIn from to = (n : ℕ) → from ≤ n → n < to → is_rung_line lines n ≡ true

  longer : (b : Bool) (from to : ℕ) → ((n : ℕ) → from ≤ n → n < to → is_rung_line lines n ≡ b) → is_rung_line lines to ≡ b
      → (n : ℕ) → from ≤ n → n < to + 1 → is_rung_line lines n ≡ b
  longer b from to some last n above below = elim (cases_lt n to) [
    | inl less ↦ some n above less
    | inr more ↦ let is : n ≡ to = omega (arith, more, below) in ap (λ m. is_rung_line lines m) is ∙ last
  ]

  -- where a rung goes on: it began behind `at`, and its lines so far are rung lines
  record Running (at s line : ℕ) : Type 0 where
    pub ordered : at ≤ s
    pub some : s < line
    pub gap : NoneIn at s
    pub run : AllIn s line

  ended : (at s line : ℕ) → Running at s line → is_rung_line lines line ≡ false → IsRung lines (part at s line)
  ended at s line r longest = record { ordered = (r.ordered, r.some); gap = r.gap; run = r.run; longest = longest }

  abbrev Standing : ℕ → ℕ → Option ℕ → Type 0
  Standing at line None = (at ≤ line) × NoneIn at line
  Standing at line (Some s) = Running at s line

  no_line : (at : ℕ) (b : Bool) (n : ℕ) → at ≤ n → n < at → is_rung_line lines n ≡ b
  no_line at b n above less = absurd (omega (arith, above, less))

  begun : (at line : ℕ) → at ≤ line → NoneIn at line → is_rung_line lines line ≡ true → Running at line (line + 1)
  begun at line below gap is = record { ordered = below; some = omega arith; gap = gap; run = longer true line line (no_line line true) is }

  gone_on : (at s line : ℕ) → Running at s line → is_rung_line lines line ≡ true → Running at s (line + 1)
  gone_on at s line r is = record { ordered = r.ordered; some = omega (arith, r.some); gap = r.gap; run = longer true s line r.run is }

  parts_hold : (ls : Lines) (at line : ℕ) (run : Option ℕ) → 1 ≤ line → Follow line ls → Standing at line run → AreRungs lines at (parts_from at line run ls)
  parts_hold [] at line None first h stands = λ n above. elim (cases_lt n line) [ inl less ↦ stands.1 n above less | inr more ↦ past line h n more ]
  parts_hold [] at line (Some s) first h r = (refl, ended at s line r (past line h line (omega arith)), λ n above. past line h n above)
  parts_hold (l ∷ ls) at line None first h stands =
      let is : is_rung_line lines line ≡ begins is_upright l = here line l ls first h in
      let rest : Follow (line + 1) ls = following line l ls h in
      let later : 1 ≤ line + 1 = omega arith in
      elim (begins is_upright l) as (λ t. begins is_upright l ≡ t → AreRungs lines at (cond t (parts_from at (line + 1) (Some line) ls) (parts_from at (line + 1) None ls))) [
        | true ↦ λ e. parts_hold ls at (line + 1) (Some line) later rest (begun at line stands.0 stands.1 (is ∙ e))
        | false ↦ λ e. parts_hold ls at (line + 1) None later rest (omega (arith, stands.0), longer false at line stands.1 (is ∙ e))
      ] refl
  parts_hold (l ∷ ls) at line (Some s) first h r =
      let is : is_rung_line lines line ≡ begins is_upright l = here line l ls first h in
      let rest : Follow (line + 1) ls = following line l ls h in
      let later : 1 ≤ line + 1 = omega arith in
      elim (begins is_upright l) as (λ t. begins is_upright l ≡ t
      → AreRungs lines at (cond t (parts_from at (line + 1) (Some s) ls) (part at s line ∷ parts_from line (line + 1) None ls))) [
        | true ↦ λ e. parts_hold ls at (line + 1) (Some s) later rest (gone_on at s line r (is ∙ e))
        | false ↦ λ e. (
          refl,
          ended at s line r (is ∙ e),
          parts_hold ls line (line + 1) None later rest (omega arith, longer false line line (no_line line false) (is ∙ e)),
        )
      ] refl

first_line : (l : List ℕ) (ls : Lines) → Follow (l ∷ ls) 1 ls
first_line l ls = λ k. let same : 1 + k ≡ suc k = omega arith in ap (λ n. slice_index_or (l ∷ ls) n []) same

pub parts_are : (lines : Lines) → AreRungs lines 0 (parts_of lines)
parts_are [] = λ n above. and_off (nat_le 1 n)
parts_are (l ∷ ls) =
    let only_zero : (n : ℕ) → 0 ≤ n → n < 1 → is_rung_line (l ∷ ls) n ≡ false
    = λ n above less. let zeroth : n ≡ 0 = omega (arith, less) in ap (λ m. is_rung_line (l ∷ ls) m) zeroth in
    parts_hold (l ∷ ls) ls 0 1 None (omega arith) (first_line l ls) (omega arith, only_zero)

pub parts_same : (lines : Lines) (ps qs : List Part) → AreRungs lines 0 ps → AreRungs lines 0 qs → ps ≡ qs
parts_same lines ps qs a b = same_from lines 0 ps qs a b
