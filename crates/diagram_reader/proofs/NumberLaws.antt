-- Memories are numbered in the order of the places.
use Rattle.std.proofs.Common.{◌≡◌, ℕ, zero, suc, ◌+◌, ◌≤◌, Bool, true, false, cond, List, length, take, get_or, count_by, None, add-one, refl, sym, ap, ◌∙◌, arith, inl, inr}
use Rattle.std.proofs.lemmas.Bool.{cases_lt}
use Rattle.std.proofs.lemmas.List.{get_or_past, take_all}
use Rattle.std.proofs.lemmas.List.Sums.{count_by_more_no, count_by_more_yes}
use Rattle.diagram_page.specs.Page.{Page}
use Rattle.diagram_reader.specs.Reading.{is_edge, memories_before}

pub count_more : {X : Type 0} (p : X → Bool) (xs : List X) (n : ℕ) (d : X) → p d ≡ false
    → count_by p (take (n + 1) xs) ≡ count_by p (take n xs) + cond (p (get_or xs n d)) 1 0
count_more p xs n d past_no =
    elim (cases_lt n (length xs)) [
      | inl below ↦ elim (p (get_or xs n d)) as (λ b. p (get_or xs n d) ≡ b → count_by p (take (n + 1) xs) ≡ count_by p (take n xs) + cond b 1 0) [
        | true ↦ λ yes. count_by_more_yes p xs n d below yes
        | false ↦ λ no. omega (arith, count_by_more_no p xs n d below no)
      ] refl
      | inr past ↦
          let same : count_by p (take (n + 1) xs) ≡ count_by p (take n xs)
          = ap (count_by p) (take_all (n + 1) xs (omega (arith, past)) ∙ sym (take_all n xs past)) in
          rw (get_or_past xs n d past, past_no) (omega (arith, same))
    ]

module _ (page : Page) where
  pub next_memory : (n : ℕ) → memories_before page (n + 1) ≡ memories_before page n + cond (is_edge (get_or page.forms n None)) 1 0
  next_memory n = count_more is_edge page.forms n None refl

  pub before_more : (m n : ℕ) → n ≤ m → memories_before page n ≤ memories_before page m
  before_more zero n below = let none : n ≡ zero = omega arith in rw none (omega arith)
  before_more (suc m) n below =
      elim (cases_lt n (suc m)) [
        | inl less ↦ rw (sym (add-one m)) (omega (arith, before_more m n (omega (arith, less)), next_memory m))
        | inr last ↦ let here : n ≡ suc m = omega (arith, last, below) in rw here (omega arith)
      ]
