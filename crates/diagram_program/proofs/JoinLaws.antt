-- Rows that vertical links join, from row to row.
use Rattle.std.proofs.Common.{◌≡◌, ℕ, suc, ◌+◌, ◌&&◌, Bool, true, false, refl, ap, ◌∙◌, add-one}
use Rattle.std.specs.List.{list_all, range_with_len}
use Rattle.std.proofs.lemmas.List.Folds.{list_all-append}
use Rattle.diagram_program.specs.Program.{Drawing, joined, site_at}
use Rattle.diagram_program.proofs.Ranges.{range_more, range_parts}

module _ (d : Drawing) (rung row column : ℕ) where
  pub joined_none : true ≡ joined d rung row column 0
  unfolding joined
  joined_none = refl

  pub joined_parts : (m n : ℕ) → joined d rung row column (m + n) ≡ (joined d rung row column m && joined d rung (row + m) column n)
  unfolding joined
  joined_parts m n =
      let links = λ (r : ℕ). (site_at d rung r column).vertical in
      ap (list_all links) (range_parts row m n) ∙ list_all-append links (range_with_len row m) (range_with_len (row + m) n)

  pub joined_more : (n : ℕ) → joined d rung row column (suc n) ≡ (joined d rung row column n && (site_at d rung (row + n) column).vertical)
  unfolding joined
  joined_more n =
      let links = λ (r : ℕ). (site_at d rung r column).vertical in
      ap (list_all links) (range_more row n)
      ∙ list_all-append links (range_with_len row n) _
      ∙ ap (λ b. list_all links (range_with_len row n) && b) (alone (links (row + n)))
    where
      alone : (b : Bool) → (b && true) ≡ b
      alone true = refl
      alone false = refl

  pub joined_next : (n : ℕ) → joined d rung row column (n + 1) ≡ (joined d rung row column n && (site_at d rung (row + n) column).vertical)
  joined_next n = ap (joined d rung row column) (add-one n) ∙ joined_more n

pub ruleset join_step = (joined_none, joined_next)
