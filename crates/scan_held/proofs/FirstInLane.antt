-- The first of several scans, noted scan by scan.
use Rattle.std.proofs.Common.{◌≡◌, ◌∙◌, ◌≤◌, ◌+◌, ℕ, Bool, true, false, ap, sym, arith, Option, Some, None, refl, IsSome}
use Rattle.std.specs.Prelude.{find}
use Rattle.std.specs.List.{range_with_len}
use Rattle.scan_held.proofs.FirstScans.{found_now, none_till, still_found}
use Rattle.scan_held.specs.Noting.{noted}

-- one scan more
module _ (p : ℕ → Bool) (n : ℕ) where
  here : n + 1 ≡ 1 + n
  here = omega arith

  by_value : (on : Bool) → p (1 + n) ≡ on → find p (range_with_len 1 n) ≡ None → find p (range_with_len 1 (n + 1)) ≡ noted on (n + 1) None
  by_value true e none = found_now p 1 n (n + 1) (omega arith) none e ∙ ap (λ (m : ℕ). Some m) (sym here)
  by_value false e none = none_till p n none e

  by_first : (first : Option ℕ) → find p (range_with_len 1 n) ≡ first → find p (range_with_len 1 (n + 1)) ≡ noted (p (1 + n)) (n + 1) first
  by_first None e = by_value (p (1 + n)) refl e
  by_first (Some first) e = still_found p 1 n (n + 1) first (omega arith) e

  pub first_more : find p (range_with_len 1 (n + 1)) ≡ noted (p (1 + n)) (n + 1) (find p (range_with_len 1 n))
  first_more = by_first (find p (range_with_len 1 n)) refl

-- what was found stays the first
pub first_stays : (p : ℕ → Bool) (n m : ℕ) → n ≤ m → IsSome (find p (range_with_len 1 n)) → find p (range_with_len 1 n) ≡ find p (range_with_len 1 m)
first_stays p n m few there = by_found (find p (range_with_len 1 n)) refl there
  where
    by_found : (first : Option ℕ) → find p (range_with_len 1 n) ≡ first → IsSome first → first ≡ find p (range_with_len 1 m)
    by_found None e there = cc
    by_found (Some first) e there = sym (still_found p 1 n m first few e)
