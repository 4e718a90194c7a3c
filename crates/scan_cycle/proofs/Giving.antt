-- One turn of giving inputs: an input variable takes the next value, and any other variable keeps its own.
use Rattle.std.proofs.Common.{◌≡◌, ℕ, ◌+◌, ◌<◌, ◌≤◌, Bool, true, false, List, [], ◌∷◌, ◌++◌, map, cond, take, drop, length, get_or, set, zero, suc, add-one, refl, sym, ap, ap₂, ◌∙◌, arith, append_assoc}
use Rattle.std.specs.List.{prefix_len}
use Rattle.std.proofs.lemmas.List.{drop_more, drop_all, take_more, take_more_set, take_all, append-nil, drop-set-lt}
use Rattle.scan_cycle.specs.Scan.{given}

short : (flags : List Bool) (n : ℕ) → get_or flags n false ≡ true → n < length flags
short [] n h = cc
short (b ∷ flags) zero h = omega arith
short (b ∷ flags) (suc n) h = let k = short flags n h in omega (arith, k)

-- the flags of the first elements that pass are ON
pub leading_on : {X : Type 0} (p : X → Bool) (xs : List X) (i : ℕ) → i < prefix_len p xs → get_or (map p xs) i false ≡ true
leading_on p [] i h = absurd (omega arith)
leading_on p (x ∷ xs) i h = by (p x) refl (leading_on p xs) i h
  where
    by : (b : Bool) → p x ≡ b → ((j : ℕ) → j < prefix_len p xs → get_or (map p xs) j false ≡ true)
        → (j : ℕ) → j < cond b (1 + prefix_len p xs) 0 → get_or (map p (x ∷ xs)) j false ≡ true
    by true e rest zero l = e
    by true e rest (suc j) l = rest j (omega arith)
    by false e rest j l = absurd (omega arith)

module _ {S : Type 0} where
  no_input : (flags : List Bool) (n : ℕ) → get_or flags n false ≡ false → (xs : List S) (v : S) (vs : List S) → given (drop n flags) xs (v ∷ vs) ≡ v ∷ given (drop (suc n) flags) xs vs
  no_input [] zero h xs v vs = refl
  no_input [] (suc n) h xs v vs = refl
  no_input (true ∷ flags) zero h xs v vs = cc
  no_input (false ∷ flags) zero h xs v vs = refl
  no_input (b ∷ flags) (suc n) h xs v vs = no_input flags n h xs v vs

  no_value : (flags : List Bool) (n : ℕ) (v : S) (vs : List S) → given (drop n flags) [] (v ∷ vs) ≡ v ∷ given (drop (suc n) flags) [] vs
  no_value [] zero v vs = refl
  no_value [] (suc n) v vs = refl
  no_value (true ∷ flags) zero v vs = refl
  no_value (false ∷ flags) zero v vs = refl
  no_value (b ∷ flags) (suc n) v vs = no_value flags n v vs

  -- what is behind the entry at n moves before it
  moved : (flags : List Bool) (xs values : List S) (n : ℕ) (d : S) → n < length values
      → given (drop n flags) xs (get_or values n d ∷ drop (n + 1) values) ≡ get_or values n d ∷ given (drop (suc n) flags) xs (drop (n + 1) values)
      → take (n + 1) values ++ given (drop (n + 1) flags) xs (drop (n + 1) values) ≡ take n values ++ given (drop n flags) xs (drop n values)
  moved flags xs values n d lt h =
      ap₂ (λ a k. a ++ given (drop k flags) xs (drop (n + 1) values)) (take_more values n d lt) (add-one n)
      ∙ append_assoc (take n values) (get_or values n d ∷ []) (given (drop (suc n) flags) xs (drop (n + 1) values))
      ∙ ap (λ a. take n values ++ a) (sym h)
      ∙ sym (ap (λ a. take n values ++ given (drop n flags) xs a) (drop_more values n d lt))

  pub passed : (flags : List Bool) (xs values : List S) (n : ℕ) (d : S) → n < length values → get_or flags n false ≡ false
      → take (n + 1) values ++ given (drop (n + 1) flags) xs (drop (n + 1) values) ≡ take n values ++ given (drop n flags) xs (drop n values)
  passed flags xs values n d lt h = moved flags xs values n d lt (no_input flags n h xs (get_or values n d) (drop (n + 1) values))

  pub ended : (flags : List Bool) (xs values : List S) (next n : ℕ) (d : S) → n < length values → length xs ≤ next
      → take (n + 1) values ++ given (drop (n + 1) flags) (drop next xs) (drop (n + 1) values) ≡ take n values ++ given (drop n flags) (drop next xs) (drop n values)
  ended flags xs values next n d lt le =
      moved flags (drop next xs) values n d lt
      (ap (λ ys. given (drop n flags) ys (get_or values n d ∷ drop (n + 1) values)) (drop_all next xs le)
      ∙ no_value flags n (get_or values n d) (drop (n + 1) values)
      ∙ ap (λ ys. get_or values n d ∷ given (drop (suc n) flags) ys (drop (n + 1) values)) (sym (drop_all next xs le)))

  pub taken : (flags : List Bool) (xs values : List S) (next n : ℕ) (x d : S) → n < length values → next < length xs → get_or flags n false ≡ true → x ≡ get_or xs next d
      → take (n + 1) (set values n x) ++ given (drop (n + 1) flags) (drop (next + 1) xs) (drop (n + 1) (set values n x))
      ≡ take n values ++ given (drop n flags) (drop next xs) (drop n values)
  taken flags xs values next n x d lt more h e =
      let rest = given (drop (n + 1) flags) (drop (next + 1) xs) (drop (n + 1) values) in
      let flag : drop n flags ≡ true ∷ drop (n + 1) flags = drop_more flags n false (short flags n h) ∙ ap (λ b. b ∷ drop (n + 1) flags) h in
      ap₂ (λ a vs. a ++ given (drop (n + 1) flags) (drop (next + 1) xs) vs) (take_more_set values n x lt) (drop-set-lt (n + 1) values n x (omega arith))
      ∙ append_assoc (take n values) (x ∷ []) rest
      ∙ ap (λ y. take n values ++ (y ∷ rest)) e
      ∙ sym (ap₂ (λ fs vs. take n values ++ given fs (drop next xs) vs) flag (drop_more values n d lt)
      ∙ ap (λ ys. take n values ++ given (true ∷ drop (n + 1) flags) ys (get_or values n d ∷ drop (n + 1) values)) (drop_more xs next d more))

  given_end : (flags : List Bool) (xs : List S) → given flags xs [] ≡ []
  given_end [] xs = refl
  given_end (true ∷ flags) xs = refl
  given_end (false ∷ flags) xs = refl

  pub all_given : (flags : List Bool) (xs values : List S) (n : ℕ) → length values ≤ n → take n values ++ given (drop n flags) xs (drop n values) ≡ values
  all_given flags xs values n le =
      ap (λ vs. take n values ++ given (drop n flags) xs vs) (drop_all n values le)
      ∙ ap (λ vs. take n values ++ vs) (given_end (drop n flags) xs)
      ∙ append-nil (take n values)
      ∙ take_all n values le

  -- with no value left, nothing changes
  given_none : (flags : List Bool) (values : List S) → given flags [] values ≡ values
  given_none (true ∷ flags) (v ∷ values) = ap (λ vs. v ∷ vs) (given_none flags values)
  given_none (false ∷ flags) (v ∷ values) = ap (λ vs. v ∷ vs) (given_none flags values)
  given_none _ _ = refl

  -- where the first variables are the inputs that are given, they take the values as they stand
  pub given_leading : (flags : List Bool) (xs values : List S) → length xs ≤ length values → ((i : ℕ) → i < length xs → get_or flags i false ≡ true)
      → given flags xs values ≡ xs ++ drop (length xs) values
  given_leading flags [] values le on = given_none flags values
  given_leading [] (x ∷ xs) values le on = let bad : false ≡ true = on 0 (omega arith) in cc
  given_leading (f ∷ flags) (x ∷ xs) [] le on = absurd (omega arith)
  given_leading (true ∷ flags) (x ∷ xs) (v ∷ values) le on = ap (λ vs. x ∷ vs) (given_leading flags xs values (omega arith) (λ i h. on (suc i) (omega arith)))
  given_leading (false ∷ flags) (x ∷ xs) (v ∷ values) le on = let bad : false ≡ true = on 0 (omega arith) in cc
