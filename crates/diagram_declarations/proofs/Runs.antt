-- The longest run of bytes of a kind at the front of a text.
use Rattle.std.proofs.Common.{◌≡◌, ℕ, suc, arith, ◌+◌, Bool, true, false, cond, List, [], ◌∷◌, ◌++◌, length, take, drop, refl}
use Rattle.std.specs.List.{list_all, prefix_len}
use Rattle.std.proofs.lemmas.Bool.{and_parts}
use Rattle.std.proofs.Math.Seq.{take-append_seam, drop-append_seam}

-- a text begins with a byte of this kind
abbrev pub begins : (ℕ → Bool) → List ℕ → Bool
begins test text = elim text [ b ∷ bs ↦ test b | [] ↦ false ]

pub prefix_len-run : (p : ℕ → Bool) (run after : List ℕ) → list_all p run ≡ true → begins p after ≡ false → prefix_len p (run ++ after) ≡ length run
prefix_len-run p [] [] all end = refl
prefix_len-run p [] (b ∷ bs) all end = rw end refl
prefix_len-run p (r ∷ rs) after all end =
    let parts = and_parts (p r) (list_all p rs) all in
    rw (parts.0, prefix_len-run p rs after parts.1 end) (omega arith)

pub take_run : (p : ℕ → Bool) (run after : List ℕ) → list_all p run ≡ true → begins p after ≡ false → take (prefix_len p (run ++ after)) (run ++ after) ≡ run
take_run p run after all end = rw (prefix_len-run p run after all end) (take-append_seam run after)

pub drop_run : (p : ℕ → Bool) (run after : List ℕ) → list_all p run ≡ true → begins p after ≡ false → drop (prefix_len p (run ++ after)) (run ++ after) ≡ after
drop_run p run after all end = rw (prefix_len-run p run after all end) (drop-append_seam run after)

take_more : (n x : ℕ) (xs : List ℕ) → take (1 + n) (x ∷ xs) ≡ x ∷ take n xs
take_more n x xs = let e : 1 + n ≡ suc n = omega arith in rw e refl

pub run_passes : (p : ℕ → Bool) (xs : List ℕ) → list_all p (take (prefix_len p xs) xs) ≡ true
run_passes p [] = refl
run_passes p (x ∷ xs) =
    elim (p x) as (λ t. p x ≡ t → list_all p (take (cond t (1 + prefix_len p xs) 0) (x ∷ xs)) ≡ true) [
      | true ↦ λ e. rw (take_more (prefix_len p xs) x xs, e) (run_passes p xs)
      | false ↦ λ e. refl
    ] refl
