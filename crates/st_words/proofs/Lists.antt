-- Longest runs.
use Rattle.std.proofs.Common.{◌≡◌, ℕ, Bool, true, false, cond, List, [], ◌∷◌, ◌++◌, take, drop, refl, ◌+◌}
use Rattle.std.specs.List.{list_all, prefix_len}
use Rattle.std.proofs.Math.Numerals.{one-add}
use Rattle.std.proofs.lemmas.Bool.{and_parts}
use Rattle.st_words.specs.Words.{begins}

run_passes_at : (p : ℕ → Bool) (x : ℕ) (xs : List ℕ) (b : Bool) → p x ≡ b → list_all p (take (prefix_len p xs) xs) ≡ true
    → list_all p (take (cond b (1 + prefix_len p xs) 0) (x ∷ xs)) ≡ true
run_passes_at p x xs true e h = rw one-add (rw e h)
run_passes_at p x xs false e h = refl

pub run_passes : (p : ℕ → Bool) (xs : List ℕ) → list_all p (take (prefix_len p xs) xs) ≡ true
run_passes p [] = refl
run_passes p (x ∷ xs) = run_passes_at p x xs (p x) refl (run_passes p xs)

run_stops_at : (p : ℕ → Bool) (x : ℕ) (xs : List ℕ) (b : Bool) → p x ≡ b → begins p (drop (prefix_len p xs) xs) ≡ false
    → begins p (drop (cond b (1 + prefix_len p xs) 0) (x ∷ xs)) ≡ false
run_stops_at p x xs true e h = rw one-add h
run_stops_at p x xs false e h = e

pub run_stops : (p : ℕ → Bool) (xs : List ℕ) → begins p (drop (prefix_len p xs) xs) ≡ false
run_stops p [] = refl
run_stops p (x ∷ xs) = run_stops_at p x xs (p x) refl (run_stops p xs)

-- a run before a rest that doesn't go on with it
pub run_before : (p : ℕ → Bool) (xs rest : List ℕ) → list_all p xs ≡ true → begins p rest ≡ false → drop (prefix_len p (xs ++ rest)) (xs ++ rest) ≡ rest
run_before p [] [] all stop = refl
run_before p [] (r ∷ rest) all stop = rw stop refl
run_before p (x ∷ xs) rest all stop = let both = and_parts (p x) (list_all p xs) all in rw (both.0, one-add) (run_before p xs rest both.1 stop)
