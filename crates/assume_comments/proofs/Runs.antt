-- Longest runs, and comments up to their end.
use Rattle.std.proofs.Common.{◌≡◌, ◌⊎◌, inl, inr, ℕ, ◌+◌, ◌-◌, Bool, true, false, ◌&&◌, ◌||◌, ◌==◌, cond, List, [], ◌∷◌, ◌++◌, length, take, drop, Some, refl, sym, ap, ◌∙◌, arith}
use Rattle.std.specs.List.{list_all, prefix_len}
use Rattle.std.proofs.Math.Numerals.{one-add}
use Rattle.std.proofs.Math.Seq.{take-append_seam}
use Rattle.std.proofs.lemmas.Bool.{and_parts, eqb-true, both_ways}
use Rattle.std.proofs.lemmas.List.{length-append}
use Rattle.std.proofs.lemmas.Option.{same_Some, none-some}
use Rattle.diagram_declarations.specs.Text.{begins, begins_with, closes}
use Rattle.assume_comments.specs.Front.{behind_close}

-- ---- runs

run_passes_at : (p : ℕ → Bool) (x : ℕ) (xs : List ℕ) (b : Bool) → p x ≡ b → list_all p (take (prefix_len p xs) xs) ≡ true
    → list_all p (take (cond b (1 + prefix_len p xs) 0) (x ∷ xs)) ≡ true
run_passes_at p x xs true e h = rw one-add (rw e h)
run_passes_at p x xs false e h = refl

pub run_passes : (p : ℕ → Bool) (xs : List ℕ) → list_all p (take (prefix_len p xs) xs) ≡ true
run_passes p [] = refl
run_passes p (x ∷ xs) = run_passes_at p x xs (p x) refl (run_passes p xs)

run_stops_at : (p : ℕ → Bool) (x : ℕ) (xs : List ℕ) (b : Bool) → p x ≡ b → begins p (drop (prefix_len p xs) xs) ≡ false
    → begins p (drop (cond b (1 + prefix_len p xs) 0) (x ∷ xs)) ≡ false
run_stops_at p x xs true e h = rw one-add h
run_stops_at p x xs false e h = e

pub run_stops : (p : ℕ → Bool) (xs : List ℕ) → begins p (drop (prefix_len p xs) xs) ≡ false
run_stops p [] = refl
run_stops p (x ∷ xs) = run_stops_at p x xs (p x) refl (run_stops p xs)

-- a run before a rest that doesn't go on with it
pub run_before : (p : ℕ → Bool) (xs rest : List ℕ) → list_all p xs ≡ true → begins p rest ≡ false → drop (prefix_len p (xs ++ rest)) (xs ++ rest) ≡ rest
run_before p [] [] all stop = refl
run_before p [] (r ∷ rest) all stop = rw stop refl
run_before p (x ∷ xs) rest all stop = let both = and_parts (p x) (list_all p xs) all in rw (both.0, one-add) (run_before p xs rest both.1 stop)

-- ---- comments

neither : (x y : Bool) → (x || y) ≡ false → (x ≡ false) × (y ≡ false)
neither true y h = absurd cc
neither false y h = (refl, h)

begins_before : (byte b : ℕ) (xs ys : List ℕ) → (b == byte) ≡ false → begins_with byte (xs ++ (b ∷ ys)) ≡ begins_with byte xs
begins_before byte b [] ys h = h
begins_before byte b (x ∷ xs) ys h = refl

pub closed : (inside rest : List ℕ) → closes inside ≡ false → behind_close (inside ++ (42 ∷ 41 ∷ rest)) ≡ Some rest
closed [] rest h = refl
closed (b ∷ bs) rest h =
    let both = neither (b == 42 && begins_with 41 bs) (closes bs) h in
    rw (begins_before 41 42 bs (41 ∷ rest) refl, both.0) (closed bs rest both.1)

-- the comment is what is before its end
pub inside_is : (inside rest : List ℕ) → let text = inside ++ (42 ∷ 41 ∷ rest) in take (length text - (length rest + 2)) text ≡ inside
inside_is inside rest =
    let n : length (inside ++ (42 ∷ 41 ∷ rest)) - (length rest + 2) ≡ length inside = omega (arith, length-append inside (42 ∷ 41 ∷ rest)) in
    rw n (take-append_seam inside (42 ∷ 41 ∷ rest))

-- a comment up to its end
pub record Closed (text rest : List ℕ) : Type 0 where
  pub inside : List ℕ
  pub whole : text ≡ inside ++ (42 ∷ 41 ∷ rest)
  pub first : closes inside ≡ false

closed_here : (b : ℕ) (bs rest : List ℕ) → (b == 42 && begins_with 41 bs) ≡ true → Some (drop 1 bs) ≡ Some rest → Closed (b ∷ bs) rest
closed_here b [] rest h e = absurd (both_ways false refl (and_parts (b == 42) false h).1)
closed_here b (c ∷ cs) rest h e =
    let both = and_parts (b == 42) (c == 41) h in
    let one = eqb-true b 42 both.0 in
    let two = eqb-true c 41 both.1 in
    let after : cs ≡ rest = same_Some cs rest e in
    record { inside = []; whole = cc; first = refl }

closed_later : (b : ℕ) (bs rest : List ℕ) → (b == 42 && begins_with 41 bs) ≡ false → Closed bs rest → Closed (b ∷ bs) rest
closed_later b bs rest h later =
    let same : begins_with 41 later.inside ≡ begins_with 41 bs = sym (begins_before 41 42 later.inside (41 ∷ rest) refl) ∙ ap (begins_with 41) (sym later.whole) in
    record { inside = b ∷ later.inside; whole = ap (λ xs. b ∷ xs) later.whole; first = rw (same, h) later.first }

chosen : {A : Type 0} (b : Bool) (x y z : A) → cond b x y ≡ z → ((b ≡ true) × (x ≡ z)) ⊎ ((b ≡ false) × (y ≡ z))
chosen true x y z e = inl (refl, e)
chosen false x y z e = inr (refl, e)

pub close_found : (text rest : List ℕ) → behind_close text ≡ Some rest → Closed text rest
close_found [] rest e = absurd (none-some rest e)
close_found (b ∷ bs) rest e =
    elim (chosen (b == 42 && begins_with 41 bs) (Some (drop 1 bs)) (behind_close bs) (Some rest) e) [
      | inl here ↦ closed_here b bs rest here.0 here.1
      | inr later ↦ closed_later b bs rest later.0 (close_found bs rest later.1)
    ]
