-- Lists of what is related, or written and not changed.
use Rattle.std.proofs.Common.{◌≡◌, ℕ, ◌<◌, get_or, length, zero, suc, arith, List, [], ◌∷◌, ◌++◌, map, Option, Some, None, refl, ap, ap₂, ◌∙◌}
use Rattle.std.proofs.lemmas.List.{set-get_or}
use Rattle.scan_signals.specs.Algebra.{Algebra}
use Rattle.scan_signals.specs.Relations.{Both, IsKept}
use Rattle.scan_cycle.specs.Cells.{at, put_in}
use Rattle.scan_symbolic.specs.KnownLaws.{BothAt}

pub push_both : {A B : Type 0} (R : A → B → Type 0) (xs : List A) (vs : List B) → Both R xs vs → (x : A) (v : B) → R x v → Both R (xs ++ (x ∷ [])) (vs ++ (v ∷ []))
push_both R [] [] h x v r = (r, tt)
push_both R [] (w ∷ vs) h x v r = absurd h
push_both R (y ∷ xs) [] h x v r = absurd h
push_both R (y ∷ xs) (w ∷ vs) h x v r = (h.0, push_both R xs vs h.1 x v r)

-- ---- each at its place
pub get_both : {B C : Type 0} (Q : ℕ → B → C → Type 0) (xs : List B) (ys : List C) → BothAt Q xs ys → (d : B) (e : C) → ((i : ℕ) → Q i d e) → (i : ℕ) → Q i (get_or xs i d) (get_or ys i e)
get_both Q [] [] h d e r i = r i
get_both Q [] (y ∷ ys) h d e r i = absurd h
get_both Q (x ∷ xs) [] h d e r i = absurd h
get_both Q (x ∷ xs) (y ∷ ys) h d e r zero = h.0
get_both Q (x ∷ xs) (y ∷ ys) h d e r (suc i) = get_both (λ k. Q (suc k)) xs ys h.1 d e (λ k. r (suc k)) i

pub each_both : {B C : Type 0} (Q : ℕ → B → C → Type 0) (xs : List B) (ys : List C) → length xs ≡ length ys → (d : B) (e : C)
    → ((i : ℕ) → i < length xs → Q i (get_or xs i d) (get_or ys i e)) → BothAt Q xs ys
each_both Q [] [] same d e h = tt
each_both Q [] (y ∷ ys) same d e h = absurd (omega (arith, same))
each_both Q (x ∷ xs) [] same d e h = absurd (omega (arith, same))
each_both Q (x ∷ xs) (y ∷ ys) same d e h = (h 0 (omega arith), each_both (λ k. Q (suc k)) xs ys (omega (arith, same)) d e (λ i lt. h (suc i) (omega (arith, lt))))

pub both_each : {B C : Type 0} (Q : ℕ → B → C → Type 0) (xs : List B) (ys : List C) → BothAt Q xs ys → (d : B) (e : C) (i : ℕ) → i < length xs → Q i (get_or xs i d) (get_or ys i e)
both_each Q [] [] h d e i lt = absurd (omega (arith, lt))
both_each Q [] (y ∷ ys) h d e i lt = absurd h
both_each Q (x ∷ xs) [] h d e i lt = absurd h
both_each Q (x ∷ xs) (y ∷ ys) h d e zero lt = h.0
both_each Q (x ∷ xs) (y ∷ ys) h d e (suc i) lt = both_each (λ k. Q (suc k)) xs ys h.1 d e i (omega (arith, lt))

-- ---- all by one relation
pub both_same : {S : Type 0} (xs ys : List S) → Both (λ x y. x ≡ y) xs ys → xs ≡ ys
both_same [] [] h = refl
both_same [] (y ∷ ys) h = absurd h
both_same (x ∷ xs) [] h = absurd h
both_same (x ∷ xs) (y ∷ ys) h = ap₂ (λ a b. a ∷ b) h.0 (both_same xs ys h.1)

pub same_both : {S : Type 0} (xs : List S) → Both (λ x y. x ≡ y) xs xs
same_both [] = tt
same_both (x ∷ xs) = (refl, same_both xs)

pub same_kept : {S : Type 0} (o : Algebra S) → IsKept o o (λ x y. x ≡ y)
same_kept o = record {
  known = λ c. refl;
  join = λ x y u v r s. ap₂ o.join r s;
  meet = λ x y u v r s. ap₂ o.meet r s;
  inverse = λ x u r. ap o.inverse r;
  choice = λ c x y d u v q r s. ap₂ (λ p z. o.choice p z y) q r ∙ ap (o.choice d u) s;
}

pub put_same : {A : Type 0} (xs : List A) (m : Option ℕ) (d : A) → put_in xs m (at xs m d) ≡ xs
put_same xs None d = refl
put_same xs (Some i) d = set-get_or xs i d

pub map_same : {A : Type 0} (xs : List A) → map (λ x. x) xs ≡ xs
map_same [] = refl
map_same (x ∷ xs) = ap (λ ys. x ∷ ys) (map_same xs)
