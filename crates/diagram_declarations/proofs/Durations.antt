-- One turn of the loop over the parts of a duration.
use Rattle.std.proofs.Common.{◌≡◌, ℕ, zero, suc, ◌<◌, ◌==◌, true, false, List, [], ◌∷◌, length, Option, Some, None, sym, ◌∙◌, refl, arith, ◌^◌, ◌&&◌, nat_lt, min, ◌+◌, ◌*◌}
use Rattle.std.proofs.lemmas.Bool.{eqb-true}
use Rattle.diagram_declarations.specs.declared.time.Unit.{Unit as TimeUnit}
use Rattle.diagram_declarations.specs.ReadTimes.{part_at, PartAt, after_underscore, total_from, millis_of, range_of}

-- the loop stands before this rest, and the whole is this
pub record Stands (last : TimeUnit) (total : ℕ) (rest : List ℕ) (whole : Option ℕ) : Type 0 where
  pub turns : ℕ
  pub enough : length rest < turns
  pub same : total_from turns last total rest ≡ whole

pub ends : (last : TimeUnit) (total : ℕ) (rest : List ℕ) (whole : Option ℕ) → Stands last total rest whole → (length rest == 0) ≡ true
    → whole ≡ Some total
unfolding total_from
ends last total (b ∷ bs) whole s empty = let none : length (b ∷ bs) ≡ 0 = eqb-true (length (b ∷ bs)) 0 empty in absurd (omega arith)
ends last total [] whole s empty =
    elim s.turns as (λ n. length {A = ℕ} [] < n → total_from n last total [] ≡ whole → whole ≡ Some total) [
      | zero ↦ λ enough same. absurd (omega arith)
      | suc n ↦ λ enough same. sym same
    ] s.enough s.same

pub stops : (last : TimeUnit) (total : ℕ) (rest : List ℕ) (whole : Option ℕ) → Stands last total rest whole → (length rest == 0) ≡ false
    → part_at (after_underscore rest) ≡ None → whole ≡ None
unfolding total_from
stops last total [] whole s some none = absurd cc
stops last total (b ∷ bs) whole s some none =
    elim s.turns as (λ n. length (b ∷ bs) < n → total_from n last total (b ∷ bs) ≡ whole → whole ≡ None) [
      | zero ↦ λ enough same. absurd (omega arith)
      | suc n ↦ λ enough same. sym same ∙ rw none refl
    ] s.enough s.same

pub refuses : (last : TimeUnit) (total : ℕ) (rest : List ℕ) (whole : Option ℕ) (p : PartAt) → Stands last total rest whole → (length rest == 0) ≡ false
    → part_at (after_underscore rest) ≡ Some p → (nat_lt (millis_of p.unit) (millis_of last) && nat_lt p.number (range_of p.unit)) ≡ false → whole ≡ None
unfolding total_from
refuses last total [] whole p s some part refused = absurd cc
refuses last total (b ∷ bs) whole p s some part refused =
    elim s.turns as (λ n. length (b ∷ bs) < n → total_from n last total (b ∷ bs) ≡ whole → whole ≡ None) [
      | zero ↦ λ enough same. absurd (omega arith)
      | suc n ↦ λ enough same. sym same ∙ rw (part, refused) refl
    ] s.enough s.same

pub goes_on : (last : TimeUnit) (total : ℕ) (rest : List ℕ) (whole : Option ℕ) (p : PartAt) → Stands last total rest whole → (length rest == 0) ≡ false
    → part_at (after_underscore rest) ≡ Some p → (nat_lt (millis_of p.unit) (millis_of last) && nat_lt p.number (range_of p.unit)) ≡ true → length p.rest < length rest
    → Stands p.unit (min (total + p.number * millis_of p.unit) (2 ^ 32)) p.rest whole
unfolding total_from
goes_on last total [] whole p s some part follows shorter = absurd cc
goes_on last total (b ∷ bs) whole p s some part follows shorter =
    elim s.turns as (λ n. length (b ∷ bs) < n → total_from n last total (b ∷ bs) ≡ whole → Stands p.unit (min (total + p.number * millis_of p.unit) (2 ^ 32)) p.rest whole) [
      | zero ↦ λ enough same. absurd (omega arith)
      | suc n ↦ λ enough same.
          let one : total_from (suc n) last total (b ∷ bs) ≡ total_from n p.unit (min (total + p.number * millis_of p.unit) (2 ^ 32)) p.rest = rw (part, follows) refl in
          record { turns = n; enough = omega arith; same = sym one ∙ same }
    ] s.enough s.same
