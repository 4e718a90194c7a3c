-- What is written into a list, one pair after the other.
use Rattle.std.proofs.Common.{◌≡◌, ◌≢◌, ◌∙◌, ◌+◌, ◌<◌, ◌≤◌, ℕ, List, Some, ap, arith, get_or, length, refl, set, slice_get, slice_index_or, sym, inl, inr}
use Rattle.std.proofs.lemmas.Bool.{cases_lt}
use Rattle.std.proofs.lemmas.List.{get_or-set_other, get_or-set_same, length-set}
use Rattle.std.proofs.lemmas.Option.{get_or_from_slice_get, slice_get-get_or, slice_get_within}
use Rattle.diff_matching.specs.declared.matching.Pair.{Pair}
use Rattle.diff_matching.specs.Suited.{AreOnce}
use Rattle.diff_matching.specs.Writing.{IsWritten}

-- the same of the first pairs
pub record IsWrittenBelow {A : Type 0} (none : A) (pairs : List Pair) (i : ℕ) (xs before after : List A) : Type 0 where
  pub as_many : length after ≡ length before
  pub same : (n : ℕ) (x : Pair) → n < i → slice_get pairs n ≡ Some x → slice_index_or xs x.old none ≡ slice_index_or after x.new none
  pub rest : (n : ℕ) → ((k : ℕ) (x : Pair) → k < i → slice_get pairs k ≡ Some x → x.new ≢ n) → slice_index_or after n none ≡ slice_index_or before n none

module _ {A : Type 0} (none : A) (pairs : List Pair) (xs before : List A) where
  pub nothing_written : IsWrittenBelow none pairs 0 xs before before
  nothing_written = record {
    as_many = refl;
    same = λ n x less is. absurd (omega arith);
    rest = λ n alone. refl;
  }

  pub one_written : (i : ℕ) (d : Pair) (after : List A) (v : A) → AreOnce pairs → i < length pairs → (get_or pairs i d).new < length before
      → v ≡ slice_index_or xs (get_or pairs i d).old none → IsWrittenBelow none pairs i xs before after
      → IsWrittenBelow none pairs (i + 1) xs before (set after (get_or pairs i d).new v)
  one_written i d after v once short there value h =
      let at : ℕ = (get_or pairs i d).new in
      let room : at < length after = omega (arith, h.as_many) in
      record {
        as_many = length-set after at v ∙ h.as_many;
        same = λ n x less is.
            let here = get_or_from_slice_get pairs n x d is in
            elim (cases_lt n i) [
              | inl below ↦ (
                  let apart : x.new ≢ at = λ e. once n i d below short (ap (λ (y : Pair). y.new) here ∙ e) in
                  h.same n x below is ∙ sym (get_or-set_other after at x.new v none apart)
                  )
              | inr above ↦ (
                  let last : n ≡ i = omega arith in
                  let pair : get_or pairs i d ≡ x = ap (λ k. get_or pairs k d) (sym last) ∙ here in
                  ap (λ (y : Pair). slice_index_or xs y.old none) (sym pair) ∙ sym value ∙ sym (get_or-set_same after at v none room)
                  ∙ ap (λ (y : Pair). slice_index_or (set after at v) y.new none) pair
                  )
            ];
        rest = λ n alone.
            let is = slice_get-get_or pairs i d short in
            let apart : n ≢ at = λ e. alone i (get_or pairs i d) (omega arith) is (sym e) in
            get_or-set_other after at n v none apart ∙ h.rest n (λ k x less. alone k x (omega arith));
      }

  pub all_written : (i : ℕ) (after : List A) → length pairs ≤ i → IsWrittenBelow none pairs i xs before after → IsWritten none pairs xs before after
  all_written i after all h = record {
    as_many = h.as_many;
    same = λ n x is. h.same n x (let within = slice_get_within pairs n x is in omega arith) is;
    rest = λ n alone. h.rest n (λ k x less. alone k x);
  }
