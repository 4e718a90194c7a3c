-- Lists of which all is the same that is marked: what a write in each, and a change of the marks, leave.
use Rattle.std.proofs.Common.{◌≡◌, ◌∙◌, ◌<◌, ℕ, Bool, List, Option, Some, None, get_or, length, set, slice_index_or, subst, sym, inl, inr, arith}
use Rattle.std.proofs.lemmas.List.{get_or-set_same, length-set}
use Rattle.std.proofs.lemmas.Option.{none-some, same_Some}
use Rattle.scan_cycle.specs.Cells.{put_in}
use Rattle.scan_cycle.proofs.Changes.{put_other}
use Rattle.scan_cycle.proofs.Sizes.{size-put_in}
use Rattle.diff_matching.specs.declared.matching.Pair.{Pair}
use Rattle.diff_rungs.specs.declared.marks.Side.{Side}
use Rattle.diff_rungs.specs.declared.marks.Side.TheVariants.{Old, New}
use Rattle.diff_rungs.specs.Marks.{AreRestored, AreSpoiled, HasMark, IsMarked}
use Rattle.diff_rungs.specs.Same.{From, IsSame}

put_here : {A : Type 0} (xs : List A) (m : Option ℕ) (v d : A) (i : ℕ) → m ≡ Some i → i < length (put_in xs m v) → get_or (put_in xs m v) i d ≡ v
put_here xs None v d i e short = absurd (none-some i e)
put_here xs (Some n) v d i e short =
    let here : n ≡ i = same_Some n i e in
    subst (λ k. get_or (set xs n v) k d ≡ v) here (get_or-set_same xs n v d (omega (arith, length-set xs n v)))

module _ {A : Type 0} (none : A) (pairs : List Pair) where
  pub marked : (marks : List Bool) (xs ys : List A) (x : Pair) → IsSame none pairs marks xs ys → IsMarked pairs marks x
      → slice_index_or xs x.old none ≡ slice_index_or ys x.new none
  marked marks xs ys x same is = same.same is.0 x is.1 is.2

  module _ (at : Option ℕ) (before after : List Bool) where
    pub fewer : (side : Side) (xs ys : List A) → AreSpoiled side at pairs before after → From side (IsSame none pairs before) xs ys → From side (IsSame none pairs after) xs ys
    fewer Old xs ys spoiled h = record { same = λ n x is mark. h.same n x is (spoiled n x is mark).1; inside = h.inside }
    fewer New xs ys spoiled h = record { same = λ n x is mark. h.same n x is (spoiled n x is mark).1; inside = h.inside }

    pub written : (side : Side) (xs ys : List A) (v : A) → AreSpoiled side at pairs before after → From side (IsSame none pairs before) xs ys
        → From side (IsSame none pairs after) (put_in xs at v) ys
    written Old xs ys v spoiled h = record {
      same = λ n x is mark. put_other xs at v none x.old (spoiled n x is mark).0 ∙ h.same n x is (spoiled n x is mark).1;
      inside = λ n x is. (subst (λ k. x.old < k) (sym (size-put_in xs at v)) (h.inside n x is).0, (h.inside n x is).1);
    }
    written New xs ys v spoiled h = record {
      same = λ n x is mark. h.same n x is (spoiled n x is mark).1 ∙ sym (put_other xs at v none x.new (spoiled n x is mark).0);
      inside = λ n x is. ((h.inside n x is).0, subst (λ k. x.new < k) (sym (size-put_in xs at v)) (h.inside n x is).1);
    }

  pub subset : (before after : List Bool) (xs ys : List A) → ((n : ℕ) → HasMark after n → HasMark before n) → IsSame none pairs before xs ys → IsSame none pairs after xs ys
  subset before after xs ys was h = record { same = λ n x is mark. h.same n x is (was n mark); inside = h.inside }

  pub restored : (a b : Option ℕ) (before after : List Bool) (xs ys : List A) (v w : A) → AreRestored a b pairs before after → v ≡ w
      → IsSame none pairs before (put_in xs a v) (put_in ys b w) → IsSame none pairs after (put_in xs a v) (put_in ys b w)
  restored a b before after xs ys v w again equal h = record {
    same = λ n x is mark. elim (again n x is mark) [
      | inl both ↦ put_here xs a v none x.old both.0 (h.inside n x is).0 ∙ equal ∙ sym (put_here ys b w none x.new both.1 (h.inside n x is).1)
      | inr was ↦ h.same n x is was
    ];
    inside = h.inside;
  }

pub spoiled_at : (side : Side) (at to : Option ℕ) (pairs others : List Pair) (before after : List Bool) → at ≡ to → pairs ≡ others
    → AreSpoiled side at pairs before after → AreSpoiled side to others before after
spoiled_at side at to pairs others before after same all spoiled =
    subst (λ ps. AreSpoiled side to ps before after) all (subst (λ i. AreSpoiled side i pairs before after) same spoiled)
