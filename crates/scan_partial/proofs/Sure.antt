-- What is known stays what a program can hold.
use Rattle.std.proofs.Common.{◌≡◌, ℕ, Bool, true, false, List, [], ◌∷◌, map, get_or, zero, suc, All, arith, sym, subst}
use Rattle.diagram_declarations.specs.declared.kind.BlockKind.TheVariants.{Ton}
use Rattle.scan_signals.specs.Algebra.{Algebra, LatticeLaws}
use Rattle.scan_signals.specs.Blocks.{new_block}
use Rattle.scan_cycle.specs.Rung.{Held}
use Rattle.scan_cycle.specs.Scan.{given}
use Rattle.scan_symbolic.specs.KnownScan.{Keeping, Known, all_known}
use Rattle.scan_partial.specs.KeepsValues.{KeepsValues}
use Rattle.scan_partial.specs.Evaluating.{AreSure}

-- ---- each entry of a list
module _ {A : Type 0} (P : A → Type 0) (d : A) where
  pub filled_sure : (xs : List A) (x : A) → x ≡ d → P d → ((i : ℕ) → get_or xs i x ≡ x) → (i : ℕ) → P (get_or xs i d)
  filled_sure xs x e pd h i = subst P (sym (subst (λ (y : A). get_or xs i y ≡ y) e (h i))) pd

  pub mapped_sure : {C : Type 0} (f : C → A) (xs : List C) → P d → ((x : C) → P (f x)) → (i : ℕ) → P (get_or (map f xs) i d)
  mapped_sure f [] pd pf i = pd
  mapped_sure f (x ∷ xs) pd pf zero = pf x
  mapped_sure f (x ∷ xs) pd pf (suc i) = mapped_sure f xs pd pf i

  all_sure : (xs : List A) → All P xs → P d → (i : ℕ) → P (get_or xs i d)
  all_sure [] h pd i = pd
  all_sure (x ∷ xs) h pd zero = h 0 x (omega arith)
  all_sure (x ∷ xs) h pd (suc i) = all_sure xs (λ k e lt. h (suc k) e (omega (arith, lt))) pd i

  given_each : (flags : List Bool) (xs values : List A) → P d → ((i : ℕ) → P (get_or xs i d)) → ((i : ℕ) → P (get_or values i d)) → (i : ℕ) → P (get_or (given flags xs values) i d)
  given_each [] xs values pd hx hv i = hv i
  given_each (true ∷ flags) xs [] pd hx hv i = pd
  given_each (true ∷ flags) [] (v ∷ values) pd hx hv zero = hv 0
  given_each (true ∷ flags) [] (v ∷ values) pd hx hv (suc i) = given_each flags [] values pd hx (λ k. hv (suc k)) i
  given_each (true ∷ flags) (x ∷ xs) (v ∷ values) pd hx hv zero = hx 0
  given_each (true ∷ flags) (x ∷ xs) (v ∷ values) pd hx hv (suc i) = given_each flags xs values pd (λ k. hx (suc k)) (λ k. hv (suc k)) i
  given_each (false ∷ flags) xs [] pd hx hv i = pd
  given_each (false ∷ flags) xs (v ∷ values) pd hx hv zero = hv 0
  given_each (false ∷ flags) xs (v ∷ values) pd hx hv (suc i) = given_each flags xs values pd hx (λ k. hv (suc k)) i

  pub given_sure : (flags : List Bool) (xs values : List A) → P d → All P xs → ((i : ℕ) → P (get_or values i d)) → (i : ℕ) → P (get_or (given flags xs values) i d)
  given_sure flags xs values pd all hv i = given_each flags xs values pd (all_sure xs all pd) hv i

-- ---- what is known of a whole state
module _ {S B : Type 0} (o : Algebra S) (V : S → Type 0) (l : LatticeLaws S V o) (w : Keeping S B) (K : B → Type 0) (keeps : KeepsValues V K w) where
  pub fresh_sure : (vs ms : List S) (bs : List B) (off : S) (new : B) → off ≡ o.known false → new ≡ w.stored (new_block Ton) → ((i : ℕ) → get_or vs i off ≡ off)
      → ((i : ℕ) → get_or ms i off ≡ off) → ((i : ℕ) → get_or bs i new ≡ new) → AreSure o V K w (record { values = vs; memories = ms; blocks = bs })
  fresh_sure vs ms bs off new e f v m b = record {
    values = filled_sure V (o.known false) vs off e (l.known_value false) v;
    memories = filled_sure V (o.known false) ms off e (l.known_value false) m;
    blocks = filled_sure K _ bs new f (keeps.stored _) b;
  }

  pub sure_by : (k : Known S B) (vs ms : List S) (bs : List B) → vs ≡ k.values → ms ≡ k.memories → bs ≡ k.blocks → AreSure o V K w k
      → AreSure o V K w (record { values = vs; memories = ms; blocks = bs })
  sure_by k vs ms bs v m b s = record {
    values = λ i. subst (λ (xs : List S). V (get_or xs i (o.known false))) (sym v) (s.values i);
    memories = λ i. subst (λ (xs : List S). V (get_or xs i (o.known false))) (sym m) (s.memories i);
    blocks = λ i. subst (λ (xs : List B). K (get_or xs i (w.stored (new_block Ton)))) (sym b) (s.blocks i);
  }

  pub known_sure : (h : Held) → AreSure o V K w (all_known o w h)
  known_sure h = record {
    values = mapped_sure V (o.known false) o.known h.values (l.known_value false) l.known_value;
    memories = mapped_sure V (o.known false) o.known h.kept.memories (l.known_value false) l.known_value;
    blocks = mapped_sure K _ w.stored h.kept.blocks (keeps.stored _) keeps.stored;
  }

  pub given_known : (k : Known S B) (flags : List Bool) (xs : List S) → AreSure o V K w k → All V xs → AreSure o V K w (record k { values = given flags xs k.values })
  given_known k flags xs s all = record { values = given_sure V (o.known false) flags xs k.values (l.known_value false) all s.values; memories = s.memories; blocks = s.blocks }
