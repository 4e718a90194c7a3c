-- What is claimed, and what is known where it is claimed.
use Rattle.std.proofs.Common.{◌≡◌, ◌∙◌, ◌<◌, inl, inr, ℕ, Bool, true, false, List, [], ◌∷◌, length, zero, suc, refl, sym, arith}
use Rattle.scan_cycle.specs.Rung.{Held}
use Rattle.scan_signals.specs.Three.{three_known}
use Rattle.scan_signals.specs.declared.tri.Tri.{Tri}
use Rattle.scan_signals.specs.declared.tri.Tri.TheVariants.{Off, On, Unsure}
use Rattle.invariant_sets.specs.Never.{Bits, IsSo, IsWithin, claims}
use Rattle.invariant_sets.specs.Removing.{IsThinned}
use Rattle.invariant_cases.proofs.Values.{unsure_known}

-- what claims no more than something that claims nothing
pub none_left : (t u : Tri) → ((value : Bool) → t ≡ three_known value → u ≡ three_known value) → u ≡ Unsure → t ≡ Unsure
none_left Off u f e = absurd (unsure_known false (sym e ∙ f false refl))
none_left On u f e = absurd (unsure_known true (sym e ∙ f true refl))
none_left Unsure u f e = refl

-- ---- in a list
pub claim_within : (bits : List Tri) (i : ℕ) (value : Bool) → claims bits i ≡ three_known value → i < length bits
claim_within [] i value m = absurd (unsure_known value m)
claim_within (t ∷ bits) zero value m = omega arith
claim_within (t ∷ bits) (suc i) value m = let l = claim_within bits i value m in omega (arith, l)

-- ---- in a set
pub so_within : (z w : Bits) (h : Held) → IsWithin z w → IsSo w h → IsSo z h
so_within z w h within so = record {
  variables = λ var value m. so.variables var value (within.variables var value m);
  instances = λ inst value m. so.instances inst value (within.instances inst value m);
}

-- ---- in a list that has fewer
pub thinned_within : (bits left kept : List Tri) → IsThinned bits left kept → (i : ℕ) (value : Bool) → claims left i ≡ three_known value → claims bits i ≡ three_known value
thinned_within bits left kept thinned i value m = elim (thinned.1 i) [
  | inl e ↦ sym e ∙ m
  | inr e ↦ absurd (unsure_known value (sym e.0 ∙ m))
]

pub within_all : (a b c : Bits) → IsWithin a b → IsWithin b c → IsWithin a c
within_all a b c h k = record {
  variables = λ var value m. k.variables var value (h.variables var value m);
  instances = λ inst value m. k.instances inst value (h.instances inst value m);
}
