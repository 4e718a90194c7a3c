-- What elements leave is one thing.
use Rattle.std.proofs.Common.{◌≡◌, ℕ, Bool, true, false, List, drop, refl, subst, sym}
use Rattle.diagram_declarations.specs.declared.decls.Instance.{Instance}
use Rattle.scan_cycle.specs.Rung.{Held}
use Rattle.st_statements.specs.Run.{Ran, called, triggered}
use Rattle.network_power.specs.declared.network.Links.{Links}
use Rattle.network_power.specs.declared.network.Network.{Network}
use Rattle.network_check.specs.declared.effect.Effect.{Effect}
use Rattle.network_check.specs.Runs.{Has, inverse_if, stored, Runs, end, coil, trigger, call, returned, passed, jumped, not_jumped, label}

one_power : (net : Network) (h : Held) (left : Links) (a b : Bool) → Has net h left a → Has net h left b → b ≡ a
one_power net h left true true one two = refl
one_power net h left false false one two = refl
one_power net h left true false one two = two.1 (one.0 refl)
one_power net h left false true one two = sym (one.1 (two.0 refl))

module _ (net : Network) (instances : List Instance) (now : ℕ) where
  pub determined : (effects : List Effect) (h : Held) (r s : Ran) → Runs net instances now effects h r → Runs net instances now effects h s → r ≡ s
  determined _ h _ _ (end _) (end _) = refl
  determined _ h r s (coil variable kind left effects _ on _ has runs) (coil _ _ _ _ _ also _ has_too runs_too) =
      determined effects (stored kind variable on h) r s runs
      (subst (λ (b : Bool). Runs net instances now effects (stored kind variable b h) s) (one_power net h left on also has has_too) runs_too)
  determined _ h r s (trigger output memory falling left effects _ on _ has runs) (trigger _ _ _ _ _ _ also _ has_too runs_too) =
      determined effects (triggered output memory (inverse_if falling on) h) r s runs
      (subst (λ (b : Bool). Runs net instances now effects (triggered output memory (inverse_if falling b) h) s) (one_power net h left on also has has_too) runs_too)
  determined _ h r s (call instance first second effects _ on other _ has has_other runs) (call _ _ _ _ _ also also_other _ has_too has_other_too runs_too) =
      determined effects (called instances now instance on other h) r s runs
      (subst (λ (b : Bool). Runs net instances now effects (called instances now instance on b h) s) (one_power net h second other also_other has_other has_other_too)
      (subst (λ (b : Bool). Runs net instances now effects (called instances now instance b also_other h) s) (one_power net h first on also has has_too) runs_too))
  determined _ h r s (returned left effects _ has) (returned _ _ _ has_too) = refl
  determined _ h r s (passed left effects _ _ has runs) (passed _ _ _ _ has_too runs_too) = determined effects h r s runs runs_too
  determined _ h r s (returned left effects _ has) (passed _ _ _ _ has_too runs_too) =
      let same : false ≡ true = one_power net h left true false has has_too in cc
  determined _ h r s (passed left effects _ _ has runs) (returned _ _ _ has_too) =
      let same : true ≡ false = one_power net h left false true has has_too in cc
  determined _ h r s (jumped over left effects _ _ has runs) (jumped _ _ _ _ _ has_too runs_too) = determined (drop over effects) h r s runs runs_too
  determined _ h r s (not_jumped over left effects _ _ has runs) (not_jumped _ _ _ _ _ has_too runs_too) = determined effects h r s runs runs_too
  determined _ h r s (jumped over left effects _ _ has runs) (not_jumped _ _ _ _ _ has_too runs_too) =
      let same : false ≡ true = one_power net h left true false has has_too in cc
  determined _ h r s (not_jumped over left effects _ _ has runs) (jumped _ _ _ _ _ has_too runs_too) =
      let same : true ≡ false = one_power net h left false true has has_too in cc
  determined _ h r s (label effects _ _ runs) (label _ _ _ runs_too) = determined effects h r s runs runs_too
