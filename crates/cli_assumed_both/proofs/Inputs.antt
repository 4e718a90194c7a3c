-- The inputs of a program are variables of it.
use Rattle.std.proofs.Common.{◌≡◌, ◌<◌, ℕ, zero, suc, Bool, true, false, List, [], ◌∷◌, arith, filter, get_or, length, map, refl}
use Rattle.std.specs.List.{All, range_with_len}
use Rattle.std.proofs.lemmas.List.{length-map}
use Rattle.std.proofs.lemmas.List.Elements.{filter_passes}
use Rattle.diagram_declarations.specs.Decls.{is_input}
use Rattle.diagram_program.specs.Program.{Drawing}
use Rattle.scan_cycle.specs.Programs.{diagram_of}
use Rattle.causes_query.specs.Assignment.{input_variables}
use Rattle.invariant_sets.specs.Invariants.{input_numbers}
use Rattle.assume_both.specs.Both.{AreVariablesOf}

false_true : false ≡ true → ⊥
false_true e = cc

flag_within : (flags : List Bool) (var : ℕ) → get_or flags var false ≡ true → var < length flags
flag_within [] zero h = absurd (false_true h)
flag_within [] (suc n) h = absurd (false_true h)
flag_within (b ∷ flags) zero h = omega arith
flag_within (b ∷ flags) (suc n) h = omega (arith, flag_within flags n h)

among : (flags : List Bool) (n : ℕ) → length flags ≡ n → All (λ var. var < n) (filter (λ var. get_or flags var false) (range_with_len 0 (length flags)))
among flags n same k d within =
    omega (arith, same, flag_within flags (get_or (filter (λ var. get_or flags var false) (range_with_len 0 (length flags))) k d) (filter_passes (λ var. get_or flags var false) (range_with_len 0 (length flags)) k d within))

pub are_variables : (p : Drawing) → AreVariablesOf p (input_numbers p)
unfolding diagram_of
are_variables p = among (map is_input p.decls.vars) (length p.decls.vars) (length-map p.decls.vars is_input)

pub numbers_of : (p : Drawing) → input_variables (map is_input p.decls.vars) ≡ input_numbers p
unfolding diagram_of
numbers_of p = refl
