-- A text and its drawing begin in states that match.
use Rattle.std.proofs.Common.{◌≡◌, ◌∙◌, ap, sym, refl, subst, arith, ℕ, zero, suc, ◌+◌, ◌<◌, ◌≤◌, Bool, false, List, [], ◌∷◌, length, map, replicate, slice_index_or}
use Rattle.std.proofs.lemmas.List.{length-map}
use Rattle.diagram_declarations.specs.declared.decls.Instance.{Instance}
use Rattle.diagram_declarations.specs.declared.decls.Var.{Var}
use Rattle.diagram_program.specs.Program.{Drawing, memories_of}
use Rattle.st_program.specs.declared.program.StInstance.{StInstance}
use Rattle.st_program.specs.declared.program.StProgram.{StProgram}
use Rattle.st_program.specs.declared.symbols.StVariable.{StVariable}
use Rattle.scan_signals.specs.declared.block.Stored.{Stored}
use Rattle.scan_signals.specs.Blocks.{new_block}
use Rattle.scan_cycle.specs.Standing.{fresh}
use Rattle.export_rungs.specs.Matched.{AreMatched}
use Rattle.export_program.specs.declared.form.AddressForm.{AddressForm}
use Rattle.export_program.specs.Declarations.{AreExported, AreHelpers, AreInstances, AreVariables}
use Rattle.export_program.specs.Exported.{begun}

abbrev starts : List StVariable → List Bool
starts xs = map (λ x. x.initial) xs

values_alike : (form : AddressForm) (text : List ℕ) (vs : List Var) (xs : List StVariable) → AreVariables form text vs xs → (i : ℕ) → i < length vs
    → slice_index_or (starts xs) i false ≡ slice_index_or (map (λ v. v.initial) vs) i false
values_alike form text [] xs h i small = absurd (omega (arith, small))
values_alike form text (v ∷ vs) [] h i small = absurd h
values_alike form text (v ∷ vs) (x ∷ xs) h zero small = h.0.initial
values_alike form text (v ∷ vs) (x ∷ xs) h (suc i) small = values_alike form text vs xs h.1 i (omega (arith, small))

helpers_off : (xs : List StVariable) → AreHelpers xs → (i : ℕ) → slice_index_or (starts xs) i false ≡ false
helpers_off [] h i = refl
helpers_off (x ∷ xs) h zero = h.0.off
helpers_off (x ∷ xs) h (suc i) = helpers_off xs h.1 i

memories_off : (form : AddressForm) (text : List ℕ) (vs : List Var) (xs : List StVariable) → AreVariables form text vs xs → (i : ℕ)
    → slice_index_or (starts xs) (length vs + i) false ≡ false
memories_off form text [] xs h i =
    let at : 0 + i ≡ i = omega arith in
    ap (λ n. slice_index_or (starts xs) n false) at ∙ helpers_off xs h i
memories_off form text (v ∷ vs) [] h i = absurd h
memories_off form text (v ∷ vs) (x ∷ xs) h i =
    let at : suc (length vs) + i ≡ suc (length vs + i) = omega arith in
    ap (λ n. slice_index_or (starts (x ∷ xs)) n false) at ∙ memories_off form text vs xs h.1 i

all_off : (n i : ℕ) → slice_index_or (replicate n false) i false ≡ false
all_off zero i = refl
all_off (suc n) zero = refl
all_off (suc n) (suc i) = all_off n i

many : (n : ℕ) → length (replicate {A = Bool} n false) ≡ n
many zero = refl
many (suc n) = ap suc (many n)

blocks_alike : (text : List ℕ) (is : List Instance) (xs : List StInstance) → AreInstances text is xs
    → map (λ x. new_block x.kind) xs ≡ map (λ i. new_block i.kind) is
blocks_alike text [] [] h = refl
blocks_alike text [] (x ∷ xs) h = absurd h
blocks_alike text (i ∷ is) [] h = absurd h
blocks_alike text (i ∷ is) (x ∷ xs) h =
    ap (λ (s : Stored). s ∷ map (λ x. new_block x.kind) xs) (ap new_block h.0.kind) ∙ ap (λ (ss : List Stored). new_block i.kind ∷ ss) (blocks_alike text is xs h.1)

pub begins_alike : (form : AddressForm) (text : List ℕ) (d : Drawing) (p : StProgram) → AreExported form text d.decls p.variables.items p.instances.items
    → length d.decls.vars + memories_of d ≤ length p.variables.items → AreMatched d (length p.variables.items) (fresh d).held (begun p)
begins_alike form text d p declared enough = record {
  fits = length-map d.decls.vars (λ v. v.initial);
  remembers = many (memories_of d);
  instances = length-map d.decls.instances (λ i. new_block i.kind);
  long = length-map p.variables.items (λ x. x.initial);
  enough = enough;
  values = values_alike form text d.decls.vars p.variables.items declared.are_variables;
  memories = λ i small. memories_off form text d.decls.vars p.variables.items declared.are_variables i ∙ sym (all_off (memories_of d) i);
  blocks = blocks_alike text d.decls.instances p.instances.items declared.are_instances;
}
