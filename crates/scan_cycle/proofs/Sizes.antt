-- A scan keeps the numbers of variables, memories and instances.
use Rattle.std.proofs.Common.{length, ◌≡◌, ℕ, Bool, true, false, cond, List, [], ◌∷◌, zero, suc, nat_lt, subst, sym, ap, ◌∙◌, refl, Option, Some, None}
use Rattle.std.proofs.lemmas.List.{length-map, length-set}
use Rattle.diagram_program.specs.declared.geometry.TheConstants.{PLACES}
use Rattle.diagram_program.specs.Program.{block_in, memory_in}
use Rattle.scan_signals.specs.Truth.{plain}
use Rattle.scan_signals.specs.Blocks.{q_of}
use Rattle.scan_cycle.specs.Cells.{Diagram, Frame, put_in, var_in}
use Rattle.scan_cycle.specs.Rung.{Held, changes, frame_of, second, link_at, evaluated, SameSizes, SameLengths}
use Rattle.scan_cycle.specs.Scan.{given, next_rung}
use Rattle.scan_cycle.specs.RungByRung.{Scanned, scanned}
use Rattle.scan_cycle.proofs.Changes.{changed_is}

pub size-put_in : {A : Type 0} (xs : List A) (m : Option ℕ) (x : A) → length (put_in xs m x) ≡ length xs
size-put_in xs None x = refl
size-put_in xs (Some i) x = length-set xs i x

pub size-given : {S : Type 0} (flags : List Bool) (xs values : List S) → length (given flags xs values) ≡ length values
size-given (true ∷ flags) [] (v ∷ values) = ap suc (size-given flags [] values)
size-given (true ∷ flags) (x ∷ xs) (v ∷ values) = ap suc (size-given flags xs values)
size-given (false ∷ flags) xs (v ∷ values) = ap suc (size-given flags xs values)
size-given _ xs _ = refl

size_changes : (d : Diagram) (now j : ℕ) (start : Frame Bool) (links : ℕ → Bool) (n : ℕ) (h : Held) → SameLengths (changes d now j start links n h) h
unfolding changes
size_changes d now j start links zero h = record { values = refl; memories = refl; blocks = refl }
size_changes d now j start links (suc n) h =
    let before = changes d now j start links n h in
    let s = size_changes d now j start links n h in
    subst (λ (x : Held). SameLengths x h) (sym (changed_is d now start (d.cell j n) (links n) (second plain d j links n) before)) (record {
      values = size-put_in before.values (var_in (d.cell j n)) _ ∙ s.values;
      memories = size-put_in before.kept.memories (memory_in (d.cell j n)) _ ∙ s.memories;
      blocks = size-put_in before.kept.blocks (block_in (d.cell j n)) _ ∙ s.blocks;
    })

-- what contacts saw has the sizes of what the rung leaves
pub rung_sizes : (d : Diagram) (now j : ℕ) (h next : Held) (start : Frame Bool) → start ≡ frame_of h → next ≡ evaluated d now j h → SameSizes start next
rung_sizes d now j h next start s e =
    let t = size_changes d now j (frame_of h) (link_at d now j h) PLACES h in
    record {
      values = ap (λ (f : Frame Bool). length f.values) s ∙ sym (ap (λ (x : Held). length x.values) e ∙ t.values);
      ends =
          ap (λ (f : Frame Bool). length f.ends) s
          ∙ length-map h.kept.blocks q_of
          ∙ sym (ap (λ (x : Held). length x.kept.blocks) e ∙ t.blocks);
    }

pub sizes_same : {f g : Frame Bool} {h k : Held} → f ≡ g → h ≡ k → SameSizes g k → SameSizes f h
sizes_same e n s = record {
  values = ap (λ (x : Frame Bool). length x.values) e ∙ s.values ∙ sym (ap (λ (x : Held). length x.values) n);
  ends = ap (λ (x : Frame Bool). length x.ends) e ∙ s.ends ∙ sym (ap (λ (x : Held). length x.kept.blocks) n);
}

size_either : (d : Diagram) (now n : ℕ) (s : Scanned) (b : Bool) → SameLengths (cond b s (record { held = evaluated d now n s.held; resume = next_rung d now n s.held })).held s.held
size_either d now n s true = record { values = refl; memories = refl; blocks = refl }
size_either d now n s false = size_changes d now n (frame_of s.held) (link_at d now n s.held) PLACES s.held

size_then : {f g h : Held} → SameLengths f g → SameLengths g h → SameLengths f h
size_then a b = record { values = a.values ∙ b.values; memories = a.memories ∙ b.memories; blocks = a.blocks ∙ b.blocks }

size_scanned : (d : Diagram) (now : ℕ) (h : Held) (n : ℕ) → SameLengths (scanned d now h n).held h
unfolding scanned
size_scanned d now h zero = record { values = refl; memories = refl; blocks = refl }
size_scanned d now h (suc n) = size_then (size_either d now n (scanned d now h n) (nat_lt n (scanned d now h n).resume)) (size_scanned d now h n)

pub scan_lengths : (d : Diagram) (now : ℕ) (flags inputs : List Bool) (h begun next : Held) (n : ℕ) → begun ≡ record h { values = given flags inputs h.values }
    → next ≡ (scanned d now begun n).held → SameLengths next h
scan_lengths d now flags inputs h begun next n b e =
    let s = size_scanned d now begun n in
    record {
      values = ap (λ (x : Held). length x.values) e ∙ s.values ∙ ap (λ (x : Held). length x.values) b ∙ size-given flags inputs h.values;
      memories = ap (λ (x : Held). length x.kept.memories) e ∙ s.memories ∙ ap (λ (x : Held). length x.kept.memories) b;
      blocks = ap (λ (x : Held). length x.kept.blocks) e ∙ s.blocks ∙ ap (λ (x : Held). length x.kept.blocks) b;
    }
