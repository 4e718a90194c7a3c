-- A look keeps the numbers of variables and instances.
use Rattle.std.proofs.Common.{length, ◌≡◌, ℕ, List, map, zero, suc, ap, ◌∙◌, refl}
use Rattle.std.proofs.lemmas.List.{length-map}
use Rattle.diagram_program.specs.declared.geometry.TheConstants.{PLACES}
use Rattle.diagram_program.specs.Program.{block_in}
use Rattle.scan_signals.specs.Algebra.{Algebra}
use Rattle.scan_signals.specs.Blocks.{q_of}
use Rattle.scan_cycle.specs.Cells.{Diagram, Frame, Kept, var_in}
use Rattle.scan_cycle.specs.Rung.{Held, link, SameSizes}
use Rattle.scan_symbolic.specs.ByFrames.{effects, looked, look_frame}
use Rattle.scan_symbolic.specs.KnownScan.{guard_of}
use Rattle.scan_cycle.proofs.Sizes.{size-put_in, size-given}

module _ {S : Type 0} (o : Algebra S) (d : Diagram) (k : Kept) (now : ℕ) where
  size_effects_values : (j : ℕ) (guard : S) (links : ℕ → S) (n : ℕ) (f : Frame S) → length (effects o d k now j guard links n f).values ≡ length f.values
  unfolding effects
  size_effects_values j guard links zero f = refl
  size_effects_values j guard links (suc n) f = size-put_in (effects o d k now j guard links n f).values (var_in (d.cell j n)) _ ∙ size_effects_values j guard links n f

  size_effects_ends : (j : ℕ) (guard : S) (links : ℕ → S) (n : ℕ) (f : Frame S) → length (effects o d k now j guard links n f).ends ≡ length f.ends
  unfolding effects
  size_effects_ends j guard links zero f = refl
  size_effects_ends j guard links (suc n) f = size-put_in (effects o d k now j guard links n f).ends (block_in (d.cell j n)) _ ∙ size_effects_ends j guard links n f

  size_looked_values : (f : Frame S) (n : ℕ) → length (looked o d k now f n).frame.values ≡ length f.values
  unfolding looked
  size_looked_values f zero = refl
  size_looked_values f (suc n) =
      let s = looked o d k now f n in
      size_effects_values n (guard_of o d s.taken n) (link o d k now n s.frame) PLACES s.frame ∙ size_looked_values f n

  size_looked_ends : (f : Frame S) (n : ℕ) → length (looked o d k now f n).frame.ends ≡ length f.ends
  unfolding looked
  size_looked_ends f zero = refl
  size_looked_ends f (suc n) =
      let s = looked o d k now f n in
      size_effects_ends n (guard_of o d s.taken n) (link o d k now n s.frame) PLACES s.frame ∙ size_looked_ends f n

pub look_sizes : {S : Type 0} (o : Algebra S) (d : Diagram) (now : ℕ) (inputs : List S) (h : Held) (f next : Frame S) (n : ℕ) → f ≡ look_frame o d inputs h
    → next ≡ (looked o d h.kept now f n).frame → SameSizes next h
look_sizes o d now inputs h f next n b e = record {
  values =
      ap (λ (x : Frame _). length x.values) e
      ∙ size_looked_values o d h.kept now f n
      ∙ ap (λ (x : Frame _). length x.values) b
      ∙ size-given d.inputs inputs (map o.known h.values)
      ∙ length-map h.values o.known;
  ends =
      ap (λ (x : Frame _). length x.ends) e
      ∙ size_looked_ends o d h.kept now f n
      ∙ ap (λ (x : Frame _). length x.ends) b
      ∙ length-map h.kept.blocks (λ b. o.known (q_of b));
}

pub begin_size : {S : Type 0} (o : Algebra S) (d : Diagram) (inputs : List S) (h : Held) (f : Frame S) → f ≡ look_frame o d inputs h → length f.values ≡ length h.values
begin_size o d inputs h f e =
    ap (λ (x : Frame _). length x.values) e ∙ size-given d.inputs inputs (map o.known h.values) ∙ length-map h.values o.known
