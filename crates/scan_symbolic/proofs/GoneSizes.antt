-- Steps keep the numbers of variables and instances.
use Rattle.std.proofs.Common.{◌≡◌, ℕ, List, [], ◌∷◌, length, map, refl, ap, ◌∙◌, length-set}
use Rattle.std.proofs.lemmas.List.{length-map}
use Rattle.diagram_program.specs.declared.steps.Step.{Step}
use Rattle.diagram_program.specs.declared.steps.Step.TheVariants.{Rare}
use Rattle.diagram_program.specs.declared.steps.Rare.TheVariants.{End, Act}
use Rattle.diagram_program.specs.Program.{Drawing, block_in}
use Rattle.scan_signals.specs.Algebra.{Algebra}
use Rattle.scan_signals.specs.Blocks.{q_of}
use Rattle.scan_cycle.specs.Cells.{Frame, Kept}
use Rattle.scan_cycle.specs.Programs.{diagram_of}
use Rattle.scan_cycle.specs.Rung.{Held, SameSizes}
use Rattle.scan_cycle.proofs.Sizes.{size-put_in, size-given}
use Rattle.scan_symbolic.specs.ByFrames.{look_frame}
use Rattle.scan_symbolic.specs.Stepping.{Going, frame_after, links_after, gone, all_gone}
use Rattle.scan_symbolic.proofs.StepWise.{values_length}

module _ {S : Type 0} (o : Algebra S) (p : Drawing) (k : Kept) (now : ℕ) where
  ends_length : (guard : S) (links : List S) (s : Step) (f : Frame S) → length (frame_after o p k guard links s f).ends ≡ length f.ends
  ends_length guard links (Rare (End place inst)) f = length-set f.ends inst _
  ends_length guard links (Rare (Act rung place left)) f = size-put_in f.ends (block_in ((diagram_of p).cell rung place)) _
  ends_length guard links _ f = refl

  gone_values : (ss : List Step) (g : Going S) → length (all_gone o p k now ss g).frame.values ≡ length g.frame.values
  unfolding all_gone
  gone_values [] g = refl
  gone_values (s ∷ ss) g = gone_values ss (gone o p k now s g) ∙ values_length o p k now g.guard (links_after o p k now g.frame s g.links) s g.frame

  gone_ends : (ss : List Step) (g : Going S) → length (all_gone o p k now ss g).frame.ends ≡ length g.frame.ends
  unfolding all_gone
  gone_ends [] g = refl
  gone_ends (s ∷ ss) g = gone_ends ss (gone o p k now s g) ∙ ends_length g.guard (links_after o p k now g.frame s g.links) s g.frame

pub gone_sizes : {S : Type 0} (o : Algebra S) (p : Drawing) (now : ℕ) (inputs : List S) (h : Held) (ss : List Step) (g : Going S) (next : Frame S)
    → g.frame ≡ look_frame o (diagram_of p) inputs h → next ≡ (all_gone o p h.kept now ss g).frame → SameSizes next h
gone_sizes o p now inputs h ss g next b e = record {
  values =
      ap (λ (x : Frame _). length x.values) e
      ∙ gone_values o p h.kept now ss g
      ∙ ap (λ (x : Frame _). length x.values) b
      ∙ size-given (diagram_of p).inputs inputs (map o.known h.values)
      ∙ length-map h.values o.known;
  ends =
      ap (λ (x : Frame _). length x.ends) e
      ∙ gone_ends o p h.kept now ss g
      ∙ ap (λ (x : Frame _). length x.ends) b
      ∙ length-map h.kept.blocks (λ b. o.known (q_of b));
}
