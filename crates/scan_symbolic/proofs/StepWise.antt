-- A look step by step is the look rung by rung.
use Rattle.std.proofs.Common.{◌≡◌, ℕ, ◌+◌, ◌<◌, ◌≤◌, List, drop, length, get_or, refl, sym, ap, ap₂, ◌∙◌, length-set}
use Rattle.std.proofs.lemmas.List.{drop_more, drop_all}
use Rattle.diagram_program.specs.declared.steps.Step.{Step}
use Rattle.diagram_program.specs.declared.steps.Step.TheVariants.{Is, Not, Rare}
use Rattle.diagram_program.specs.declared.steps.Rare.TheVariants.{Wire, Rising, Falling, Block, Own, Store, Set, Reset, Act, Leave}
use Rattle.diagram_program.specs.Program.{Drawing}
use Rattle.scan_signals.specs.Algebra.{Algebra}
use Rattle.scan_cycle.specs.Cells.{Frame, Kept, var_in}
use Rattle.scan_cycle.specs.Programs.{diagram_of}
use Rattle.scan_cycle.proofs.Sizes.{size-put_in}
use Rattle.scan_symbolic.specs.Stepping.{Going, going, links_after, frame_after, taken_after, guard_after, gone, all_gone}

-- ---- one turn of the loop
module _ {S : Type 0} (o : Algebra S) (p : Drawing) (k : Kept) (now : ℕ) where
  pub links_length : (f : Frame S) (s : Step) (links : List S) → length (links_after o p k now f s links) ≡ length links
  links_length f (Is spot var) links = length-set links spot.place _
  links_length f (Not spot var) links = length-set links spot.place _
  links_length f (Rare (Wire spot)) links = length-set _ spot.place _ ∙ length-set links _ _
  links_length f (Rare (Rising spot var memory)) links = length-set _ spot.place _ ∙ length-set links _ _
  links_length f (Rare (Falling spot var memory)) links = length-set _ spot.place _ ∙ length-set links _ _
  links_length f (Rare (Block spot below inst)) links = length-set _ spot.place _ ∙ length-set links _ _
  links_length f (Rare (Own spot below rung)) links = length-set _ spot.place _ ∙ length-set links _ _
  links_length f _ links = refl

  pub values_length : (guard : S) (links : List S) (s : Step) (f : Frame S) → length (frame_after o p k guard links s f).values ≡ length f.values
  values_length guard links (Rare (Store left var)) f = length-set f.values var _
  values_length guard links (Rare (Set left var)) f = length-set f.values var _
  values_length guard links (Rare (Reset left var)) f = length-set f.values var _
  values_length guard links (Rare (Act rung place left)) f = size-put_in f.values (var_in ((diagram_of p).cell rung place)) _
  values_length guard links _ f = refl

  pub taken_length : (guard : S) (links : List S) (s : Step) (taken : List S) → length (taken_after o guard links s taken) ≡ length taken
  taken_length guard links (Rare (Leave rung left)) taken = length-set taken rung _
  taken_length guard links _ taken = refl

  pub go_more : (ss : List Step) (i : ℕ) (s : Step) (g next : Going S) → i < length ss → next ≡ gone o p k now (get_or ss i s) g
      → all_gone o p k now (drop (i + 1) ss) next ≡ all_gone o p k now (drop i ss) g
  unfolding all_gone
  go_more ss i s g next lt e =
      ap (all_gone o p k now (drop (i + 1) ss)) e ∙ sym (ap (λ xs. all_gone o p k now xs g) (drop_more ss i s lt))

  pub go_end : (ss : List Step) (i : ℕ) (g : Going S) → length ss ≤ i → all_gone o p k now (drop i ss) g ≡ g
  unfolding all_gone
  go_end ss i g le = ap (λ xs. all_gone o p k now xs g) (drop_all i ss le)

  pub went : (s : Step) (f f' : Frame S) (taken taken' links links' : List S) (guard guard' : S)
      → guard' ≡ guard_after o p taken s guard → taken' ≡ taken_after o guard links s taken → links' ≡ links_after o p k now f s links
      → f' ≡ frame_after o p k guard links' s f → going f' taken' links' guard' ≡ gone o p k now s (going f taken links guard)
  went s f f' taken taken' links links' guard guard' hg ht hl hf =
      ap₂ (λ (x : Frame S) y. going x y links' guard') (hf ∙ ap (λ ls. frame_after o p k guard ls s f) hl) ht
      ∙ ap₂ (λ x y. going (frame_after o p k guard (links_after o p k now f s links) s f) (taken_after o guard links s taken) x y) hl hg
