-- A look by the slice of a variable leaves of it what the look leaves.
use Rattle.std.proofs.Common.{◌≡◌, ℕ, All, List, drop, get_or, length, replicate, true, false, refl, sym, ap, cond, ◌∷◌, ◌∙◌, ◌+◌, ◌<◌}
use Rattle.std.proofs.lemmas.List.{drop_more}
use Rattle.diagram_program.specs.declared.steps.Step.{Step}
use Rattle.diagram_program.specs.Program.{Drawing}
use Rattle.diagram_program.specs.Steps.{steps_below}
use Rattle.scan_signals.specs.Algebra.{Algebra, LatticeLaws}
use Rattle.scan_cycle.specs.Programs.{diagram_of, IsSound}
use Rattle.scan_cycle.specs.Rung.{Held}
use Rattle.scan_symbolic.specs.BySteps.{AreLeftBy}
use Rattle.scan_symbolic.specs.ByFrames.{look_frame}
use Rattle.scan_symbolic.specs.Look.{after_look}
use Rattle.scan_symbolic.specs.Stepping.{all_gone, going}
use Rattle.scan_symbolic.proofs.Starts.{begin_values, by_looks}
use Rattle.scan_symbolic.proofs.StepLooks.{by_steps}
use Rattle.scan_symbolic.specs.Slicing.{Needs, keeps, kept_of, needs_before, needs_of, reads, slice_of}
use Rattle.scan_symbolic.proofs.Agreeing.{agree, agrees_itself, marked_here}

pub sliced : {S : Type 0} (o : Algebra S) (V : S → Type 0) (l : LatticeLaws S V o) (p : Drawing) (now var : ℕ) (inputs : List S) (h : Held) (ss : List Step) (values : List S)
    → IsSound (diagram_of p) → All V inputs → ss ≡ slice_of p var → AreLeftBy o p now ss inputs h values
    → get_or values var (o.known false) ≡ get_or (after_look o (diagram_of p) now inputs h) var (o.known false)
sliced o V l p now var inputs h ss values sound all is a =
    let off = o.known false in
    let f = look_frame o (diagram_of p) inputs h in
    let g = going f a.taken a.links (o.known true) in
    let steps = steps_below p p.rungs in
    let n = needs_of p var in
    let same = (agree o p h.kept now steps n g g (agrees_itself o p h.kept now (needs_before p steps n) g)).values.at var (marked_here (replicate (length p.decls.vars) false) var) in
    let whole = by_steps o V l p h.kept now f (begin_values o V l (diagram_of p) inputs all h f refl) sound a.taken a.links (all_gone o p h.kept now steps g).frame
    (record { long = a.long; on = a.on; off = a.off }) a.as_many a.none refl in
    ap (λ xs. get_or xs var off) a.are
    ∙ ap (λ (xs : List Step). get_or (all_gone o p h.kept now xs g).frame.values var off) is
    ∙ same
    ∙ ap (λ xs. get_or xs var off) (by_looks o p sound.once now inputs h f (all_gone o p h.kept now steps g).frame refl whole)

-- ---- one step more, from the last one on
module _ (p : Drawing) (ss : List Step) (n : Needs) (i j at : ℕ) (d : Step) (lt : i < length ss) (next : j ≡ i + 1) (is : at ≡ i) where
  abbrev s : Step
  s = get_or ss at d

  more : drop i ss ≡ s ∷ drop j ss
  more = drop_more ss i d lt ∙ ap (λ (k : ℕ). get_or ss k d ∷ drop (i + 1) ss) (sym is) ∙ ap (λ (k : ℕ). s ∷ drop k ss) (sym next)

  pub kept_more : keeps p (needs_before p (drop j ss) n) s ≡ true
      → (kept_of p (drop i ss) n ≡ s ∷ kept_of p (drop j ss) n) × (needs_before p (drop i ss) n ≡ reads p s (needs_before p (drop j ss) n))
  unfolding kept_of needs_before
  kept_more t = (
    ap (λ xs. kept_of p xs n) more ∙ ap (λ b. cond b (s ∷ kept_of p (drop j ss) n) (kept_of p (drop j ss) n)) t,
    ap (λ xs. needs_before p xs n) more ∙ ap (λ b. cond b (reads p s (needs_before p (drop j ss) n)) (needs_before p (drop j ss) n)) t,
  )

  pub kept_same : keeps p (needs_before p (drop j ss) n) s ≡ false
      → (kept_of p (drop i ss) n ≡ kept_of p (drop j ss) n) × (needs_before p (drop i ss) n ≡ needs_before p (drop j ss) n)
  unfolding kept_of needs_before
  kept_same t = (
    ap (λ xs. kept_of p xs n) more ∙ ap (λ b. cond b (s ∷ kept_of p (drop j ss) n) (kept_of p (drop j ss) n)) t,
    ap (λ xs. needs_before p xs n) more ∙ ap (λ b. cond b (reads p s (needs_before p (drop j ss) n)) (needs_before p (drop j ss) n)) t,
  )
