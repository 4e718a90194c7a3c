-- A relation that the operations keep is kept by each step of a look, and by all of them.
use Rattle.std.proofs.Common.{ℕ, ◌+◌, ◌&&◌, false, List, [], ◌∷◌, nat_lt, refl}
use Rattle.diagram_program.specs.declared.cell.Cell.{Cell}
use Rattle.diagram_program.specs.declared.gates.Action.{Action}
use Rattle.diagram_program.specs.declared.gates.Leap.{Leap}
use Rattle.diagram_program.specs.declared.steps.Spot.{Spot}
use Rattle.diagram_program.specs.declared.steps.Step.{Step}
use Rattle.diagram_program.specs.declared.steps.Step.TheVariants.{Is, Not, Rare}
use Rattle.diagram_program.specs.declared.steps.Rare.TheVariants.{Wire, Rising, Falling, Block, Own, Store, Set, Reset, End, Act, Leave, Turn}
use Rattle.diagram_program.specs.declared.gates.TheConstants.{OFF, OWN}
use Rattle.diagram_program.specs.Program.{Drawing, block_in, is_block}
use Rattle.diagram_program.specs.Gates.{leaps_below}
use Rattle.scan_signals.specs.Algebra.{Algebra}
use Rattle.scan_signals.specs.Relations.{IsKept, Both}
use Rattle.scan_cycle.proofs.Kept.{BothFrames, get_kept, either, cell_kept, from_kept, q_kept}
use Rattle.scan_cycle.specs.Cells.{Diagram, Frame, Kept, var_in, memory_of}
use Rattle.scan_cycle.specs.Programs.{diagram_of}
use Rattle.scan_cycle.specs.Gating.{among, own}
use Rattle.scan_symbolic.specs.Gating.{acted, guard_by}
use Rattle.scan_symbolic.specs.Stepping.{Going, gone, all_gone, keeping, passing, storing, links_after, frame_after, taken_after, guard_after}
use Rattle.scan_symbolic.proofs.KeptParts.{set_kept, at_kept, put_kept, coil_kept}

module _ {A B : Type 0} (a : Algebra A) (b : Algebra B) (R : A → B → Type 0) (r : IsKept a b R) (p : Drawing) (k : Kept) (now : ℕ) where
  among_kept : (xs : List A) (vs : List B) → Both R xs vs → (i : ℕ) → R (among a xs i) (among b vs i)
  among_kept xs vs h i = get_kept a b R r xs vs h (a.known false) (b.known false) (r.known false) i

  passing_kept : (xs : List A) (vs : List B) → Both R xs vs → (spot : Spot) (x : A) (v : B) → R x v → Both R (passing a xs spot x) (passing b vs spot v)
  passing_kept xs vs h spot x v e = set_kept a b R r xs vs h spot.place _ _ (r.join _ _ _ _ e (among_kept xs vs h spot.other))

  keeping_kept : (xs : List A) (vs : List B) → Both R xs vs → (spot : Spot) (x : A) (v : B) → R x v → Both R (keeping a xs spot x) (keeping b vs spot v)
  keeping_kept xs vs h spot x v e =
      set_kept a b R r _ _ (set_kept a b R r xs vs h (OWN + spot.place) x v e) spot.place _ _ (r.join _ _ _ _ e (among_kept xs vs h spot.other))

  own_kept : (d : Diagram) (f : Frame A) (g : Frame B) → BothFrames R f g → (c : Cell) (x y : A) (u v : B) → R x u → R y v
      → R (own a d k now f c x y) (own b d k now g c u v)
  own_kept d f g h c x y u v s t =
      either a b R r (is_block c) _ _ _ _ (q_kept a b R r d k k now c (refl, refl) x y u v s t)
      (r.meet _ _ _ _ s (cell_kept a b R r f g h _ _ (r.known (memory_of k c)) c))

  links_kept : (f : Frame A) (g : Frame B) → BothFrames R f g → (s : Step) (xs : List A) (vs : List B) → Both R xs vs
      → Both R (links_after a p k now f s xs) (links_after b p k now g s vs)
  links_kept f g h (Is spot var) xs vs l =
      passing_kept xs vs l spot _ _ (r.meet _ _ _ _ (among_kept xs vs l spot.left) (among_kept f.values g.values h.0 var))
  links_kept f g h (Not spot var) xs vs l =
      passing_kept xs vs l spot _ _ (r.meet _ _ _ _ (among_kept xs vs l spot.left) (r.inverse _ _ (among_kept f.values g.values h.0 var)))
  links_kept f g h (Rare (Wire spot)) xs vs l = keeping_kept xs vs l spot _ _ (r.meet _ _ _ _ (among_kept xs vs l spot.left) (r.known _))
  links_kept f g h (Rare (Rising spot var memory)) xs vs l =
      keeping_kept xs vs l spot _ _ (r.meet _ _ _ _ (among_kept xs vs l spot.left)
      (r.meet _ _ _ _ (among_kept f.values g.values h.0 var) (r.inverse _ _ (r.known _))))
  links_kept f g h (Rare (Falling spot var memory)) xs vs l =
      keeping_kept xs vs l spot _ _ (r.meet _ _ _ _ (among_kept xs vs l spot.left)
      (r.meet _ _ _ _ (r.inverse _ _ (among_kept f.values g.values h.0 var)) (r.known _)))
  links_kept f g h (Rare (Block spot below inst)) xs vs l =
      keeping_kept xs vs l spot _ _ (from_kept a b R r _ _ _ _ now refl _ _ _ _ (among_kept xs vs l spot.left) (among_kept xs vs l below))
  links_kept f g h (Rare (Own spot below rung)) xs vs l =
      keeping_kept xs vs l spot _ _ (own_kept (diagram_of p) f g h _ _ _ _ _ (among_kept xs vs l spot.left) (among_kept xs vs l below))
  links_kept f g h _ xs vs l = l

  storing_kept : (m : A) (n : B) → R m n → (var : ℕ) (x : A) (v : B) → R x v → (f : Frame A) (g : Frame B) → BothFrames R f g
      → BothFrames R (storing a m var x f) (storing b n var v g)
  storing_kept m n e var x v t f g h = (set_kept a b R r f.values g.values h.0 var _ _ (r.choice _ _ _ _ _ _ e t (among_kept f.values g.values h.0 var)), h.1)

  acted_kept : (m : A) (n : B) → R m n → (xs : List A) (vs : List B) → Both R xs vs → (act : Action) (f : Frame A) (g : Frame B) → BothFrames R f g
      → BothFrames R (acted a k m xs act f) (acted b k n vs act g)
  acted_kept m n e xs vs l act f g h =
      let value = at_kept a b R r f.values g.values h.0 (var_in act.cell) in
      let end = at_kept a b R r f.ends g.ends h.1 (block_in act.cell) in (
        put_kept a b R r f.values g.values h.0 (var_in act.cell) _ _
            (r.choice _ _ _ _ _ _ e (coil_kept a b R r act.cell _ _ _ _ _ _ (among_kept xs vs l act.left) (r.known _) value) value),
        put_kept a b R r f.ends g.ends h.1 (block_in act.cell) _ _ (r.choice _ _ _ _ _ _ e (among_kept xs vs l (OWN + act.place)) end),
      )

  frame_kept : (m : A) (n : B) → R m n → (xs : List A) (vs : List B) → Both R xs vs → (s : Step) (f : Frame A) (g : Frame B) → BothFrames R f g
      → BothFrames R (frame_after a p k m xs s f) (frame_after b p k n vs s g)
  frame_kept m n e xs vs l (Rare (Store left var)) f g h = storing_kept m n e var _ _ (among_kept xs vs l left) f g h
  frame_kept m n e xs vs l (Rare (Set left var)) f g h =
      storing_kept m n e var _ _ (r.choice _ _ _ _ _ _ (among_kept xs vs l left) (r.known _) (among_kept f.values g.values h.0 var)) f g h
  frame_kept m n e xs vs l (Rare (Reset left var)) f g h =
      storing_kept m n e var _ _ (r.choice _ _ _ _ _ _ (among_kept xs vs l left) (r.known _) (among_kept f.values g.values h.0 var)) f g h
  frame_kept m n e xs vs l (Rare (End place inst)) f g h =
      (h.0, set_kept a b R r f.ends g.ends h.1 inst _ _ (r.choice _ _ _ _ _ _ e (among_kept xs vs l (OWN + place)) (among_kept f.ends g.ends h.1 inst)))
  frame_kept m n e xs vs l (Rare (Act rung place left)) f g h =
      acted_kept m n e xs vs l (record { cell = (diagram_of p).cell rung place; place = place; left = left; below = OFF }) f g h
  frame_kept m n e xs vs l _ f g h = h

  taken_kept : (m : A) (n : B) → R m n → (xs : List A) (vs : List B) → Both R xs vs → (s : Step) (ts : List A) (us : List B) → Both R ts us
      → Both R (taken_after a m xs s ts) (taken_after b n vs s us)
  taken_kept m n e xs vs l (Rare (Leave rung left)) ts us t = set_kept a b R r ts us t rung _ _ (r.meet _ _ _ _ e (among_kept xs vs l left))
  taken_kept m n e xs vs l _ ts us t = t

  by_kept : (ts : List A) (us : List B) → Both R ts us → (j : ℕ) (ls : List Leap) (m : A) (n : B) → R m n → R (guard_by a ts j ls m) (guard_by b us j ls n)
  unfolding guard_by
  by_kept ts us t j [] m n e = e
  by_kept ts us t j (l ∷ ls) m n e =
      by_kept ts us t j ls _ _ (either a b R r (nat_lt l.rung j && nat_lt j l.target) _ _ _ _ (r.meet _ _ _ _ e (r.inverse _ _ (among_kept ts us t l.rung))) e)

  guard_kept : (ts : List A) (us : List B) → Both R ts us → (s : Step) (m : A) (n : B) → R m n → R (guard_after a p ts s m) (guard_after b p us s n)
  guard_kept ts us t (Rare (Turn rung)) m n e = by_kept ts us t rung (leaps_below p p.rungs) _ _ (r.known _)
  guard_kept ts us t _ m n e = e

  -- Two looks are related as far as they are.
  pub record BothGoing (x : Going A) (y : Going B) : Type 0 where
    pub frame : BothFrames R x.frame y.frame
    pub taken : Both R x.taken y.taken
    pub links : Both R x.links y.links
    pub guard : R x.guard y.guard

  gone_kept : (s : Step) (x : Going A) (y : Going B) → BothGoing x y → BothGoing (gone a p k now s x) (gone b p k now s y)
  gone_kept s x y h =
      let links = links_kept x.frame y.frame h.frame s x.links y.links h.links in
      record {
        frame = frame_kept x.guard y.guard h.guard _ _ links s x.frame y.frame h.frame;
        taken = taken_kept x.guard y.guard h.guard x.links y.links h.links s x.taken y.taken h.taken;
        links = links;
        guard = guard_kept x.taken y.taken h.taken s x.guard y.guard h.guard;
      }

  pub all_gone_kept : (ss : List Step) (x : Going A) (y : Going B) → BothGoing x y → BothGoing (all_gone a p k now ss x) (all_gone b p k now ss y)
  unfolding all_gone
  all_gone_kept [] x y h = h
  all_gone_kept (s ∷ ss) x y h = all_gone_kept ss _ _ (gone_kept s x y h)
