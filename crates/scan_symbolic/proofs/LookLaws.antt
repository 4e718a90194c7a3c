-- Looks: what the code makes, over truth values the scan, and the relational law.
use Rattle.std.proofs.Common.{◌≡◌, ℕ, Bool, true, false, List, [], ◌∷◌, map, refl, sym, ap, ◌∙◌}
use Rattle.diagram_declarations.specs.declared.kind.BlockKind.TheVariants.{Ton}
use Rattle.scan_signals.specs.declared.block.Stored.{Stored}
use Rattle.scan_signals.specs.Algebra.{Algebra}
use Rattle.scan_signals.specs.Blocks.{q_of, new_block}
use Rattle.scan_signals.specs.Relations.{IsKept}
use Rattle.scan_signals.specs.Truth.{plain}
use Rattle.scan_cycle.specs.Cells.{Diagram}
use Rattle.scan_cycle.specs.Rung.{Held}
use Rattle.scan_cycle.specs.Laws.{Once, Forward}
use Rattle.scan_cycle.proofs.Kept.{from_kept}
use Rattle.scan_symbolic.specs.KnownScan.{Known, plainly}
use Rattle.scan_symbolic.specs.KnownLaws.{BothAt, StepsKeep}
use Rattle.scan_symbolic.proofs.KeptParts.{known_kept}
use Rattle.scan_symbolic.proofs.KnownKept.{scan_keeps}
use Rattle.scan_symbolic.proofs.KnownPlain.{known_is_scan, q_plain}
use Rattle.scan_symbolic.proofs.Lists.{map_same}
use Rattle.scan_symbolic.specs.ByFrames.{framed_look}
use Rattle.scan_symbolic.specs.Look.{Glimpse, at_a_glance, after_look}
use Rattle.scan_symbolic.specs.Laws.{LookIsScan, LookKeeps}
use Rattle.scan_symbolic.proofs.Framed.{Shows, framed_is_known}

glance_shows : {S : Type 0} (o : Algebra S) → Shows o (at_a_glance o)
glance_shows o = record { stored = λ s. refl; step = λ kind preset s x y now. refl; choice = λ g b e. refl }

choice_plain : (g : Bool) (s t : Stored) → q_of (plainly.choice g s t) ≡ plain.choice g (q_of s) (q_of t)
choice_plain true s t = refl
choice_plain false s t = refl

plainly_shows : Shows plain plainly
plainly_shows = record { stored = λ s. refl; step = λ kind preset s x y now. sym (q_plain kind preset s now x y); choice = choice_plain }

pub framed_is_look : {S : Type 0} (o : Algebra S) (d : Diagram) → Once d → (now : ℕ) (inputs : List S) (h : Held) → framed_look o d now inputs h ≡ after_look o d now inputs h
unfolding after_look
framed_is_look o d once now inputs h = framed_is_known o (at_a_glance o) (glance_shows o) d once now inputs h

pub look_is_scan : (d : Diagram) → Once d → Forward d → LookIsScan d
look_is_scan d once forward h now inputs =
    sym (framed_is_look plain d once now inputs h)
    ∙ framed_is_known plain plainly plainly_shows d once now inputs h
    ∙ ap (λ (k : Known Bool Stored). k.values) (known_is_scan d forward h now inputs)
    ∙ map_same _

-- ---- the relational law
module _ {A B : Type 0} (a : Algebra A) (b : Algebra B) (R : A → B → Type 0) (k : IsKept a b R) where
  -- the same is stored, and the Qs are related
  abbrev BothGlimpses : ℕ → Glimpse A → Glimpse B → Type 0
  BothGlimpses inst x y = (x.stored ≡ y.stored) × R x.q y.q

  glimpses_keep : (d : Diagram) (now : ℕ) → StepsKeep d (at_a_glance a) (at_a_glance b) R BothGlimpses now now
  glimpses_keep d now = record {
    past = λ inst. (refl, k.known (q_of (new_block Ton)));
    q = λ inst x y h. h.1;
    step = λ inst x y l m u n h e f. (h.0, from_kept a b R k (d.kind inst) (d.preset inst) x.stored y.stored now h.0 l m u n e f);
    choice = λ inst g m x y u v e r s. (r.0, k.choice g x.q y.q m u.q v.q e r.1 s.1);
  }

  glimpses_known : (bs : List Stored) → BothAt BothGlimpses (map (at_a_glance a).stored bs) (map (at_a_glance b).stored bs)
  glimpses_known [] = tt
  glimpses_known (s ∷ bs) = ((refl, k.known (q_of s)), glimpses_known bs)

  pub look_kept : LookKeeps a b R
  unfolding after_look
  look_kept d h now xs vs r =
      (scan_keeps a b (at_a_glance a) (at_a_glance b) R BothGlimpses now now d k (glimpses_keep d now) xs vs r _ _
      (record {
        values = known_kept a b R k (λ v. v) h.values;
        memories = known_kept a b R k (λ v. v) h.kept.memories;
        blocks = glimpses_known h.kept.blocks;
      })).values
