-- What instances that belong together store is alike after one scan of each program, where scans over three values tell it.
use Rattle.std.proofs.Common.{◌≡◌, ◌∙◌, ℕ, Bool, false, List, [], get_or, refl, sym, ap, ap₂, subst}
use Rattle.std.specs.Prelude.{Contains}
use Rattle.diagram_declarations.specs.declared.kind.BlockKind.{BlockKind}
use Rattle.diagram_declarations.specs.declared.kind.BlockKind.TheVariants.{Ton, Tof, Tp, Ctu, Ctd, Sr, Rs}
use Rattle.diagram_program.specs.Program.{Drawing}
use Rattle.scan_signals.specs.Blocks.{new_block, q_of, step}
use Rattle.scan_signals.specs.declared.block.Stored.{Stored}
use Rattle.scan_signals.specs.declared.block.Stored.TheVariants.{Timer, Counter, Bistable}
use Rattle.scan_signals.specs.declared.tri.Tri.{Tri}
use Rattle.scan_cycle.specs.Programs.{diagram_of}
use Rattle.scan_cycle.specs.Rung.{Held}
use Rattle.scan_cycle.specs.RungByRung.{shape}
use Rattle.scan_cycle.specs.Scan.{after_scan}
use Rattle.scan_symbolic.specs.KnownLaws.{KnownIsScan}
use Rattle.scan_symbolic.specs.KnownScan.{Known, kept_at}
use Rattle.scan_symbolic.proofs.Lists.{map_same}
use Rattle.invariant_cases.specs.Allowing.{AllowsState}
use Rattle.invariant_cases.specs.Cases.{told}
use Rattle.invariant_cases.specs.OutcomeLaws.{q_sound}
use Rattle.invariant_cases.specs.Outcomes.{MayStore, outcomes, q_known}
use Rattle.invariant_cases.specs.declared.outcome.Outcome.{Outcome}
use Rattle.invariant_cases.specs.declared.outcome.Outcome.TheVariants.{Anything, OfKind}
use Rattle.invariant_cases.specs.declared.point.Point.TheVariants as point
use Rattle.diff_matching.specs.Matching.{Agree, Matching}
use Rattle.diff_matching.specs.declared.matching.Pair.{Pair}
use Rattle.diff_cases.specs.Cases.{AreContentsAlike, AreKnownAlike, AreOfOneKind, AreTracedAlike, IsPointAlike, after}
use Rattle.diff_cases.specs.Traces.{trace_of, traced_after}
use Rattle.diff_cases.specs.declared.trace.Trace.{Trace}
use Rattle.diff_cases.specs.declared.trace.Trace.TheVariants.{Open, Stepped, Unstepped}
use Rattle.diff_cases.proofs.Scanned.{Keeps, known_alike, known_swaps, may_store, scan_allows, stored_in}
use Rattle.diff_cases.proofs.Together.{same_of}
use Rattle.diff_cases.proofs.Stepping.{MayLeave, scan_leaves}

-- ---- by the steps

same_step : (kind : BlockKind) (preset now : ℕ) (before : Stored) (t u : Trace) (s r : Stored) → AreTracedAlike t u → MayLeave kind preset now before t s → MayLeave kind preset now before u r → s ≡ r
same_step kind preset now before Unstepped Unstepped s r e h k = h ∙ sym k
same_step kind preset now before (Stepped x y) (Stepped a b) s r e h k =
    h.4 ∙ ap₂ (λ (u v : Bool). step kind preset before u v now) (known_alike x a h.0 k.0 e.0 h.2 k.2) (known_alike y b h.1 k.1 e.1 h.3 k.3) ∙ sym k.4
same_step kind preset now before Unstepped (Stepped a b) s r e h k = absurd e
same_step kind preset now before Unstepped Open s r e h k = absurd e
same_step kind preset now before (Stepped x y) Unstepped s r e h k = absurd e
same_step kind preset now before (Stepped x y) Open s r e h k = absurd e
same_step kind preset now before Open u s r e h k = absurd e

-- the same of an instance of that kind and that preset that stored the same
leaves_the_same : (kind other : BlockKind) (preset another now : ℕ) (before was : Stored) (t : Trace) (s : Stored) → kind ≡ other → preset ≡ another → before ≡ was
    → MayLeave kind preset now before t s → MayLeave other another now was t s
leaves_the_same kind other preset another now before was t s e f g r =
    subst (λ (k : BlockKind). MayLeave k another now was t s) e
    (subst (λ (n : ℕ). MayLeave kind n now was t s) f (subst (λ (z : Stored). MayLeave kind preset now z t s) g r))

-- ---- by the Q of a bistable

known_shape : (kind : BlockKind) (preset now : ℕ) (b : Outcome) (s : Stored) (y : Tri) → AreKnownAlike (q_known b) y → MayStore kind preset now b s → shape s ≡ new_block kind
known_shape kind preset now (OfKind q a) s y e h = h.0
known_shape kind preset now Anything s y e h = absurd e

timer_bistable : Timer false false 0 false ≡ Bistable false → ⊥
timer_bistable h = cc

bistable_is : (s : Stored) → shape s ≡ Bistable false → s ≡ Bistable (q_of s)
bistable_is (Timer last running start q) e = absurd (timer_bistable e)
bistable_is (Counter last cv q) e = cc
bistable_is (Bistable q) e = refl

module _ (p q : Drawing) (old_keeps : Keeps p) (new_keeps : Keeps q) (old_known : KnownIsScan (diagram_of p)) (new_known : KnownIsScan (diagram_of q)) (m : Matching) (x : Pair)
    (among : Contains m.instances x) (one : AreOfOneKind p q x.old x.new) (k l : Known Tri Outcome) (now : ℕ) (h g : Held)
    (r : AllowsState p now k h) (s : AllowsState q now l g) (agree : Agree m h g) where
  then_h : Held
  then_h = after_scan (diagram_of p) now [] h

  then_g : Held
  then_g = after_scan (diagram_of q) now [] g

  -- both stored the same
  same_before : stored_in h x.old ≡ stored_in g x.new
  same_before =
      ap (λ (ss : List Stored). get_or ss x.old (new_block Ton)) (map_same h.kept.blocks)
      ∙ same_of (new_block Ton) m.instances h.kept.blocks g.kept.blocks agree.instances x among
      ∙ ap (λ (ss : List Stored). get_or ss x.new (new_block Ton)) (sym (map_same g.kept.blocks))

  by_steps : AreTracedAlike (trace_of x.old (traced_after p k)) (trace_of x.new (traced_after q l)) → stored_in then_h x.old ≡ stored_in then_g x.new
  unfolding then_h then_g
  by_steps e =
      let d = diagram_of p in
      let c = diagram_of q in
      same_step (d.kind x.old) (d.preset x.old) now (stored_in h x.old) (trace_of x.old (traced_after p k)) (trace_of x.new (traced_after q l)) _ _ e
      (scan_leaves p old_known now k h r x.old)
      (leaves_the_same (c.kind x.new) (d.kind x.old) (c.preset x.new) (d.preset x.old) now (stored_in g x.new) (stored_in h x.old) (trace_of x.new (traced_after q l)) _
      (sym one.0) (sym one.1) (sym same_before) (scan_leaves q new_known now l g s x.new))

  by_q : (kind : BlockKind) → new_block kind ≡ Bistable false → kind ≡ (diagram_of p).kind x.old → IsPointAlike p q (point.Output x.old) (point.Output x.new) k l
      → stored_in then_h x.old ≡ stored_in then_g x.new
  unfolding then_h then_g told
  by_q kind bistable is e =
      let d = diagram_of p in
      let c = diagram_of q in
      let old = may_store p now (after p k) then_h (scan_allows p old_keeps old_known now k h r) x.old in
      let new = may_store q now (after q l) then_g (scan_allows q new_keeps new_known now l g s) x.new in
      let b = kept_at outcomes (after p k) x.old in
      let f = kept_at outcomes (after q l) x.new in
      let old_is = bistable_is (stored_in then_h x.old) (known_shape (d.kind x.old) (d.preset x.old) now b (stored_in then_h x.old) (q_known f) e old ∙ ap new_block (sym is) ∙ bistable) in
      let new_is = bistable_is (stored_in then_g x.new)
      (known_shape (c.kind x.new) (c.preset x.new) now f (stored_in then_g x.new) (q_known b) (known_swaps (q_known b) (q_known f) e) new ∙ ap new_block (sym (is ∙ one.0)) ∙ bistable) in
      old_is
      ∙ ap Bistable (known_alike (q_known b) (q_known f) _ _ e (q_sound (d.kind x.old) (d.preset x.old) now b (stored_in then_h x.old) old)
      (q_sound (c.kind x.new) (c.preset x.new) now f (stored_in then_g x.new) new))
      ∙ sym new_is

  by_kind : (kind : BlockKind) → kind ≡ (diagram_of p).kind x.old → AreContentsAlike kind p q x.old x.new k l → stored_in then_h x.old ≡ stored_in then_g x.new
  by_kind Sr is e = by_q Sr refl is e
  by_kind Rs is e = by_q Rs refl is e
  by_kind Ton is e = by_steps e
  by_kind Tof is e = by_steps e
  by_kind Tp is e = by_steps e
  by_kind Ctu is e = by_steps e
  by_kind Ctd is e = by_steps e

  pub left_alike : AreContentsAlike ((diagram_of p).kind x.old) p q x.old x.new k l
      → get_or (after_scan (diagram_of p) now [] h).kept.blocks x.old (new_block Ton) ≡ get_or (after_scan (diagram_of q) now [] g).kept.blocks x.new (new_block Ton)
  unfolding then_h then_g
  left_alike e =
      ap (λ (ss : List Stored). get_or ss x.old (new_block Ton)) (sym (map_same (after_scan (diagram_of p) now [] h).kept.blocks))
      ∙ by_kind ((diagram_of p).kind x.old) refl e
      ∙ ap (λ (ss : List Stored). get_or ss x.new (new_block Ton)) (map_same (after_scan (diagram_of q) now [] g).kept.blocks)
