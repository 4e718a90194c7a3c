-- Over truth values, with all of it known, the scan over what is known is the scan.
use Rattle.std.proofs.Common.{◌≡◌, ℕ, ◌+◌, ◌*◌, ◌≤◌, ◌/◌, ◌%◌, Bool, true, false, not, cond, List, ◌&&◌, get_or, length, zero, suc, nat_lt, refl, sym, ap, ap₂, ◌∙◌, arith}
use Rattle.std.proofs.lemmas.List.{length-append, set-get_or}
use Rattle.std.proofs.lemmas.Bool.Decides.{nat_tests}
use Rattle.diagram_program.specs.declared.geometry.TheConstants.{ROWS, PLACES}
use Rattle.scan_signals.specs.Truth.{plain}
use Rattle.scan_signals.specs.declared.block.Stored.{Stored}
use Rattle.diagram_declarations.specs.declared.kind.BlockKind.{BlockKind}
use Rattle.diagram_declarations.specs.declared.kind.BlockKind.TheVariants.{Ton}
use Rattle.diagram_program.specs.declared.cell.Cell.{Cell}
use Rattle.diagram_program.specs.declared.cell.Cell.TheVariants.{Empty, Contact, Coil, Block}
use Rattle.diagram_program.specs.Program.{is_block}
use Rattle.scan_signals.specs.Blocks.{step, q_of, new_block}
use Rattle.scan_cycle.specs.Cells.{Diagram, Frame, q_from, q_here}
use Rattle.scan_cycle.specs.Rung.{Held, changed, changes, evaluated, frame_of, link_at, lower, second}
use Rattle.scan_cycle.specs.Scan.{given, next_rung, after_scan}
use Rattle.scan_symbolic.specs.KnownScan.{meet_where, passes_over, taken_by}
use Rattle.scan_cycle.specs.RungByRung.{Scanned, scanned}
use Rattle.scan_cycle.specs.Laws.{Forward}
use Rattle.scan_symbolic.specs.KnownScan.{Known, all_known, changed_in, changes_in, evaluated_in, link_in, passed, plainly, q_in}
use Rattle.scan_symbolic.specs.KnownLaws.{KnownIsScan}
use Rattle.scan_cycle.proofs.ByList.{scanned_is}
use Rattle.scan_cycle.proofs.Kept.{left_link_kept}
use Rattle.scan_symbolic.proofs.Guards.{guard_upto, guard_push, guard_more, taken_same}
use Rattle.scan_symbolic.proofs.Lists.{map_same, put_same, same_kept}

abbrev pub known_of : Held → Known Bool Stored
known_of h = record { values = h.values; memories = h.kept.memories; blocks = h.kept.blocks }

pub q_plain : (kind : BlockKind) (preset : ℕ) (s : Stored) (now : ℕ) (x y : Bool) → q_from plain kind preset s now x y ≡ q_of (step kind preset s x y now)
q_plain kind preset s now true true = refl
q_plain kind preset s now true false = refl
q_plain kind preset s now false true = refl
q_plain kind preset s now false false = refl

q_same : (d : Diagram) (now : ℕ) (h : Held) (c : Cell) (x y s t : Bool) → x ≡ s → y ≡ t
    → q_in plain plainly d now (known_of h) c x y ≡ q_here plain d h.kept now c s t
q_same d now h (Block inst) x y s t e f =
    ap₂ (λ (u v : Bool). q_of (step (d.kind inst) (d.preset inst) (get_or h.kept.blocks inst (new_block Ton)) u v now)) e f
    ∙ sym (q_plain (d.kind inst) (d.preset inst) (get_or h.kept.blocks inst (new_block Ton)) now s t)
q_same d now h _ x y s t e f = refl

link_same : (d : Diagram) (now j : ℕ) (h : Held) (e : ℕ) → link_in plain plainly d now j (known_of h) e ≡ link_at d now j h e
link_same d now j h e =
    left_link_kept plain plain (λ x y. x ≡ y) (same_kept plain) (d.feeds j) (λ row column. is_block (d.cell j (ROWS * column + row))) _ _ _ _
    (λ row column. refl)
    (λ row column x y s t p q. q_same d now h (d.cell j (ROWS * column + row)) x _ s _ p (ap (lower plain (d.linked j (ROWS * column + row))) q))
    (e % ROWS) (e / ROWS)

-- ---- one cell
changed_on : (d : Diagram) (now : ℕ) (start : Frame Bool) (c : Cell) (x y : Bool) (h : Held)
    → changed_in plain plainly d now start true c x y (known_of h) ≡ known_of (changed d now start c x y h)
changed_on d now start Empty x y h = refl
changed_on d now start _ x y h = refl

knowns : (v w m n : List Bool) (x y : List Stored) → v ≡ w → m ≡ n → x ≡ y
    → (let k : Known Bool Stored = record { values = v; memories = m; blocks = x } in k) ≡ (record { values = w; memories = n; blocks = y })
knowns v w m n x y e f g = cc

changed_off : (d : Diagram) (now : ℕ) (start : Frame Bool) (c : Cell) (x y : Bool) (k : Known Bool Stored)
    → changed_in plain plainly d now start false c x y k ≡ k
changed_off d now start (Contact mode operand memory) x y k = knowns _ _ _ _ _ _ refl (put_same k.memories memory false) refl
changed_off d now start (Coil mode var memory) x y k = knowns _ _ _ _ _ _ (set-get_or k.values var false) (put_same k.memories memory false) refl
changed_off d now start (Block inst) x y k = knowns _ _ _ _ _ _ refl refl (set-get_or k.blocks inst (new_block Ton))
changed_off d now start _ x y k = refl

-- ---- one rung
changes_on : (d : Diagram) (now j : ℕ) (start : Frame Bool) (links us : ℕ → Bool) → ((e : ℕ) → links e ≡ us e) → (n : ℕ) (h : Held)
    → changes_in plain plainly d now j start true links n (known_of h) ≡ known_of (changes d now j start us n h)
unfolding changes_in changes
changes_on d now j start links us same zero h = refl
changes_on d now j start links us same (suc n) h =
    ap (changed_in plain plainly d now start true (d.cell j n) (links n) (second plain d j links n)) (changes_on d now j start links us same n h)
    ∙ changed_on d now start (d.cell j n) (links n) (second plain d j links n) (changes d now j start us n h)
    ∙ ap₂ (λ (x y : Bool). known_of (changed d now start (d.cell j n) x y (changes d now j start us n h))) (same n) (ap (lower plain (d.linked j n)) (same (n + 1)))

changes_off : (d : Diagram) (now j : ℕ) (start : Frame Bool) (links : ℕ → Bool) (n : ℕ) (k : Known Bool Stored)
    → changes_in plain plainly d now j start false links n k ≡ k
unfolding changes_in
changes_off d now j start links zero k = refl
changes_off d now j start links (suc n) k =
    changed_off d now start (d.cell j n) (links n) (second plain d j links n) (changes_in plain plainly d now j start false links n k)
    ∙ changes_off d now j start links n k

-- the rung evaluated, or passed over
next_known : (d : Diagram) (now n : ℕ) (s : Scanned) (b : Bool)
    → evaluated_in plain plainly d now n (not b) (known_of s.held) ≡ known_of (cond b s (record { held = evaluated d now n s.held; resume = next_rung d now n s.held })).held
next_known d now n s true = changes_off d now n (frame_of s.held) (link_in plain plainly d now n (known_of s.held)) PLACES (known_of s.held)
next_known d now n s false = changes_on d now n (frame_of s.held) (link_in plain plainly d now n (known_of s.held)) (link_at d now n s.held) (link_same d now n s.held) PLACES s.held

-- ---- all rungs
length_passed : (d : Diagram) (now : ℕ) (k : Known Bool Stored) (n : ℕ) → length (passed plain plainly d now k n).taken ≡ n
unfolding passed
length_passed d now k zero = refl
length_passed d now k (suc n) = let h = length_passed d now k n in simp length-append (omega (arith, h))

record Agrees (d : Diagram) (now : ℕ) (h : Held) (n : ℕ) : Type 0 where
  same : (passed plain plainly d now (known_of h) n).known ≡ known_of (scanned d now h n).held
  guards : (j : ℕ) → n ≤ j → guard_upto d (passed plain plainly d now (known_of h) n).taken n j ≡ not (nat_lt j (scanned d now h n).resume)

never_below : (j : ℕ) → true ≡ not (nat_lt j 0)
never_below j = grind (arith, nat_tests)

next_resume : (d : Diagram) (now n : ℕ) (s : Scanned) (b : Bool) →
    (cond b s (record { held = evaluated d now n s.held; resume = next_rung d now n s.held })).resume ≡ cond b s.resume (next_rung d now n s.held)
next_resume d now n s true = refl
next_resume d now n s false = refl

agrees : (d : Diagram) (now : ℕ) (h : Held) (n : ℕ) → Agrees d now h n
unfolding passed scanned meet_where
agrees d now h zero = record { same = refl; guards = λ j k. never_below j }
agrees d now h (suc n) =
    let s = scanned d now h n in
    let l = passed plain plainly d now (known_of h) n in
    let ih = agrees d now h n in
    let b = nat_lt n s.resume in
    let here : guard_upto d l.taken n n ≡ not b = ih.guards n (omega arith) in
    let links = link_in plain plainly d now n l.known in
    let jump : (place : ℕ) → links place ≡ link_at d now n s.held place = λ place.
    ap (λ k. link_in plain plainly d now n k place) ih.same ∙ link_same d now n s.held place in
    record {
      same =
          ap (λ k. evaluated_in plain plainly d now n (guard_upto d l.taken n n) k) ih.same
          ∙ ap (λ g. evaluated_in plain plainly d now n g (known_of s.held)) here
          ∙ next_known d now n s b;
      guards = λ j k.
          guard_push d l.taken (taken_by plain (d.jump n) (guard_upto d l.taken n n) links) n j (length_passed d now (known_of h) n)
          ∙ ap (λ x. cond (passes_over (d.jump n) j) (x && not (taken_by plain (d.jump n) (guard_upto d l.taken n n) links)) x) (ih.guards j (omega arith))
          ∙ ap (λ x. cond (passes_over (d.jump n) j) (not (nat_lt j s.resume) && not x) (not (nat_lt j s.resume)))
          (ap (λ x. taken_by plain (d.jump n) x links) here ∙ taken_same plain (d.jump n) (not b) links (link_at d now n s.held) (λ place target e. jump place))
          ∙ guard_more b (d.jump n) (link_at d now n s.held) n j s.resume (omega arith) refl
          ∙ sym (ap (λ r. not (nat_lt j r)) (next_resume d now n s b));
    }

pub known_same : (h : Held) → all_known plain plainly h ≡ known_of h
known_same h = knowns _ _ _ _ _ _ (map_same h.values) (map_same h.kept.memories) (map_same h.kept.blocks)

pub known_is_scan : (d : Diagram) → Forward d → KnownIsScan d
known_is_scan d forward h now inputs =
    let start : Held = record { values = given d.inputs inputs h.values; kept = h.kept } in
    ap (λ (k : Known Bool Stored). (passed plain plainly d now (record k { values = given d.inputs inputs k.values }) d.rungs).known) (known_same h)
    ∙ (agrees d now start d.rungs).same
    ∙ ap known_of (scanned_is d forward now start)
    ∙ sym (known_same (after_scan d now inputs h))
