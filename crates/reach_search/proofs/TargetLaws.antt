-- What is known of the target to be OFF is so in each state that is allowed.
use Rattle.std.proofs.Common.{◌≡◌, ◌∙◌, ◌&&◌, ℕ, Bool, true, false, not, fold, if◌then◌else◌, List, [], ◌∷◌, map, get_or, refl, sym, ap, subst}
use Rattle.std.specs.List.{list_all}
use Rattle.std.proofs.lemmas.Bool.{and_left, and_right}
use Rattle.diagram_declarations.specs.declared.decls.Symbol.{Symbol}
use Rattle.diagram_declarations.specs.declared.decls.Symbol.TheVariants as symbol
use Rattle.diagram_declarations.specs.declared.kind.BlockKind.{BlockKind}
use Rattle.diagram_declarations.specs.declared.kind.BlockKind.TheVariants.{Ton}
use Rattle.scan_signals.specs.Blocks.{q_of, new_block}
use Rattle.scan_signals.specs.Three.{three_allows, three_inverse, three_known, three_meet}
use Rattle.scan_signals.specs.declared.block.Stored.{Stored}
use Rattle.scan_signals.specs.declared.block.Stored.TheVariants as stored
use Rattle.scan_signals.specs.declared.tri.Tri.{Tri}
use Rattle.scan_signals.specs.declared.tri.Tri.TheVariants.{Off, On, Unsure}
use Rattle.scan_cycle.specs.Cells.{Diagram}
use Rattle.scan_cycle.specs.Rung.{Held}
use Rattle.scan_symbolic.specs.KnownScan.{Known, kept_at}
use Rattle.scan_symbolic.proofs.Lists.{get_both, map_same}
use Rattle.invariant_cases.specs.Allowing.{Allows, is_on_in}
use Rattle.invariant_cases.specs.Cases.{point_of}
use Rattle.invariant_cases.proofs.Settling.{both_at}
use Rattle.reach_runs.specs.Asking.{is_so}
use Rattle.reach_runs.specs.declared.target.Literal.{Literal}
use Rattle.reach_runs.specs.declared.timing.Timing.{Timing}
use Rattle.reach_states.specs.Allowing.{AllowsState, HasRun, MayBe}
use Rattle.reach_states.specs.Untimed.{q_untimed, untimed}
use Rattle.reach_states.specs.declared.untimed.Untimed.{Untimed}
use Rattle.reach_states.specs.declared.untimed.Untimed.TheVariants.{Timer, Counter, Output, Anything}
use Rattle.reach_search.specs.Visits.{known_of, told, told_all}

known_same : (x y : Bool) → y ≡ x → three_allows (three_known x) 0 y
known_same true y e = e
known_same false y e = e

q_allowed : (R : ℕ → ℕ → Type 0) (kind : BlockKind) (preset : ℕ) (b : Untimed) (s : Stored) → MayBe R kind preset b s → three_allows (q_untimed b) 0 (q_of s)
q_allowed R kind preset (Timer last running elapsed q) (stored.Timer last2 running2 start q2) h = known_same q q2 h.3
q_allowed R kind preset (Counter last cv q) (stored.Counter last2 cv2 q2) h = known_same q q2 h.3
q_allowed R kind preset (Output q) s h = h.1
q_allowed R kind preset Anything s h = tt
q_allowed R kind preset (Timer last running elapsed q) (stored.Counter last2 cv2 q2) h = absurd h
q_allowed R kind preset (Timer last running elapsed q) (stored.Bistable q2) h = absurd h
q_allowed R kind preset (Counter last cv q) (stored.Timer last2 running2 start q2) h = absurd h
q_allowed R kind preset (Counter last cv q) (stored.Bistable q2) h = absurd h

known_allows : (timing : Timing) (d : Diagram) (now : ℕ) (k : Known Tri Untimed) (h : Held) → AllowsState timing d now k h → (s : Symbol) → three_allows (known_of k s) 0 (is_on_in (point_of s) h)
known_allows timing d now k h both (symbol.Var var) =
    subst (λ (vs : List Bool). three_allows (get_or k.values var Off) 0 (get_or vs var false)) (map_same h.values)
    ((both_at Allows k.values (map (λ v. v) h.values) both.values Off false (tt, λ _. refl) var).1 refl)
known_allows timing d now k h both (symbol.Instance inst) =
    subst (λ (ss : List Stored). three_allows (q_untimed (kept_at untimed k inst)) 0 (q_of (get_or ss inst (new_block Ton)))) (map_same h.kept.blocks)
    (q_allowed (HasRun timing now (d.preset inst)) (d.kind inst) (d.preset inst) (kept_at untimed k inst) (get_or (map (λ s. s) h.kept.blocks) inst (new_block Ton))
    (get_both (λ i. MayBe (HasRun timing now (d.preset i)) (d.kind i) (d.preset i)) k.blocks (map (λ s. s) h.kept.blocks) both.blocks Anything (new_block Ton) (λ i. tt) inst))

inverse_allows : (x : Tri) (b : Bool) → three_allows x 0 b → three_allows (three_inverse x) 0 (not b)
inverse_allows Off b e = ap not e
inverse_allows On b e = ap not e
inverse_allows Unsure b e = tt

value_allows : (value : Bool) (x : Tri) (b : Bool) → three_allows x 0 b → three_allows (if value then x else three_inverse x) 0 (if value then b else not b)
value_allows true x b e = e
value_allows false x b e = inverse_allows x b e

told_allows : (timing : Timing) (d : Diagram) (now : ℕ) (k : Known Tri Untimed) (h : Held) → AllowsState timing d now k h → (l : Literal) → three_allows (told k l) 0 (is_so h l)
told_allows timing d now k h both l = value_allows l.value (known_of k l.symbol) (is_on_in (point_of l.symbol) h) (known_allows timing d now k h both l.symbol)

meet_allows : (x y : Tri) (a b : Bool) → three_allows x 0 a → three_allows y 0 b → three_allows (three_meet x y) 0 (a && b)
meet_allows Off y a b f g = and_left a b f
meet_allows On y true b f g = g
meet_allows On y false b f g = absurd cc
meet_allows Unsure Off a b f g = and_right a b g
meet_allows Unsure On a b f g = tt
meet_allows Unsure Unsure a b f g = tt

and_assoc : (a b c : Bool) → ((a && b) && c) ≡ (a && (b && c))
and_assoc true b c = refl
and_assoc false b c = refl

and_true : (a : Bool) → a ≡ false → (a && true) ≡ false
and_true a e = and_left a true e

-- of a literal that is told to be OFF, or of one after others
all_off : (k : Known Tri Untimed) (h : Held) → ((l : Literal) → three_allows (told k l) 0 (is_so h l)) → (ls : List Literal) (x : Tri) (a : Bool) → three_allows x 0 a
    → fold (λ all literal. three_meet all (told k literal)) x ls ≡ Off → (a && list_all (is_so h) ls) ≡ false
all_off k h allows [] x a f e = and_true a (subst (λ (y : Tri). three_allows y 0 a) e f)
all_off k h allows (l ∷ ls) x a f e =
    sym (and_assoc a (is_so h l) (list_all (is_so h) ls))
    ∙ all_off k h allows ls (three_meet x (told k l)) (a && is_so h l) (meet_allows x (told k l) a (is_so h l) f (allows l)) e

pub target_off : (timing : Timing) (d : Diagram) (now : ℕ) (k : Known Tri Untimed) (h : Held) → AllowsState timing d now k h → (target : List Literal) → told_all k target ≡ Off
    → list_all (is_so h) target ≡ false
target_off timing d now k h both target e = all_off k h (told_allows timing d now k h both) target On true refl e
