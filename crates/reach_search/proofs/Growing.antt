-- A set that grows keeps its states, so that scans still lead to it.
use Rattle.std.proofs.Common.{◌≡◌, ◌∙◌, ◌<◌, ℕ, List, refl, sym, subst, arith}
use Rattle.scan_cycle.specs.Cells.{Diagram}
use Rattle.scan_cycle.specs.Programs.{diagram_of}
use Rattle.scan_cycle.specs.Rung.{Held}
use Rattle.scan_signals.specs.declared.tri.Tri.{Tri}
use Rattle.scan_symbolic.specs.KnownScan.{Known}
use Rattle.reach_runs.specs.Asking.{RunQuestion}
use Rattle.reach_runs.specs.declared.timing.Timing.{Timing}
use Rattle.reach_states.specs.Allowing.{AllowsState}
use Rattle.reach_states.specs.declared.untimed.Untimed.{Untimed}
use Rattle.reach_search.specs.Searches.{AreAsked}
use Rattle.reach_search.specs.Sets.{count_of, state_at}
use Rattle.reach_search.specs.Visits.{Arrives, Grows, IsIn, IsVisited, LeadsOn, time_of}
use Rattle.reach_search.specs.declared.state_set.StateSet.{StateSet}

pub grows_same : (s : StateSet) → Grows s s
grows_same s = record { more = omega arith; same = λ number lt. refl }

pub grows_then : (a b c : StateSet) → Grows a b → Grows b c → Grows a c
grows_then a b c g h = record {
  more = omega (arith, g.more, h.more);
  same = λ number lt. h.same number (omega (arith, g.more)) ∙ g.same number lt;
}

pub in_grown : (timing : Timing) (d : Diagram) (old new : StateSet) → Grows old new → (now : ℕ) (h : Held) → IsIn timing d old now h → IsIn timing d new now h
in_grown timing d old new g now h i =
    (i.0, omega (arith, g.more, i.1), subst (λ (k : Known Tri Untimed). AllowsState timing d now k h) (sym (g.same i.0 i.1)) i.2)

pub arrives_grown : (q : RunQuestion) (old new : StateSet) → Grows old new → (now : ℕ) (h : Held) → Arrives q old now h → Arrives q new now h
arrives_grown q old new g now h a = record { off = a.off; there = in_grown q.timing (diagram_of q.program) old new g now h a.there }

pub visited_grown : (q : RunQuestion) (old new : StateSet) → Grows old new → (number : ℕ) → number < count_of old → IsVisited q old number → IsVisited q new number
visited_grown q old new g number lt v = λ now later p h a xs x.
    arrives_grown q old new g later _ (v now later p h (subst (λ (k : Known Tri Untimed). AllowsState q.timing (diagram_of q.program) now k h) (g.same number lt) a) xs x)

-- The state of a number is visited where scans lead on from what is known of it.
pub visited_here : (q : RunQuestion) (set new : StateSet) (number : ℕ) (k : Known Tri Untimed) (inputs : List Tri) → AreAsked q inputs → k ≡ state_at set number → Grows set new
    → number < count_of set → LeadsOn q new k (time_of q.timing) inputs → IsVisited q new number
visited_here q set new number k inputs asked is g lt leads = λ now later p h a xs x.
    leads now later p h (subst (λ (l : Known Tri Untimed). AllowsState q.timing (diagram_of q.program) now l h) (g.same number lt ∙ sym is) a) xs (asked xs x) x.allowed
