-- Runs by their last scans: what is reached by so many scans, and by one more.
use Rattle.std.proofs.Common.{◌≡◌, ◌∙◌, ◌<◌, ◌≤◌, ◌+◌, ◌++◌, ℕ, zero, suc, false, List, [], ◌∷◌, length, refl, sym, ap, subst, arith, All}
use Rattle.std.proofs.lemmas.List.{length_push}
use Rattle.std.proofs.lemmas.List.Elements.{All-head, All-tail, All-cons, All-nil}
use Rattle.scan_cycle.specs.Cells.{Diagram}
use Rattle.scan_cycle.specs.Programs.{diagram_of}
use Rattle.scan_cycle.specs.Rung.{Held}
use Rattle.scan_cycle.specs.Runs.{IsRun, OneScan, after_each}
use Rattle.scan_cycle.specs.Scan.{after_scan}
use Rattle.scan_signals.specs.declared.tri.Tri.{Tri}
use Rattle.scan_symbolic.specs.KnownScan.{Known}
use Rattle.std.specs.List.{list_all}
use Rattle.reach_runs.specs.Asking.{AreEvery, AreTimed, Gives, IsAsked, NeverOn, RunQuestion, StaysOff, is_on_after, is_so}
use Rattle.reach_runs.specs.declared.timing.Timing.{Timing}
use Rattle.reach_runs.specs.declared.timing.Timing.TheVariants.{AnyMoments, Every}
use Rattle.reach_states.specs.Allowing.{AllowsState}
use Rattle.reach_states.specs.declared.untimed.Untimed.{Untimed}
use Rattle.reach_search.specs.Searches.{AreAsked, IsReachedIn, last_moment}
use Rattle.reach_search.specs.Sets.{count_of}
use Rattle.reach_search.specs.Visits.{Arrives, Grows, IsIn, IsVisited, LeadsOn, Passes, time_of}
use Rattle.reach_search.specs.declared.state_set.StateSet.{StateSet}
use Rattle.reach_search.proofs.Growing.{grows_same, in_grown}

-- ---- one scan more at the end

after_more : (d : Diagram) (front : List OneScan) (last : OneScan) (h : Held) → after_each d (front ++ last ∷ []) h ≡ after_scan d last.moment last.inputs (after_each d front h)
unfolding after_each
after_more d [] last h = refl
after_more d (scan ∷ front) last h = after_more d front last (after_scan d scan.moment scan.inputs h)

last_more : (from : ℕ) (front : List OneScan) (last : OneScan) → last_moment from (front ++ last ∷ []) ≡ last.moment
last_more from [] last = refl
last_more from (scan ∷ front) last = last_more scan.moment front last

-- the last scan of a run, and those before it
data Parted : List OneScan → Type 0 where
  parted : (front : List OneScan) (last : OneScan) → Parted (front ++ last ∷ [])

part : (scan : OneScan) (more : List OneScan) → Parted (scan ∷ more)
part scan [] = parted [] scan
part scan (next ∷ more) = elim (part next more) as (λ scans p. Parted (scan ∷ scans)) [ parted front last ↦ parted (scan ∷ front) last ]

-- the last scan is in time after those before it
run_more : (from : ℕ) (front : List OneScan) (last : OneScan) → IsRun from (front ++ last ∷ []) → IsRun from front × (last_moment from front ≤ last.moment)
run_more from [] last r = (tt, r.0)
run_more from (scan ∷ front) last r = let more = run_more scan.moment front last r.2 in ((r.0, r.1, more.0), more.1)

every_more : (every from : ℕ) (scan : OneScan) (front : List OneScan) (last : OneScan) → AreEvery every from ((scan ∷ front) ++ last ∷ [])
    → AreEvery every from (scan ∷ front) × (last.moment ≡ last_moment from (scan ∷ front) + every)
every_more every from scan [] last r = ((r.0, tt), r.1.0 ∙ ap (λ m. m + every) (sym r.0))
every_more every from scan (next ∷ front) last r =
    let more = every_more every (from + every) next front last r.1 in
    ((r.0, more.0), more.1)

timed_more : (timing : Timing) (from : ℕ) (scan : OneScan) (front : List OneScan) (last : OneScan) → AreTimed timing from ((scan ∷ front) ++ last ∷ [])
    → AreTimed timing from (scan ∷ front) × Passes timing (time_of timing) (last_moment from (scan ∷ front)) last.moment
timed_more AnyMoments from scan front last r = run_more from (scan ∷ front) last r
timed_more (Every every) from scan front last r = every_more every from scan front last r

timed_first : (timing : Timing) (from : ℕ) (scan : OneScan) → AreTimed timing from (scan ∷ []) → Passes timing 0 from scan.moment
timed_first AnyMoments from scan r = r.0
timed_first (Every every) from scan r = omega (arith, r.0)

-- what holds of all scans does of the last one, and of those before it
all_more : (P : OneScan → Type 0) (front : List OneScan) (last : OneScan) → All P (front ++ last ∷ []) → All P front × P last
all_more P [] last h = (All-nil P, All-head P last [] h)
all_more P (scan ∷ front) last h =
    let more = all_more P front last (All-tail P scan (front ++ last ∷ []) h) in
    (All-cons P scan front (All-head P scan (front ++ last ∷ []) h) more.0, more.1)

-- What is known at first allows the state, at any moments or in a rhythm.
pub allows_first : (timing : Timing) (d : Diagram) (now : ℕ) (k : Known Tri Untimed) (h : Held) → AllowsState AnyMoments d now k h
    → ((every : ℕ) → AllowsState (Every every) d now k h) → AllowsState timing d now k h
allows_first AnyMoments d now k h any rhythm = any
allows_first (Every every) d now k h any rhythm = rhythm every

-- ---- what is reached

module _ (q : RunQuestion) where
  -- a scan that arrives, after the scans before it
  arrives_after : (set : StateSet) (front : List OneScan) (last : OneScan) → Arrives q set last.moment (after_scan (diagram_of q.program) last.moment last.inputs (after_each (diagram_of q.program) front q.state.held))
      → (is_on_after q (front ++ last ∷ []) ≡ false)
      × IsIn q.timing (diagram_of q.program) set (last_moment q.from (front ++ last ∷ [])) (after_each (diagram_of q.program) (front ++ last ∷ []) q.state.held)
  arrives_after set front last a =
      let d = diagram_of q.program in
      let state = sym (after_more d front last q.state.held) in
      let moment = sym (last_more q.from front last) in (
        subst (λ (h : Held). list_all (is_so h) q.target ≡ false) state a.off,
        subst (λ (m : ℕ). IsIn q.timing d set m (after_each d (front ++ last ∷ []) q.state.held)) moment
            (subst (λ (h : Held). IsIn q.timing d set last.moment h) state a.there),
      )

  -- after one scan of the state
  pub reached_first : (set : StateSet) (k : Known Tri Untimed) (inputs : List Tri) → AreAsked q inputs → AllowsState q.timing (diagram_of q.program) q.from k q.state.held
      → LeadsOn q set k 0 inputs → IsReachedIn q set 1
  unfolding after_each
  reached_first set k inputs asked allows leads [] is some most = absurd (omega (arith, some))
  reached_first set k inputs asked allows leads (scan ∷ []) is some most =
      let given : Gives q scan.inputs = All-head (λ s. Gives q s.inputs) scan [] is.given in
      arrives_after set [] scan (leads q.from scan.moment (timed_first q.timing q.from scan is.timed) q.state.held allows scan.inputs (asked scan.inputs given) given.allowed)
  reached_first set k inputs asked allows leads (scan ∷ next ∷ more) is some most = absurd (omega (arith, most))

  -- and after one scan more, where all states that were reached before are visited
  reached_last : (old new : StateSet) (most : ℕ) → IsReachedIn q old most → Grows old new → ((number : ℕ) → number < count_of old → IsVisited q new number)
      → (scan : OneScan) (front : List OneScan) (last : OneScan) → IsAsked q ((scan ∷ front) ++ last ∷ []) → length (scan ∷ front) ≤ most
      → Arrives q new last.moment (after_scan (diagram_of q.program) last.moment last.inputs (after_each (diagram_of q.program) (scan ∷ front) q.state.held))
  reached_last old new most reached grows visited scan front last is le =
      let d = diagram_of q.program in
      let time = timed_more q.timing q.from scan front last is.timed in
      let gives = all_more (λ s. Gives q s.inputs) (scan ∷ front) last is.given in
      let before = (reached (scan ∷ front) (record { timed = time.0; given = gives.0 }) (omega arith) le).1 in
      let now = last_moment q.from (scan ∷ front) in
      let held = after_each d (scan ∷ front) q.state.held in
      let state = subst (λ (k : Known Tri Untimed). AllowsState q.timing d now k held) (sym (grows.same before.0 before.1)) before.2 in
      visited before.0 before.1 now last.moment time.1 held state last.inputs gives.1

  reached_by : (old new : StateSet) (most : ℕ) → 0 < most → IsReachedIn q old most → Grows old new → ((number : ℕ) → number < count_of old → IsVisited q new number)
      → (scans : List OneScan) → Parted scans → IsAsked q scans → length scans ≤ most + 1
      → (is_on_after q scans ≡ false) × IsIn q.timing (diagram_of q.program) new (last_moment q.from scans) (after_each (diagram_of q.program) scans q.state.held)
  reached_by old new most some reached grows visited _ (parted [] last) is le =
      let before = reached (last ∷ []) is (omega arith) (omega arith) in
      (before.0, in_grown q.timing (diagram_of q.program) old new grows _ _ before.1)
  reached_by old new most some reached grows visited _ (parted (scan ∷ front) last) is le =
      arrives_after new (scan ∷ front) last
      (reached_last old new most reached grows visited scan front last is (omega (arith, length_push (scan ∷ front) last)))

  pub reached_more : (old new : StateSet) (most : ℕ) → 0 < most → IsReachedIn q old most → Grows old new → ((number : ℕ) → number < count_of old → IsVisited q new number)
      → IsReachedIn q new (most + 1)
  reached_more old new most some reached grows visited [] is one le = absurd (omega arith)
  reached_more old new most some reached grows visited (scan ∷ more) is one le = reached_by old new most some reached grows visited (scan ∷ more) (part scan more) is le

  reached_on : (set : StateSet) (most : ℕ) → 0 < most → IsReachedIn q set most → ((number : ℕ) → number < count_of set → IsVisited q set number) → (more : ℕ) → IsReachedIn q set (most + more)
  reached_on set most some reached visited zero = λ scans is one le. reached scans is one (omega arith)
  reached_on set most some reached visited (suc more) =
      let before = reached_on set most some reached visited more in
      let next = reached_more set set (most + more) (omega arith) before (grows_same set) visited in
      λ scans is one le. next scans is one (omega arith)

  -- where no state is left to visit, the target is never ON
  pub reached_never : (set : StateSet) (most : ℕ) → 0 < most → IsReachedIn q set most → ((number : ℕ) → number < count_of set → IsVisited q set number) → NeverOn q
  reached_never set most some reached visited scans is one = (reached_on set most some reached visited (length scans) scans is one (omega arith)).0

  pub reached_off : (set : StateSet) (most fewer : ℕ) → IsReachedIn q set most → fewer ≤ most → StaysOff q fewer
  reached_off set most fewer reached le scans is one few = (reached scans is one (omega arith)).0
