-- How a search comes from one level to the next.
use Rattle.std.proofs.Common.{◌≡◌, ◌∙◌, ◌+◌, ◌<◌, ◌≤◌, ◌||◌, ℕ, Bool, false, true, List, Option, None, Some, Result, Ok, Err, arith, below_more, if◌then◌else◌, refl, subst, sym}
use Rattle.std.specs.Prelude.{IfOk, IfSome}
use Rattle.scan_cycle.specs.Runs.{OneScan}
use Rattle.reach_runs.specs.Asking.{NeverOn, RunQuestion, StaysOff, SwitchesOn}
use Rattle.reach_search.specs.Levels.{IsAt, IsBegun, IsDone, deeper}
use Rattle.reach_search.specs.Searches.{IsEnding, IsReachedIn, end_of, is_end}
use Rattle.reach_search.specs.Sets.{count_of}
use Rattle.reach_search.specs.Visits.{Grows, IsVisited}
use Rattle.reach_search.specs.declared.levels.Ending.{Ending}
use Rattle.reach_search.specs.declared.levels.Ending.TheVariants as ending
use Rattle.reach_search.specs.declared.levels.Level.{Level}
use Rattle.reach_search.specs.declared.state_set.StateSet.{StateSet}
use Rattle.reach_search.specs.declared.visiting.Visit.{Visit}
use Rattle.reach_search.specs.declared.visiting.Visit.TheVariants as visit
use Rattle.reach_search.specs.declared.visiting.Visit.TheVariants.{Found}
use Rattle.reach_search.proofs.Growing.{grows_same, grows_then, visited_grown}
use Rattle.reach_search.proofs.Reaching.{reached_more, reached_never, reached_off}

either : (P : ℕ → Type 0) (b : Bool) (m n : ℕ) → P m → (b ≡ false → P n) → P (if b then m else n)
either P true m n p f = p
either P false m n p f = f refl

otherwise : (b : Bool) (m n : ℕ) → b ≡ false → (if b then m else n) ≡ n
otherwise true m n e = absurd cc
otherwise false m n e = refl

module _ (q : RunQuestion) (set : StateSet) where
  -- before the first scan
  pub level_first : (level : Level) → level.depth ≡ 0 → level.scans ≡ 0 → level.next ≡ 0 → IsAt q set level
  level_first level depth scans next = record {
    off = λ run is one few. absurd (omega (arith, one, few, scans));
    begun = λ _ deep. absurd (omega (arith, deep, depth));
    first = λ _. (scans, next);
  }

  -- after it
  pub first_done : (level : Level) → level.depth ≡ 0 → (level.scans ≡ 0) × (level.next ≡ 0) → IsReachedIn q set 1 → IsDone q set level
  first_done level depth first reached = record {
    reached = λ run is one few. reached run is one (omega (arith, few, first.0));
    depth = depth ∙ sym first.0;
    visited = λ number less. absurd (omega (arith, less, first.1));
  }

  -- after all states that it began with
  pub level_done : (level : Level) → IsBegun q set level → level.end ≤ level.next → IsDone q set level
  level_done level b end = record {
    reached = reached_more q b.begun set level.scans b.some b.reached b.grows (λ number less. b.visited number (omega (arith, less, b.end, end)));
    depth = b.depth;
    visited = b.visited;
  }

  -- and where no others were found
  pub level_last : (level : Level) → IsBegun q set level → level.end ≤ level.next → count_of set ≤ level.end → NeverOn q
  level_last level b end all =
      let done = level_done level b end in
      reached_never q set (level.scans + 1) (omega arith) done.reached (λ number less. done.visited number (omega (arith, less, all, end)))

  -- the next level, where no scan was missed
  deeper_begun : (level : Level) (depth end : ℕ) → IsDone q set level → level.is_missed ≡ false → depth ≡ level.depth + 1 → end ≡ count_of set → IsBegun q set (deeper level depth end)
  deeper_begun level depth end done none next all =
      let scans = otherwise level.is_missed level.scans depth none in
      record {
        begun = set;
        reached = λ run is one few. done.reached run is one (omega (arith, few, scans, next, done.depth));
        some = omega (arith, scans, next);
        depth = sym scans;
        end = all;
        grows = grows_same set;
        visited = done.visited;
      }

  deeper_off : (level : Level) (depth end : ℕ) → StaysOff q level.scans → (level.is_missed ≡ false → IsDone q set level) → depth ≡ level.depth + 1 → StaysOff q (deeper level depth end).scans
  deeper_off level depth end off done next =
      either (StaysOff q) level.is_missed level.scans depth off
      (λ none. let d = done none in reached_off q set (level.scans + 1) depth d.reached (omega (arith, next, d.depth)))

  -- the next level
  pub level_deeper : (old new : Level) (depth end : ℕ) → new ≡ deeper old depth end → StaysOff q old.scans → (old.is_missed ≡ false → IsDone q set old) → depth ≡ old.depth + 1
      → end ≡ count_of set → IsAt q set new
  level_deeper old new depth end is off done next all = subst (IsAt q set) (sym is) (record {
    off = deeper_off old depth end off done next;
    begun = λ none deep. deeper_begun old depth end (done none) none next all;
    first = λ none. absurd (omega (arith, none, next));
  })

-- after one state more
pub level_visited : (q : RunQuestion) (old new : StateSet) (was now : Level) → IsBegun q old was → Grows old new → was.next < was.end → IsVisited q new was.next
    → now.scans ≡ was.scans → now.depth ≡ was.depth → now.end ≡ was.end → now.next ≡ was.next + 1 → IsBegun q new now
level_visited q old new was now b grows more here scans depth end next = record {
  begun = b.begun;
  reached = λ run is one few. b.reached run is one (omega (arith, few, scans));
  some = omega (arith, b.some, scans);
  depth = depth ∙ b.depth ∙ sym scans;
  end = end ∙ b.end;
  grows = grows_then b.begun old new b.grows grows;
  visited = λ number less.
      below_more (λ (n : ℕ). IsVisited q new n) was.next
      (λ n lt. visited_grown q old new grows n (omega (arith, lt, more, b.end, b.grows.more)) (b.visited n lt))
      here number (omega (arith, less, next));
}

-- ---- how a visit ends a search

-- what follows from a clause on a result
pub if_ok_then : {A E : Type 0} (P Q : A → Type 0) → ((v : A) → P v → Q v) → (r : Result A E) → IfOk r P → IfOk r Q
if_ok_then P Q h (Ok v) p = h v p
if_ok_then P Q h (Err e) p = tt

pub ended : (q : RunQuestion) (v : Visit) (run : List OneScan) (ending : Ending) → Some ending ≡ end_of v → (v ≡ Found → SwitchesOn q run) → IsEnding q ending run
ended q visit.Found run ending.Found is found = found refl
ended q visit.Found run ending.Never is found = absurd cc
ended q visit.Found run ending.Open is found = tt
ended q visit.Found run ending.Unclear is found = tt
ended q visit.Unclear run ending.Found is found = absurd cc
ended q visit.Unclear run ending.Never is found = absurd cc
ended q visit.Unclear run ending.Open is found = tt
ended q visit.Unclear run ending.Unclear is found = tt
ended q visit.Full run ending.Found is found = absurd cc
ended q visit.Full run ending.Never is found = absurd cc
ended q visit.Full run ending.Open is found = tt
ended q visit.Full run ending.Unclear is found = tt
ended q visit.Closed run ending is found = absurd cc
ended q visit.Missed run ending is found = absurd cc

pub goes_on : (v : Visit) → None ≡ end_of v → is_end v ≡ false
goes_on visit.Found is = absurd cc
goes_on visit.Unclear is = absurd cc
goes_on visit.Full is = absurd cc
goes_on visit.Closed is = refl
goes_on visit.Missed is = refl

-- what isn't settled is an ending
pub open_ends : (q : RunQuestion) (e : Option Ending) (run : List OneScan) → IfSome e (λ x. x ≡ ending.Open) → IfSome e (λ x. IsEnding q x run)
open_ends q None run is = tt
open_ends q (Some e) run is = subst (λ (x : Ending). IsEnding q x run) (sym is) tt

pub neither : (a b : Bool) → (a || b) ≡ false → (a ≡ false) × (b ≡ false)
neither true b e = absurd cc
neither false b e = (refl, e)
