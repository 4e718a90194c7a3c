-- Scans that lead to states of a set: after one scan, by both values of an input, and by whether a time has passed.
use Rattle.std.proofs.Common.{◌≡◌, ◌∙◌, inl, inr, ◌+◌, ◌<◌, ◌≤◌, ℕ, Bool, false, List, length, set, get_or, arith, sym, ap, ap₂, subst, Result, Ok, Err}
use Rattle.std.proofs.lemmas.Bool.{both_ways}
use Rattle.std.proofs.lemmas.List.{set-get_or, set-set}
use Rattle.std.specs.Prelude.{IfOk, slice_set}
use Rattle.scan_cycle.specs.Programs.{diagram_of}
use Rattle.scan_cycle.specs.Rung.{Held}
use Rattle.scan_cycle.specs.Scan.{after_scan}
use Rattle.assume_truth.specs.Truth.{is_allowed}
use Rattle.invariant_cases.specs.Allowing.{Allows}
use Rattle.scan_signals.specs.Relations.{Both}
use Rattle.scan_signals.specs.Three.{three}
use Rattle.scan_signals.specs.declared.tri.Tri.{Tri}
use Rattle.scan_signals.specs.declared.tri.Tri.TheVariants.{Off, On}
use Rattle.scan_symbolic.specs.KnownScan.{Known, after_known, kept_at}
use Rattle.reach_runs.specs.Asking.{RunQuestion}
use Rattle.reach_runs.specs.declared.timing.Timing.{Timing}
use Rattle.reach_runs.specs.declared.timing.Timing.TheVariants.{AnyMoments, Every}
use Rattle.reach_states.specs.Allowing.{AllowsFrom, AllowsState, ScanAllows, is_waiting, over}
use Rattle.reach_states.specs.Untimed.{untimed}
use Rattle.reach_states.specs.declared.untimed.Untimed.{Untimed}
use Rattle.reach_states.proofs.Splitting.{all_settled, none_waits, time_passes, waits_or_not}
use Rattle.reach_search.specs.Visits.{Grows, IsIn, Leads, LeadsOn, Passes, told_all}
use Rattle.reach_search.specs.declared.state_set.StateSet.{StateSet}
use Rattle.reach_search.proofs.Growing.{arrives_grown}
use Rattle.reach_search.proofs.InputLaws.{either_input}
use Rattle.reach_search.proofs.TargetLaws.{target_off}

-- two clauses on a result make a third
pub if_ok_both : {A E : Type 0} (P Q R : A → Type 0) → ((v : A) → P v → Q v → R v) → (r : Result A E) → IfOk r P → IfOk r Q → IfOk r R
if_ok_both P Q R h (Ok v) p q = h v p q
if_ok_both P Q R h (Err e) p q = tt

-- after one scan
pub leads_from : (q : RunQuestion) (set : StateSet) (before after : Known Tri Untimed) (inputs : List Tri) → ScanAllows (diagram_of q.program)
    → after ≡ after_known three untimed (diagram_of q.program) 0 inputs before → told_all after q.target ≡ Off
    → ((now : ℕ) (held : Held) → AllowsState q.timing (diagram_of q.program) now after held → IsIn q.timing (diagram_of q.program) set now held)
    → Leads q set (λ now. AllowsState q.timing (diagram_of q.program) now before) inputs
leads_from q set before after inputs scan is off there = λ now h a xs b e.
    let left = after_scan (diagram_of q.program) now xs h in
    let allowed = subst (λ (k : Known Tri Untimed). AllowsState q.timing (diagram_of q.program) now k left) (sym is) (scan q.timing now inputs xs b before h a) in
    record { off = target_off q.timing (diagram_of q.program) now after left allowed q.target off; there = there now left allowed }

-- where what is assumed is true with none of the inputs
pub leads_nowhere : (q : RunQuestion) (set : StateSet) (allows : ℕ → Held → Type 0) (inputs : List Tri)
    → ((xs : List Bool) → Both Allows inputs xs → is_allowed q.assumed xs ≡ false) → Leads q set allows inputs
leads_nowhere q set allows inputs none = λ now h a xs b e. absurd (both_ways (is_allowed q.assumed xs) (none xs b) e)

-- by both values of an input
pub leads_by_input : (q : RunQuestion) (one two : StateSet) → Grows one two → (allows : ℕ → Held → Type 0) (inputs : List Tri) (i : ℕ)
    → Leads q one allows (set inputs i Off) → Leads q two allows (set inputs i On) → Leads q two allows inputs
leads_by_input q one two grows allows inputs i off on = λ now h a xs b e. elim (either_input inputs xs i b) [
  | inl s ↦ arrives_grown q one two grows now _ (off now h a xs s e)
  | inr s ↦ on now h a xs s e
]

-- where no time may have passed that hadn't
pub leads_settled : (q : RunQuestion) (set : StateSet) (first count : ℕ) (k : Known Tri Untimed) (inputs : List Tri) → q.timing ≡ AnyMoments → length k.blocks ≡ count
    → ((i : ℕ) → first ≤ i → i < count → is_waiting ((diagram_of q.program).preset i) (kept_at untimed k i) ≡ false)
    → Leads q set (λ now. AllowsState q.timing (diagram_of q.program) now k) inputs → Leads q set (λ now. AllowsFrom first (diagram_of q.program) now k) inputs
leads_settled q set first count k inputs any long none leads = λ now h a xs b e.
    let d = diagram_of q.program in
    let settled = all_settled d now count k h (omega arith) (none_waits d now first count k h none a) in
    leads now h (subst (λ (timing : Timing). AllowsState timing d now k h) (sym any) settled) xs b e

-- by whether the time of an instance has passed
pub leads_by_time : (q : RunQuestion) (one two : StateSet) → Grows one two → (first inst : ℕ) (k : Known Tri Untimed) (inputs : List Tri)
    → ((i : ℕ) → first ≤ i → i < inst → is_waiting ((diagram_of q.program).preset i) (kept_at untimed k i) ≡ false) → inst < length k.blocks
    → Leads q one (λ now. AllowsFrom (inst + 1) (diagram_of q.program) now k) inputs
    → Leads q two (λ now. AllowsFrom (inst + 1) (diagram_of q.program) now
    (record k { blocks = slice_set k.blocks inst (over ((diagram_of q.program).preset inst) (kept_at untimed k inst)) })) inputs
    → Leads q two (λ now. AllowsFrom first (diagram_of q.program) now k) inputs
leads_by_time q one two grows first inst k inputs none lt waiting passed = λ now h a xs b e.
    let d = diagram_of q.program in
    elim (waits_or_not d now inst k h lt (none_waits d now first inst k h none a)) [
      | inl s ↦ arrives_grown q one two grows now _ (waiting now h s xs b e)
      | inr s ↦ passed now h s xs b e
    ]

-- at any later moment
pub leads_later : (q : RunQuestion) (set : StateSet) (k : Known Tri Untimed) (time : ℕ) (inputs : List Tri) → q.timing ≡ AnyMoments
    → Leads q set (λ now. AllowsFrom 0 (diagram_of q.program) now k) inputs → LeadsOn q set k time inputs
leads_later q set k time inputs any leads = λ now later p h a xs b e.
    let d = diagram_of q.program in
    let le = subst (λ (timing : Timing). Passes timing time now later) any p in
    leads later h (time_passes d now later le k h (subst (λ (timing : Timing). AllowsState timing d now k h) any a)) xs b e

-- after so long a time in a rhythm
pub leads_next : (q : RunQuestion) (set : StateSet) (k next : Known Tri Untimed) (every time : ℕ) (inputs : List Tri) → q.timing ≡ Every every
    → ((now : ℕ) (held : Held) → AllowsState (Every time) (diagram_of q.program) now k held → AllowsState (Every time) (diagram_of q.program) (now + time) next held)
    → Leads q set (λ now. AllowsState q.timing (diagram_of q.program) now next) inputs → LeadsOn q set k time inputs
leads_next q set k next every time inputs is aged leads = λ now later p h a xs b e.
    let d = diagram_of q.program in
    let moment : later ≡ now + time = subst (λ (timing : Timing). Passes timing time now later) is p in
    let old = aged now h (subst (λ (timing : Timing). AllowsState timing d now k h) is a) in
    let new = subst (λ (m : ℕ). AllowsState (Every time) d m next h) (sym moment) old in
    leads later h (subst (λ (timing : Timing). AllowsState timing d later next h) (sym is) new) xs b e

-- ---- what is kept of an instance, written over and put back

pub kept_instead : (k : Known Tri Untimed) → ℕ → Untimed → Known Tri Untimed
kept_instead k inst b = record k { blocks = slice_set k.blocks inst b }

pub put_back_kept : (k a b e : Known Tri Untimed) (inst : ℕ) (x kept d : Untimed) → a ≡ k → b ≡ record a { blocks = slice_set a.blocks inst x } → e ≡ b → kept ≡ get_or k.blocks inst d
    → record e { blocks = slice_set e.blocks inst kept } ≡ k
unfolding kept_instead
put_back_kept k a b e inst x kept d one two three is =
    ap (λ l. kept_instead l inst kept) (three ∙ two ∙ ap (λ l. kept_instead l inst x) one)
    ∙ ap (λ bs. known_with k bs) (set-set k.blocks inst x kept ∙ ap (set k.blocks inst) is ∙ set-get_or k.blocks inst d)
  where
    known_with : Known Tri Untimed → List Untimed → Known Tri Untimed
    known_with l bs = record l { blocks = bs }

pub kept_over : (k a b : Known Tri Untimed) (inst : ℕ) (x y : Untimed) → a ≡ k → b ≡ record a { blocks = slice_set a.blocks inst x } → x ≡ y → b ≡ record k { blocks = slice_set k.blocks inst y }
unfolding kept_instead
kept_over k a b inst x y one two same = two ∙ ap₂ (λ l z. kept_instead l inst z) one same
