-- One record: its scan, from which it is recorded.
use Rattle.std.proofs.Common.{◌≡◌, ◌∙◌, ◌++◌, ap, append-nil, arith, drop, subst, take, take_all, ℕ, List, Bool, Result, Ok, Err, length}
use Rattle.std.specs.Prelude.{OnOk}
use Rattle.std.proofs.lemmas.List.{drop_all}
use Rattle.diagram_program.specs.Program.{Drawing}
use Rattle.io_text.specs.Left.{Fields}
use Rattle.scan_cycle.specs.Standing.{Standing}
use Rattle.io_text.specs.Log.{WriteLog}
use Rattle.text_trace.specs.declared.fault.SimFault.{SimFault}
use Rattle.text_trace.specs.declared.fault.SimFault.TheVariants as fault
use Rattle.text_trace.specs.Simulation.{with_scans}
use Rattle.text_trace.specs.Steps.{IsScan, ScansTo, StepsTo}
use Rattle.text_trace.specs.Stimulus.{IsRow, given_by}
use Rattle.text_trace.specs.Trace.{IsStep, Recorded, inputs_given}

-- A slice is written over the first n items of its vector.
abbrev pub over : ℕ → List Bool → List Bool → List Bool
over n new old = take n (new ++ drop (length new) old)

-- One that is written whole takes the place of all items.
replaced : (n : ℕ) (new old : List Bool) → length new ≡ n → length old ≡ n → over n new old ≡ new
replaced n new old e f =
    ap (λ rest. take n (new ++ rest)) (drop_all (length new) old (omega (arith, e, f)))
    ∙ ap (take n) (append-nil new)
    ∙ take_all n new (omega (arith, e))

-- the input image after the values of all inputs, and then the bits of a row
pub given_image : (n : ℕ) (columns : List ℕ) (bits items first second values between : List Bool) → length items ≡ n → length first ≡ n → length second ≡ n
    → between ≡ over n first items → first ≡ values → second ≡ given_by columns bits between
    → over n second (over n first items) ≡ given_by columns bits values
given_image n columns bits items first second values between a b c same filled given =
    let kept = replaced n first items b a in
    replaced n second (over n first items) c (ap length kept ∙ b)
    ∙ given
    ∙ ap (given_by columns bits) (same ∙ kept ∙ filled)

step_of : (recorded : Recorded) (every : ℕ) (p : Drawing) (columns : List ℕ) (done : ℕ) (s : Standing) (fields : Fields) (moment : ℕ) (bits inputs : List Bool) (t : Standing) (piece : List ℕ)
    → IsRow columns fields moment bits → inputs ≡ inputs_given p columns bits s → IsScan recorded p done s moment inputs t piece
    → IsStep (with_scans every recorded) p columns done s fields t piece
step_of recorded every p columns done s fields moment bits inputs t piece row given scan =
    let same = subst (λ (i : List Bool). IsScan recorded p done s moment i t piece) given scan in
    record { moment = moment; bits = bits; row = row; later = same.later; after = same.after; told = same.told }

pub steps_of : {T : Type 0} (recorded : Recorded) (every : ℕ) (p : Drawing) (columns : List ℕ) (done number : ℕ) (s : Standing) (fields : Fields) (moment : ℕ) (bits inputs : List Bool) (t : Standing)
    (old new : WriteLog) (r : Result T SimFault) → IsRow columns fields moment bits → inputs ≡ inputs_given p columns bits s
    → ScansTo recorded p done number s moment inputs t old new r → StepsTo (with_scans every recorded) p columns done number s fields t old new r
steps_of recorded every p columns done number s fields moment bits inputs t old new (Ok u) row given h =
    (h.0, step_of recorded every p columns done s fields moment bits inputs t h.0 row given h.1, h.2)
steps_of recorded every p columns done number s fields moment bits inputs t old new (Err (fault.MomentBack n)) row given h = (h.0, (moment, bits, row, h.1), h.2)
steps_of recorded every p columns done number s fields moment bits inputs t old new (Err fault.Write) row given h =
    (h.0, step_of recorded every p columns done s fields moment bits inputs t h.0 row given h.1, h.2)
steps_of recorded every p columns done number s fields moment bits inputs t old new (Err fault.Memory) row given h = h
steps_of recorded every p columns done number s fields moment bits inputs t old new _ row given h = absurd h

-- what holds anyway holds of a good result
pub on_ok : {T E : Type 0} (r : Result T E) (P : Type 0) → P → OnOk r P
on_ok (Ok x) P p = p
on_ok (Err e) P p = tt
