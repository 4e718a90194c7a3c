-- What cursors give and a writer counts is the list of both questions in its form.
use Rattle.std.proofs.Common.{◌≡◌, ◌∙◌, ◌+◌, ap, ap₂, ℕ, List, Option, length, None, Some, inl, inr, refl, sym}
use Rattle.std.specs.Prelude.{option_map}
use Rattle.std.specs.Option.{option_or}
use Rattle.causes_query.specs.Causes.{Question}
use Rattle.causes_query.specs.Refusal.{reason, refusal}
use Rattle.causes_query.specs.declared.fault.CauseFault.{CauseFault}
use Rattle.causes_query.specs.declared.fault.CauseFault.TheVariants as cause
use Rattle.scan_held.specs.HeldRefusal.{held_reason, held_refusal}
use Rattle.scan_held.specs.declared.fault.HeldFault.{HeldFault}
use Rattle.scan_held.specs.declared.fault.HeldFault.TheVariants as held
use Rattle.scan_held.specs.declared.scans.Scans.{Scans}
use Rattle.search_differences.specs.declared.sought.Sought.TheVariants.{OldAlone, NewAlone}
use Rattle.search_groups.specs.Groups.{Row}
use Rattle.diff_causes.specs.Cursor.{DifferenceCursor}
use Rattle.diff_causes.specs.Assuming.{assumed_differences_after}
use Rattle.diff_causes.specs.GroupCursor.{DifferenceGroupCursor, differences_in, group_rows_left}
use Rattle.diff_causes.specs.Refused.{IsRefusedBy}
use Rattle.diff_causes.specs.declared.fault.DifferenceFault.{DifferenceFault}
use Rattle.diff_causes.specs.declared.fault.DifferenceFault.TheVariants as difference
use Rattle.diff_causes.specs.declared.rows.Difference.{Difference}
use Rattle.diff_held.specs.Cursor.{HeldDifferenceCursor}
use Rattle.diff_held.specs.Assuming.{assumed_held_differences}
use Rattle.diff_held.specs.Refused.{IsRefusedBy as IsHeldRefusedBy}
use Rattle.diff_held.specs.declared.fault.HeldDifferenceFault.{HeldDifferenceFault}
use Rattle.diff_held.specs.declared.fault.HeldDifferenceFault.TheVariants as held_difference
use Rattle.diff_held.specs.declared.row.HeldDifference.{HeldDifference}
use Rattle.text_causes.specs.CauseText.{limited}
use Rattle.text_causes.specs.Limit.{limit_left}
use Rattle.text_causes.specs.declared.group_text.GroupForm.{GroupForm}
use Rattle.text_differences.specs.DifferenceText.{difference_text, part}
use Rattle.text_differences.specs.GroupText.{difference_group_text, new_rows_of, old_rows_of}
use Rattle.text_held_differences.specs.HeldText.{held_difference_text}
use Rattle.cli_arguments.specs.declared.request.DiffForm.TheVariants as form
use Rattle.cli_arguments.specs.declared.request.GroupFormat.{GroupFormat}
use Rattle.cli_arguments.specs.declared.request.Grouping.{Grouping}
use Rattle.cli_questions.specs.Forms.{form_on}
use Rattle.cli_questions.specs.declared.counting.ListCounts.{ListCounts}
use Rattle.cli_diff.specs.Assumed.{Assumption, assumed_alone, assumed_counts, assumed_held_for, assumed_text, differences_by, new_assumed_groups, old_assumed_groups, rows_by}
use Rattle.cli_diff.specs.Faults.{IsFirstFault, IsRefusedOf, bound_refusal, cause_fault, held_fault, held_refused, refused, rows_refusal}

-- ---- rows

module _ (a : Assumption) (limit after upto : Option ℕ) (q r : Question) (c : DifferenceCursor) (made : c.rest ≡ assumed_differences_after after a.old a.new q r) where
  pub rows_are : c.asked_old ≡ q → difference_text c.asked_old.program c.asked_old.listed (limited limit (part upto c.rest)) ≡ assumed_text a limit after upto q r
  rows_are of_old =
      ap (λ (x : Question). difference_text x.program x.listed (limited limit (part upto c.rest))) of_old
      ∙ ap (λ (ds : List Difference). difference_text q.program q.listed (limited limit (part upto ds))) made

  pub rows_counted : (counts : ListCounts) (n : ℕ) → counts ≡ rows_by a.expressions n → n ≡ length (limited limit (part upto c.rest)) → counts ≡ assumed_counts a limit after upto q r
  rows_counted counts n by h = by ∙ ap (rows_by a.expressions) (h ∙ ap (λ (ds : List Difference). length (limited limit (part upto ds))) made)

-- ---- rows over several scans

module _ (a : Assumption) (limit : Option ℕ) (s : Scans) (x y q r : Question) (of_old : x ≡ q) (of_new : y ≡ r) (c : HeldDifferenceCursor)
    (made : c.rest ≡ assumed_held_differences a.old a.new x y s) where
  rest_is : c.rest ≡ assumed_held_differences a.old a.new q r s
  rest_is = made ∙ ap₂ (λ (x y : Question). assumed_held_differences a.old a.new x y s) of_old of_new

  pub held_rows_are : c.asked_old ≡ x → held_difference_text c.asked_old.program c.asked_old.listed (limited limit c.rest)
      ≡ held_difference_text q.program q.listed (assumed_held_for a limit s q r)
  held_rows_are asked =
      ap (λ (x : Question). held_difference_text x.program x.listed (limited limit c.rest)) (asked ∙ of_old)
      ∙ ap (λ (ds : List HeldDifference). held_difference_text q.program q.listed (limited limit ds)) rest_is

  pub held_rows_counted : (counts : ListCounts) (n : ℕ) → counts ≡ rows_by a.expressions n → n ≡ length (limited limit c.rest)
      → counts ≡ rows_by a.expressions (length (assumed_held_for a limit s q r))
  held_rows_counted counts n by h = by ∙ ap (rows_by a.expressions) (h ∙ ap (λ (ds : List HeldDifference). length (limited limit ds)) rest_is)

-- ---- groups

summary_is : (e rows differences m n : ℕ) → rows ≡ m → differences ≡ n → differences_by e rows differences ≡ differences_by e m n
summary_is e rows differences m n h l = ap (λ (x : ℕ). differences_by e x differences) h ∙ ap (λ (x : ℕ). differences_by e m x) l

module _ (a : Assumption) (limit : Option ℕ) (q r : Question) (c d : DifferenceGroupCursor) (old_rows : group_rows_left c ≡ assumed_alone a OldAlone q r)
    (new_rows : group_rows_left d ≡ assumed_alone a NewAlone q r) where
  old_are : old_rows_of limit c ≡ old_assumed_groups a limit q r
  old_are = ap (λ (rs : List Row). limited limit rs) old_rows

  new_are : new_rows_of limit c d ≡ new_assumed_groups a limit q r
  new_are =
      ap (λ (rs : List Row). limited (limit_left limit (length (limited limit rs))) (group_rows_left d)) old_rows
      ∙ ap (λ (rs : List Row). limited (limit_left limit (length (old_assumed_groups a limit q r))) rs) new_rows

  pub groups_are : (form : GroupForm) (shape : GroupFormat) → form ≡ form_on shape q.coil → c.asked_old ≡ q
      → difference_group_text form c.asked_old.program c.asked_old.listed (old_rows_of limit c) (new_rows_of limit c d)
      ≡ difference_group_text (form_on shape q.coil) q.program q.listed (old_assumed_groups a limit q r) (new_assumed_groups a limit q r)
  groups_are form shape same of_old =
      ap (λ (f : GroupForm). difference_group_text f c.asked_old.program c.asked_old.listed (old_rows_of limit c) (new_rows_of limit c d)) same
      ∙ ap (λ (x : Question). difference_group_text (form_on shape q.coil) x.program x.listed (old_rows_of limit c) (new_rows_of limit c d)) of_old
      ∙ ap (λ (rs : List Row). difference_group_text (form_on shape q.coil) q.program q.listed rs (new_rows_of limit c d)) old_are
      ∙ ap (λ (rs : List Row). difference_group_text (form_on shape q.coil) q.program q.listed (old_assumed_groups a limit q r) rs) new_are

  pub groups_counted : (counts : ListCounts) (rows differences : ℕ) → counts ≡ differences_by a.expressions rows differences → rows ≡ length (old_rows_of limit c) + length (new_rows_of limit c d)
      → differences ≡ differences_in (old_rows_of limit c) + differences_in (new_rows_of limit c d)
      → counts ≡ differences_by a.expressions (length (old_assumed_groups a limit q r) + length (new_assumed_groups a limit q r)) (differences_in (old_assumed_groups a limit q r) + differences_in (new_assumed_groups a limit q r))
  groups_counted counts rows differences by h l = by ∙ summary_is a.expressions rows differences _ _
      (h ∙ ap₂ (λ (xs ys : List Row). length xs + length ys) old_are new_are) (l ∙ ap₂ (λ (xs ys : List Row). differences_in xs + differences_in ys) old_are new_are)

-- ---- refusals

-- The first rule that is broken is the first fault.
pub first_fault : (first : Option CauseFault) (f : CauseFault) → first ≡ reason f → IsFirstFault (option_map cause_fault first) (cause_fault f)
first_fault first cause.Memory h = inl refl
first_fault first _ h = inr (ap (λ o. option_map cause_fault o) h)

pub first_held : (first : Option HeldFault) (f : HeldFault) → first ≡ held_reason f → IsFirstFault (option_map held_fault first) (held_fault f)
first_held first held.NoScans h = inr (ap (λ o. option_map held_fault o) h)
first_held first (held.Question cause.Memory) h = inl refl
first_held first (held.Question _) h = inr (ap (λ o. option_map held_fault o) h)

-- With no rule broken by the number to end at, the first rule is that of the question.
pub rows_is : (after upto : Option ℕ) (q : Question) → bound_refusal upto q ≡ None → rows_refusal after upto q ≡ refusal q after
rows_is after upto q none = ap (λ (o : Option CauseFault). option_or o (refusal q after)) none

-- What is not refused is no fault.
pub no_cause : (first : Option CauseFault) → first ≡ None → option_map cause_fault first ≡ None
no_cause first h = ap (λ o. option_map cause_fault o) h

no_held : (first : Option HeldFault) → first ≡ None → option_map held_fault first ≡ None
no_held first h = ap (λ o. option_map held_fault o) h

pub held_accepted : (s : Scans) (asked q : Question) → asked ≡ q → held_refusal asked s ≡ None → option_map held_fault (held_refusal q s) ≡ None
held_accepted s asked q is none = no_held (held_refusal q s) (ap (λ (x : Question). held_refusal x s) (sym is) ∙ none)

-- What a cursor is refused for is a refusal of the list.
pub rows_refused : (after upto : Option ℕ) (q r : Question) (e : DifferenceFault) → bound_refusal upto q ≡ None → IsRefusedBy q r after e
    → IsRefusedOf (form.Rows after upto) q r (refused e).side (refused e).fault
rows_refused after upto q r (difference.Old f) none h = first_fault (rows_refusal after upto q) f (rows_is after upto q none ∙ h)
rows_refused after upto q r (difference.New f) none h = (no_cause (rows_refusal after upto q) (rows_is after upto q none ∙ h.0), first_fault (refusal r after) f h.1)

pub bound_refused : (after upto : Option ℕ) (q r : Question) (f : CauseFault) → bound_refusal upto q ≡ Some f
    → IsRefusedOf (form.Rows after upto) q r (refused (difference.Old f)).side (refused (difference.Old f)).fault
bound_refused after upto q r f h = inr (ap (λ (o : Option CauseFault). option_map cause_fault (option_or o (refusal q after))) h)

pub groups_refused : (g : Grouping) (q r : Question) (e : DifferenceFault) → IsRefusedBy q r None e
    → IsRefusedOf (form.Groups g) q r (refused e).side (refused e).fault
groups_refused g q r (difference.Old f) h = first_fault (refusal q None) f h
groups_refused g q r (difference.New f) h = (no_cause (refusal q None) h.0, first_fault (refusal r None) f h.1)

pub held_is_refused : (s : Scans) (q r : Question) (e : HeldDifferenceFault) → IsHeldRefusedBy q r s e
    → IsRefusedOf (form.Held s.count s.every) q r (held_refused e).side (held_refused e).fault
held_is_refused s q r (held_difference.Old f) h = first_held (held_refusal q s) f h
held_is_refused s q r (held_difference.New f) h = (no_held (held_refusal q s) h.0, first_held (held_refusal r s) f h.1)
