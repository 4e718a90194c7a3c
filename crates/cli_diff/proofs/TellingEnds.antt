-- How a list ends that tells how far it is, from what each step of it ensures.
use Rattle.std.proofs.Common.{◌≡◌, ◌⊎◌, inl, inr, refl, subst, sym, ℕ, List, Option, None, Some, Ok, Err, Result}
use Rattle.causes_query.specs.Causes.{Question}
use Rattle.diff_causes.specs.Cursor.{DifferenceCursor}
use Rattle.diff_causes.specs.Assuming.{assumed_differences_after}
use Rattle.diff_causes.specs.Differences.{differences_to}
use Rattle.diff_causes.specs.declared.rows.Difference.{Difference}
use Rattle.text_causes.specs.CauseText.{limited}
use Rattle.text_causes.specs.Progress.{TellsUntil}
use Rattle.text_causes.specs.declared.progress.ProgressFault.{ProgressFault}
use Rattle.text_causes.specs.declared.progress.ProgressFault.TheVariants.{Lines, Rows}
use Rattle.text_differences.specs.DifferenceText.{difference_text, part}
use Rattle.io_text.specs.Log.{WriteLog}
use Rattle.search_differences.specs.declared.side.Side.{Side}
use Rattle.search_differences.specs.declared.side.Side.TheVariants.{Old, New}
use Rattle.cli_arguments.specs.declared.request.DiffForm.{DiffForm}
use Rattle.cli_arguments.specs.declared.request.DiffForm.TheVariants as form
use Rattle.cli_arguments.specs.declared.request.DiffRequest.{DiffRequest}
use Rattle.cli_inputs.specs.Reports.{IsReported, Logs, logs}
use Rattle.cli_inputs.specs.Setting.{Given}
use Rattle.cli_inputs.specs.declared.fault.ToolFault.{ToolFault}
use Rattle.cli_inputs.specs.declared.fault.ToolFault.TheVariants as fault
use Rattle.io_text.specs.Log.{PutsAll}
use Rattle.cli_questions.specs.Ending.{BreaksOff, Ends}
use Rattle.cli_questions.specs.declared.counting.ListCounts.{ListCounts}
use Rattle.cli_diff.specs.Assumed.{AssumedList, Assumption, assumed_text}
use Rattle.cli_diff.specs.AssumedEnding.{BreaksAssumed, BreaksOffAssumed, CountsAssumed, assumed_text_to}
use Rattle.cli_diff.specs.Ending.{IsUntold, RefusesOf, WritesOf}
use Rattle.cli_diff.specs.Faults.{IsRefusedOf}
use Rattle.cli_diff.specs.declared.sided.SidedFault.{SidedFault}

-- ---- the same list, told of or not

pub told_refusal : (after upto : Option ℕ) (q r : Question) (side : Option Side) (f : ToolFault) → IsRefusedOf (form.Rows after upto) q r side f
    → IsRefusedOf (form.Progress after upto) q r side f
told_refusal after upto q r None f h = h
told_refusal after upto q r (Some Old) f h = h
told_refusal after upto q r (Some New) f h = h

same_list : (a : Assumption) (limit after upto : Option ℕ) (q r : Question) (o o' : WriteLog) (result : Result ListCounts SidedFault)
    → WritesOf (AssumedList a (form.Rows after upto) limit q r) (IsRefusedOf (form.Rows after upto) q r) o o' result
    → WritesOf (AssumedList a (form.Progress after upto) limit q r) (IsRefusedOf (form.Progress after upto) q r) o o' result
same_list a limit after upto q r o o' (Ok c) h = h
same_list a limit after upto q r o o' (Err e) (inl h) = inl (told_refusal after upto q r e.side e.fault h.0, h.1)
same_list a limit after upto q r o o' (Err e) (inr h) = inr h

pub told_list : (a : Assumption) (f : DiffForm) (limit after upto : Option ℕ) (q r : Question) (o o' : WriteLog) (result : Result ListCounts SidedFault) → f ≡ form.Progress after upto
    → WritesOf (AssumedList a (form.Rows after upto) limit q r) (IsRefusedOf (form.Rows after upto) q r) o o' result
    → WritesOf (AssumedList a f limit q r) (IsRefusedOf f q r) o o' result
told_list a f limit after upto q r o o' result is h =
    subst (λ (x : DiffForm). WritesOf (AssumedList a x limit q r) (IsRefusedOf x q r) o o' result) (sym is) (same_list a limit after upto q r o o' result h)

module _ (g h : Given) (a : Assumption) (r : DiffRequest) (old new : Question) (s t : Logs) where
  pub told_counts : (f : DiffForm) (after upto : Option ℕ) → f ≡ form.Progress after upto
      → CountsAssumed (form.Progress after upto) a r old new s t → CountsAssumed f a r old new s t
  told_counts f after upto is ends = subst (λ (x : DiffForm). CountsAssumed x a r old new s t) (sym is) ends

  pub told_breaks : (f : DiffForm) (after upto : Option ℕ) → f ≡ form.Progress after upto
      → RefusesOf g h (IsRefusedOf (form.Progress after upto) old new) s t ⊎ BreaksOffAssumed (form.Progress after upto) g a r old new s t
      → RefusesOf g h (IsRefusedOf f old new) s t ⊎ BreaksOffAssumed f g a r old new s t
  told_breaks f after upto is ends =
      subst (λ (x : DiffForm). RefusesOf g h (IsRefusedOf x old new) s t ⊎ BreaksOffAssumed x g a r old new s t) (sym is) ends

  pub untold_counts : (f : DiffForm) → IsUntold f → Ends (AssumedList a f r.limit old new) r.quiet s.out t.out (PutsAll s.err t.err) → CountsAssumed f a r old new s t
  untold_counts (form.Rows after upto) plain ends = ends
  untold_counts (form.Progress after upto) plain ends = absurd plain
  untold_counts (form.Held count every) plain ends = ends
  untold_counts (form.Groups grouping) plain ends = ends

  breaks_plainly : (f : DiffForm) → IsUntold f → BreaksOff g (AssumedList a f r.limit old new) r.quiet s t → BreaksOffAssumed f g a r old new s t
  breaks_plainly (form.Rows after upto) plain ends = ends
  breaks_plainly (form.Progress after upto) plain ends = absurd plain
  breaks_plainly (form.Held count every) plain ends = ends
  breaks_plainly (form.Groups grouping) plain ends = ends

  pub untold_breaks : {A : Type 0} (f : DiffForm) → IsUntold f → A ⊎ BreaksOff g (AssumedList a f r.limit old new) r.quiet s t → A ⊎ BreaksOffAssumed f g a r old new s t
  untold_breaks f plain (inl refused) = inl refused
  untold_breaks f plain (inr ends) = inr (breaks_plainly f plain ends)

-- ---- what the cursor that was made for two questions has to give is what is asked

module _ (a : Assumption) (x : DiffRequest) (after upto : Option ℕ) (q r : Question) (c : DifferenceCursor) (of_old : c.asked_old ≡ q)
    (made : c.rest ≡ assumed_differences_after after a.old a.new q r) where
  told_is : (f : ProgressFault) (o o' e e' : WriteLog)
      → TellsUntil f (λ n. difference_text c.asked_old.program c.asked_old.listed (differences_to n (limited x.limit (part upto c.rest))))
      (difference_text c.asked_old.program c.asked_old.listed (limited x.limit (part upto c.rest))) o o' e e'
      → TellsUntil f (assumed_text_to a x.limit after upto q r) (assumed_text a x.limit after upto q r) o o' e e'
  told_is f o o' e e' h =
      subst (λ (ds : List Difference). TellsUntil f (λ n. difference_text q.program q.listed (differences_to n (limited x.limit (part upto ds))))
      (difference_text q.program q.listed (limited x.limit (part upto ds))) o o' e e') made
      (subst (λ (y : Question). TellsUntil f (λ n. difference_text y.program y.listed (differences_to n (limited x.limit (part upto c.rest))))
      (difference_text y.program y.listed (limited x.limit (part upto c.rest))) o o' e e') of_old h)

  -- It ends where a writer failed.
  pub broke_off : (g : Given) (f : ProgressFault) (save : WriteLog) (o o' e m e' : WriteLog)
      → TellsUntil f (λ n. difference_text c.asked_old.program c.asked_old.listed (differences_to n (limited x.limit (part upto c.rest))))
      (difference_text c.asked_old.program c.asked_old.listed (limited x.limit (part upto c.rest))) o o' e m
      → (f ≡ Rows → IsReported g m e' fault.Write) → (f ≡ Lines → e' ≡ m) → BreaksAssumed g a x after upto q r (logs o save e) (logs o' save e')
  broke_off g Rows save o o' e m e' told said quiet = inl (m, told_is Rows o o' e m told, said refl)
  broke_off g Lines save o o' e m e' told said quiet =
      inr (inl (subst (λ (l : WriteLog). TellsUntil Lines (assumed_text_to a x.limit after upto q r) (assumed_text a x.limit after upto q r) o o' e l) (sym (quiet refl)) (told_is Lines o o' e m told)))
