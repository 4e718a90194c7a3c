-- How a request for a list ends that tells how far it is, from what each step of it ensures.
use Rattle.std.proofs.Common.{◌≡◌, ◌∙◌, ap, inl, inr, refl, subst, sym, ℕ, List, Option}
use Rattle.st_expression.specs.declared.expression.Expression.{Expression}
use Rattle.diagram_program.specs.Program.{Drawing}
use Rattle.causes_query.specs.Causes.{Question}
use Rattle.causes_one_scan.specs.Assuming.{assumed_causes_after}
use Rattle.causes_one_scan.specs.Cursor.{Cursor}
use Rattle.causes_one_scan.specs.Parts.{numbers_to}
use Rattle.text_causes.specs.CauseText.{cause_text, limited}
use Rattle.text_causes.specs.Parts.{part}
use Rattle.text_causes.specs.Progress.{TellsUntil}
use Rattle.text_causes.specs.declared.progress.ProgressFault.{ProgressFault}
use Rattle.text_causes.specs.declared.progress.ProgressFault.TheVariants.{Lines, Rows}
use Rattle.text_causes.specs.declared.summary.Summary.{Summary}
use Rattle.cli_inputs.specs.Setting.{Given}
use Rattle.cli_inputs.specs.Reports.{IsReported, logs}
use Rattle.cli_inputs.specs.declared.fault.ToolFault.TheVariants as fault
use Rattle.io_text.specs.Log.{WriteLog}
use Rattle.cli_arguments.specs.declared.request.ListRequest.{ListRequest}
use Rattle.cli_questions.specs.declared.counting.ListCounts.{ListCounts}
use Rattle.cli_questions.specs.Ending.{counts_line, unless_quiet}
use Rattle.cli_lists.specs.Assumed.{assumed_for, assumed_summary, assumed_text}
use Rattle.cli_lists.specs.AssumedProgress.{BreaksRows, assumed_text_to, counts_by, told_counts}

-- The same text in other words.
pub told_alike : (f : ProgressFault) (p d : Drawing) (l g xs ys : List ℕ) (o o' e e' : WriteLog) → p ≡ d → l ≡ g → xs ≡ ys
    → TellsUntil f (λ n. cause_text p l (numbers_to n xs)) (cause_text p l xs) o o' e e'
    → TellsUntil f (λ n. cause_text d g (numbers_to n ys)) (cause_text d g ys) o o' e e'
told_alike f p d l g xs ys o o' e e' of_program of_listed of_causes h =
    subst (λ zs. TellsUntil f (λ n. cause_text d g (numbers_to n zs)) (cause_text d g zs) o o' e e') of_causes
    (subst (λ (k : List ℕ). TellsUntil f (λ n. cause_text d k (numbers_to n xs)) (cause_text d k xs) o o' e e') of_listed
    (subst (λ (c : Drawing). TellsUntil f (λ n. cause_text c l (numbers_to n xs)) (cause_text c l xs) o o' e e') of_program h))

-- What the cursor that was made for a question has to give is what is asked.
module _ (assumed : Option Expression) (r : ListRequest) (after upto : Option ℕ) (q : Question) (c : Cursor) (of_program : c.program ≡ q.program)
    (of_listed : c.listed ≡ q.listed) (made : c.rest ≡ assumed_causes_after assumed after q) (expressions : ℕ) where
  same_causes : limited r.limit (part upto c.rest) ≡ assumed_for assumed r.limit after upto q
  same_causes = ap (λ xs. limited r.limit (part upto xs)) made

  pub told_is : (f : ProgressFault) (o o' e e' : WriteLog)
      → TellsUntil f (λ n. cause_text c.program c.listed (numbers_to n (limited r.limit (part upto c.rest)))) (cause_text c.program c.listed (limited r.limit (part upto c.rest))) o o' e e'
      → TellsUntil f (assumed_text_to assumed r.limit after upto q) (assumed_text assumed r.limit after upto q) o o' e e'
  told_is f o o' e e' h =
      told_alike f c.program q.program c.listed q.listed (limited r.limit (part upto c.rest)) (assumed_for assumed r.limit after upto q) o o' e e' of_program of_listed same_causes h

  -- the line of rows and looks
  pub told_counts_are : (counts : ListCounts) (s : Summary) → counts ≡ counts_by expressions s → s ≡ assumed_summary assumed r.limit after upto q
      → unless_quiet r.quiet (counts_line counts) ≡ told_counts expressions assumed r after upto q
  told_counts_are counts s by is = ap (λ m. unless_quiet r.quiet (counts_line m)) (by ∙ ap (counts_by expressions) is)

  -- It ends where a writer failed.
  pub broke_off : (g : Given) (f : ProgressFault) (save : WriteLog) (o o' e m e' : WriteLog)
      → TellsUntil f (λ n. cause_text c.program c.listed (numbers_to n (limited r.limit (part upto c.rest)))) (cause_text c.program c.listed (limited r.limit (part upto c.rest))) o o' e m
      → (f ≡ Rows → IsReported g m e' fault.Write) → (f ≡ Lines → e' ≡ m) → BreaksRows g expressions assumed r after upto q (logs o save e) (logs o' save e')
  broke_off g Rows save o o' e m e' h said quiet = inl (m, told_is Rows o o' e m h, said refl)
  broke_off g Lines save o o' e m e' h said quiet =
      inr (inl (subst (λ (l : WriteLog). TellsUntil Lines (assumed_text_to assumed r.limit after upto q) (assumed_text assumed r.limit after upto q) o o' e l) (sym (quiet refl)) (told_is Lines o o' e m h)))
