-- What a cursor gives and a writer counts is the list of the question in its form.
use Rattle.std.proofs.Common.{◌≡◌, ◌∙◌, ap, refl, sym, inl, inr, ℕ, Bool, List, Option, length}
use Rattle.std.specs.Prelude.{None, option_map}
use Rattle.diagram_program.specs.Program.{Drawing}
use Rattle.causes_query.specs.declared.fault.CauseFault.TheVariants as cause
use Rattle.causes_query.specs.Causes.{Question}
use Rattle.causes_query.specs.Refusal.{refusal}
use Rattle.causes_one_scan.specs.Cursor.{Cursor, looks_of, searched}
use Rattle.causes_one_scan.specs.GroupCursor.{GroupCursor, causes_in, rows_left}
use Rattle.causes_one_scan.specs.Order.{RefusedInAnyOrder, SiftedIsPermutation, sifted}
use Rattle.search_tree.specs.Looks.{Search}
use Rattle.search_groups.specs.Groups.{rows}
use Rattle.search_groups.specs.Classes.{numbers_in}
use Rattle.search_groups.specs.declared.class_walk.ClassGroup.{ClassGroup}
use Rattle.scan_held.specs.HeldRefusal.{held_reason}
use Rattle.scan_held.specs.declared.fault.HeldFault.{HeldFault}
use Rattle.scan_held.specs.declared.fault.HeldFault.TheVariants as held
use Rattle.scan_held.specs.declared.scans.HeldCause.{HeldCause}
use Rattle.causes_held.specs.Rows.{HeldCursor}
use Rattle.causes_held.specs.Cursor.{HeldGroupCursor}
use Rattle.causes_held.specs.GroupRefusal.{held_group_reason}
use Rattle.causes_held.specs.declared.fault.HeldGroupFault.{HeldGroupFault}
use Rattle.causes_held.specs.declared.fault.HeldGroupFault.TheVariants as held_group
use Rattle.text_causes.specs.CauseText.{cause_text, limited}
use Rattle.text_causes.specs.Parts.{part, part_looks}
use Rattle.text_causes.specs.TermText.{form_text}
use Rattle.text_causes.specs.declared.group_text.GroupForm.{GroupForm}
use Rattle.text_causes.specs.declared.group_text.GroupSummary.{GroupSummary}
use Rattle.text_causes.specs.declared.summary.Summary.{Summary}
use Rattle.text_lists.specs.ClassText.{held_group_text}
use Rattle.text_lists.specs.HeldText.{held_text}
use Rattle.cli_arguments.specs.declared.request.GroupFormat.{GroupFormat}
use Rattle.cli_arguments.specs.declared.request.InputOrder.{InputOrder}
use Rattle.cli_arguments.specs.declared.request.InputOrder.TheVariants as order
use Rattle.cli_questions.specs.Forms.{form_on}
use Rattle.cli_lists.specs.Lists.{IsFirstFault, held_fault, held_group_fault, ordered}

-- ---- a list of causes

module _ (limit upto : Option ℕ) (xs : List ℕ) (q : Question) (c : Cursor) (of_program : c.program ≡ q.program) (of_listed : c.listed ≡ q.listed)
    (made : c.rest ≡ xs) where
  pub causes_are : cause_text c.program c.listed (limited limit (part upto c.rest)) ≡ cause_text q.program q.listed (limited limit (part upto xs))
  causes_are =
      ap (λ (d : Drawing). cause_text d c.listed (limited limit (part upto c.rest))) of_program
      ∙ ap (λ (g : List ℕ). cause_text q.program g (limited limit (part upto c.rest))) of_listed
      ∙ ap (λ (ns : List ℕ). cause_text q.program q.listed (limited limit (part upto ns))) made

  pub summary_is : (s : Summary) (t : Search) → searched c ≡ t → looks_of c ≡ 0 → s.rows ≡ length (limited limit (part upto c.rest))
      → s.looks ≡ part_looks upto (searched c) (looks_of c) limit (part upto c.rest)
      → s ≡ record { rows = length (limited limit (part upto xs)); looks = part_looks upto t 0 limit (part upto xs) }
  summary_is s t same none h l =
      ap (λ (n : ℕ). record { rows = n; looks = s.looks }) (h ∙ ap (λ (ns : List ℕ). length (limited limit (part upto ns))) made)
      ∙ ap (λ (n : ℕ). record { rows = length (limited limit (part upto xs)); looks = n }) (l
      ∙ ap (λ (r : Search). part_looks upto r (looks_of c) limit (part upto c.rest)) same
      ∙ ap (λ (n : ℕ). part_looks upto t n limit (part upto c.rest)) none
      ∙ ap (λ (ns : List ℕ). part_looks upto t 0 limit (part upto ns)) made)

-- ---- over several scans

module _ (limit : Option ℕ) (q : Question) (xs : List HeldCause) (c : HeldCursor) (made : c.rest ≡ xs) where
  pub held_is : c.program ≡ q.program → c.listed ≡ q.listed → held_text c.program c.listed (limited limit c.rest) ≡ held_text q.program q.listed (limited limit xs)
  held_is of_program of_listed =
      ap (λ (d : Drawing). held_text d c.listed (limited limit c.rest)) of_program
      ∙ ap (λ (g : List ℕ). held_text q.program g (limited limit c.rest)) of_listed
      ∙ ap (λ rs. held_text q.program q.listed (limited limit rs)) made

  pub held_count_is : (n : ℕ) → n ≡ length (limited limit c.rest) → n ≡ length (limited limit xs)
  held_count_is n h = h ∙ ap (λ rs. length (limited limit rs)) made

module _ (limit : Option ℕ) (q : Question) (xs : List ClassGroup) (c : HeldGroupCursor) (of_listed : c.listed ≡ q.listed) (made : c.rest ≡ xs) where
  pub held_groups_are : c.program ≡ q.program → held_group_text c.program c.listed (limited limit c.rest) ≡ held_group_text q.program q.listed (limited limit xs)
  held_groups_are of_program =
      ap (λ (d : Drawing). held_group_text d c.listed (limited limit c.rest)) of_program
      ∙ ap (λ (g : List ℕ). held_group_text q.program g (limited limit c.rest)) of_listed
      ∙ ap (λ rs. held_group_text q.program q.listed (limited limit rs)) made

  pub held_summary_is : (n : GroupSummary) → n.rows ≡ length (limited limit c.rest) → n.causes ≡ numbers_in (length c.listed) (limited limit c.rest)
      → n ≡ record { rows = length (limited limit xs); causes = numbers_in (length q.listed) (limited limit xs) }
  held_summary_is n h l =
      ap (λ (m : ℕ). record { rows = m; causes = n.causes }) (h ∙ ap (λ rs. length (limited limit rs)) made)
      ∙ ap (λ (m : ℕ). record { rows = length (limited limit xs); causes = m })
      (l ∙ ap (λ (ns : List ℕ). numbers_in (length ns) (limited limit c.rest)) of_listed ∙ ap (λ rs. numbers_in (length q.listed) (limited limit rs)) made)

-- The fault that is told is the first rule that is broken.
pub held_first : (first : Option HeldFault) (e : HeldFault) → first ≡ held_reason e → IsFirstFault (option_map held_fault first) (held_fault e)
held_first first held.NoScans h = inr (ap (option_map held_fault) h)
held_first first (held.Question cause.MomentBack) h = inr (ap (option_map held_fault) h)
held_first first (held.Question cause.NotACoil) h = inr (ap (option_map held_fault) h)
held_first first (held.Question cause.TooManyFree) h = inr (ap (option_map held_fault) h)
held_first first (held.Question cause.NotAnInput) h = inr (ap (option_map held_fault) h)
held_first first (held.Question cause.RepeatedInput) h = inr (ap (option_map held_fault) h)
held_first first (held.Question cause.AfterOutOfRange) h = inr (ap (option_map held_fault) h)
held_first first (held.Question cause.Memory) h = inl refl

pub held_group_first : (first : Option HeldGroupFault) (e : HeldGroupFault) → first ≡ held_group_reason e
    → IsFirstFault (option_map held_group_fault first) (held_group_fault e)
held_group_first first held_group.TooManyInputs h = inr (ap (option_map held_group_fault) h)
held_group_first first (held_group.Held held.NoScans) h = inr (ap (option_map held_group_fault) h)
held_group_first first (held_group.Held (held.Question cause.MomentBack)) h = inr (ap (option_map held_group_fault) h)
held_group_first first (held_group.Held (held.Question cause.NotACoil)) h = inr (ap (option_map held_group_fault) h)
held_group_first first (held_group.Held (held.Question cause.TooManyFree)) h = inr (ap (option_map held_group_fault) h)
held_group_first first (held_group.Held (held.Question cause.NotAnInput)) h = inr (ap (option_map held_group_fault) h)
held_group_first first (held_group.Held (held.Question cause.RepeatedInput)) h = inr (ap (option_map held_group_fault) h)
held_group_first first (held_group.Held (held.Question cause.AfterOutOfRange)) h = inr (ap (option_map held_group_fault) h)
held_group_first first (held_group.Held (held.Question cause.Memory)) h = inl refl

-- ---- in groups

-- An order doesn't change which rule is broken.
ordered_refusal : SiftedIsPermutation → RefusedInAnyOrder → (o : InputOrder) (q : Question) → refusal (ordered o q) None ≡ refusal q None
ordered_refusal permuted same order.Given q = refl
ordered_refusal permuted same order.Sifted q = same q (sifted q) (permuted q)

pub same_refusal : SiftedIsPermutation → RefusedInAnyOrder → (o : InputOrder) (asked q : Question) → q ≡ ordered o asked → refusal asked None ≡ refusal q None
same_refusal permuted same o asked q order = sym (ordered_refusal permuted same o asked) ∙ ap (λ (x : Question). refusal x None) (sym order)

-- What a cursor over the groups of a question in an order has to give, in a form, is what is asked.
module _ (limit : Option ℕ) (chosen : Question → ℕ → Bool) (q ordered_q : Question) (order : q ≡ ordered_q) (c : GroupCursor)
    (made : rows_left c ≡ rows (chosen q) (length q.listed) 0) where
  rows_are : rows_left c ≡ rows (chosen ordered_q) (length ordered_q.listed) 0
  rows_are = made ∙ ap (λ (x : Question). rows (chosen x) (length x.listed) 0) order

  pub groups_are : (form : GroupForm) (shape : GroupFormat) → form ≡ form_on shape q.coil → c.program ≡ q.program → c.listed ≡ q.listed
      → form_text form c.program c.listed (limited limit (rows_left c))
      ≡ form_text (form_on shape ordered_q.coil) ordered_q.program ordered_q.listed (limited limit (rows (chosen ordered_q) (length ordered_q.listed) 0))
  groups_are form shape same of_program of_listed =
      ap (λ (f : GroupForm). form_text f c.program c.listed (limited limit (rows_left c))) (same ∙ ap (λ (x : Question). form_on shape x.coil) order)
      ∙ ap (λ (d : Drawing). form_text (form_on shape ordered_q.coil) d c.listed (limited limit (rows_left c))) (of_program ∙ ap (λ (x : Question). x.program) order)
      ∙ ap (λ (g : List ℕ). form_text (form_on shape ordered_q.coil) ordered_q.program g (limited limit (rows_left c))) (of_listed ∙ ap (λ (x : Question). x.listed) order)
      ∙ ap (λ rs. form_text (form_on shape ordered_q.coil) ordered_q.program ordered_q.listed (limited limit rs)) rows_are

  pub group_summary_is : (s : GroupSummary) → s.rows ≡ length (limited limit (rows_left c)) → s.causes ≡ causes_in (limited limit (rows_left c))
      → s ≡ record { rows = length (limited limit (rows (chosen ordered_q) (length ordered_q.listed) 0)); causes = causes_in (limited limit (rows (chosen ordered_q) (length ordered_q.listed) 0)) }
  group_summary_is s h l =
      ap (λ (n : ℕ). record { rows = n; causes = s.causes }) (h ∙ ap (λ rs. length (limited limit rs)) rows_are)
      ∙ ap (λ (n : ℕ). record { rows = length (limited limit (rows (chosen ordered_q) (length ordered_q.listed) 0)); causes = n }) (l ∙ ap (λ rs. causes_in (limited limit rs)) rows_are)
