-- A list of questions with their inputs in an order is the list in that order.
use Rattle.std.proofs.Common.{◌≡◌, ◌∙◌, ap, inl, inr, refl, subst, sym, ℕ, List, None, Option, Some, Ok, Err, Result}
use Rattle.std.specs.Prelude.{length, option_map}
use Rattle.causes_query.specs.Causes.{Question}
use Rattle.causes_query.specs.Refusal.{refusal}
use Rattle.causes_query.specs.declared.fault.CauseFault.{CauseFault}
use Rattle.causes_one_scan.specs.Order.{RefusedInAnyOrder, SiftedIsPermutation, in_order, sifted}
use Rattle.diff_causes.specs.Order.{AreAsMany, RefusedAlikeInOrder, sifted_alike}
use Rattle.io_text.specs.Log.{WriteLog}
use Rattle.search_differences.specs.declared.side.Side.{Side}
use Rattle.search_differences.specs.declared.side.Side.TheVariants.{Old, New}
use Rattle.cli_arguments.specs.declared.request.DiffForm.TheVariants as form
use Rattle.cli_arguments.specs.declared.request.Grouping.{Grouping}
use Rattle.cli_arguments.specs.declared.request.InputOrder.TheVariants.{Given, Sifted}
use Rattle.cli_inputs.specs.declared.fault.ToolFault.{ToolFault}
use Rattle.cli_questions.specs.declared.counting.ListCounts.{ListCounts}
use Rattle.cli_diff.specs.Ending.{WritesOf}
use Rattle.cli_diff.specs.Faults.{IsFirstFault, IsRefusedOf, cause_fault}
use Rattle.cli_diff.specs.Assumed.{AssumedList, Assumption, HasAssumedGroupText}
use Rattle.cli_diff.specs.Listing.{new_ordered, old_ordered}
use Rattle.cli_diff.specs.Ordering.{ArePutInOrder}
use Rattle.cli_diff.specs.declared.sided.SidedFault.{SidedFault}

pub sifted_in_order : SiftedIsPermutation → RefusedInAnyOrder → RefusedAlikeInOrder → AreAsMany → (old new old' new' : Question) → length old.listed ≡ length new.listed
    → refusal old None ≡ None → old' ≡ in_order old (sifted old) → new' ≡ in_order new (sifted_alike old new) → ArePutInOrder Sifted old new old' new'
sifted_in_order permuted any alike many old new old' new' same none of_old of_new = record {
  of_old = of_old;
  of_new = of_new;
  old_alike = ap (λ (q : Question). refusal q None) of_old ∙ any old (sifted old) (permuted old);
  new_alike = ap (λ (q : Question). refusal q None) of_new ∙ alike old new same none;
  many = ap (λ (q : Question). length q.listed) of_old ∙ sym (many old new) ∙ sym (ap (λ (q : Question). length q.listed) of_new);
}

same_rule : (a b : Option CauseFault) → a ≡ b → option_map cause_fault a ≡ option_map cause_fault b
same_rule a b h = ap (λ o. option_map cause_fault o) h

module _ (a : Assumption) (g : Grouping) (limit : Option ℕ) (old new old' new' : Question) (order : ArePutInOrder g.order old new old' new') where
  same_list : (text : List ℕ) (c : Option ListCounts) → AssumedList a (form.Groups (record { form = g.form; order = Given })) limit old' new' text c
      → AssumedList a (form.Groups g) limit old new text c
  same_list text c h = (
    same_rule _ _ (sym order.old_alike) ∙ h.0,
    same_rule _ _ (sym order.new_alike) ∙ h.1,
    subst (λ (q : Question). HasAssumedGroupText a g.form limit q (new_ordered g.order old new) text c) order.of_old
        (subst (λ (q : Question). HasAssumedGroupText a g.form limit old' q text c) order.of_new h.2),
  )

  same_refusal : (side : Option Side) (f : ToolFault) → IsRefusedOf (form.Groups (record { form = g.form; order = Given })) old' new' side f
      → IsRefusedOf (form.Groups g) old new side f
  same_refusal None f h = h
  same_refusal (Some Old) f h = subst (λ (o : Option ToolFault). IsFirstFault o f) (same_rule _ _ order.old_alike) h
  same_refusal (Some New) f h = (
    same_rule _ _ (sym order.old_alike) ∙ h.0,
    subst (λ (o : Option ToolFault). IsFirstFault o f) (same_rule _ _ order.new_alike) h.1,
  )

  pub listed_in_order : (o o' : WriteLog) (r : Result ListCounts SidedFault)
      → WritesOf (AssumedList a (form.Groups (record { form = g.form; order = Given })) limit old' new') (IsRefusedOf (form.Groups (record { form = g.form; order = Given })) old' new') o o' r
      → WritesOf (AssumedList a (form.Groups g) limit old new) (IsRefusedOf (form.Groups g) old new) o o' r
  listed_in_order o o' (Ok c) h = (h.0, same_list h.0 (Some c) h.1, h.2)
  listed_in_order o o' (Err e) (inl h) = inl (same_refusal e.side e.fault h.0, h.1)
  listed_in_order o o' (Err e) (inr h) = inr (h.0, (h.1.0, same_list h.1.0 None h.1.1, h.1.2))
