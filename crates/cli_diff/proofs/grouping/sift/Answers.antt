use Rattle.std.proofs.Common.{◌≡◌, ◌∙◌, ap, sym, List, ℕ, None, map}
use Rattle.causes_query.specs.Causes.{Question}
use Rattle.causes_query.specs.Refusal.{refusal}
use Rattle.causes_one_scan.specs.Order.{in_order, sifted}
use Rattle.diff_causes.specs.Asked.{asked}
use Rattle.diff_causes.specs.Order.{partner}
use Rattle.cli_questions.specs.Query.{question_of}
use Rattle.cli_diff.proofs.Ordered.{sifted_in_order}
use Rattle.cli_diff.proofs.grouping.sift.Goals as goal

pub returns-clause-ordered : goal.returns-clause-ordered
returns-clause-ordered c =
    let q = question_of c.args.of_old.now in
    let s = question_of c.args.of_new.now in
    let is : asked c.program_query.result ≡ q = c.program_query.ensures in
    let accepted : refusal (asked c.program_query.result) None ≡ None = c.in-Ok.ensures.accepted in
    let old = c.in-Ok.ensures.old ∙ ap sifted is in
    let new = c.in-Ok.ensures.new ∙ ap (λ (x : Question). map (partner x.listed c.deref.result.now) (sifted x)) is
    ∙ ap (λ (l : List ℕ). map (partner q.listed l) (sifted q)) c.deref.ensures.value in
    sifted_in_order c.orders.ensures.permutation c.orders.ensures.refused c.orders_alike.ensures.refused c.orders_alike.ensures.many q s _ _ c.requires.same
    (ap (λ (x : Question). refusal x None) (sym is) ∙ accepted) (ap (λ (l : List ℕ). in_order q l) old) (ap (λ (l : List ℕ). in_order s l) new)
