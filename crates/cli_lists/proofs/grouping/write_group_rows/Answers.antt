use Rattle.std.proofs.Common.{◌≡◌, ◌∙◌, ℕ, List, ap, inl, inr, refl, subst}
use Rattle.std.specs.Prelude.{None, option_map}
use Rattle.io_text.specs.Log.{PutsAll, PutsPrefix}
use Rattle.causes_query.specs.Causes.{question}
use Rattle.causes_query.specs.Refusal.{refusal}
use Rattle.causes_one_scan.specs.Assuming.{is_assumed_cause}
use Rattle.cli_inputs.proofs.Ends.{cause_fault}
use Rattle.cli_lists.specs.Lists.{ordered}
use Rattle.cli_questions.specs.Query.{question_of}
use Rattle.cli_lists.proofs.Forms.{group_summary_is, groups_are, same_refusal}
use Rattle.cli_lists.proofs.grouping.write_group_rows.Goals as goal

pub returns-in-Err : goal.returns-in-Err
returns-in-Err g c = inl (cause_fault (refusal (question_of c.args.asked.now) None) c.in-Err.fault c.in-Err.ensures.refused, refl)

pub returns-in-Err-assuming : goal.returns-in-Err-assuming
returns-in-Err-assuming g c =
    let a = c.put_in_order.new.asked in
    let how = c.args.rows.how in
    let asked = question_of c.args.asked.now in
    let q = question a.program a.state a.moment a.coil c.deref.result.now in
    let order : q ≡ ordered how.order asked =
    ap (λ (listed : List ℕ). question a.program a.state a.moment a.coil listed) c.deref.ensures.value ∙ c.in-Ok.ensures.ordered in
    let refused = same_refusal c.orders.ensures.permutation c.orders.ensures.refused how.order asked q order in
    inl (cause_fault (refusal asked None) c.in-Err-assuming.fault (refused ∙ c.in-Err-assuming.ensures.refused), refl)

pub returns-in-Ok-written : goal.returns-in-Ok-written
returns-in-Ok-written g c =
    let a = c.put_in_order.new.asked in
    let f = c.args.rows in
    let asked = question_of c.args.asked.now in
    let chosen = is_assumed_cause (option_map (λ e. e.now) c.args.assumed) in
    let q = question a.program a.state a.moment a.coil c.deref.result.now in
    let order : q ≡ ordered f.how.order asked =
    ap (λ (listed : List ℕ). question a.program a.state a.moment a.coil listed) c.deref.ensures.value ∙ c.in-Ok.ensures.ordered in
    let refused = same_refusal c.orders.ensures.permutation c.orders.ensures.refused f.how.order asked q order in
    let groups = c.in-Ok-assuming.groups in
    let made = c.in-Ok-assuming.ensures in
    let w = c.in-Ok-written in (
      refused ∙ made.accepted,
      group_summary_is f.limit chosen q (ordered f.how.order asked) order groups made.rows w.summary w.ensures.rows w.ensures.causes,
      subst (λ (text : List ℕ). PutsAll (g.O.Sink.log c.args.out.now) (g.O.Sink.log c.write_groups-written.new.writer) text)
          (groups_are f.limit chosen q (ordered f.how.order asked) order groups made.rows c.form_of-form.result f.how.form c.form_of-form.ensures made.program made.listed)
          w.ensures.bytes,
    )

pub returns-in-Err-written : goal.returns-in-Err-written
returns-in-Err-written g c =
    let a = c.put_in_order.new.asked in
    let f = c.args.rows in
    let asked = question_of c.args.asked.now in
    let chosen = is_assumed_cause (option_map (λ e. e.now) c.args.assumed) in
    let q = question a.program a.state a.moment a.coil c.deref.result.now in
    let order : q ≡ ordered f.how.order asked =
    ap (λ (listed : List ℕ). question a.program a.state a.moment a.coil listed) c.deref.ensures.value ∙ c.in-Ok.ensures.ordered in
    let refused = same_refusal c.orders.ensures.permutation c.orders.ensures.refused f.how.order asked q order in
    let groups = c.in-Ok-assuming.groups in
    let made = c.in-Ok-assuming.ensures in
    inr (
      refl,
      refused ∙ made.accepted,
      subst (λ (text : List ℕ). PutsPrefix (g.O.Sink.log c.args.out.now) (g.O.Sink.log c.write_groups-written.new.writer) text)
          (groups_are f.limit chosen q (ordered f.how.order asked) order groups made.rows c.form_of-form.result f.how.form c.form_of-form.ensures made.program made.listed)
          c.in-Err-written.ensures.bytes,
    )
