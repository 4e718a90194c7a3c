use Rattle.std.proofs.Common.{◌∙◌, ◌++◌, ◌∷◌, List, [], ap, subst, sym, true}
use Rattle.diff_meaning.specs.Witnesses.{shown_by, told_by}
use Rattle.diff_meaning.specs.declared.verdict.Verdict.{Verdict}
use Rattle.diff_meaning.specs.declared.witness.Witness.{Witness}
use Rattle.diff_verdicts.specs.Keeping.{AreKept}
use Rattle.diff_verdicts.proofs.Listing.{kept_one}
use Rattle.diff_verdicts.proofs.verdicts.keep.Goals as goal

pub returns-in_ok-push-in-Differs : goal.returns-in_ok-push-in-Differs
returns-in_ok-push-in-Differs c =
    let j = c.args.judge.now in
    let d = c.in-Differs in
    let before : List Witness = c.args.witnesses.now.items in
    let w : Witness = record { target = c.args.target; old_state = j.old_state; new_state = j.new_state; of_old = d.old; of_new = d.new } in
    let one = kept_one j.counted j.matching j.old_program j.new_program w before (c.requires d.old d.new d.is) in
    let pushed = c.in_ok-push-in-Differs.ensures.items ∙ ap (λ (x : Witness). before ++ (x ∷ [])) c.in_ok-witness-in-Differs.ensures in
    subst (λ (v : Verdict). AreKept j.counted j.matching j.old_program j.new_program true (told_by c.args.target v) before c.push.new.self.items) (sym d.is)
    (subst (λ (xs : List Witness). AreKept j.counted j.matching j.old_program j.new_program true (shown_by w ∷ []) before xs) (sym pushed) one)
