use Rattle.std.proofs.Common.{arith, ◌≡◌, length, [], sym, ap, subst, ◌∙◌}
use Rattle.st_words.specs.Front.{front}
use Rattle.st_words.proofs.Steps.{SoFar, at_start, with_gap, with_word, refused}
use Rattle.st_words.proofs.read.read_words.Goals as goal
use Rattle.st_words.proofs.read.read_words.Goals.{then-front+in_ok-push, else-front}

pub loop-rest-init : goal.loop-rest-init
loop-rest-init c = at_start c.args.text.now c.new-words.result.items c.new-words.ensures.items

pub returns-in_default-clause-refused : goal.returns-in_default-clause-refused
returns-in_default-clause-refused c =
    refused _ _ _ c.loop-rest.invariant c.in_default.ensures.value (λ (e : c.loop-rest.rest.now ≡ []). grind (arith, ap length e, c.loop-rest-test.true, c.is_empty.ensures))

pub loop-rest-preserved : goal.loop-rest-preserved
loop-rest-preserved c =
    elim c.if-front.branch [
      | then-front+in_ok-push w ↦ subst (SoFar c.args.text.now c.in-Some.front.rest.now)
          (sym (ap (λ v. v.items) w.words-is ∙ w.in_ok-push.ensures.items))
          (with_word _ _ _ _ c.loop-rest.invariant (c.in-Some.ensures.value ∙ ap (λ b. front b c.in-Some.front.rest.now) w.if-front.true) c.in-Some.ensures.shorter)
      | else-front w ↦ subst (SoFar c.args.text.now c.in-Some.front.rest.now)
          (sym (ap (λ v. v.items) w.words-is))
          (with_gap _ _ _ _ c.loop-rest.invariant (c.in-Some.ensures.value ∙ ap (λ b. front b c.in-Some.front.rest.now) w.if-front.false) c.in-Some.ensures.shorter)
    ]
