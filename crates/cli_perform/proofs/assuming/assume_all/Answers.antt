use Rattle.std.proofs.Common.{refl}
use Rattle.std.proofs.lemmas.Result.{IfOk-weaker}
use Rattle.cli_perform.proofs.assuming.assume_all.Goals as goal

pub returns-in-Causes : goal.returns-in-Causes
returns-in-Causes c =
    rw c.in-Causes.is (IfOk-weaker c.put_first.result _ _ (λ done h. (c.put_first.new.others, h, refl)) c.put_first.ensures)

pub returns-in-Progress : goal.returns-in-Progress
returns-in-Progress c =
    rw c.in-Progress.is (IfOk-weaker c.put_first-in-Progress.result _ _ (λ done h. (c.put_first-in-Progress.new.others, h, refl)) c.put_first-in-Progress.ensures)

pub returns-in-Held : goal.returns-in-Held
returns-in-Held c =
    rw c.in-Held.is (IfOk-weaker c.put_first-in-Held.result _ _ (λ done h. (c.put_first-in-Held.new.others, h, refl)) c.put_first-in-Held.ensures)

pub returns-in-Groups : goal.returns-in-Groups
returns-in-Groups c =
    rw c.in-Groups.is (IfOk-weaker c.put_first-in-Groups.result _ _ (λ done h. (c.put_first-in-Groups.new.others, h, refl)) c.put_first-in-Groups.ensures)

pub returns-in-Relevant : goal.returns-in-Relevant
returns-in-Relevant c =
    rw c.in-Relevant.is (IfOk-weaker c.put_first-in-Relevant.result _ _ (λ done h. (c.put_first-in-Relevant.new.others, h, refl)) c.put_first-in-Relevant.ensures)

pub returns-in-Possible : goal.returns-in-Possible
returns-in-Possible c =
    rw c.in-Possible.is (IfOk-weaker c.put_first-in-Possible.result _ _ (λ done h. (c.put_first-in-Possible.new.others, h, refl)) c.put_first-in-Possible.ensures)

pub returns-in-Never : goal.returns-in-Never
returns-in-Never c =
    rw c.in-Never.is (IfOk-weaker c.put_first-in-Never.result _ _ (λ done h. (c.put_first-in-Never.new.others, h, refl)) c.put_first-in-Never.ensures)

pub returns-in-Reach : goal.returns-in-Reach
returns-in-Reach c =
    rw c.in-Reach.is (IfOk-weaker c.put_first-in-Reach.result _ _ (λ done h. (c.put_first-in-Reach.new.others, h, refl)) c.put_first-in-Reach.ensures)

pub returns-in-Show : goal.returns-in-Show
returns-in-Show c =
    rw c.in-Show.is (IfOk-weaker c.put_first-in-Show.result _ _ (λ done h. (c.put_first-in-Show.new.others, h, refl)) c.put_first-in-Show.ensures)
