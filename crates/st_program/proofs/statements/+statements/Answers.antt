use Rattle.st_program.specs.Statements.{nothing, single, set, select, ended, others, another, choose, chosen, none_chosen, next_choice}
use Rattle.st_program.proofs.statements.+statements.Goals as goal

pub otherwise_at-returns-in-Some-clause-reads : goal.otherwise_at-returns-in-Some-clause-reads
otherwise_at-returns-in-Some-clause-reads t c = ended _ _ _ c.in-Some.ensures.has

pub otherwise_at-returns-in-Some-after-clause-reads :
    goal.otherwise_at-returns-in-Some-after-clause-reads
otherwise_at-returns-in-Some-after-clause-reads t c =
    others _ _ _ _ _ _ _ c.in-Some-after.ensures.has c.in_ok-all.ensures.reads.1 c.in_ok-all.ensures.reads.2

pub otherwise_at-returns-in_ok-whole-in-Ok-otherwise_at-clause-reads :
    goal.otherwise_at-returns-in_ok-whole-in-Ok-otherwise_at-clause-reads
otherwise_at-returns-in_ok-whole-in-Ok-otherwise_at-clause-reads t c =
    another _ _ _ _ _ _ _ _ _ _ _ _ c.in_ok-condition.ensures.condition c.in-Ok.ensures.reads c.in-Ok-otherwise_at.ensures.reads
    c.in_ok-whole-in-Ok-otherwise_at.ensures

pub select_at-returns-in_ok-whole-in-Ok-otherwise_at-clause-reads :
    goal.select_at-returns-in_ok-whole-in-Ok-otherwise_at-clause-reads
select_at-returns-in_ok-whole-in-Ok-otherwise_at-clause-reads t c =
    let reads = c.in_ok-whole-in-Ok-otherwise_at.ensures.reads in
    select _ _ _ _ _ _ _ _ _ _ _ _ _ _ _ _ c.in_ok-condition.ensures.condition c.in-Ok.ensures.reads c.in-Ok-otherwise_at.ensures.reads
    reads.2 reads.3 reads.4

pub statements_at-returns-in-End-clause-reads : goal.statements_at-returns-in-End-clause-reads
statements_at-returns-in-End-clause-reads t c = c.after_empty-begun.ensures.empty _ _ _ _ _ (nothing _ _)

pub statements_at-returns-in_ok-joined-in-Ok-clause-reads :
    goal.statements_at-returns-in_ok-joined-in-Ok-clause-reads
statements_at-returns-in_ok-joined-in-Ok-clause-reads t c =
    c.after_empty-begun.ensures.empty _ _ _ _ _
    (single _ _ _ _ _ _ _ _ _ _ _ c.in_ok-simple-in-Simple.ensures.simple c.in-Ok.ensures.reads
    c.in_ok-joined-in-Ok.ensures.1 c.in_ok-joined-in-Ok.ensures.2)

pub statements_at-returns-in_ok-whole-in-Setting-clause-reads :
    goal.statements_at-returns-in_ok-whole-in-Setting-clause-reads
statements_at-returns-in_ok-whole-in-Setting-clause-reads t c =
    c.after_empty-begun.ensures.empty _ _ _ _ _
    (set _ _ _ _ _ _ _ _ _ _ c.in_ok-set-in-Setting.ensures.set c.in_ok-others-in-Setting.ensures.reads c.in_ok-whole-in-Setting.ensures)

pub choose_at-returns-in_ok-whole-in-Ok-choices_at-clause-reads :
    goal.choose_at-returns-in_ok-whole-in-Ok-choices_at-clause-reads
choose_at-returns-in_ok-whole-in-Ok-choices_at-clause-reads t c =
    let reads = c.in_ok-whole-in-Ok-choices_at.ensures.reads in
    choose _ _ _ _ _ _ _ _ _ _ _ _ _ _ _ _ _ _ c.in_ok-integer.ensures.selector c.in_ok-condition.ensures.numbers c.in-Ok.ensures.reads
    c.in-Ok-choices_at.ensures.reads reads.2 reads.3 reads.4

pub choices_at-returns-in-Some-clause-reads : goal.choices_at-returns-in-Some-clause-reads
choices_at-returns-in-Some-clause-reads t c = chosen _ _ _ _ c.in-Some.ensures.has

pub choices_at-returns-in-Some-after-clause-reads : goal.choices_at-returns-in-Some-after-clause-reads
choices_at-returns-in-Some-after-clause-reads t c =
    none_chosen _ _ _ _ _ _ _ _ c.in-Some-after.ensures.has c.in_ok-all.ensures.reads.1 c.in_ok-all.ensures.reads.2

pub choices_at-returns-in_ok-whole-in-Ok-choices_at-clause-reads :
    goal.choices_at-returns-in_ok-whole-in-Ok-choices_at-clause-reads
choices_at-returns-in_ok-whole-in-Ok-choices_at-clause-reads t c =
    next_choice _ _ _ _ _ _ _ _ _ _ _ _ _ c.in_ok-condition.ensures.labels c.in-Ok.ensures.reads c.in-Ok-choices_at.ensures.reads
    c.in_ok-whole-in-Ok-choices_at.ensures
