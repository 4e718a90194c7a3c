use Rattle.std.proofs.Common.{◌∙◌, ◌+◌, ◌*◌, ◌<◌, ◌^◌, ap, length, subst, sym}
use Rattle.csv.specs.Records.{fields_of}
use Rattle.text_trace.specs.Coming.{coming}
use Rattle.text_trace.proofs.Coming.{none_come, read_moment, some_come}
use Rattle.text_trace.proofs.filling.read_ahead.Goals as goal

pub returns-then-not-found-clause-comes : goal.returns-then-not-found-clause-comes
returns-then-not-found-clause-comes c = λ all comes.
    let f = c.args.filling.now in
    let columns = c.args.columns.now in
    comes.2 ∙ ap (λ b. coming b columns f comes.0) c.requires.unread
    ∙ none_come f.every (length columns) f.number (fields_of f.last) (fields_of c.next.new.row) comes.0 c.in_ok-found.found c.next.new.records c.if-not-found.true
    (c.in_ok-found.ensures.takes comes.0 comes.1)

pub returns-clause-sound : goal.returns-clause-sound
returns-clause-sound c =
    let f = c.args.filling.now in
    record {
      plain = c.in_ok-found.ensures.plain;
      last = c.requires.sound.last;
      next = λ is_ahead. read_moment c.read_row-filling.result c.args.columns.now (fields_of c.next.new.row) c.read_row-filling.ensures.some c.read_row-filling.ensures.none;
      small = λ is_ahead. subst (λ m. m + f.every * c.count_between-filling.result < 2 ^ 64) (sym c.unwrap_or-filling.ensures) c.count_between-filling.ensures.small;
      good = λ is_ahead some. c.count_between-filling.ensures.good some;
    }

pub returns-clause-comes : goal.returns-clause-comes
returns-clause-comes c = λ all comes.
    let f = c.args.filling.now in
    let columns = c.args.columns.now in
    let next = some_come f.every (length columns) f.number c.unwrap_or-filling.result c.count_between-filling.result f.from c.read_row-filling.result (fields_of f.last)
    (fields_of c.next.new.row) comes.0 c.in_ok-found.found c.next.new.records c.if-not-found.false (c.in_ok-found.ensures.takes comes.0 comes.1) c.requires.sound.last
    (read_moment c.read_row-filling.result columns (fields_of c.next.new.row) c.read_row-filling.ensures.some c.read_row-filling.ensures.none) c.unwrap_or-filling.ensures
    c.count_between-filling.ensures.count in
    (next.0, next.1, comes.2 ∙ ap (λ b. coming b columns f comes.0) c.requires.unread ∙ next.2)
