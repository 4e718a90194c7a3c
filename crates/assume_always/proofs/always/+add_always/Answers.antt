use Rattle.std.proofs.Common.{map, string_bytes}
use Rattle.assume_always.proofs.Lines.{told_next}
use Rattle.assume_always.proofs.always.+add_always.Goals as goal

pub returns-in-Ok : goal.returns-in-Ok
returns-in-Ok t c =
    told_next c.args.decls.now c.args.number c.in-Some.text.now (map string_bytes c.args.texts.now) (map string_bytes c.in-Some.behind.now) c.args.numbers.now.items
    c.add_told.new.numbers.items c.add_always.new.numbers.items c.in_ok-is_told.is_told c.in-Some.ensures.first c.in_ok-is_told.ensures.always c.in_ok-is_told.ensures.other
    c.in_ok-add_told.ensures.told c.in_ok-add_told.ensures.same c.in-Ok.ensures
