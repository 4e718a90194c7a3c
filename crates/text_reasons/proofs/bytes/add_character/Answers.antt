use Rattle.std.proofs.Common.{◌≡◌, nat_le, true}
use Rattle.std.proofs.lemmas.Bool.{le-leb}
use Rattle.text_reasons.proofs.bytes.add_character.Goals as goal

pub returns-then-len-le1 : goal.returns-then-len-le1
returns-then-len-le1 g c =
    let few : nat_le c.args.len 1 ≡ true = le-leb c.args.len 1 c.if-len-le1.true in
    rw few c.add.ensures
