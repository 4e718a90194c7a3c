use Rattle.std.proofs.Common.{refl}
use Rattle.std.specs.Prelude.{option_map, vec_items}
use Rattle.cli_diff.proofs.files.read_texts.Goals as goal

pub returns-in-Err-read_named-clause-fault : goal.returns-in-Err-read_named-clause-fault
returns-in-Err-read_named-clause-fault g c =
    let why = c.in-Err-read_named.ensures.fault in
    rw (c.of-in-Err-read_named.ensures, why.1) (c.in-Ok.text.items, c.in-Ok-read_one.text.items, c.in-Ok.ensures.whole, c.in-Ok-read_one.ensures.whole, why.2, refl)

pub returns-in-Err-read_named-2-clause-fault : goal.returns-in-Err-read_named-2-clause-fault
returns-in-Err-read_named-2-clause-fault g c =
    let why = c.in-Err-read_named-2.ensures.fault in
    rw (c.of-in-Err-read_named-2.ensures, why.1) (
      c.in-Ok.text.items,
      c.in-Ok-read_one.text.items,
      option_map vec_items c.in-Ok-read_named.text,
      c.in-Ok.ensures.whole,
      c.in-Ok-read_one.ensures.whole,
      c.in-Ok-read_named.ensures.whole,
      why.2,
    )
