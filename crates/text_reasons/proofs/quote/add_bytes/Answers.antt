use Rattle.std.proofs.Common.{◌+◌, drop, map, sym, take}
use Rattle.io_text.proofs.Sending.{sends_err, sends_more, sends_prefix, sends_same}
use Rattle.text_reasons.specs.Reasons.{quoted_byte}
use Rattle.text_reasons.proofs.Quoting.{map_cut, map_more}
use Rattle.text_reasons.proofs.quote.add_bytes.Goals as goal

pub loop-byte-preserved : goal.loop-byte-preserved
loop-byte-preserved g c =
    let bytes = c.args.bytes.now in
    let i = c.loop-byte.byte-index in
    sends_same _ _ _ _ _ _ (sym (map_more quoted_byte bytes i _ c.quoted_byte.result c.loop-byte-test.true c.quoted_byte.ensures))
    (sends_more _ _ _ _ _ _ (map quoted_byte (take i bytes)) _ c.loop-byte.invariant c.in_ok-add.ensures)

pub returns-in_err-add : goal.returns-in_err-add
returns-in_err-add g c = sends_err _ _ _ _ _ _ c.from_residual.ensures.0
    (let bytes = c.args.bytes.now in
    let i = c.loop-byte.byte-index in
    sends_prefix _ _ _ _ _ (map quoted_byte bytes) (map quoted_byte (take i bytes)) _ (map quoted_byte (drop (i + 1) bytes))
    (map_cut quoted_byte bytes i _ c.quoted_byte.result c.loop-byte-test.true c.quoted_byte.ensures) c.loop-byte.invariant c.in_err-add.ensures)
