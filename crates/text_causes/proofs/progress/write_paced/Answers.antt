use Rattle.std.proofs.Common.{◌++◌, [], append-nil, sym}
use Rattle.text_causes.proofs.TellLaws.{telling_stops, text_of, text_to_of}
use Rattle.text_causes.proofs.progress.write_paced.Goals as goal

pub returns-in_default-clause-told : goal.returns-in_default-clause-told
returns-in_default-clause-told g c =
    let old = c.args.causes.now in
    let whole = text_of c.args.upto c.args.limit old in
    let sent = c.in-Ok.ensures.told in (
      sent.0,
      telling_stops (text_to_of c.args.upto c.args.limit old) sent.0 _ _ _ (c.tell_rows-told.new.buffer ++ c.tell_rows-told.new.row_buffer) whole [] whole sent.1 (sym (append-nil whole)) c.in_default.ensures.wrote,
      sent.2,
    )
