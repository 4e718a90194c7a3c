use Rattle.text_differences.proofs.TellLaws.{sent_all, sent_stops}
use Rattle.text_differences.proofs.progress.write_difference_progress.Goals as goal

pub returns-in_default-clause-told : goal.returns-in_default-clause-told
returns-in_default-clause-told g c =
    sent_stops c.args.upto c.args.limit c.args.differences.now (g.O.Sink.log c.args.out.now) (g.O.Sink.log c.tell_rows.new.out) (g.O.Sink.log c.flush.new.writer)
    (g.E.Sink.log c.args.err.now) (g.E.Sink.log c.tell_rows.new.err) c.tell_rows.new.buffer c.in-Ok.ensures.told c.in_default.ensures.wrote

pub returns-clause-told : goal.returns-clause-told
returns-clause-told g c =
    sent_all c.args.upto c.args.limit c.args.differences.now (g.O.Sink.log c.args.out.now) (g.O.Sink.log c.tell_rows.new.out) (g.O.Sink.log c.flush.new.writer)
    (g.E.Sink.log c.args.err.now) (g.E.Sink.log c.tell_rows.new.err) c.tell_rows.new.buffer c.in-Ok.ensures.told c.in-Ok-flush.ensures.wrote
