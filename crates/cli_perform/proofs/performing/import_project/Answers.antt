use Rattle.std.proofs.Common.{List, Option, ℕ, option_map, string_bytes, subst}
use Rattle.io_text.specs.Log.{PutsAll}
use Rattle.cli_import.specs.Carrying.{BreaksCarrying, Carries}
use Rattle.cli_perform.specs.Performs.{reading_of}
use Rattle.cli_perform.proofs.performing.import_project.Goals as goal

pub returns-clause-done : goal.returns-clause-done
returns-clause-done g c = λ done.
    let carried = c.carry.ensures.done done in
    let reading = reading_of c.args.request.now.opened c.args.request.now.control_on in
    let named = subst (λ (name : Option (List ℕ)). Carries reading name c.deref.result.now (PutsAll (g.O.Sink.log c.args.out.now) (g.O.Sink.log c.carry.new.out))) c.pou_of.ensures carried.0 in (
      subst (λ (t : List ℕ). Carries reading (option_map string_bytes c.args.request.now.pou) t (PutsAll (g.O.Sink.log c.args.out.now) (g.O.Sink.log c.carry.new.out))) c.deref.ensures.value named,
      carried.1,
    )

pub returns-clause-failed : goal.returns-clause-failed
returns-clause-failed g c = λ failed.
    let reading = reading_of c.args.request.now.opened c.args.request.now.control_on in
    let named = subst
    (λ (name : Option (List ℕ)). BreaksCarrying reading c.args.texts.now.why name c.deref.result.now (g.O.Sink.log c.args.out.now) (g.O.Sink.log c.carry.new.out) (g.E.Sink.log c.args.err.now) (g.E.Sink.log c.carry.new.err))
    c.pou_of.ensures (c.carry.ensures.failed failed) in
    subst
    (λ (t : List ℕ). BreaksCarrying reading c.args.texts.now.why (option_map string_bytes c.args.request.now.pou) t (g.O.Sink.log c.args.out.now) (g.O.Sink.log c.carry.new.out) (g.E.Sink.log c.args.err.now) (g.E.Sink.log c.carry.new.err))
    c.deref.ensures.value named
