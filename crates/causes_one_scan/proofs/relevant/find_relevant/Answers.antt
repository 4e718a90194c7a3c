use Rattle.std.proofs.Common.{rules, ◌∙◌, []}
use Rattle.std.specs.Prelude.{option_map}
use Rattle.causes_query.specs.Causes.{question}
use Rattle.causes_one_scan.proofs.Deciding.{named_starts, starts}
use Rattle.causes_one_scan.proofs.relevant.find_relevant.Goals as goal

pub find_among-requires-clause-image : goal.find_among-requires-clause-image
find_among-requires-clause-image c =
    let a = c.args.scan in
    let same = c.deref_mut.ensures.value ∙ c.in_ok-image.ensures.items_if_clones_equal (λ y h. search rules) in
    rw same (starts (question a.program.now a.state.now a.now a.coil []) _)

pub find_among-requires-clause-named : goal.find_among-requires-clause-named
find_among-requires-clause-named c =
    let same = c.deref_mut.ensures.value ∙ c.in_ok-image.ensures.items_if_clones_equal (λ y h. search rules) in
    rw same (named_starts (option_map (λ e. e.now) c.args.assumed) _)
