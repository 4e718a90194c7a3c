use Rattle.std.proofs.Common.{◌∙◌, List, not, subst}
use Rattle.std.specs.Prelude.{option_map}
use Rattle.diagram_declarations.specs.declared.decls.Symbol.TheVariants as symbol
use Rattle.invariant_cases.specs.Assuming.{Assumed, assumed_of}
use Rattle.invariant_cases.specs.Cases.{IsSettledAssuming, of_itself}
use Rattle.invariant_cases.specs.declared.pair.Pair.{Pair}
use Rattle.causes_any_state.specs.Possible.{pairs_of}
use Rattle.causes_any_state.proofs.Covering.{is_never}
use Rattle.causes_any_state.proofs.judging.is_never.Goals as goal

pub returns-clause-never : goal.returns-clause-never
returns-clause-never c = λ yes.
    let p = c.args.asked.program.now in
    let states = c.args.asked.states.now in
    let coil = c.args.asked.coil in
    let space = c.begin.ensures.space in
    let known = c.begin.new.space.knowing.buffers.case in
    let assumed = assumed_of c.assumption_of.result in
    is_never (option_map (λ e. e.now) c.args.assumed) p coil c.args.asked.listed.now states c.args.asked.sought c.args.open_bits c.args.asked.number c.requires.aligned
    c.requires.listable c.requires.states c.begin.new.space.knowing.none space.knowing.no_variables space.knowing.no_instances known c.begin.ensures.begun
    c.settled_assuming.ensures c.allowed_where_given.ensures c.deref.result.now (c.deref.ensures.value ∙ space.sight.inputs)
    (subst (λ (a : Assumed). IsSettledAssuming p a (pairs_of states.staying) (of_itself (symbol.Var coil)) (not c.args.asked.sought) known) c.assumption_of.ensures
    (subst (λ (ps : List Pair). IsSettledAssuming p assumed ps (of_itself (symbol.Var coil)) (not c.args.asked.sought) known) c.pairs.ensures
    (subst (λ (target : Pair). IsSettledAssuming p assumed c.pairs.result.now target (not c.args.asked.sought) known) c.of_itself.ensures (c.settle.ensures.settled yes))))
