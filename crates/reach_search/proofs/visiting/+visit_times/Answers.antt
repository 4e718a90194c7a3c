use Rattle.std.proofs.Common.{◌≡◌, ◌∙◌, ◌+◌, ◌<◌, false, List, length, slice_index_or, refl, sym, ap, ap₂, subst, arith, rules}
use Rattle.std.proofs.lemmas.List.{get_or_default}
use Rattle.scan_cycle.specs.Programs.{diagram_of}
use Rattle.scan_signals.specs.declared.tri.Tri.{Tri}
use Rattle.scan_symbolic.specs.KnownScan.{Known, kept_at}
use Rattle.reach_runs.specs.Asking.{question_of}
use Rattle.reach_states.specs.Allowing.{AllowsFrom, AllowsState, over}
use Rattle.reach_states.specs.Untimed.{untimed}
use Rattle.reach_states.specs.declared.untimed.Untimed.{Untimed}
use Rattle.reach_states.specs.declared.untimed.Untimed.TheVariants.{Anything, Timer}
use Rattle.reach_search.specs.Visits.{Leads}
use Rattle.reach_search.specs.declared.visiting.Visit.{Visit}
use Rattle.reach_search.specs.declared.visiting.Visit.TheVariants.{Closed}
use Rattle.reach_search.proofs.Leading.{if_ok_both, kept_over, leads_by_time, leads_settled, put_back_kept}
use Rattle.reach_search.proofs.visiting.+visit_times.Goals as goal

pub returns-in_default-clause-closed : goal.returns-in_default-clause-closed
returns-in_default-clause-closed t c =
    let q = question_of c.args.visiting.query in
    let d = diagram_of q.program in
    let k = c.args.search.now.before in
    let inputs = c.args.search.now.inputs.items in
    let set = c.visit_inputs.new.search.set in
    let sizes = c.requires.search.before in
    if_ok_both
    (λ (v : Visit). v ≡ Closed → Leads q set (λ now. AllowsState q.timing d now k) inputs)
    (λ (v : Visit). Unit {0})
    (λ (v : Visit). v ≡ Closed → Leads q set (λ now. AllowsFrom c.args.inst d now k) inputs)
    (λ v leads _ closed. leads_settled q set c.args.inst (length q.program.decls.instances) k inputs c.requires.timing sizes.blocks (c.in_default.ensures.none refl) (leads closed))
    c.visit_inputs.result c.visit_inputs.ensures.closed (search rules)

pub overflow_add-inst : goal.overflow_add-inst
overflow_add-inst t c =
    let long : length c.blocks-blocks.result.now ≡ length c.args.visiting.query.program.now.decls.instances = ap length c.blocks-blocks.ensures ∙ c.requires.search.before.blocks in
    omega (arith, c.blocks-blocks.type_inv, c.in-Some.ensures.range)

pub overflow_add-inst-2 : goal.overflow_add-inst-2
overflow_add-inst-2 t c =
    let long : length c.blocks-blocks.result.now ≡ length c.args.visiting.query.program.now.decls.instances = ap length c.blocks-blocks.ensures ∙ c.requires.search.before.blocks in
    omega (arith, c.blocks-blocks.type_inv, c.in-Some.ensures.range)

pub returns-clause-before : goal.returns-clause-before
returns-clause-before t c = λ more.
    let both = c.both.ensures.end more in
    let inst = c.in-Some.inst in
    let unused = Timer false false 0 false in
    let kept = ap (λ (bs : List Untimed). slice_index_or bs inst unused) c.blocks-blocks.ensures in
    c.keep-2.ensures
    ∙ put_back_kept c.args.search.now.before c.visit_times.new.search.before c.keep.new.self c.visit_times-2.new.search.before inst c.over.result
    (slice_index_or c.blocks-blocks.result.now inst unused) unused (c.in_ok-waiting.ensures.before both.0) c.keep.ensures (c.in_ok-passed.ensures.before both.1) kept

pub returns-clause-closed : goal.returns-clause-closed
returns-clause-closed t c = λ closed.
    let both = c.both.ensures.closed closed in
    let q = question_of c.args.visiting.query in
    let d = diagram_of q.program in
    let inst = c.in-Some.inst in
    let k = c.args.search.now.before in
    let inputs = c.args.search.now.inputs.items in
    let one = c.visit_times.new.search.set in
    let two = c.visit_times-2.new.search.set in
    let going = sym c.is_end.ensures ∙ c.if-is_end.false in
    let before = c.in_ok-waiting.ensures.before going in
    let same = c.in_ok-waiting.ensures.inputs going in
    let long : inst < length k.blocks = omega (arith, c.requires.search.before.blocks, c.in-Some.ensures.range) in
    let unused = Timer false false 0 false in
    let is = ap (λ (bs : List Untimed). slice_index_or bs inst unused) c.blocks-blocks.ensures ∙ get_or_default k.blocks inst unused Anything long in
    let kept = kept_over k c.visit_times.new.search.before c.keep.new.self inst _ (over (d.preset inst) (kept_at untimed k inst)) before c.keep.ensures
    (c.over.ensures ∙ ap₂ over c.instance-kind.ensures.preset is) in
    let passed = subst (λ (l : Known Tri Untimed). Leads q two (λ now. AllowsFrom (inst + 1) d now l) inputs) kept
    (subst (λ (xs : List Tri). Leads q two (λ now. AllowsFrom (inst + 1) d now c.keep.new.self) xs) same (c.in_ok-passed.ensures.closed both.1)) in
    leads_by_time q one two c.in_ok-passed.ensures.grows c.args.inst inst k inputs c.in-Some.ensures.between long (c.in_ok-waiting.ensures.closed both.0) passed
