use Rattle.std.proofs.Common.{◌≡◌, ◌∙◌, ℕ, List, length, set, sym, ap, ap₂, subst, rules}
use Rattle.std.proofs.lemmas.List.{length-set}
use Rattle.std.specs.Prelude.{IfOk}
use Rattle.scan_cycle.specs.Programs.{diagram_of}
use Rattle.scan_cycle.specs.Rung.{Held}
use Rattle.scan_signals.specs.Three.{three}
use Rattle.scan_signals.specs.declared.tri.Tri.{Tri}
use Rattle.scan_signals.specs.declared.tri.Tri.TheVariants as tri
use Rattle.scan_symbolic.specs.KnownScan.{Known, after_known}
use Rattle.reach_runs.specs.Asking.{question_of}
use Rattle.reach_states.specs.Allowing.{AllowsState}
use Rattle.reach_states.specs.Untimed.{untimed}
use Rattle.reach_states.specs.declared.untimed.Untimed.{Untimed}
use Rattle.reach_search.specs.Visits.{IsIn, Leads, told_all}
use Rattle.reach_search.specs.declared.visiting.Visit.{Visit}
use Rattle.reach_search.specs.declared.visiting.Visit.TheVariants.{Closed}
use Rattle.reach_search.proofs.InputLaws.{put_back, put_on}
use Rattle.reach_search.proofs.Leading.{if_ok_both, leads_by_input, leads_from}
use Rattle.reach_search.proofs.visiting.+inputs.Goals as goal

pub by_input-index_mut-requires-3 : goal.by_input-index_mut-requires-3
by_input-index_mut-requires-3 t c =
    let off = c.in_ok-off.ensures.inputs (sym c.is_end.ensures ∙ c.if-is_end.false) in
    let on = c.in_ok-on.ensures.inputs (sym c.is_end-2.ensures ∙ c.if-is_end-2.false) in
    let same : length c.visit_inputs-2.new.search.inputs.items ≡ length c.args.search.now.inputs.items =
    ap length on ∙ length-set c.visit_inputs.new.search.inputs.items c.args.input tri.On ∙ ap length off ∙ length-set c.args.search.now.inputs.items c.args.input tri.Off in
    search rules

pub by_input-returns-clause-inputs : goal.by_input-returns-clause-inputs
by_input-returns-clause-inputs t c = λ more.
    let off = c.in_ok-off.ensures.inputs (sym c.is_end.ensures ∙ c.if-is_end.false) in
    let on = c.in_ok-on.ensures.inputs (sym c.is_end-2.ensures ∙ c.if-is_end-2.false) in
    put_back c.args.search.now.inputs.items c.visit_inputs.new.search.inputs.items c.visit_inputs-2.new.search.inputs.items c.args.input c.requires.open off on

pub by_input-returns-clause-closed : goal.by_input-returns-clause-closed
by_input-returns-clause-closed t c = λ closed.
    let both = c.both.ensures.closed closed in
    let q = question_of c.args.visiting.query in
    let before = c.in_ok-off.ensures.before (sym c.is_end.ensures ∙ c.if-is_end.false) in
    let off = c.in_ok-off.ensures.inputs (sym c.is_end.ensures ∙ c.if-is_end.false) in
    let inputs = put_on c.args.search.now.inputs.items c.visit_inputs.new.search.inputs.items c.args.input off in
    let allows = λ (k : Known Tri Untimed). λ (now : ℕ). AllowsState q.timing (diagram_of q.program) now k in
    let on = subst (λ (k : Known Tri Untimed). Leads q c.visit_inputs-2.new.search.set (allows k) (set c.args.search.now.inputs.items c.args.input tri.On)) before
    (subst (λ (xs : List Tri). Leads q c.visit_inputs-2.new.search.set (allows c.visit_inputs.new.search.before) xs) inputs (c.in_ok-on.ensures.closed both.1)) in
    leads_by_input q c.visit_inputs.new.search.set c.visit_inputs-2.new.search.set c.in_ok-on.ensures.grows (allows c.args.search.now.before) c.args.search.now.inputs.items c.args.input
    (c.in_ok-off.ensures.closed both.0) on

pub visit_open-returns-in_default-clause-closed : goal.visit_open-returns-in_default-clause-closed
visit_open-returns-in_default-clause-closed t c =
    let q = question_of c.args.visiting.query in
    let d = diagram_of q.program in
    let inputs = c.args.search.now.inputs.items in
    if_ok_both
    (λ (v : Visit). v ≡ Closed → told_all c.scan_known.new.known q.target ≡ tri.Off)
    (λ (v : Visit). v ≡ Closed → (now : ℕ) (held : Held) → AllowsState q.timing d now c.scan_known.new.known held → IsIn q.timing d c.arrive.new.search.set now held)
    (λ (v : Visit). v ≡ Closed → Leads q c.arrive.new.search.set (λ now. AllowsState q.timing d now c.args.search.now.before) inputs)
    (λ v off there closed. leads_from q c.arrive.new.search.set c.args.search.now.before c.scan_known.new.known inputs c.scan_allows.ensures
    (c.scan_known.ensures.known ∙ ap₂ (λ xs k. after_known three untimed d 0 xs k) c.deref.ensures.value c.copy_from.ensures) (off closed) (there closed))
    c.arrive.result c.arrive.ensures.off c.arrive.ensures.there

pub visit_inputs-returns-clause-closed : goal.visit_inputs-returns-clause-closed
visit_inputs-returns-clause-closed t c =
    let q = question_of c.args.visiting.query in
    let d = diagram_of q.program in
    let set = c.visit_open.new.search.set in
    let leads = λ (k : Known Tri Untimed). λ (xs : List Tri). IfOk c.visit_open.result (λ (v : Visit). v ≡ Closed → Leads q set (λ now. AllowsState q.timing d now k) xs) in
    subst (λ (k : Known Tri Untimed). leads k c.args.search.now.inputs.items) c.is_dead_end.ensures.before
    (subst (λ (xs : List Tri). leads c.is_dead_end.new.search.before xs) c.is_dead_end.ensures.inputs c.visit_open.ensures.closed)
