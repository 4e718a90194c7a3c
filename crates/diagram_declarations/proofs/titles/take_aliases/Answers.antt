use Rattle.std.proofs.Common.{◌≡◌, true, false, Some, None, sym, ap, ◌∙◌, arith}
use Rattle.diagram_declarations.specs.Title.{alias_of}
use Rattle.diagram_declarations.specs.TakeTitles.{is_called}
use Rattle.diagram_declarations.proofs.Titling.{opens, first, ends, few, taken, within, with_alias, without_alias}
use Rattle.diagram_declarations.proofs.titles.take_aliases.Goals as goal
use Rattle.diagram_declarations.proofs.titles.take_aliases.Goals.{in-Some-alias_of+else-is_called, in_default-alias_of}

pub loop-reading-init : goal.loop-reading-init
loop-reading-init c = first c.args.text.now c.args.decls.now _ c.requires c.in-Ok.ensures.value

pub returns-then-is_called-clause-taken : goal.returns-then-is_called-clause-taken
returns-then-is_called-clause-taken c =
    let r = c.in-Some.reading in
    let alias : alias_of r.name.now r.behind.now ≡ Some c.in-Some-alias_of.alias = sym c.alias_of.ensures ∙ c.in-Some-alias_of.is in
    let called : is_called c.in-Some-alias_of.alias c.loop-reading.decls ≡ true
    = ap (λ w. is_called w c.loop-reading.decls) (sym c.bytes.ensures.spelling) ∙ sym c.is_called.ensures ∙ c.if-is_called.true in
    rw c.line_of-line.ensures (taken _ _ _ _ _ _ c.loop-reading.invariant r.name.now r.behind.now c.in-Some-alias_of.alias r.body r.rest.now c.in-Some.ensures.some alias called)

pub give-requires : goal.give-requires
give-requires c =
    let r = c.in-Some.reading in
    within _ _ _ _ _ _ c.loop-reading.invariant r.name.now r.behind.now r.body r.rest.now c.in-Some.ensures.some

pub past-passed-requires : goal.past-passed-requires
past-passed-requires c =
    let h = few _ _ _ _ _ _ c.loop-reading.invariant in
    (omega (arith, h.0), omega (arith, h.1))

pub loop-reading-preserved : goal.loop-reading-preserved
loop-reading-preserved c =
    let r = c.in-Some.reading in
    elim c.match-alias_of.branch [
      | in-Some-alias_of+else-is_called w ↦
          let alias : alias_of r.name.now r.behind.now ≡ Some w.in-Some-alias_of.alias = sym c.alias_of.ensures ∙ w.in-Some-alias_of.is in
          let free : is_called w.in-Some-alias_of.alias c.loop-reading.decls ≡ false
          = ap (λ x. is_called x c.loop-reading.decls) (sym w.bytes.ensures.spelling) ∙ sym w.is_called.ensures ∙ w.if-is_called.false in
          rw w.decls-is (with_alias _ _ _ _ _ c.loop-reading.passed c.past-passed.result c.loop-reading.invariant r.name.now r.behind.now w.in-Some-alias_of.alias r.body
          r.rest.now c.in-Some.ensures.some alias free w.give.ensures c.past-passed.ensures)
      | in_default-alias_of w ↦
          let none : alias_of r.name.now r.behind.now ≡ None = sym c.alias_of.ensures ∙ w.in_default-alias_of.is in
          rw w.decls-is (without_alias _ _ _ _ c.loop-reading.passed c.past-passed.result c.loop-reading.invariant r.name.now r.behind.now r.body r.rest.now
          c.in-Some.ensures.some none c.past-passed.ensures)
    ]

pub returns-clause-titled : goal.returns-clause-titled
returns-clause-titled c = ends _ _ _ _ _ _ c.loop-reading.invariant (c.in_default-next_decl.ensures.none)

pub returns-in_default-clause-titled : goal.returns-in_default-clause-titled
returns-in_default-clause-titled c = absurd (opens _ _ _ c.requires c.in_default.ensures.value)

pub returns-in_default-clause-same : goal.returns-in_default-clause-same
returns-in_default-clause-same c = absurd (opens _ _ _ c.requires c.in_default.ensures.value)
