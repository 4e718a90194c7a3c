use Rattle.std.proofs.Common.{rules, ◌≡◌, ◌∙◌, ◌∷◌, ◌<◌, ◌^◌, ap, sym, subst}
use Rattle.std.specs.Prelude.{⊤}
use Rattle.scan_cycle.specs.Standing.{Standing}
use Rattle.text_state.specs.StateText.{AreTold, version_record}
use Rattle.text_state.specs.Parts.{moment_record}
use Rattle.text_state.proofs.Heads.{items_arm, moment_bad, taken, told_before, version_bad}
use Rattle.text_state.proofs.read.read_records.Goals as goal

pub returns-in_default-version-clause-reads : goal.returns-in_default-version-clause-reads
returns-in_default-version-clause-reads c = λ rows left standing.
    version_bad c.args.program.now c.args.state.now rows c.next_version.new.records c.in-Ok.version (record { fits = c.requires.fits; standing = standing }) c.in_default-version.is (c.in-Ok.ensures.takes rows left)

pub returns-in_default-moment-clause-reads : goal.returns-in_default-moment-clause-reads
returns-in_default-moment-clause-reads c = λ rows left standing.
    let t = taken version_record (λ _. ⊤) rows c.next_version.new.records c.in-Ok.version c.in-Some.version c.in-Some.is (c.in-Ok.ensures.takes rows left) in
    moment_bad c.args.program.now c.args.state.now c.in-Some.version rows t.0 c.next_moment.new.records c.in-Ok-next_moment.moment (record { fits = c.requires.fits; standing = standing })
    (told_before c.in-Some.version c.args.program.now c.args.state.now c.requires.fresh) t.1
    c.in_default-moment.is (c.in-Ok-next_moment.ensures.takes t.0 t.2)

pub returns-clause-reads : goal.returns-clause-reads
returns-clause-reads c = λ rows left standing.
    let p = c.args.program.now in
    let t = taken version_record (λ _. ⊤) rows c.next_version.new.records c.in-Ok.version c.in-Some.version c.in-Some.is (c.in-Ok.ensures.takes rows left) in
    let u = taken moment_record (λ n. n < 2 ^ 64) t.0 c.next_moment.new.records c.in-Ok-next_moment.moment c.in-Some-moment.moment c.in-Some-moment.is (c.in-Ok-next_moment.ensures.takes t.0 t.2) in
    let s = c.read_parts.new.state in
    let moment : s.moment ≡ c.in-Some-moment.moment = c.read_parts.ensures.moment ∙ ap (λ (x : Standing). x.moment) c.set_moment.ensures in
    items_arm p s c.in-Some.version rows u.0 c.read_parts.result (record { fits = c.read_parts.ensures.fits; standing = standing }) c.read_parts.ensures.told
    (t.1 ∙ ap (λ l. version_record c.in-Some.version ∷ l) u.1 ∙ ap (λ m. version_record c.in-Some.version ∷ moment_record m ∷ u.0) (sym moment))
    (c.read_parts.ensures.items standing u.0 u.2)

pub read_parts-requires : goal.read_parts-requires
read_parts-requires c = record {
  plain = c.in-Ok-next_moment.ensures.plain;
  fits = search rules;
  told = subst (λ (s : Standing). AreTold c.in-Some.version c.args.program.now.decls.instances s.held.kept.blocks) (sym c.set_moment.ensures) (told_before c.in-Some.version c.args.program.now c.args.state.now c.requires.fresh);
}
