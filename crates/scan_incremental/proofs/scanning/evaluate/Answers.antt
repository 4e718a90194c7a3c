use Rattle.std.proofs.Common.{sym, subst, List, Option, ℕ, rules, ◌≤◌, arith}
use Rattle.scan_cycle.specs.Programs.{diagram_of}
use Rattle.scan_cycle.proofs.Acting.{places, by_actions}
use Rattle.scan_cycle.proofs.Sizes.{rung_sizes}
use Rattle.scan_incremental.specs.Resting.{AllRest}
use Rattle.scan_incremental.proofs.Frames.{rest_is_still}
use Rattle.scan_incremental.proofs.Rung.{at_rest}
use Rattle.scan_incremental.proofs.Evaluating.{after_is, rest_from}
use Rattle.scan_incremental.proofs.scanning.evaluate.Goals as goal

pub are_still-requires-clause-places : goal.are_still-requires-clause-places
are_still-requires-clause-places c = places c.args.scene.program.now c.args.scene.rung

pub returns-then-are_still-clause-held : goal.returns-then-are_still-clause-held
returns-then-are_still-clause-held c =
    let s = c.args.scene in
    let least : s.now ≤ s.now = omega arith in
    sym (rest_is_still (diagram_of s.program.now) c.requires.program s.now s.now s.rung _ c.args.storage.now least
    (at_rest s.program.now s.now s.rung c.args.storage.now c.copy_start.new.start c.find_links.new.links c.copy_start.ensures c.find_links.ensures.links (c.are_still.ensures (search rules))))

pub returns-then-are_still-clause-after : goal.returns-then-are_still-clause-after
returns-then-are_still-clause-after c =
    let s = c.args.scene in
    after_is s.program.now c.requires.program s.now s.rung c.args.storage.now c.copy_start.new.start c.find_links.new.links c.copy_start.ensures c.find_links.ensures.links _ c.rung_after-after.ensures

pub returns-then-are_still-clause-rest : goal.returns-then-are_still-clause-rest
returns-then-are_still-clause-rest c =
    let s = c.args.scene in
    subst (λ (xs : List (Option ℕ)). AllRest (diagram_of s.program.now) s.now c.args.storage.now xs) (sym c.put_to_rest.ensures)
    (rest_from s.program.now c.requires.program s.now s.rung c.args.storage.now c.copy_start.new.start c.find_links.new.links c.copy_start.ensures c.find_links.ensures.links _ c.rung_after-after.ensures
    (c.are_still.ensures (search rules)) c.args.next.now c.requires.rung c.requires.rest)

pub act_each-requires-clause-places : goal.act_each-requires-clause-places
act_each-requires-clause-places c = places c.args.scene.program.now c.args.scene.rung

pub returns-clause-held : goal.returns-clause-held
returns-clause-held c =
    by_actions c.args.scene.program.now c.args.scene.now c.args.scene.rung c.args.storage.now _ _ c.find_links.new.links c.copy_start.ensures c.find_links.ensures.links c.act_each.ensures.stored

pub returns-clause-after : goal.returns-clause-after
returns-clause-after c =
    let s = c.args.scene in
    after_is s.program.now c.requires.program s.now s.rung c.args.storage.now c.copy_start.new.start c.find_links.new.links c.copy_start.ensures c.find_links.ensures.links _ c.rung_after-after.ensures

pub returns-clause-sizes : goal.returns-clause-sizes
returns-clause-sizes c =
    rung_sizes (diagram_of c.args.scene.program.now) c.args.scene.now c.args.scene.rung c.args.storage.now _ _ c.copy_start.ensures
    (by_actions c.args.scene.program.now c.args.scene.now c.args.scene.rung c.args.storage.now _ _ c.find_links.new.links c.copy_start.ensures c.find_links.ensures.links c.act_each.ensures.stored)
