use Rattle.std.proofs.Common.{◌≡◌, ◌<◌, ℕ, List, [], ◌∷◌, Option, None, Some, ◌∙◌, ap, arith, get_or, length, false, refl, slice_get, sym, zero, suc}
use Rattle.std.specs.List.{filter_map}
use Rattle.diagram_program.specs.declared.site.Site.{Site}
use Rattle.diagram_program.specs.declared.cell.Cell.TheVariants as cell
use Rattle.diagram_program.specs.declared.cell.Joint.TheVariants as joint
use Rattle.diff_matching.specs.declared.owner.Owner.{Owner}
use Rattle.diff_matching.specs.Names.{edge_in, owner_with}
use Rattle.diff_matching.proofs.owner.owner_of.Goals as goal

none_found : {A B : Type 0} (f : A → Option B) (xs : List A) (d : A) → ((k : ℕ) → k < length xs → f (get_or xs k d) ≡ None) → slice_get (filter_map f xs) 0 ≡ None
none_found f [] d none = refl
none_found f (x ∷ xs) d none = rw (none 0 (omega arith)) (none_found f xs d (λ k h. none (suc k) (omega arith)))

first_found : {A B : Type 0} (f : A → Option B) (xs : List A) (d : A) (i : ℕ) (y : B) → i < length xs → ((k : ℕ) → k < i → f (get_or xs k d) ≡ None)
    → f (get_or xs i d) ≡ Some y → slice_get (filter_map f xs) 0 ≡ Some y
first_found f [] d i y short before is = absurd (omega arith)
first_found f (x ∷ xs) d zero y short before is = rw is refl
first_found f (x ∷ xs) d (suc i) y short before is =
    rw (before 0 (omega arith)) (first_found f xs d i y (omega arith) (λ k h. before (suc k) (omega arith)) is)

abbrev nothing : Site
nothing = record { cell = cell.Empty; right_link = false; joint = joint.Blank; vertical = false }

abbrev owner_at : ℕ → Site → Option Owner
owner_at number s = owner_with number (edge_in s.cell)

pub returns : goal.returns
returns c =
    let d = c.args.program.now in
    let size = c.rungs-place-end.ensures.whole.size in
    sym (none_found (owner_at c.args.number) d.sites nothing (λ k h. c.loop-place.invariant k (omega arith)))

pub returns-in-Some : goal.returns-in-Some
returns-in-Some c =
    let d = c.args.program.now in
    let size = c.rungs-place-end.ensures.whole.size in
    let is : owner_at c.args.number (get_or d.sites c.loop-place.place nothing) ≡ Some c.in-Some.owner =
    ap (λ e. owner_with c.args.number (edge_in e)) (sym c.cell_in.ensures) ∙ ap (owner_with c.args.number) (sym c.edge_in.ensures) ∙ sym c.owner_with.ensures ∙ c.in-Some.is in
    sym (first_found (owner_at c.args.number) d.sites nothing c.loop-place.place c.in-Some.owner (omega arith) c.loop-place.invariant is)
