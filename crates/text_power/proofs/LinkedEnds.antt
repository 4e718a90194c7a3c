-- Both ends of a vertical link have the same power.
use Rattle.std.proofs.Common.{◌≡◌, ◌∙◌, ℕ, ◌+◌, ◌-◌, ◌*◌, ◌/◌, ◌%◌, ◌<◌, ◌&&◌, inl, inr, Bool, true, false, cond, [], ◌∷◌, ap, arith, refl, sym, suc, zero, min, max, nat_lt, nat_le}
use Rattle.std.specs.Prelude.{flat_map, map}
use Rattle.std.specs.List.{range_with_len}
use Rattle.std.proofs.lemmas.Bool.{cases_lt}
use Rattle.std.proofs.lemmas.List.Elements.{filter_agree}
use Rattle.diagram_program.specs.declared.geometry.TheConstants.{ROWS, PLACES}
use Rattle.diagram_program.specs.Program.{Drawing, feeds, joined, site_at, takes_power}
use Rattle.diagram_program.proofs.JoinLaws.{joined_more}
use Rattle.scan_signals.specs.Truth.{plain}
use Rattle.scan_cycle.specs.declared.seen.Mark.{Mark}
use Rattle.scan_cycle.specs.Cells.{Diagram}
use Rattle.scan_cycle.specs.Marking.{mark_of}
use Rattle.scan_cycle.specs.Programs.{diagram_of, IsSound}
use Rattle.scan_cycle.specs.Routes.{Route, block_end, ends_below, join_all, left_link, route_value, routes, through}
use Rattle.scan_cycle.specs.Rung.{Held, circuit, frame_of, link_at}
use Rattle.scan_cycle.specs.RungByRung.{Scanned, scanned}
use Rattle.scan_cycle.specs.Seen.{mark_in, mark_passed}
use Rattle.text_power.specs.Marks.{LinkedEndsAgree}
use Rattle.text_power.proofs.Told.{begun, told}

-- ---- the rows that feed one end feed the other

and_true : (a b : Bool) → b ≡ true → (a && b) ≡ a
and_true true b h = h
and_true false b h = refl

-- the uppermost of some links, and the rows below it
upper : (d : Drawing) (j row column n : ℕ) → (site_at d j row column).vertical ≡ true → joined d j row column (suc n) ≡ joined d j (row + 1) column n
unfolding joined
upper d j row column n h = ap (λ b. b && joined d j (row + 1) column n) h

-- the lowest of some links, and the rows above it
lower : (d : Drawing) (j row column n : ℕ) → (site_at d j (row + n) column).vertical ≡ true → joined d j row column (suc n) ≡ joined d j row column n
lower d j row column n h = joined_more d j row column n ∙ and_true (joined d j row column n) _ h

-- the links from one end to a row, and from the other
group_same : (d : Drawing) (j row column from : ℕ) → (site_at d j row column).vertical ≡ true
    → joined d j (min row from) column (max row from - min row from) ≡ joined d j (min (row + 1) from) column (max (row + 1) from - min (row + 1) from)
group_same d j row column from h =
    elim (cases_lt row from) [
      | inl below ↦
          let a : min row from ≡ row = omega arith in
          let b : max row from - min row from ≡ suc (from - (row + 1)) = omega arith in
          let c : min (row + 1) from ≡ row + 1 = omega arith in
          let e : max (row + 1) from - min (row + 1) from ≡ from - (row + 1) = omega arith in
          cc (upper d j row column (from - (row + 1)) h)
      | inr above ↦
          let a : min row from ≡ from = omega arith in
          let b : max row from - min row from ≡ row - from = omega arith in
          let c : min (row + 1) from ≡ from = omega arith in
          let e : max (row + 1) from - min (row + 1) from ≡ suc (row - from) = omega arith in
          let last : from + (row - from) ≡ row = omega arith in
          cc (lower d j from column (row - from) (ap (λ r. (site_at d j r column).vertical) last ∙ h))
    ]

feeds_same : (d : Drawing) (j row column from : ℕ) → (site_at d j row column).vertical ≡ true → feeds d j row column from ≡ feeds d j (row + 1) column from
feeds_same d j row column from h =
    ap (λ b. nat_le 1 column && ((site_at d j from (column - 1)).right_link && (takes_power (site_at d j from column).joint && b))) (group_same d j row column from h)

fed_same : (p : Drawing) (j row column from : ℕ) → (site_at p j row column).vertical ≡ true → (diagram_of p).feeds j row column from ≡ (diagram_of p).feeds j (row + 1) column from
unfolding diagram_of
fed_same p j row column from h = feeds_same p j row column from h

-- ---- so there are the same routes to both

routes_same : (feeds : ℕ → ℕ → ℕ → Bool) (is_block : ℕ → ℕ → Bool) (row other column : ℕ) → ((from : ℕ) → feeds row column from ≡ feeds other column from)
    → routes feeds is_block row column ≡ routes feeds is_block other column
unfolding routes
routes_same feeds is_block row other zero h = refl
routes_same feeds is_block row other (suc column) h =
    let onto = λ (from : ℕ). cond (is_block from column) (block_end from column ∷ []) (map (λ (r : Route). through r from column) (routes feeds is_block from column)) in
    ap (flat_map onto) (filter_agree (feeds row (suc column)) (feeds other (suc column)) h (range_with_len 0 ROWS))

-- the left links at two places, by the routes to them
link_same : (d : Diagram) (now j : ℕ) (h : Held) (row other column : ℕ) → row < ROWS → other < ROWS → ((from : ℕ) → d.feeds j row column from ≡ d.feeds j other column from)
    → link_at d now j h (ROWS * column + row) ≡ link_at d now j h (ROWS * column + other)
link_same d now j h row other column rows others same =
    let g = circuit plain d h.kept now j (frame_of h) in
    let a : (ROWS * column + row) % ROWS ≡ row = omega arith in
    let b : (ROWS * column + row) / ROWS ≡ column = omega arith in
    let c : (ROWS * column + other) % ROWS ≡ other = omega arith in
    let e : (ROWS * column + other) / ROWS ≡ column = omega arith in
    ap (λ r. left_link plain g r ((ROWS * column + row) / ROWS)) a
    ∙ ap (left_link plain g row) b
    ∙ ap (λ rs. join_all plain (map (route_value plain g (ends_below plain g column)) rs)) (routes_same g.feeds g.is_block row other column same)
    ∙ sym (ap (λ r. left_link plain g r ((ROWS * column + other) / ROWS)) c ∙ ap (left_link plain g other) e)

-- ---- and the marks have one left link

either_left : (d : Diagram) (now j : ℕ) (h : Held) (b : Bool) (at other : ℕ) → link_at d now j h at ≡ link_at d now j h other
    → (cond b (mark_passed h (d.cell j at)) (mark_in d now j h at)).left ≡ (cond b (mark_passed h (d.cell j other)) (mark_in d now j h other)).left
either_left d now j h true at other e = refl
either_left d now j h false at other e = e

left_same : (d : Diagram) (now j : ℕ) (s : Scanned) (at other : ℕ) → link_at d now j s.held at ≡ link_at d now j s.held other
    → (mark_of d now j s at).left ≡ (mark_of d now j s other).left
left_same d now j s at other e = either_left d now j s.held (nat_lt j s.resume) at other e

pub linked_ends : (p : Drawing) → IsSound (diagram_of p) → LinkedEndsAgree p
linked_ends p sound = λ now inputs h marks seen rung row column below rows columns link.
    let d = diagram_of p in
    let s = scanned d now (begun p inputs h) rung in
    let one : ROWS * column + row < PLACES = omega (arith, rows, columns) in
    let other : ROWS * column + (row + 1) < PLACES = omega (arith, rows, columns) in
    let same = λ (from : ℕ). fed_same p rung row column from link in
    ap (λ (m : Mark). m.left) (told p sound now inputs h marks seen rung (ROWS * column + row) below one)
    ∙ left_same d now rung s (ROWS * column + row) (ROWS * column + (row + 1)) (link_same d now rung s.held row (row + 1) column (omega (arith, rows)) (omega (arith, rows)) same)
    ∙ sym (ap (λ (m : Mark). m.left) (told p sound now inputs h marks seen rung (ROWS * column + (row + 1)) below other))
