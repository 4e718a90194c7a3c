-- Power through a rung, step by step from the right to the left.
use Rattle.std.proofs.Common.{◌≡◌, ◌∙◌, ℕ, zero, suc, ◌+◌, ◌*◌, ◌/◌, ◌%◌, ◌<◌, Bool, true, false, not, cond, ◌&&◌, ◌||◌, List, length, Option, get_or, ap, ap₂, sym, refl, subst, inl, inr}
use Rattle.std.proofs.Math.Bool.{and-true}
use Rattle.std.proofs.lemmas.Bool.{cases_eq, cond-false}
use Rattle.diagram_program.specs.declared.geometry.TheConstants.{ROWS, PLACES}
use Rattle.diagram_program.specs.declared.cell.Cell.{Cell}
use Rattle.diagram_program.specs.declared.cell.Cell.TheVariants.{Contact, Block}
use Rattle.diagram_program.specs.declared.cell.Operand as diagram
use Rattle.diagram_program.specs.declared.mode.Mode.{Mode}
use Rattle.diagram_program.specs.declared.mode.Mode.TheVariants.{Plain, Negated}
use Rattle.diagram_program.specs.Program.{Drawing, cell_of, feeds, is_block, site_at, site_in}
use Rattle.scan_signals.specs.Truth.{plain}
use Rattle.scan_cycle.specs.Cells.{Frame, Kept, closed, contact, memory_of, operand_value, place_at}
use Rattle.scan_cycle.specs.Gating.{own}
use Rattle.scan_cycle.specs.Programs.{diagram_of}
use Rattle.scan_cycle.specs.Rung.{link, lower}
use Rattle.scan_cycle.proofs.Feeders.{cell_is, place_is, row_small}
use Rattle.st_expression.specs.declared.expression.Operand.{Operand}
use Rattle.st_expression.specs.declared.expression.Operand.TheVariants.{Variable}
use Rattle.st_statements.specs.Run.{seen}
use Rattle.draw_power.specs.Power.{IsClosedWhere, has_row, is_seen, left, power, right}
use Rattle.draw_power.proofs.Flow.{and_assoc, and_either, fed_at, first_at, power_of_either, power_of_one}
use Rattle.export_power.specs.declared.ends.Ends.{Ends}
use Rattle.export_power.specs.declared.ends.Parts.{Parts}
use Rattle.export_power.specs.declared.known.Known.{Known}
use Rattle.export_power.specs.declared.known.Meaning.{Meaning}
use Rattle.export_power.specs.declared.known.Meaning.TheVariants as stands
use Rattle.export_power.specs.declared.network.Network.{Network}
use Rattle.export_power.specs.Sight.{is_called, meant}
use Rattle.export_power.specs.Carried.{Carries, IsEndOf, IsLiteral, IsSame, IsSplit, LetsThrough, Means, SeesIn, Shows, Stands, cell_in, power_at}

-- ---- places

left_is : (p : Drawing) (j : ℕ) (k : Kept) (now : ℕ) (f : Frame Bool) (row column : ℕ) (rows : List Bool)
    → ((q : ℕ) → q < ROWS → has_row rows q ≡ feeds p j row column q) → left p j k now f row column ≡ power p j k now f column rows
left_is p j k now f row zero rows same = first_at p j k now f row rows
left_is p j k now f row (suc column) rows same = fed_at p j k now f row column rows (λ q less. sym (same q less))

pub link_is : (p : Drawing) (j place : ℕ) (rows : List Bool) → ((q : ℕ) → q < ROWS → has_row rows q ≡ feeds p j (place % ROWS) (place / ROWS) q)
    → (k : Kept) (now : ℕ) (f : Frame Bool) → link plain (diagram_of p) k now j f place ≡ power p j k now f (place / ROWS) rows
link_is p j place rows same k now f = left_is p j k now f (place % ROWS) (place / ROWS) rows same

pub at_place : (p : Drawing) (j place : ℕ) → (site_at p j (place % ROWS) (place / ROWS)).cell ≡ cell_of p j place
at_place p j place = ap (λ n. (site_in p (PLACES * j + n)).cell) (place_is place)

-- ---- one cell

right_is : (net : Network) (place : ℕ) (through : Frame Bool → Bool) → place < PLACES → LetsThrough net place through
    → (k : Kept) (now : ℕ) (f s : Frame Bool) → SeesIn net k now f s
    → right net.program.now net.rung k now f (place / ROWS) (place % ROWS) ≡ (link plain (diagram_of net.program.now) k now net.rung f place && through s)
unfolding right
right_is net place through within lets k now f s sees =
    let p = net.program.now in
    let x = link plain (diagram_of p) k now net.rung f place in
    let y = lower plain ((diagram_of p).linked net.rung (place_at (place % ROWS) (place / ROWS))) (left p net.rung k now f (place % ROWS + 1) (place / ROWS)) in
    ap (λ c. own plain (diagram_of p) k now f c x y) (ap ((diagram_of p).cell net.rung) (place_is place) ∙ cell_is p net.rung place within)
    ∙ cond-false (is_block (cell_in net place)) _ (x && closed plain f (memory_of k (cell_in net place)) (cell_in net place)) lets.no_block
    ∙ ap (λ b. x && b) (lets.closed_is k now f s sees)

at_end : (net : Network) (place : ℕ) (to : Ends) → IsEndOf to place → (k : Kept) (now : ℕ) (f : Frame Bool)
    → power_at net k now f to ≡ right net.program.now net.rung k now f (place / ROWS) (place % ROWS)
at_end net place to end k now f =
    ap (λ n. power net.program.now net.rung k now f n to.rows) end.next
    ∙ power_of_one net.program.now net.rung k now f (place % ROWS) (place / ROWS) to.rows (row_small place) end.only

pub through_cell : (net : Network) (place : ℕ) (from to : Ends) (through : Frame Bool → Bool) → IsEndOf to place
    → ((k : Kept) (now : ℕ) (f : Frame Bool) → link plain (diagram_of net.program.now) k now net.rung f place ≡ power net.program.now net.rung k now f from.column from.rows)
    → LetsThrough net place through → Carries net from to through
through_cell net place from to through end fed lets = record {
  carried = λ k now f s sees.
      at_end net place to end k now f ∙ right_is net place through end.within lets k now f s sees
      ∙ ap (λ b. b && through s) (fed k now f);
}

pub through_open : (net : Network) (place : ℕ) (c : Cell) (from to : Ends) → IsEndOf to place
    → ((k : Kept) (now : ℕ) (f : Frame Bool) → link plain (diagram_of net.program.now) k now net.rung f place ≡ power net.program.now net.rung k now f from.column from.rows)
    → c ≡ cell_of net.program.now net.rung place → IsClosedWhere (λ f. true) c → Carries net from to (λ s. true)
through_open net place c from to end fed e passes =
    through_cell net place from to (λ s. true) end fed (record {
      no_block = ap is_block (sym e) ∙ passes.no_block;
      closed_is = λ k now f s sees. ap (λ o. closed plain f (memory_of k o) o) (sym e) ∙ passes.closed_is (memory_of k c) f;
    })

-- ---- networks

pub carries_from : (net : Network) (from : Ends) → Carries net from from (λ s. true)
carries_from net from = record { carried = λ k now f s sees. sym (and-true (power_at net k now f from)) }

pub carries_on : (net : Network) (from middle to : Ends) (first second : Frame Bool → Bool)
    → Carries net from middle first → Carries net middle to second → Carries net from to (λ s. first s && second s)
carries_on net from middle to first second one two = record {
  carried = λ k now f s sees.
      two.carried k now f s sees ∙ ap (λ b. b && second s) (one.carried k now f s sees)
      ∙ and_assoc (power_at net k now f from) (first s) (second s);
}

pub carries_as : (net : Network) (from to : Ends) (first second : Frame Bool → Bool)
    → ((s : Frame Bool) → first s ≡ second s) → Carries net from to first → Carries net from to second
carries_as net from to first second same one = record {
  carried = λ k now f s sees. one.carried k now f s sees ∙ ap (λ b. power_at net k now f from && b) (same s);
}

pub wire_before : (net : Network) (from middle to : Ends) (through : Frame Bool → Bool) → Carries net from middle (λ s. true)
    → Carries net middle to through → Carries net from to through
wire_before net from middle to through one two = carries_on net from middle to (λ s. true) through one two

pub wire_behind : (net : Network) (from middle to : Ends) (through : Frame Bool → Bool) → Carries net from middle through
    → Carries net middle to (λ s. true) → Carries net from to through
wire_behind net from middle to through one two =
    carries_as net from to (λ s. through s && true) through (λ s. and-true (through s)) (carries_on net from middle to through (λ s. true) one two)

same_at : (net : Network) (first second : Ends) → IsSame first second → (k : Kept) (now : ℕ) (f : Frame Bool) → power_at net k now f first ≡ power_at net k now f second
unfolding power
same_at net first second same k now f = elim (cases_eq first.column 0) [
  | inl none ↦
      ap (λ n. power net.program.now net.rung k now f n first.rows) none
      ∙ sym (ap (λ n. power net.program.now net.rung k now f n second.rows) (sym same.column ∙ none))
  | inr some ↦ ap₂ (λ n rows. power net.program.now net.rung k now f n rows) same.column (same.rows some)
]

pub from_same : (net : Network) (first second to : Ends) (through : Frame Bool → Bool) → IsSame first second → Carries net second to through
    → Carries net first to through
from_same net first second to through same one = record {
  carried = λ k now f s sees. one.carried k now f s sees ∙ ap (λ b. b && through s) (sym (same_at net first second same k now f));
}

pub from_both : (net : Network) (from to : Ends) (parts : Parts) (first second : Frame Bool → Bool) → IsSplit to parts
    → Carries net from parts.upper first → Carries net from parts.lower second → Carries net from to (λ s. first s || second s)
from_both net from to parts first second is upper lower = record {
  carried = λ k now f s sees.
      let p = net.program.now in
      power_of_either p net.rung k now f to.column parts.upper.rows parts.lower.rows to.rows is.rows
      ∙ ap₂ (λ a b. a || b)
      (ap (λ n. power p net.rung k now f n parts.upper.rows) (sym is.upper) ∙ upper.carried k now f s sees)
      (ap (λ n. power p net.rung k now f n parts.lower.rows) (sym is.lower) ∙ lower.carried k now f s sees)
      ∙ and_either (power_at net k now f from) (first s) (second s);
}

pub from_rail : (net : Network) (from to : Ends) (through : Frame Bool → Bool) → from.column ≡ 0 → Shows net to through → Carries net from to through
unfolding power
from_rail net from to through first one = record {
  carried = λ k now f s sees.
      one.shown k now f s sees ∙ sym (ap (λ n. power net.program.now net.rung k now f n from.rows && through s) first);
}

pub to_rail : (net : Network) (from to : Ends) (through : Frame Bool → Bool) → from.column ≡ 0 → Carries net from to through
    → (k : Kept) (now : ℕ) (f s : Frame Bool) → SeesIn net k now f s → power_at net k now f to ≡ through s
unfolding power
to_rail net from to through first one k now f s sees =
    one.carried k now f s sees ∙ ap (λ n. power net.program.now net.rung k now f n from.rows && through s) first

-- ---- operands

pub same_power : (net : Network) (first second first_from second_from : Ends) → Carries net first_from first (λ s. true)
    → Carries net second_from second (λ s. true) → IsSame first_from second_from → Means net (stands.Power first) (stands.Power second)
same_power net first second first_from second_from one two same = record {
  meant = λ k now f s sees.
      one.carried k now f s sees ∙ and-true (power_at net k now f first_from) ∙ same_at net first_from second_from same k now f
      ∙ sym (two.carried k now f s sees ∙ and-true (power_at net k now f second_from));
}

pub known_shows : (net : Network) (operand : Operand) (ends : Ends) → Stands net operand (stands.Power ends) → Shows net ends (λ s. seen s operand)
known_shows net operand ends stood = record { shown = λ k now f s sees. sym (stood.stood k now f s sees) }

closed_on : (on x m : Bool) → contact plain (cond on Plain Negated) x m ≡ cond on x (not x)
closed_on true x m = refl
closed_on false x m = refl

pub literal_by : (net : Network) (on : Bool) (mode : Mode) (read : diagram.Operand) (memory : Option ℕ) (sought : Operand) → mode ≡ cond on Plain Negated
    → Stands net sought (stands.Start read) → IsLiteral net (Contact mode read memory) (is_seen on sought)
literal_by net on mode read memory sought e stood = record {
  no_block = refl;
  closed_is = λ m k now f s sees.
      ap (λ x. contact plain x (operand_value plain f read) m) e ∙ closed_on on (operand_value plain f read) m
      ∙ ap (λ x. cond on x (not x)) (sym (stood.stood k now f s sees));
}

pub known_closed : (net : Network) (place : ℕ) (on : Bool) (operand : Operand) → on ≡ true → is_block (cell_in net place) ≡ false
    → Stands net operand (stands.Closed place) → LetsThrough net place (is_seen on operand)
known_closed net place on operand e none stood = record {
  no_block = none;
  closed_is = λ k now f s sees. sym (stood.stood k now f s sees) ∙ sym (ap (λ o. is_seen o operand s) e);
}

pub literal_is : (net : Network) (c : Cell) (on : Bool) (mode : Mode) (read : diagram.Operand) (memory : Option ℕ) (sought : Operand) → c ≡ Contact mode read memory
    → mode ≡ cond on Plain Negated → Stands net sought (stands.Start read) → IsLiteral net c (is_seen on sought)
literal_is net c on mode read memory sought at e stood =
    let P : Cell → Type 0 = λ o. IsLiteral net o (is_seen on sought) in
    subst P (sym at) (literal_by net on mode read memory sought e stood)

pub same_means : (net : Network) (first second : Meaning) → first ≡ second → Means net first second
same_means net first second e = record { meant = λ k now f s sees. ap (λ m. meant net.program.now net.rung k now f m) e }

pub known_is : (net : Network) (operand : Operand) (variable : ℕ) (meaning : Meaning) (i : ℕ) (none : Known) → operand ≡ Variable variable
    → i < length net.known.now → (get_or net.known.now i none).variable ≡ variable → Means net (get_or net.known.now i none).meaning meaning → Stands net operand meaning
known_is net operand variable meaning i none at less same is = record {
  stood = λ k now f s sees.
      ap (seen s) at ∙ ap (λ n. get_or s.values n false) (sym same) ∙ sees.stands i none less ∙ is.meant k now f s sees;
}

pub literal_at : (net : Network) (place : ℕ) (c : Cell) (through : Frame Bool → Bool) → c ≡ cell_in net place → IsLiteral net c through → LetsThrough net place through
literal_at net place c through e is = record {
  no_block = ap is_block (sym e) ∙ is.no_block;
  closed_is = λ k now f s sees. ap (λ o. closed plain f (memory_of k o) o) (sym e) ∙ is.closed_is (memory_of k c) k now f s sees;
}

pub called_shows : (net : Network) (place instance : ℕ) (ends : Ends) (operand : Operand) → IsEndOf ends place → Block instance ≡ cell_in net place
    → (((s : Frame Bool) → seen s operand ≡ get_or s.ends instance false)) → is_called instance net.done.now ≡ true
    → Shows net ends (λ s. seen s operand)
called_shows net place instance ends operand end e reads called = record {
  shown = λ k now f s sees.
      at_end net place ends end k now f
      ∙ sym (reads s ∙ sees.called instance place (cell_is net.program.now net.rung place end.within ∙ sym e) called);
}

pub through_contact : (net : Network) (place : ℕ) (from middle to : Ends) (through : Frame Bool → Bool) → IsEndOf to place
    → ((k : Kept) (now : ℕ) (f : Frame Bool) → link plain (diagram_of net.program.now) k now net.rung f place ≡ power net.program.now net.rung k now f middle.column middle.rows)
    → LetsThrough net place through → Carries net from middle (λ s. true) → Carries net from to through
through_contact net place from middle to through end fed lets one =
    wire_before net from middle to through one (through_cell net place middle to through end fed lets)
