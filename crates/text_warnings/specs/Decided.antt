-- Private: which places have a warning, and which names are similar: each is told one way or the other. Tactics prove equations and
-- contradictions here, and choose no answer.
use Rattle.std.proofs.Common.{◌≡◌, ◌↔◌, ◌⊎◌, ◌<◌, ◌≤◌, ⊎_elim, zero, suc, ◌+◌, ◌/◌, ◌%◌, ℕ, List, [], ◌∷◌, Option, Some, None, true, inl, inr, arith, drop, length, min, refl, ap, slice_get}
use Rattle.std.proofs.lemmas.Bool.{cases_lt}
use Rattle.diagram_declarations.specs.Decls.{Declared}
use Rattle.diagram_declarations.specs.declared.decls.Symbol.{Symbol}
use Rattle.diagram_declarations.specs.declared.decls.Symbol.TheVariants as symbol
use Rattle.diagram_declarations.specs.declared.decls.VarKind.{VarKind}
use Rattle.diagram_declarations.specs.declared.decls.VarKind.TheVariants as kind
use Rattle.diagram_program.specs.declared.geometry.TheConstants.{COLUMNS, PLACES, ROWS}
use Rattle.diagram_program.specs.declared.mode.CoilMode.{CoilMode}
use Rattle.diagram_program.specs.declared.mode.CoilMode.TheVariants as coil
use Rattle.diagram_program.specs.declared.cell.Cell.{Cell}
use Rattle.diagram_program.specs.declared.cell.Cell.TheVariants as cell
use Rattle.diagram_program.specs.declared.cell.Joint.{Joint}
use Rattle.diagram_program.specs.declared.cell.Joint.TheVariants as joint
use Rattle.diagram_program.specs.Program.{Drawing, block_in, cell_in, coil_in, has_coil, is_coil_of, jump_of}
use Rattle.text_warnings.specs.declared.warning.Warning.{Warning}
use Rattle.text_warnings.specs.declared.warning.Warning.TheVariants as warning
use Rattle.text_warnings.specs.Similar.{AddsFirst, AreSimilar, DifferAt, ReplacesFirst}
use Rattle.text_warnings.specs.Warned.{Clashes, Draws, HasCellAt, HasCellBefore, HasCells, IsApart, IsCoilAnd, IsJoinedAt, IsLatch, IsLooseCrossing, IsNeverRead, IsNeverWritten, IsOfKind, IsUnused, IsUnwritten, IsWarned, IsWrittenTwice, Reads, drawn_symbol, operand_of}
use Rattle.text_warnings.specs.Routes.{HasRoute, IsRoute, LeadsNowhere, LeadsThrough}
use Rattle.text_warnings.specs.Ways.{Follows, IsNeverReached, IsReached, IsWay, IsWired, IsWiredBy}
use Rattle.text_warnings.specs.Below.{SomeBelow}
use Rattle.text_warnings.specs.Told.{Told}
use Rattle.text_warnings.specs.Deciding.{alike, both, either, five, four, is_below, is_equal, is_off, is_on, is_some_and, neither, some_below, three}

-- ---- crossings and rows

plus : (j : Joint) → Dec (j ≡ joint.Plus)
plus joint.Plus = yes refl
plus _ = no (λ e. cc)

loose_crossing : (d : Drawing) (rung row column : ℕ) → Dec (IsLooseCrossing d rung row column)
loose_crossing d rung row column = five (is_below 0 column) (is_below (row + 1) ROWS) (plus _) (plus _) (is_off _)

has_cells : (d : Drawing) (rung row : ℕ) → Dec (HasCells d rung row)
has_cells d rung row = some_below (HasCellAt d rung row) COLUMNS (λ column l. is_off _)

joined_at : (d : Drawing) (rung row column : ℕ) → Dec (IsJoinedAt d rung row column)
joined_at d rung row column = either (is_on _) (both (is_below 0 column) (is_on _))

apart : (d : Drawing) (rung row column : ℕ) → Dec (IsApart d rung row column)
apart d rung row column =
    four (is_equal column 0) (has_cells d rung row) (some_below (HasCells d rung) row (λ upper l. has_cells d rung upper))
    (neither (some_below (IsJoinedAt d rung row) COLUMNS (λ k l. joined_at d rung row k)))

-- ---- routes

-- a route begins with the cell that its first link leads to
pub route_step : (d : Drawing) (rung from column : ℕ) → column + 1 < COLUMNS
    → SomeBelow ROWS (λ row. LeadsThrough d rung from row (column + 1) (HasRoute d rung row (column + 1))) ↔ HasRoute d rung from column
unfolding IsRoute LeadsThrough
route_step d rung from column next = (
  λ h. ⊎_elim (λ uses. (h.0 ∷ [], (h.1, next, (h.2.0, inl uses)))) (λ on. (h.0 ∷ on.1.0, (h.1, next, (h.2.0, inr (on.0, on.1.1))))) h.2.1,
  λ h. first h.0 h.1,
)
  where
    first : (rows : List ℕ) → IsRoute d rung from column rows → SomeBelow ROWS (λ row. LeadsThrough d rung from row (column + 1) (HasRoute d rung row (column + 1)))
    first [] route = absurd route
    first (row ∷ rows) route = (row, route.0, (route.2.0, ⊎_elim (λ uses. inl uses) (λ on. inr (on.0, (rows, on.1))) route.2.1))

-- none leads out of the drawing
pub no_route : (d : Drawing) (rung from column : ℕ) → COLUMNS ≤ column + 1 → HasRoute d rung from column → ⊥
unfolding IsRoute
no_route d rung from column past h = none h.0 h.1
  where
    none : (rows : List ℕ) → IsRoute d rung from column rows → ⊥
    none [] route = route
    none (row ∷ rows) route = omega (arith, past, route.1)

route_within : (d : Drawing) (rung n from column : ℕ) → COLUMNS ≤ column + (n + 1) → Dec (HasRoute d rung from column)
unfolding LeadsThrough
route_within d rung zero from column past = no (no_route d rung from column (omega (arith, past)))
route_within d rung (suc n) from column past = ⊎_elim
    (λ (next : column + 1 < COLUMNS). alike (route_step d rung from column next)
    (some_below _ ROWS (λ row l. both (is_on _) (either (is_on _) (both (is_on _) (route_within d rung n row (column + 1) (omega (arith, past))))))))
    (λ (last : COLUMNS ≤ column + 1). no (no_route d rung from column last))
    (cases_lt (column + 1) COLUMNS)

leads_nowhere : (d : Drawing) (rung row column : ℕ) → Dec (LeadsNowhere d rung row column)
leads_nowhere d rung row column = both (is_on _) (neither (route_within d rung COLUMNS row column (omega arith)))

-- ---- ways

wire : (c : Cell) → Dec (c ≡ cell.Wire)
wire cell.Wire = yes refl
wire _ = no (λ e. cc)

wired : (d : Drawing) (rung column row : ℕ) → Dec (IsWired d rung column row)
unfolding IsWired IsWiredBy
wired d rung zero row = yes tt
wired d rung (suc column) row = some_below _ ROWS (λ from l. three (is_on _) (wire _) (wired d rung column from))

follows : (d : Drawing) (before rung : ℕ) → Dec (Follows d before rung)
follows d before rung = either
    (both (is_equal rung (before + 1)) (neither (is_some_and (jump_of d before) _ (λ jump. wired d before jump.1 jump.0))))
    (is_some_and (jump_of d before) _ (λ jump. is_equal jump.2 rung))

-- a way comes from a rung before, or is at the first one
pub way_step : (d : Drawing) (rung : ℕ) → ((rung ≡ 0) ⊎ SomeBelow rung (λ before. IsReached d before × Follows d before rung)) ↔ IsReached d rung
unfolding IsWay
way_step d rung = (
  λ h. ⊎_elim (λ start. ([], start)) (λ from. (from.0 ∷ from.2.0.0, (from.1, from.2.1, from.2.0.1))) h,
  λ h. last h.0 h.1,
)
  where
    last : (way : List ℕ) → IsWay d rung way → (rung ≡ 0) ⊎ SomeBelow rung (λ before. IsReached d before × Follows d before rung)
    last [] h = inl h
    last (before ∷ way) h = inr (before, h.0, ((way, h.2), h.1))

reached_within : (d : Drawing) (n rung : ℕ) → rung < n → Dec (IsReached d rung)
reached_within d zero rung h = absurd (omega (arith, h))
reached_within d (suc n) rung h = alike (way_step d rung)
    (either (is_equal rung 0) (some_below _ rung (λ before l. both (reached_within d n before (omega (arith, l, h))) (follows d before rung))))

never_reached : (d : Drawing) (rung row column : ℕ) → Dec (IsNeverReached d rung row column)
never_reached d rung row column = three (is_equal row 0) (is_equal column 0) (neither (reached_within d (rung + 1) rung (omega arith)))

-- ---- variables and instances

reads : (o : Option Symbol) (s : Symbol) → Dec (o ≡ Some s)
reads (Some (symbol.Var a)) (symbol.Var b) = alike (ap (λ n. Some (symbol.Var n)), λ e. cc) (is_equal a b)
reads (Some (symbol.Instance a)) (symbol.Instance b) = alike (ap (λ n. Some (symbol.Instance n)), λ e. cc) (is_equal a b)
reads _ _ = no (λ e. cc)

draws : (o : Option ℕ) (inst : ℕ) → Dec (o ≡ Some inst)
draws None inst = no (λ e. cc)
draws (Some drawn) inst = alike (ap Some, λ e. cc) (is_equal drawn inst)

of_kind : (k other : VarKind) → Dec (k ≡ other)
of_kind kind.Input kind.Input = yes refl
of_kind kind.Output kind.Output = yes refl
of_kind kind.Memory kind.Memory = yes refl
of_kind _ _ = no (λ e. cc)

declared : (k : VarKind) (names : Declared) (var : ℕ) → Dec (IsOfKind k names var)
declared k names var = is_some_and (slice_get names.vars var) (λ v. v.kind ≡ k) (λ v. of_kind v.kind k)

latch : (m : CoilMode) → Dec (IsLatch m)
latch coil.Set = yes (inl refl)
latch coil.Reset = yes (inr refl)
latch _ = no (grind arith)

coil_and : (c : Cell) (Holds : CoilMode → ℕ → Type 0) → ((mode : CoilMode) (var : ℕ) → Dec (Holds mode var)) → Dec (IsCoilAnd c Holds)
coil_and c Holds each = is_some_and (coil_in c) (λ coil. Holds coil.0 coil.1) (λ coil. each coil.0 coil.1)

cell_before : (d : Drawing) (Such : Cell → Type 0) → ((c : Cell) → Dec (Such c)) → (n : ℕ) → Dec (HasCellBefore d Such n)
cell_before d Such each n = some_below (λ i. Such (cell_in d i)) n (λ i l. each (cell_in d i))

clashes : (mode : CoilMode) (var : ℕ) (c : Cell) → Dec (Clashes mode var c)
unfolding Clashes
clashes mode var c = coil_and c _ (λ other written. both (is_equal written var) (neither (both (latch mode) (latch other))))

written_twice : (d : Drawing) (n : ℕ) → Dec (IsWrittenTwice d n)
written_twice d n = coil_and (cell_in d n) _ (λ mode var. cell_before d (Clashes mode var) (clashes mode var) n)

read_before : (d : Drawing) (s : Symbol) (n : ℕ) → Dec (HasCellBefore d (Reads s) n)
read_before d s n = cell_before d (Reads s) (λ c. reads (operand_of c) s) n

unwritten : (d : Drawing) (s : Symbol) → Dec (IsUnwritten d s)
unwritten d (symbol.Var var) = both (neither (declared kind.Input d.decls var)) (is_off (has_coil var d))
unwritten d (symbol.Instance inst) = neither (cell_before d (λ c. block_in c ≡ Some inst) (λ c. draws (block_in c) inst) (length d.sites))

never_written : (d : Drawing) (n : ℕ) → Dec (IsNeverWritten d n)
never_written d n = is_some_and (operand_of (cell_in d n)) _ (λ s. both (unwritten d s) (neither (read_before d s n)))

never_read : (d : Drawing) (n : ℕ) → Dec (IsNeverRead d n)
never_read d n = coil_and (cell_in d n) _ (λ mode var. three (declared kind.Memory d.decls var)
    (neither (read_before d (symbol.Var var) (length d.sites)))
    (neither (cell_before d (λ c. is_coil_of var c ≡ true) (λ c. is_on (is_coil_of var c)) n)))

-- ---- all

pub warned_or_not : (d : Drawing) (n : ℕ) (w : Warning) → Dec (IsWarned d n w)
warned_or_not d n warning.LooseCrossing = loose_crossing d (n / PLACES) (n % PLACES % ROWS) (n % PLACES / ROWS)
warned_or_not d n warning.Apart = apart d (n / PLACES) (n % PLACES % ROWS) (n % PLACES / ROWS)
warned_or_not d n warning.LeadsNowhere = leads_nowhere d (n / PLACES) (n % PLACES % ROWS) (n % PLACES / ROWS)
warned_or_not d n warning.WrittenTwice = written_twice d n
warned_or_not d n warning.NeverWritten = never_written d n
warned_or_not d n warning.NeverRead = never_read d n
warned_or_not d n warning.NeverReached = never_reached d (n / PLACES) (n % PLACES % ROWS) (n % PLACES / ROWS)

-- ---- names

replaces_first : (a b : List ℕ) → Dec (ReplacesFirst a b)
replaces_first [] b = no (λ h. h)
replaces_first (old ∷ behind) [] = no (λ h. h)
replaces_first (old ∷ behind) (new ∷ after) = four (is_off _) (is_off _) (is_below 0 (length behind)) (is_on _)

adds_first : (a b : List ℕ) → Dec (AddsFirst a b)
adds_first [] b = no (λ h. h)
adds_first (added ∷ behind) b = both (is_off _) (is_on _)

differ_at : (a b : List ℕ) (n : ℕ) → Dec (DifferAt a b n)
unfolding DifferAt
differ_at a b n = both (is_on _) (either (replaces_first (drop n a) (drop n b)) (either (adds_first (drop n a) (drop n b)) (adds_first (drop n b) (drop n a))))

pub similar_or_not : (a b : List ℕ) → Dec (AreSimilar a b)
unfolding AreSimilar
similar_or_not a b =
    three (either (is_below 3 (length a)) (is_below 3 (length b))) (is_off _)
    (some_below (DifferAt a b) (min (length a) (length b) + 1) (λ n l. differ_at a b n))

-- ---- declarations

pub unused_or_not : (d : Drawing) (s : Symbol) → Dec (IsUnused d s)
unused_or_not d s = neither (cell_before d (Draws s) (λ c. reads (drawn_symbol c) s) (length d.sites))

-- ---- all of them

pub decided : Told
decided = record { warned = warned_or_not; similar = similar_or_not; unused = unused_or_not }
