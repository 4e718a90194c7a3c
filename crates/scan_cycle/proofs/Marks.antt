-- The marks that are made rung by rung are those of the scan.
use Rattle.std.proofs.Common.{◌≡◌, ◌∙◌, ℕ, ◌+◌, ◌-◌, ◌*◌, ◌<◌, ◌≤◌, ◌⊎◌, inl, inr, Bool, false, cond, List, [], ◌++◌, ◌∷◌, get_or, length, map, suc, zero, add-one, refl, ap, sym, subst, append-nil, append_assoc, length-append, arith}
use Rattle.std.proofs.lemmas.Bool.{cases_lt, lt-ltb, le-ltb}
use Rattle.std.proofs.lemmas.List.{get_or_append_left, get_or-append_right}
use Rattle.diagram_declarations.specs.Decls.{is_input}
use Rattle.diagram_program.specs.declared.geometry.TheConstants.{ROWS, PLACES}
use Rattle.diagram_program.specs.AllPlaces.{first_places}
use Rattle.diagram_program.proofs.PlaceLaws.{first_places-at, length-first_places, same_list}
use Rattle.diagram_program.specs.Program.{Drawing}
use Rattle.scan_cycle.specs.declared.seen.Mark.{Mark}
use Rattle.scan_cycle.specs.Cells.{Diagram}
use Rattle.scan_cycle.specs.Laws.{Forward}
use Rattle.scan_cycle.specs.Rung.{Held, evaluated, link_at}
use Rattle.scan_cycle.specs.RungByRung.{Scanned, scanned}
use Rattle.scan_cycle.specs.Scan.{given, next_rung}
use Rattle.scan_cycle.specs.Programs.{diagram_of, IsSound}
use Rattle.scan_cycle.specs.Seen.{AreMarks, AreMarksFrom, Comes, OneSight, PassesOver, at_first, goes_on, mark_in, mark_passed}
use Rattle.scan_cycle.specs.Marking.{mark_of, marks_below}
use Rattle.scan_cycle.proofs.ByList.{next_after}
use Rattle.scan_cycle.proofs.Rungs.{gone_through, passed_over}
use Rattle.scan_cycle.proofs.Scanned.{rungs_back, inputs_back}

-- ---- place by place

-- no place yet
pub at_none : (f : ℕ → Mark) (old : List Mark) → old ≡ old ++ first_places f 0
unfolding first_places
at_none f old = sym (append-nil old)

-- one place more
pub at_one_more : (f : ℕ → Mark) (old now next : List Mark) (n : ℕ) (x : Mark) → now ≡ old ++ first_places f n → next ≡ now ++ x ∷ [] → x ≡ f n
    → next ≡ old ++ first_places f (n + 1)
unfolding first_places
at_one_more f old now next n x i e h =
    e
    ∙ ap (λ t. t ++ x ∷ []) i
    ∙ append_assoc old (first_places f n) (x ∷ [])
    ∙ ap (λ y. old ++ (first_places f n ++ y ∷ [])) h
    ∙ sym (ap (λ m. old ++ first_places f m) (add-one n))

-- ---- rung by rung

-- the marks of a rung by whether it is passed over
by_case : Diagram → ℕ → ℕ → Scanned → Bool → List Mark
by_case d now j s b = first_places (λ place. cond b (mark_passed s.held (d.cell j place)) (mark_in d now j s.held place)) PLACES

pub marks_first : (d : Diagram) (now : ℕ) (h : Held) → marks_below d now h 0 ≡ []
unfolding marks_below
marks_first d now h = refl

pub marks_passed : (d : Diagram) (now : ℕ) (h : Held) (j : ℕ) → j < (scanned d now h j).resume
    → marks_below d now h (j + 1) ≡ marks_below d now h j ++ first_places (λ place. mark_passed (scanned d now h j).held (d.cell j place)) PLACES
unfolding marks_below by_case
marks_passed d now h j lt =
    ap (marks_below d now h) (add-one j)
    ∙ ap (λ b. marks_below d now h j ++ by_case d now j (scanned d now h j) b) (lt-ltb j _ lt)

pub marks_seen : (d : Diagram) (now : ℕ) (h : Held) (j : ℕ) → (scanned d now h j).resume ≤ j
    → marks_below d now h (j + 1) ≡ marks_below d now h j ++ first_places (mark_in d now j (scanned d now h j).held) PLACES
unfolding marks_below by_case
marks_seen d now h j le =
    ap (marks_below d now h) (add-one j)
    ∙ ap (λ b. marks_below d now h j ++ by_case d now j (scanned d now h j) b) (le-ltb j _ le)

pub marks_length : (d : Diagram) (now : ℕ) (h : Held) (n : ℕ) → length (marks_below d now h n) ≡ PLACES * n
unfolding marks_below
marks_length d now h zero = refl
marks_length d now h (suc n) =
    let f = mark_of d now n (scanned d now h n) in
    omega (arith, marks_length d now h n, length-append {A = Mark} (marks_below d now h n) (first_places f PLACES), length-first_places f PLACES)

pub marks_there : (d : Diagram) (now : ℕ) (h : Held) (n j p : ℕ) (z : Mark) → j < n → p < PLACES
    → get_or (marks_below d now h n) (PLACES * j + p) z ≡ mark_of d now j (scanned d now h j) p
unfolding marks_below
marks_there d now h zero j p z below place = absurd (omega arith)
marks_there d now h (suc n) j p z below place =
    let f = mark_of d now n (scanned d now h n) in
    elim (cases_lt j n) [
      | inl before ↦
          get_or_append_left (marks_below d now h n) (first_places f PLACES) z (PLACES * j + p) (omega (arith, before, place, marks_length d now h n))
          ∙ marks_there d now h n j p z before place
      | inr past ↦
          let here : n ≡ j = omega arith in
          let back : PLACES * j + p - PLACES * n ≡ p = omega (arith, here) in
          get_or-append_right (marks_below d now h n) (first_places f PLACES) (PLACES * n) (PLACES * j + p) z (marks_length d now h n) (omega (arith, here))
          ∙ ap (λ i. get_or (first_places f PLACES) i z) back
          ∙ first_places-at f PLACES p z place
          ∙ ap (λ k. mark_of d now k (scanned d now h k) p) here
    ]

-- ---- where the scan is

-- After the rungs below k: the last one that was evaluated, and where the scan goes on.
record After (d : Diagram) (now : ℕ) (first : Held) (k : ℕ) (s : Scanned) : Type 0 where
  above : ℕ
  start : Held
  comes : Comes d now first above start
  before : above < k
  held : s.held ≡ evaluated d now above start
  resume : s.resume ≡ next_rung d now above start
  ahead : k ≤ s.resume

-- the rung k evaluated
evaluates : (d : Diagram) → Forward d → (now : ℕ) (first start : Held) (k : ℕ) (s : Scanned) → Comes d now first k start → s.held ≡ start
    → After d now first (suc k) (record { held = evaluated d now k s.held; resume = next_rung d now k s.held })
evaluates d forward now first start k s comes e = record {
  above = k;
  start = start;
  comes = comes;
  before = omega arith;
  held = ap (evaluated d now k) e;
  resume = ap (next_rung d now k) e;
  ahead = next_after k (d.jump k) (link_at d now k s.held) (forward k);
}

-- the scan has come to the rung at which it goes on
come : (d : Diagram) (now : ℕ) (first : Held) (k : ℕ) (s : Scanned) → After d now first k s → s.resume ≡ k → Comes d now first k s.held
come d now first k s a e =
    let there : Comes d now first (next_rung d now a.above a.start) (evaluated d now a.above a.start) = goes_on a.above a.start a.comes in
    subst (λ (j : ℕ). Comes d now first j s.held) (sym a.resume ∙ e)
    (subst (λ (h : Held). Comes d now first (next_rung d now a.above a.start) h) (sym a.held) there)

after : (d : Diagram) → Forward d → (now : ℕ) (first : Held) (k : ℕ) → After d now first (suc k) (scanned d now first (suc k))
unfolding scanned
after d forward now first zero = evaluates d forward now first first 0 (scanned d now first 0) at_first refl
after d forward now first (suc k) =
    let s = scanned d now first (suc k) in
    let a = after d forward now first k in
    elim (cases_lt (suc k) s.resume) [
      | inl over ↦
          subst (After d now first (suc (suc k))) (sym (sym (ap (scanned d now first) (add-one (suc k))) ∙ passed_over d now first (suc k) over)) (record {
            above = a.above;
            start = a.start;
            comes = a.comes;
            before = omega (arith, a.before);
            held = a.held;
            resume = a.resume;
            ahead = over;
          })
      | inr on ↦
          subst (After d now first (suc (suc k))) (sym (sym (ap (scanned d now first) (add-one (suc k))) ∙ gone_through d now first (suc k) on))
          (evaluates d forward now first s.held (suc k) s (come d now first (suc k) s a (omega (arith, a.ahead, on))) refl)
    ]

-- ---- the marks of a scan

abbrev Marked : Diagram → ℕ → Held → ℕ → ℕ → Mark → Type 0
Marked d now first j place m =
    ((start : Held) × Comes d now first j start × (m ≡ mark_in d now j start place))
    ⊎ ((kept : Held) × PassesOver d now first j kept × (m ≡ mark_passed kept (d.cell j place)))

marked : (d : Diagram) → Forward d → (now : ℕ) (first : Held) (j place : ℕ) → Marked d now first j place (mark_of d now j (scanned d now first j) place)
unfolding scanned
marked d forward now first zero place = inl (first, at_first, refl)
marked d forward now first (suc k) place =
    let j = suc k in
    let s = scanned d now first j in
    let a = after d forward now first k in
    let by = λ (b : Bool). cond b (mark_passed s.held (d.cell j place)) (mark_in d now j s.held place) in
    elim (cases_lt j s.resume) [
      | inl over ↦
          inr (
            s.held,
            record {
              above = a.above;
              start = a.start;
              comes = a.comes;
              between = (a.before, subst (λ (r : ℕ). j < r) a.resume over);
              leaves = a.held;
            },
            ap by (lt-ltb j s.resume over),
          )
      | inr on ↦ inl (s.held, come d now first j s a (omega (arith, a.ahead, on)), ap by (le-ltb j s.resume on))
    ]

marks_from : (d : Diagram) → Forward d → (now : ℕ) (first : Held) → AreMarksFrom d now first (marks_below d now first d.rungs)
marks_from d forward now first = record {
  as_many = marks_length d now first d.rungs;
  each = λ j place below within.
      subst (Marked d now first j place) (sym (marks_there d now first d.rungs j place _ below within)) (marked d forward now first j place);
}

-- all places of a scan, from the given inputs on
pub marks_begun : (p : Drawing) → IsSound (diagram_of p) → (now : ℕ) (inputs : List Bool) (h begun : Held) (marks : List Mark)
    → begun ≡ record h { values = given (map is_input p.decls.vars) inputs h.values } → marks ≡ marks_below (diagram_of p) now begun p.rungs
    → AreMarks (diagram_of p) now inputs h marks
marks_begun p sound now inputs h begun marks b e =
    let d = diagram_of p in
    let first : Held = record { values = given d.inputs inputs h.values; kept = h.kept } in
    subst (AreMarksFrom d now first)
    (sym (e ∙ ap (marks_below d now begun) (rungs_back p)
    ∙ ap (λ (x : Held). marks_below d now x d.rungs) (b ∙ ap (λ (fs : List Bool). record h { values = given fs inputs h.values }) (inputs_back p))))
    (marks_from d sound.forward now first)

-- ---- no other marks

-- until the rung at which it goes on, the scan stays as it is
stays : (d : Diagram) (now : ℕ) (first : Held) (i n : ℕ) (s : Scanned) → scanned d now first i ≡ s → i + n ≤ s.resume → scanned d now first (i + n) ≡ s
stays d now first i zero s e h =
    let here : i + 0 ≡ i = omega arith in ap (scanned d now first) here ∙ e
stays d now first i (suc n) s e h =
    let there : i + suc n ≡ i + n + 1 = omega arith in
    let before = stays d now first i n s e (omega (arith, h)) in
    let over : i + n < s.resume = omega (arith, h) in
    ap (scanned d now first) there
    ∙ passed_over d now first (i + n) (subst (λ (x : Scanned). i + n < x.resume) (sym before) over)
    ∙ before

-- from a rung that is evaluated to the next one
until_next : (d : Diagram) (now : ℕ) (first start : Held) (j i : ℕ) → scanned d now first j ≡ record { held = start; resume = j } → j < i → i ≤ next_rung d now j start
    → scanned d now first i ≡ record { held = evaluated d now j start; resume = next_rung d now j start }
until_next d now first start j i here above within =
    let s : Scanned = record { held = evaluated d now j start; resume = next_rung d now j start } in
    let on : (scanned d now first j).resume ≤ j = omega (arith, ap (λ (x : Scanned). x.resume) here) in
    let one : scanned d now first (j + 1) ≡ s =
    gone_through d now first j on ∙ ap (λ (x : Scanned). record { held = evaluated d now j x.held; resume = next_rung d now j x.held }) here in
    let there : i ≡ j + 1 + (i - (j + 1)) = omega (arith, above) in
    let far : j + 1 + (i - (j + 1)) ≤ next_rung d now j start = omega (arith, above, within) in
    ap (scanned d now first) there ∙ stays d now first (j + 1) (i - (j + 1)) s one far

at_rung : (d : Diagram) → Forward d → (now : ℕ) (first : Held) (j : ℕ) (start : Held) → Comes d now first j start
    → scanned d now first j ≡ record { held = start; resume = j }
unfolding scanned
at_rung d forward now first _ _ at_first = refl
at_rung d forward now first _ _ (goes_on j start comes) =
    let ahead : j < next_rung d now j start = next_after j (d.jump j) (link_at d now j start) (forward j) in
    until_next d now first start j (next_rung d now j start) (at_rung d forward now first j start comes) ahead (omega arith)

told : (d : Diagram) → Forward d → (now : ℕ) (first : Held) (j place : ℕ) (m : Mark) → Marked d now first j place m
    → m ≡ mark_of d now j (scanned d now first j) place
told d forward now first j place m (inl (start, comes, e)) =
    let by = λ (b : Bool). cond b (mark_passed start (d.cell j place)) (mark_in d now j start place) in
    e ∙ sym (ap (λ (s : Scanned). mark_of d now j s place) (at_rung d forward now first j start comes) ∙ ap by (le-ltb j j (omega arith)))
told d forward now first j place m (inr (kept, over, e)) =
    let by = λ (b : Bool). cond b (mark_passed (evaluated d now over.above over.start) (d.cell j place)) (mark_in d now j (evaluated d now over.above over.start) place) in
    let here = at_rung d forward now first over.above over.start over.comes in
    let within : j ≤ next_rung d now over.above over.start = omega (arith, over.between.1) in
    e
    ∙ ap (λ (h : Held). mark_passed h (d.cell j place)) over.leaves
    ∙ sym (ap (λ (s : Scanned). mark_of d now j s place) (until_next d now first over.start over.above j here over.between.0 within)
    ∙ ap by (lt-ltb j (next_rung d now over.above over.start) over.between.1))

pub one_sight : (d : Diagram) → Forward d → OneSight d
one_sight d forward = λ now inputs h a b p q.
    let first : Held = record { values = given d.inputs inputs h.values; kept = h.kept } in
    same_list (record { evaluated = false; left = false; right = false; on = false }) d.rungs a b p.as_many q.as_many (λ k r c below rows columns.
    let within : ROWS * c + r < PLACES = omega (arith, rows, columns) in
    told d forward now first k (ROWS * c + r) _ (p.each k (ROWS * c + r) below within)
    ∙ sym (told d forward now first k (ROWS * c + r) _ (q.each k (ROWS * c + r) below within)))
