-- The scan rung by rung goes along the list of evaluated rungs.
use Rattle.std.proofs.Common.{◌≡◌, ℕ, ◌+◌, ◌<◌, ◌≤◌, max, Bool, true, false, cond, List, [], ◌∷◌, zero, suc, nat_lt, refl, sym, ap, subst, ◌∙◌, arith, Option, Some, None}
use Rattle.std.proofs.lemmas.Bool.Decides.{nat_tests}
use Rattle.std.proofs.lemmas.Bool.{lt-ltb, le-ltb}
use Rattle.scan_cycle.specs.Cells.{Diagram}
use Rattle.scan_cycle.specs.Rung.{Held, link_at, evaluated}
use Rattle.scan_cycle.specs.Scan.{Evaluates, none_left, one_more, evaluated_from, next_rung, given}
use Rattle.scan_cycle.specs.RungByRung.{rung_after, Scanned, scanned}
use Rattle.scan_cycle.specs.Laws.{Forward, FollowsJumps}

unfoldable From : Diagram → ℕ → ℕ → Scanned → Held → Type 0
From d now n s last = (js : List ℕ) × Evaluates d now (max n s.resume) s.held js last

skip_max : (n r : ℕ) → nat_lt n r ≡ true → max (suc n) r ≡ max n r
skip_max n r h = grind (arith, nat_tests)

take_max : (n r : ℕ) → nat_lt n r ≡ false → max n r ≡ n
take_max n r h = grind (arith, nat_tests)

either_after : (n target : ℕ) (b : Bool) → n < target → n < cond b target (n + 1)
either_after n target true h = h
either_after n target false h = omega arith

-- the next rung is a later one
pub next_after : (n : ℕ) (leap : Option (ℕ × ℕ)) (links : ℕ → Bool) → ((place target : ℕ) → leap ≡ Some (place, target) → n < target)
    → n < rung_after n leap links
next_after n None links h = omega arith
next_after n (Some (place, target)) links h = either_after n target (links place) (h place target refl)

goes_on : (n next : ℕ) → n < next → max (suc n) next ≡ next
goes_on n next h = grind (arith, nat_tests)

back : (d : Diagram) → Forward d → (now n : ℕ) (s : Scanned) (last : Held) (b : Bool) → nat_lt n s.resume ≡ b → n < d.rungs →
    From d now (suc n) (cond b s (record { held = evaluated d now n s.held; resume = next_rung d now n s.held })) last → From d now n s last
unfolding From
back d forward now n s last true e h w = (w.0, subst (λ (x : ℕ). Evaluates d now x s.held w.0 last) (skip_max n s.resume e) w.1)
back d forward now n s last false e h w = (
  n ∷ w.0,
  subst (λ (x : ℕ). Evaluates d now x s.held (n ∷ w.0) last) (sym (take_max n s.resume e))
      (one_more n s.held w.0 last h
      (subst (λ (x : ℕ). Evaluates d now x (evaluated d now n s.held) w.0 last) (goes_on n (next_rung d now n s.held) (next_after n (d.jump n) (link_at d now n s.held) (forward n))) w.1)),
)

from : (d : Diagram) → Forward d → (now : ℕ) (h : Held) (left n : ℕ) → n + left ≡ d.rungs → From d now n (scanned d now h n) (scanned d now h d.rungs).held
unfolding From scanned
from d forward now h zero n e =
    let end : n ≡ d.rungs = omega arith in (
      [],
      subst (λ (x : ℕ). Evaluates d now (max n (scanned d now h n).resume) (scanned d now h n).held [] (scanned d now h x).held) end
          (none_left (max n (scanned d now h n).resume) (scanned d now h n).held (omega arith)),
    )
from d forward now h (suc left) n e =
    back d forward now n (scanned d now h n) (scanned d now h d.rungs).held (nat_lt n (scanned d now h n).resume) refl (omega arith) (from d forward now h left (suc n) (omega arith))

scan_is_list : (d : Diagram) → Forward d → (now : ℕ) (h : Held) → (js : List ℕ) × Evaluates d now 0 h js (scanned d now h d.rungs).held
unfolding From scanned
scan_is_list d forward now h = from d forward now h d.rungs 0 (omega arith)

-- ---- what the evaluation of such a list leaves is the function's value
evaluated_is : (d : Diagram) → Forward d → (now j : ℕ) (h : Held) (js : List ℕ) (last : Held) → Evaluates d now j h js last → (most : ℕ) → d.rungs ≤ j + most → last ≡ evaluated_from d now most j h
unfolding evaluated_from
evaluated_is d forward now _ _ _ _ (none_left j h end) zero e = refl
evaluated_is d forward now _ _ _ _ (none_left j h end) (suc most) e =
    ap (λ b. cond b (evaluated_from d now most (next_rung d now j h) (evaluated d now j h)) h) (sym (le-ltb j d.rungs end))
evaluated_is d forward now _ _ _ _ (one_more j h more last lt rest) zero e = absurd (omega arith)
evaluated_is d forward now _ _ _ _ (one_more j h more last lt rest) (suc most) e =
    let after : j < next_rung d now j h = next_after j (d.jump j) (link_at d now j h) (forward j) in
    evaluated_is d forward now (next_rung d now j h) (evaluated d now j h) more last rest most (omega arith)
    ∙ ap (λ b. cond b (evaluated_from d now most (next_rung d now j h) (evaluated d now j h)) h) (sym (lt-ltb j d.rungs lt))

pub scanned_is : (d : Diagram) → Forward d → (now : ℕ) (h : Held) → (scanned d now h d.rungs).held ≡ evaluated_from d now d.rungs 0 h
scanned_is d forward now h =
    let w : (js : List ℕ) × Evaluates d now 0 h js (scanned d now h d.rungs).held = scan_is_list d forward now h in
    evaluated_is d forward now 0 h w.0 (scanned d now h d.rungs).held w.1 d.rungs (omega arith)

pub follows : (d : Diagram) → Forward d → FollowsJumps d
follows d forward = record {
  found = λ h now inputs.
      let start : Held = record { values = given d.inputs inputs h.values; kept = h.kept } in
      let w : (js : List ℕ) × Evaluates d now 0 start js (scanned d now start d.rungs).held = scan_is_list d forward now start in
      (w.0, subst (λ (x : Held). Evaluates d now 0 start w.0 x) (scanned_is d forward now start) w.1);
  alone = λ h now inputs js last e. evaluated_is d forward now 0 (record { values = given d.inputs inputs h.values; kept = h.kept }) js last e d.rungs (omega arith);
}
