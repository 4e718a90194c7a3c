use Rattle.std.proofs.Common.{◌≡◌, ◌∙◌, ◌+◌, ◌<◌, ◌≤◌, ◌↔◌, ℕ, List, Bool, false, IsTrue, arith, get_or, length, set, ⊎_elim}
use Rattle.std.proofs.lemmas.Bool.{cases_lt}
use Rattle.std.proofs.lemmas.Grind.{get_or-set_at}
use Rattle.std.proofs.lemmas.List.{get_or-set_other, length-set}
use Rattle.clp_meaning.specs.Sheets.{Reached}
use Rattle.clp_meaning.proofs.power.reached_in.Goals as goal

-- one value more of those that are kept
set_more : (holds : ℕ → Type 0) (xs : List Bool) (i : ℕ) (x : Bool) → i < length xs → IsTrue x ↔ holds i → ((k : ℕ) → k < i → IsTrue (get_or xs k false) ↔ holds k)
    → (k : ℕ) → k < i + 1 → IsTrue (get_or (set xs i x) k false) ↔ holds k
set_more holds xs i x long here before k h = ⊎_elim
    (λ (l : k < i). rw (get_or-set_other xs i k x false (λ e. omega (arith, l, e))) (before k l))
    (λ (l : i ≤ k). let e : k ≡ i = omega (arith, l, h) in rw (get_or-set_at xs i k x false e long, e) here)
    (cases_lt k i)

pub loop-row-preserved : goal.loop-row-preserved
loop-row-preserved c =
    let inv = c.loop-row.invariant in
    let reach = c.loop-row.reached in
    let i = c.loop-row.row in (
      set_more (Reached c.args.reading c.args.elements.now c.args.column) reach i c.reaches.result (omega (arith, inv.1, c.loop-row-test.true)) c.reaches.ensures inv.0,
      length-set reach i c.reaches.result ∙ inv.1,
    )
