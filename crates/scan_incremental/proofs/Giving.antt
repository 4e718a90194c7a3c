-- The inputs, and whom they wake.
use Rattle.std.proofs.Common.{◌≡◌, ℕ, ◌<◌, ◌≤◌, Bool, true, false, List, [], ◌∷◌, zero, suc, nat_lt, arith, inl, inr, length, map, get_or, Option, Some, sym, refl, ap, ◌∙◌, subst}
use Rattle.std.proofs.lemmas.Bool.{cases_Bool, ltb-true, ltb-false}
use Rattle.scan_signals.specs.Blocks.{q_of}
use Rattle.scan_cycle.specs.Cells.{Diagram, memory_of}
use Rattle.scan_cycle.specs.Rung.{Held, SameLengths}
use Rattle.diagram_program.specs.Program.{Drawing}
use Rattle.scan_cycle.specs.Scan.{given, after_scan}
use Rattle.scan_cycle.specs.RungByRung.{scanned}
use Rattle.scan_cycle.specs.Programs.{diagram_of, IsSound}
use Rattle.scan_cycle.proofs.ByList.{scanned_is}
use Rattle.scan_cycle.proofs.Scanned.{rungs_back}
use Rattle.scan_cycle.proofs.Sizes.{size-given}
use Rattle.scan_cycle.proofs.Kept.{stored_of}
use Rattle.scan_incremental.specs.Resting.{UsedBy, Memory, IsTrueOf, AreUsers, AllRest, marked, known_next}
use Rattle.scan_incremental.proofs.Frames.{rests_on, rests_later}

pub given_rest : (d : Diagram) → IsSound d → (u : UsedBy) → AreUsers d u → (moment now : ℕ) → moment ≤ now → (flags inputs : List Bool) (h g : Held) (old new : List (Option ℕ)) → g ≡ record h { values = given flags inputs h.values }
    → ((j n : ℕ) → known_next new j ≡ Some n → known_next old j ≡ Some n)
    → ((j n v : ℕ) → known_next new j ≡ Some n → marked u.variables v j ≡ true → get_or g.values v false ≡ get_or h.values v false)
    → AllRest d moment h old → AllRest d now g new
given_rest d sound u users moment now le flags inputs h g old new e known same all = record {
  within = λ j n k. all.within j n (known j n k);
  rests = λ j n k. rests_on d sound u users now j n (all.within j n (known j n k)) h g (record {
    lengths = subst (λ (z : Held). SameLengths z h) (sym e) (record { values = size-given flags inputs h.values; memories = refl; blocks = refl });
    values = λ v. same j n v k;
    outputs = λ i on. ap (λ (z : Held). get_or (map q_of z.kept.blocks) i false) e;
    memories = λ f. ap (λ (z : Held). memory_of z.kept (d.cell j f)) e;
    blocks = λ f. ap (λ (z : Held). stored_of z.kept (d.cell j f)) e;
  }) (rests_later d moment now j n h le (all.rests j n (known j n k)));
}

pub rest_same : (d : Diagram) (now : ℕ) {h g : Held} {next known : List (Option ℕ)} → g ≡ h → next ≡ known → AllRest d now h known → AllRest d now g next
rest_same d now {h} {g} {next} {known} e n all = subst (λ (z : Held). AllRest d now z next) (sym e) (subst (λ (xs : List (Option ℕ)). AllRest d now h xs) (sym n) all)

pub by_rungs : (p : Drawing) → IsSound (diagram_of p) → (now : ℕ) (inputs : List Bool) (h begun next : Held)
    → begun ≡ record h { values = given (diagram_of p).inputs inputs h.values } → next ≡ (scanned (diagram_of p) now begun p.rungs).held
    → next ≡ after_scan (diagram_of p) now inputs h
by_rungs p sound now inputs h begun next b n =
    n
    ∙ ap (λ m. (scanned (diagram_of p) now begun m).held) (rungs_back p)
    ∙ ap (λ (x : Held). (scanned (diagram_of p) now x (diagram_of p).rungs).held) b
    ∙ scanned_is (diagram_of p) sound.forward now (record h { values = given (diagram_of p).inputs inputs h.values })

past : (xs : List Bool) (v : ℕ) → length xs ≤ v → get_or xs v false ≡ false
past [] v le = refl
past (x ∷ xs) zero le = absurd (omega arith)
past (x ∷ xs) (suc v) le = past xs v (omega arith)

-- what is the same below the end is the same everywhere
pub same_past : (xs ys : List Bool) (v n : ℕ) → length xs ≤ n → length ys ≤ n → ((v < n) → get_or xs v false ≡ get_or ys v false) → get_or xs v false ≡ get_or ys v false
same_past xs ys v n lx ly h = elim (cases_Bool (nat_lt v n)) [
  | inl t ↦ h (ltb-true v n t)
  | inr t ↦
      let le : n ≤ v = ltb-false v n t in
      past xs v (omega arith) ∙ sym (past ys v (omega arith))
]

pub true_later : (d : Diagram) (moment now : ℕ) (h : Held) (m : Memory) → moment ≤ now → IsTrueOf d moment h m → IsTrueOf d now h m
true_later d moment now h m le t = record {
  users = t.users;
  all_rest = record {
    within = t.all_rest.within;
    rests = λ j n k. rests_later d moment now j n h le (t.all_rest.rests j n k);
  };
}
