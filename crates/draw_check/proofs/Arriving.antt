-- Evaluation that arrives, and goes on from there.
use Rattle.std.proofs.Common.{◌≡◌, ℕ, ◌<◌, ◌≤◌, List, [], ◌∷◌, sym, subst}
use Rattle.diagram_program.specs.Program.{Drawing}
use Rattle.scan_cycle.specs.Cells.{Diagram}
use Rattle.scan_cycle.specs.Rung.{Held, evaluated}
use Rattle.scan_cycle.specs.Scan.{Evaluates, none_left, one_more, next_rung}
use Rattle.scan_cycle.specs.Programs.{diagram_of}
use Rattle.draw_check.specs.Meaning.{AreSame}
use Rattle.draw_check.specs.Steps.{Arrives, Reaches, here, further}

pub reaches_on : (d : Diagram) (now j k l : ℕ) (g f last : Held) → Reaches d now j g k f → Reaches d now k f l last → Reaches d now j g l last
reaches_on d now _ _ l _ _ last (here j g) then = then
reaches_on d now _ _ l _ _ last (further j k g f lt more) then = further j l g last lt (reaches_on d now _ k l _ f last more then)

pub one_rung : (d : Diagram) (now j k : ℕ) (g last : Held) → j < d.rungs → next_rung d now j g ≡ k → evaluated d now j g ≡ last → Reaches d now j g k last
one_rung d now j k g last lt next is =
    further j k g last lt (subst (λ (n : ℕ). Reaches d now n (evaluated d now j g) k last) (sym next)
    (subst (λ (f : Held). Reaches d now k f k last) (sym is) (here k last)))

module _ (p : Drawing) (n now : ℕ) where
  pub arrives_on : (j k l : ℕ) (g h last : Held) → Arrives p n now j g k h → ((f : Held) → AreSame p n f h → Arrives p n now k f l last) → Arrives p n now j g l last
  arrives_on j k l g h last first then =
      let rest : Arrives p n now k first.0 l last = then first.0 first.2 in
      (rest.0, reaches_on (diagram_of p) now j k l g first.0 rest.0 first.1 rest.1, rest.2)

-- what is reached behind the last rung is what a list of evaluations leaves
pub evaluates : (d : Diagram) (now j k : ℕ) (g last : Held) → d.rungs ≤ k → Reaches d now j g k last → (js : List ℕ) × Evaluates d now j g js last
evaluates d now _ _ _ _ end (here j g) = ([], none_left j g end)
evaluates d now _ _ _ _ end (further j k g last lt more) =
    let rest : (js : List ℕ) × Evaluates d now (next_rung d now j g) (evaluated d now j g) js last = evaluates d now _ k _ last end more in
    (j ∷ rest.0, one_more j g rest.0 last lt rest.1)
