-- Lists of what is known of a set, against those of a state and of a larger set.
use Rattle.std.proofs.Common.{◌≡◌, ◌∙◌, ℕ, Bool, true, false, List, [], ◌∷◌, map, get_or, length, replicate, zero, suc, refl, sym, ap, arith}
use Rattle.diagram_declarations.specs.declared.kind.BlockKind.{BlockKind}
use Rattle.diagram_declarations.specs.declared.kind.BlockKind.TheVariants.{Ton}
use Rattle.scan_signals.specs.declared.block.Stored.{Stored}
use Rattle.scan_signals.specs.Blocks.{q_of, new_block}
use Rattle.scan_signals.specs.Relations.{Both}
use Rattle.scan_cycle.specs.RungByRung.{shape}
use Rattle.scan_cycle.specs.Scan.{given}
use Rattle.scan_symbolic.specs.KnownLaws.{BothAt}
use Rattle.scan_signals.specs.Three.{three_allows, three_known}
use Rattle.scan_signals.specs.declared.tri.Tri.{Tri}
use Rattle.scan_signals.specs.declared.tri.Tri.TheVariants.{Off, On, Unsure}
use Rattle.invariant_cases.specs.Allowing.{Allows}
use Rattle.invariant_cases.specs.OutcomeLaws.{open_answers}
use Rattle.invariant_cases.specs.Outcomes.{KnowsMore, MayStore, TellsMore}
use Rattle.invariant_cases.specs.declared.answer.Answer.TheVariants.{Open}
use Rattle.invariant_cases.specs.declared.outcome.Outcome.TheVariants.{OfKind}
use Rattle.invariant_cases.proofs.Values.{on_off, unsure_known}

-- ---- against a state
one_allows : (t : Tri) (v : Bool) → ((value : Bool) → t ≡ three_known value → v ≡ value) → three_allows t 0 v
one_allows On v e = e true refl
one_allows Off v e = e false refl
one_allows Unsure v e = tt

pub values_allow : (bits : List Tri) (vs : List Bool) → length bits ≡ length vs → ((i : ℕ) (value : Bool) → get_or bits i Unsure ≡ three_known value → get_or vs i false ≡ value)
    → Both Allows bits (map (λ v. v) vs)
values_allow [] [] h e = tt
values_allow [] (v ∷ vs) h e = absurd (omega (arith, h))
values_allow (t ∷ bits) [] h e = absurd (omega (arith, h))
values_allow (t ∷ bits) (v ∷ vs) h e = ((tt, λ _. one_allows t v (e 0)), values_allow bits vs (omega (arith, h)) (λ i. e (suc i)))

pub memories_allow : (n : ℕ) (ms : List Bool) → length ms ≡ n → Both Allows (replicate n Unsure) (map (λ v. v) ms)
memories_allow zero [] h = tt
memories_allow zero (m ∷ ms) h = absurd (omega (arith, h))
memories_allow (suc n) [] h = absurd (omega (arith, h))
memories_allow (suc n) (m ∷ ms) h = ((tt, λ _. tt), memories_allow n ms (omega (arith, h)))

heads : (s : Stored) (ss : List Stored) (k : BlockKind) (ks : List BlockKind) → map shape (s ∷ ss) ≡ map new_block (k ∷ ks) → shape s ≡ new_block k
heads s ss k ks e = cc

tails : (s : Stored) (ss : List Stored) (k : BlockKind) (ks : List BlockKind) → map shape (s ∷ ss) ≡ map new_block (k ∷ ks) → map shape ss ≡ map new_block ks
tails s ss k ks e = cc

none_one : (k : BlockKind) (ks : List BlockKind) → map shape [] ≡ map new_block (k ∷ ks) → ⊥
none_one k ks e = cc

one_none : (s : Stored) (ss : List Stored) → map shape (s ∷ ss) ≡ map new_block [] → ⊥
one_none s ss e = cc

pub blocks_allow : (kind : ℕ → BlockKind) (preset : ℕ → ℕ) (now : ℕ) (kinds : List BlockKind) (bits : List Tri) (ss : List Stored) → ((i : ℕ) → kind i ≡ get_or kinds i Ton)
    → length bits ≡ length kinds → map shape ss ≡ map new_block kinds
    → ((i : ℕ) (value : Bool) → get_or bits i Unsure ≡ three_known value → q_of (get_or ss i (new_block Ton)) ≡ value)
    → BothAt (λ i. MayStore (kind i) (preset i) now) (map (λ t. OfKind t Open) bits) (map (λ s. s) ss)
blocks_allow kind preset now [] [] [] k h e f = tt
blocks_allow kind preset now [] [] (s ∷ ss) k h e f = absurd (one_none s ss e)
blocks_allow kind preset now [] (t ∷ bits) ss k h e f = absurd (omega (arith, h))
blocks_allow kind preset now (x ∷ kinds) [] ss k h e f = absurd (omega (arith, h))
blocks_allow kind preset now (x ∷ kinds) (t ∷ bits) [] k h e f = absurd (none_one x kinds e)
blocks_allow kind preset now (x ∷ kinds) (t ∷ bits) (s ∷ ss) k h e f =
    let fits = heads s ss x kinds e ∙ sym (ap new_block (k 0)) in (
      (fits, one_allows t (q_of s) (f 0), open_answers (kind 0) (preset 0) now s fits),
      blocks_allow (λ i. kind (suc i)) (λ i. preset (suc i)) now kinds bits ss (λ i. k (suc i)) (omega (arith, h)) (tails s ss x kinds e) (λ i. f (suc i)),
    )

-- ---- inputs
pub given_none : (flags vs : List Bool) → given flags [] vs ≡ vs
given_none [] vs = refl
given_none (true ∷ flags) [] = refl
given_none (false ∷ flags) [] = refl
given_none (true ∷ flags) (v ∷ vs) = ap (λ ws. v ∷ ws) (given_none flags vs)
given_none (false ∷ flags) (v ∷ vs) = ap (λ ws. v ∷ ws) (given_none flags vs)

-- a variable that is no input keeps its value
pub given_same : (flags xs vs : List Bool) (i : ℕ) → get_or flags i false ≡ false → get_or (given flags xs vs) i false ≡ get_or vs i false
given_same [] xs vs i e = refl
given_same (true ∷ flags) xs [] i e = refl
given_same (false ∷ flags) xs [] i e = refl
given_same (true ∷ flags) [] (v ∷ vs) zero e = absurd (on_off e)
given_same (true ∷ flags) (x ∷ xs) (v ∷ vs) zero e = absurd (on_off e)
given_same (true ∷ flags) [] (v ∷ vs) (suc i) e = given_same flags [] vs i e
given_same (true ∷ flags) (x ∷ xs) (v ∷ vs) (suc i) e = given_same flags xs vs i e
given_same (false ∷ flags) xs (v ∷ vs) zero e = refl
given_same (false ∷ flags) xs (v ∷ vs) (suc i) e = given_same flags xs vs i e

pub no_input_in : (flag value : Bool) (t : Tri) → (flag ≡ true → t ≡ Unsure) → t ≡ three_known value → flag ≡ false
no_input_in true value t e f = absurd (unsure_known value (sym (e refl) ∙ f))
no_input_in false value t e f = refl

-- ---- against a larger set
one_more : (t u : Tri) → ((value : Bool) → t ≡ three_known value → u ≡ three_known value) → KnowsMore t u
one_more On u e = e true refl
one_more Off u e = e false refl
one_more Unsure u e = tt

pub values_more : (bits more : List Tri) → length bits ≡ length more
    → ((i : ℕ) (value : Bool) → get_or bits i Unsure ≡ three_known value → get_or more i Unsure ≡ three_known value) → Both KnowsMore bits more
values_more [] [] h e = tt
values_more [] (u ∷ more) h e = absurd (omega (arith, h))
values_more (t ∷ bits) [] h e = absurd (omega (arith, h))
values_more (t ∷ bits) (u ∷ more) h e = (one_more t u (e 0), values_more bits more (omega (arith, h)) (λ i. e (suc i)))

pub memories_more : (n : ℕ) → Both KnowsMore (replicate n Unsure) (replicate n Unsure)
memories_more zero = tt
memories_more (suc n) = (tt, memories_more n)

pub blocks_more : (bits more : List Tri) → length bits ≡ length more
    → ((i : ℕ) (value : Bool) → get_or bits i Unsure ≡ three_known value → get_or more i Unsure ≡ three_known value)
    → BothAt (λ i. TellsMore) (map (λ t. OfKind t Open) bits) (map (λ t. OfKind t Open) more)
blocks_more [] [] h e = tt
blocks_more [] (u ∷ more) h e = absurd (omega (arith, h))
blocks_more (t ∷ bits) [] h e = absurd (omega (arith, h))
blocks_more (t ∷ bits) (u ∷ more) h e = ((one_more t u (e 0), tt), blocks_more bits more (omega (arith, h)) (λ i. e (suc i)))
