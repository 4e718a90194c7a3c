-- The keeping of instances over three values: what is known of each while inputs are open.
use Rattle.std.specs.Prelude.{◌≡◌, ℕ, Bool, true, false, if◌then◌else◌, ◌&&◌, ◌==◌, not, pos, int_le}
use Rattle.std.specs.Ordering.{int_eq}
use Rattle.diagram_declarations.specs.declared.kind.BlockKind.{BlockKind}
use Rattle.diagram_declarations.specs.declared.kind.BlockKind.TheVariants.{Ton, Tof, Tp, Ctu, Ctd, Sr, Rs}
use Rattle.scan_signals.specs.declared.block.Stored.{Stored}
use Rattle.scan_signals.specs.declared.block.Stored.TheVariants.{Timer, Counter, Bistable}
use Rattle.scan_signals.specs.Blocks.{step, q_of}
use Rattle.scan_symbolic.specs.KnownScan.{Keeping}
use Rattle.scan_signals.specs.Three.{three_known, three_join, three_meet, three_choice, three_allows}
use Rattle.scan_held.specs.declared.partly.Partly.{Partly}
use Rattle.scan_held.specs.declared.partly.Partly.TheVariants.{Exactly, SomeTimer, SomeCounter, SomeBistable, Anything}
use Rattle.scan_signals.specs.declared.tri.Tri.{Tri}
use Rattle.scan_signals.specs.declared.tri.Tri.TheVariants.{Off, On, Unsure}

-- The sort alone, with the Q.
abbrev pub loosened : Stored → Partly
loosened (Timer last running start q) = SomeTimer (three_known q)
loosened (Counter last cv q) = SomeCounter (three_known q)
loosened (Bistable q) = SomeBistable (three_known q)

-- what is known of the Q
abbrev pub q_partly : Partly → Tri
q_partly (Exactly s) = three_known (q_of s)
q_partly (SomeTimer q) = q
q_partly (SomeCounter q) = q
q_partly (SomeBistable q) = q
q_partly Anything = Unsure

-- The sort of both, with what their Qs agree on; nothing where the sorts differ.
abbrev pub merged_sort : Partly → Partly → Partly
merged_sort (SomeTimer q) (SomeTimer r) = SomeTimer (three_choice Unsure q r)
merged_sort (SomeCounter q) (SomeCounter r) = SomeCounter (three_choice Unsure q r)
merged_sort (SomeBistable q) (SomeBistable r) = SomeBistable (three_choice Unsure q r)
merged_sort x y = Anything

-- what stays known where only the sort and the Q are kept
abbrev pub sort_of : Partly → Partly
sort_of (Exactly s) = loosened s
sort_of (SomeTimer q) = SomeTimer q
sort_of (SomeCounter q) = SomeCounter q
sort_of (SomeBistable q) = SomeBistable q
sort_of Anything = Anything

abbrev pub same_bool : Bool → Bool → Bool
same_bool true b = b
same_bool false b = not b

-- Whether the same is stored.
abbrev pub same_stored : Stored → Stored → Bool
same_stored (Timer last running start q) (Timer last2 running2 start2 q2) =
    same_bool last last2 && (same_bool running running2 && (start == start2 && same_bool q q2))
same_stored (Counter last cv q) (Counter last2 cv2 q2) = same_bool last last2 && (int_eq cv cv2 && same_bool q q2)
same_stored (Bistable q) (Bistable q2) = same_bool q q2
same_stored s t = false

-- What is known where it is one of two, and open which: what is stored where both store the same, otherwise the sort.
abbrev pub merged : Partly → Partly → Partly
merged (Exactly s) (Exactly t) = if same_stored s t then Exactly s else merged_sort (loosened s) (loosened t)
merged x y = merged_sort (sort_of x) (sort_of y)

abbrev pub choice_partly : Tri → Partly → Partly → Partly
choice_partly On x y = x
choice_partly Off x y = y
choice_partly Unsure x y = merged x y

-- A step with known inputs. Where the sort alone is known, IN OFF makes all of a TON known, and IN ON all of a TOF; so do R of a CTU and
-- LD of a CTD.
unfoldable pub step_known : BlockKind → ℕ → Partly → Bool → Bool → ℕ → Partly
step_known kind preset (Exactly s) x y now = Exactly (step kind preset s x y now)
step_known Ton preset (SomeTimer q) true y now = SomeTimer Unsure
step_known Ton preset (SomeTimer q) false y now = Exactly (Timer false false 0 false)
step_known Tof preset (SomeTimer q) true y now = Exactly (Timer true false 0 true)
step_known Tof preset (SomeTimer q) false y now = SomeTimer Unsure
step_known Tp preset (SomeTimer q) x y now = SomeTimer Unsure
step_known Ctu preset (SomeCounter q) x true now = Exactly (Counter x (pos 0) (int_le (pos preset) (pos 0)))
step_known Ctu preset (SomeCounter q) x false now = SomeCounter Unsure
step_known Ctd preset (SomeCounter q) x true now = Exactly (Counter x (pos preset) (int_le (pos preset) (pos 0)))
step_known Ctd preset (SomeCounter q) x false now = SomeCounter Unsure
step_known Sr preset (SomeBistable q) x y now = SomeBistable (three_join (three_known x) (three_meet (three_known (not y)) q))
step_known Rs preset (SomeBistable q) x y now = SomeBistable (three_meet (three_known (not y)) (three_join (three_known x) q))
step_known kind preset other x y now = other

-- By an input: what is left with its value, or with either where it is open.
abbrev pub by_input : Tri → (Bool → Partly) → Partly
by_input x f = choice_partly x (f true) (f false)

abbrev pub step_partly : BlockKind → ℕ → Partly → Tri → Tri → ℕ → Partly
step_partly kind preset b x y now = by_input x (λ first. by_input y (λ second. step_known kind preset b first second now))

abbrev pub partly : Keeping Tri Partly
partly = record { stored = λ s. Exactly s; q = q_partly; step = step_partly; choice = choice_partly }

-- What may be stored where this is known.
abbrev pub may_store : Partly → Stored → Type 0
may_store (Exactly s) t = t ≡ s
may_store (SomeTimer q) (Timer last running start b) = three_allows q 0 b
may_store (SomeCounter q) (Counter last cv b) = three_allows q 0 b
may_store (SomeBistable q) (Bistable b) = three_allows q 0 b
may_store Anything t = Unit {0}
may_store x t = ⊥
