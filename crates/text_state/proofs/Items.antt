-- What the fields of a block's record say.
use Rattle.std.proofs.Common.{◌≡◌, ◌∙◌, sym, ◌≤◌, ℕ, List, [], ◌∷◌, Option, Some, Bool, true, false, ℤ, refl, codes, decimal}
use Rattle.std.specs.Fmt.{signed_decimal}
use Rattle.std.specs.Int.{w16}
use Rattle.std.specs.Prelude.{FitsSigned, IfSome, None}
use Rattle.csv.specs.Records.{field_at}
use Rattle.io_text.specs.Left.{Fields}
use Rattle.diagram_declarations.specs.declared.kind.BlockKind.{BlockKind}
use Rattle.diagram_declarations.specs.declared.kind.BlockKind.TheVariants.{Ton, Ctu, Sr}
use Rattle.scan_cycle.specs.Standing.{CanStore}
use Rattle.scan_cycle.proofs.Possible.{can_possible, can_shape, can_store}
use Rattle.scan_signals.specs.Blocks.{new_block}
use Rattle.scan_signals.specs.declared.block.Stored.{Stored}
use Rattle.scan_signals.specs.declared.block.Stored.TheVariants.{Timer, Counter, Bistable}
use Rattle.io_text.specs.Text.{bit_text, is_on}
use Rattle.text_state.specs.Item.{IsBlockRecord}
use Rattle.text_state.specs.StateText.{block_record}

abbrev pub timer_fields : List ℕ → Bool → Bool → List ℕ → Bool → Fields
timer_fields name l r start q = codes "timer" ∷ name ∷ bit_text l ∷ bit_text r ∷ start ∷ bit_text q ∷ []

abbrev pub bistable_fields : List ℕ → Bool → Fields
bistable_fields name q = codes "bistable" ∷ name ∷ bit_text q ∷ []

abbrev pub counter_fields : List ℕ → Bool → List ℕ → Bool → Fields
counter_fields name l cv q = codes "counter" ∷ name ∷ bit_text l ∷ cv ∷ bit_text q ∷ []

pub record IsTimer (name : List ℕ) (moment : ℕ) (fs : Fields) : Type 0 where
  pub l : Bool
  pub r : Bool
  pub n : ℕ
  pub q : Bool
  pub same : fs ≡ timer_fields name l r (decimal n) q
  pub before : n ≤ moment
  pub stopped : r ≡ false → n ≡ 0

pub record IsCounter (name : List ℕ) (fs : Fields) : Type 0 where
  pub l : Bool
  pub z : ℤ
  pub q : Bool
  pub same : fs ≡ counter_fields name l (signed_decimal z) q
  pub fits : FitsSigned w16 z

pub record IsBistable (name : List ℕ) (fs : Fields) : Type 0 where
  pub q : Bool
  pub same : fs ≡ bistable_fields name q

pub as_timer : (name : List ℕ) (moment : ℕ) (fs : Fields) (s : Stored) → IsBlockRecord name (new_block Ton) moment fs s → IsTimer name moment fs
as_timer name moment fs (Timer l r n q) h = record { l = l; r = r; n = n; q = q; same = h.same; before = h.possible.0; stopped = h.possible.1 }
as_timer name moment fs (Counter l z q) h = let bad = h.shape in cc
as_timer name moment fs (Bistable q) h = let bad = h.shape in cc

pub as_counter : (name : List ℕ) (moment : ℕ) (fs : Fields) (s : Stored) → IsBlockRecord name (new_block Ctu) moment fs s → IsCounter name fs
as_counter name moment fs (Timer l r n q) h = let bad = h.shape in cc
as_counter name moment fs (Counter l z q) h = record { l = l; z = z; q = q; same = h.same; fits = h.possible }
as_counter name moment fs (Bistable q) h = let bad = h.shape in cc

pub as_bistable : (name : List ℕ) (moment : ℕ) (fs : Fields) (s : Stored) → IsBlockRecord name (new_block Sr) moment fs s → IsBistable name fs
as_bistable name moment fs (Timer l r n q) h = let bad = h.shape in cc
as_bistable name moment fs (Counter l z q) h = let bad = h.shape in cc
as_bistable name moment fs (Bistable q) h = record { q = q; same = h.same }

on_bit : (b : Bool) → is_on (Some (bit_text b)) ≡ b
on_bit true = refl
on_bit false = refl

pub timer_last : (fs : Fields) (name : List ℕ) (l r : Bool) (start : List ℕ) (q : Bool) → fs ≡ timer_fields name l r start q → is_on (field_at fs 2) ≡ l
unfolding field_at
timer_last fs name l r start q e = rw e (on_bit l)

pub timer_running : (fs : Fields) (name : List ℕ) (l r : Bool) (start : List ℕ) (q : Bool) → fs ≡ timer_fields name l r start q → is_on (field_at fs 3) ≡ r
unfolding field_at
timer_running fs name l r start q e = rw e (on_bit r)

pub timer_start : (fs : Fields) (name : List ℕ) (l r : Bool) (start : List ℕ) (q : Bool) → fs ≡ timer_fields name l r start q → field_at fs 4 ≡ Some start
unfolding field_at
timer_start fs name l r start q e = rw e refl

pub timer_q : (fs : Fields) (name : List ℕ) (l r : Bool) (start : List ℕ) (q : Bool) → fs ≡ timer_fields name l r start q → is_on (field_at fs 5) ≡ q
unfolding field_at
timer_q fs name l r start q e = rw e (on_bit q)

pub counter_last : (fs : Fields) (name : List ℕ) (l : Bool) (cv : List ℕ) (q : Bool) → fs ≡ counter_fields name l cv q → is_on (field_at fs 2) ≡ l
unfolding field_at
counter_last fs name l cv q e = rw e (on_bit l)

pub counter_cv : (fs : Fields) (name : List ℕ) (l : Bool) (cv : List ℕ) (q : Bool) → fs ≡ counter_fields name l cv q → field_at fs 3 ≡ Some cv
unfolding field_at
counter_cv fs name l cv q e = rw e refl

pub counter_q : (fs : Fields) (name : List ℕ) (l : Bool) (cv : List ℕ) (q : Bool) → fs ≡ counter_fields name l cv q → is_on (field_at fs 4) ≡ q
unfolding field_at
counter_q fs name l cv q e = rw e (on_bit q)

pub bistable_q : (fs : Fields) (name : List ℕ) (q : Bool) → fs ≡ bistable_fields name q → is_on (field_at fs 2) ≡ q
unfolding field_at
bistable_q fs name q e = rw e (on_bit q)

-- the same fields, by what was read of each
pub same_timer : (name : List ℕ) (l r q l2 r2 q2 : Bool) (start start2 lt rt qt : List ℕ) → lt ≡ bit_text l2 → rt ≡ bit_text r2 → qt ≡ bit_text q2
    → l2 ≡ l → r2 ≡ r → start2 ≡ start → q2 ≡ q
    → ◌≡◌ {A = Fields} (timer_fields name l r start q) (codes "timer" ∷ name ∷ lt ∷ rt ∷ start2 ∷ qt ∷ [])
same_timer name l r q l2 r2 q2 start start2 lt rt qt a b c d e f g = rw (a, b, c, d, e, f, g) refl

pub same_counter : (name : List ℕ) (l q l2 q2 : Bool) (cv cv2 lt qt : List ℕ) → lt ≡ bit_text l2 → qt ≡ bit_text q2 → l2 ≡ l → cv2 ≡ cv → q2 ≡ q
    → ◌≡◌ {A = Fields} (counter_fields name l cv q) (codes "counter" ∷ name ∷ lt ∷ cv2 ∷ qt ∷ [])
same_counter name l q l2 q2 cv cv2 lt qt a b c d e = rw (a, b, c, d, e) refl

pub same_bistable : (name : List ℕ) (q q2 : Bool) (qt : List ℕ) → qt ≡ bit_text q2 → q2 ≡ q
    → ◌≡◌ {A = Fields} (bistable_fields name q) (codes "bistable" ∷ name ∷ qt ∷ [])
same_bistable name q q2 qt a b = rw (a, b) refl

-- what a record says at every moment it says at this one
pub record_of : (o : Option Stored) (name : List ℕ) (wanted : Stored) (fs : Fields) → IfSome o (λ s. (moment : ℕ) → IsBlockRecord name wanted moment fs s) → IfSome o (λ s. fs ≡ block_record name s)
record_of None name wanted fs h = tt
record_of (Some s) name wanted fs h = (h 0).same

-- what a record says, as what the instance can store
pub can_of : (o : Option Stored) (kind : BlockKind) (name : List ℕ) (wanted : Stored) (moment : ℕ) (fs : Fields) → new_block kind ≡ wanted
    → IfSome o (λ s. (moment : ℕ) → IsBlockRecord name wanted moment fs s) → IfSome o (λ s. CanStore kind moment s)
can_of None kind name wanted moment fs e h = tt
can_of (Some s) kind name wanted moment fs e h = let r = h moment in can_store kind moment s (r.shape ∙ sym e) r.possible

pub record_with : (kind : BlockKind) (name : List ℕ) (wanted : Stored) (moment : ℕ) (fs : Fields) (s : Stored) → new_block kind ≡ wanted
    → CanStore kind moment s → fs ≡ block_record name s → IsBlockRecord name wanted moment fs s
record_with kind name wanted moment fs s e can same = record { same = same; shape = can_shape kind moment s can ∙ e; possible = can_possible kind moment s can }
