-- The first two records of a state, and the rest behind them.
use Rattle.std.proofs.Common.{◌≡◌, ◌<◌, ◌^◌, ◌∙◌, ◌∷◌, [], true, false, ℕ, suc, List, Option, Some, None, Result, Ok, Err, refl, sym, ap, subst, arith, decimal, get_or, take}
use Rattle.std.specs.Prelude.{⊤}
use Rattle.std.specs.Borrow.{Bor}
use Rattle.std.proofs.lemmas.Fmt.{decimal_injective}
use Rattle.csv.specs.declared.reader.Reader.{Reader}
use Rattle.diagram_program.specs.Program.{Drawing}
use Rattle.io_text.specs.Left.{Fields, Left}
use Rattle.diagram_declarations.specs.declared.decls.Instance.{Instance}
use Rattle.scan_signals.specs.declared.block.Stored.{Stored}
use Rattle.scan_cycle.specs.Standing.{Standing, fresh}
use Rattle.text_state.specs.declared.fault.StateFault.{StateFault}
use Rattle.text_state.specs.declared.fault.StateFault.TheVariants as fault
use Rattle.text_state.specs.declared.version.Version.{Version}
use Rattle.text_state.specs.declared.version.Version.TheVariants.{First, Second}
use Rattle.text_state.specs.Parts.{ReadsAll, ReadsItems, TakesItem}
use Rattle.text_state.specs.ReadState.{Begins, IsFirstBad, Reads}
use Rattle.text_state.proofs.ItemByItem.{told_fresh}
use Rattle.text_state.specs.StateText.{AreTold, IsStateOf, item_records, state_records, version_record}
use Rattle.text_state.specs.Parts.{moment_record}

pub told_second : (instances : List Instance) (blocks : List Stored) → AreTold Second instances blocks
told_second instances blocks k i here lacks = let bad : true ≡ false = lacks in cc

pub told_before : (v : Version) (p : Drawing) (s : Standing) → s ≡ fresh p → AreTold v p.decls.instances s.held.kept.blocks
told_before v p s e = subst (λ (t : Standing). AreTold v p.decls.instances t.held.kept.blocks) (sym e) (told_fresh v p.decls.instances)

-- ---- the first records of a state

pub begins : (p : Drawing) (s : Standing) (v : Version) (rows : List Fields) (k : ℕ) → IsStateOf p s → AreTold v p.decls.instances s.held.kept.blocks
    → take k rows ≡ take k (state_records v p s) → Begins p rows k
begins p s v rows k ok told same = (s, state_records v p s, ok, record { version = v; told = told; same = refl }, same)

-- the state that they are of, and the version
record Front (p : Drawing) (rows : List Fields) (k : ℕ) : Type 0 where
  state : Standing
  version : Version
  good : IsStateOf p state
  same : take k rows ≡ take k (state_records version p state)

front_of : (p : Drawing) (rows : List Fields) (k : ℕ) → Begins p rows k → Front p rows k
front_of p rows k (s, all, ok, h, same) = record { state = s; version = h.version; good = ok; same = same ∙ ap (take k) h.same }

pub version_bad : (p : Drawing) (s : Standing) (rows : List Fields) (new : Reader (Bor (List ℕ))) (o : Option Version) → IsStateOf p s → o ≡ None → TakesItem version_record (λ _. ⊤) rows new o
    → IsFirstBad p rows 1
version_bad p s rows new o ok is h =
    let h = subst (TakesItem version_record (λ _. ⊤) rows new) is h in
    record {
      before = 0;
      count = omega arith;
      front = begins p s Second rows 0 ok (told_second p.decls.instances s.held.kept.blocks) refl;
      none = λ first. let b = front_of p rows 1 first in h b.version tt b.same;
    }

pub taken : {B : Type 0} (item : B → Fields) (can : B → Type 0) (rows : List Fields) (new : Reader (Bor (List ℕ))) (o : Option B) (y : B) → o ≡ Some y → TakesItem item can rows new o
    → (after : List Fields) × (rows ≡ item y ∷ after) × Left new after × can y
taken item can rows new o y is h = subst (TakesItem item can rows new) is h

pub version_same : (a b : Version) → version_record a ≡ version_record b → a ≡ b
version_same First First e = refl
version_same First Second e = let bad : 49 ≡ 50 = ap (λ fs. get_or (get_or fs 1 []) 0 0) e in absurd (omega (arith, bad))
version_same Second First e = let bad : 50 ≡ 49 = ap (λ fs. get_or (get_or fs 1 []) 0 0) e in absurd (omega (arith, bad))
version_same Second Second e = refl

pub moment_bad : (p : Drawing) (s : Standing) (v : Version) (rows rest : List Fields) (new : Reader (Bor (List ℕ))) (o : Option ℕ) → IsStateOf p s
    → AreTold v p.decls.instances s.held.kept.blocks → rows ≡ version_record v ∷ rest
    → o ≡ None → TakesItem moment_record (λ n. n < 2 ^ 64) rest new o → IsFirstBad p rows 2
moment_bad p s v rows rest new o ok told cut is h =
    let h = subst (TakesItem moment_record (λ n. n < 2 ^ 64) rest new) is h in
    record {
      before = 1;
      count = omega arith;
      front = begins p s v rows 1 ok told (ap (take 1) cut);
      none = λ first.
          let b = front_of p rows 2 first in
          let e : version_record v ∷ take 1 rest ≡ version_record b.version ∷ moment_record b.state.moment ∷ [] = sym (ap (take 2) cut) ∙ b.same in
          let t : take 1 rest ≡ moment_record b.state.moment ∷ [] = cc in
          h b.state.moment b.good.standing.small t;
    }

pub moment_same : (m n : ℕ) → m < 2 ^ 64 → n < 2 ^ 64 → moment_record m ≡ moment_record n → m ≡ n
moment_same m n h k e = let d : decimal m ≡ decimal n = cc in decimal_injective m n h k d

-- what the tail of two lists with two records in front says
tails : (k : ℕ) (v w : Version) (m n : ℕ) (a b : List Fields) → m < 2 ^ 64 → n < 2 ^ 64
    → take (suc (suc k)) (version_record v ∷ moment_record m ∷ a) ≡ take (suc (suc k)) (version_record w ∷ moment_record n ∷ b) → (v ≡ w) × (m ≡ n) × (take k a ≡ take k b)
tails k v w m n a b h j e =
    let first : version_record v ≡ version_record w = cc in
    let second : moment_record m ≡ moment_record n = cc in
    let rest : take k a ≡ take k b = cc in
    (version_same v w first, moment_same m n h j second, rest)

pub items_arm : (p : Drawing) (s : Standing) (v : Version) (rows rest : List Fields) (r : Result ⊤ StateFault) → IsStateOf p s
    → AreTold v p.decls.instances s.held.kept.blocks → rows ≡ version_record v ∷ moment_record s.moment ∷ rest
    → ReadsItems {T = ⊤} v p s rest r → ReadsAll {T = ⊤} p s rows r
items_arm p s v rows rest (Ok u) ok told cut h = record { version = v; told = told; same = cut ∙ ap (λ l. version_record v ∷ moment_record s.moment ∷ l) h }
items_arm p s v rows rest (Err fault.Memory) ok told cut h = tt
items_arm p s v rows rest (Err (fault.BadRow n)) ok told cut h = record {
  before = suc (suc h.before);
  count = omega (arith, h.count);
  front = begins p s v rows (suc (suc h.before)) ok told (ap (take (suc (suc h.before))) cut ∙ ap (λ l. version_record v ∷ moment_record s.moment ∷ l) h.front);
  none = λ first.
      let b = front_of p rows n first in
      let three : n ≡ suc (suc (suc h.before)) = omega (arith, h.count) in
      let t = b.state in
      let e = subst (λ k. take k rows ≡ take k (version_record b.version ∷ moment_record t.moment ∷ item_records b.version p t)) three b.same in
      let q = tails (suc h.before) v b.version s.moment t.moment rest (item_records b.version p t) ok.standing.small b.good.standing.small (sym (ap (take (suc (suc (suc h.before)))) cut) ∙ e) in
      h.none t b.good (sym q.1) (q.2 ∙ ap (λ w. take (suc h.before) (item_records w p t)) (sym q.0));
}

pub err_arm : (p : Drawing) (s : Standing) (rows : List Fields) (f : StateFault) → ReadsAll {T = ⊤} p s rows (Err f) → Reads p rows (Err f)
err_arm p s rows fault.Memory h = tt
err_arm p s rows (fault.BadRow n) h = h
