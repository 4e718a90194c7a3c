-- Rungs that find the same left links.
use Rattle.std.proofs.Common.{◌≡◌, ◌∙◌, ◌+◌, ◌&&◌, ◌||◌, ◌<◌, ◌≤◌, ℕ, Bool, true, false, cond, List, [], ◌∷◌, length, replicate, set, get_or, Some, ap, ap₂, pred, suc, refl, slice_get, slice_set, subst, sym, arith, inl, inr}
use Rattle.std.proofs.lemmas.Bool.{cases_lt}
use Rattle.std.proofs.lemmas.Option.{get_or_from_slice_get, slice_get_within}
use Rattle.std.proofs.lemmas.List.{get_or-replicate, get_or-set_other, get_or-set_same, length-replicate, length-set}
use Rattle.diagram_declarations.specs.declared.kind.BlockKind.{BlockKind}
use Rattle.diagram_program.specs.declared.cell.Cell.{Cell}
use Rattle.diagram_program.specs.declared.cell.Cell.TheVariants.{Wire, Contact, Coil, Block}
use Rattle.diagram_program.specs.declared.gates.Gate.{Gate}
use Rattle.diagram_program.specs.declared.gates.Literal.{Literal}
use Rattle.diagram_program.specs.declared.gates.Literal.TheVariants.{Is, Not, Other}
use Rattle.diagram_program.specs.declared.gates.TheConstants.{LINKS, OFF, ON, OWN}
use Rattle.diagram_program.specs.Gates.{actions_of, gates_of}
use Rattle.diagram_program.specs.Program.{Drawing}
use Rattle.scan_signals.specs.declared.block.Stored.{Stored}
use Rattle.scan_signals.specs.Truth.{AnyBool, plain}
use Rattle.scan_signals.specs.TruthLaws.{plain_lattice}
use Rattle.scan_cycle.specs.Cells.{at, contact, operand_value, q_from}
use Rattle.scan_cycle.specs.Gating.{AreLinks, among, changes_of, is_other, own, passed, ran, through}
use Rattle.scan_cycle.specs.Programs.{diagram_of}
use Rattle.scan_cycle.specs.Rung.{Held, evaluated, frame_of}
use Rattle.scan_cycle.proofs.Acting.{by_actions}
use Rattle.scan_cycle.proofs.GateLaws.{AreRailed, links_are}
use Rattle.diff_matching.specs.Matching.{Matching}
use Rattle.diff_rungs.specs.declared.marks.Marks.{Marks}
use Rattle.diff_rungs.specs.Reading.{AreEach, GiveSame, LetSame, SaySame}
use Rattle.diff_rungs.specs.Same.{AreSame}
use Rattle.diff_rungs.proofs.States.{instance_same, memory_same, operand_same, variable_same}

-- ---- lists, member by member

abbrev pub EachBelow : {A : Type 0} → (A → A → Type 0) → List A → List A → ℕ → Type 0
EachBelow {A} R xs ys n = (k : ℕ) (x y : A) → k < n → slice_get xs k ≡ Some x → slice_get ys k ≡ Some y → R x y

pub each_more : {A : Type 0} (R : A → A → Type 0) (xs ys : List A) (n : ℕ) (d e : A) → EachBelow R xs ys n → R (get_or xs n d) (get_or ys n e) → EachBelow R xs ys (n + 1)
each_more R xs ys n d e below here k x y less is_x is_y = elim (cases_lt k n) [
  | inl before ↦ below k x y before is_x is_y
  | inr after ↦ (
      let last : k ≡ n = omega arith in
      let first : get_or xs n d ≡ x = ap (λ i. get_or xs i d) (sym last) ∙ get_or_from_slice_get xs k x d is_x in
      let second : get_or ys n e ≡ y = ap (λ i. get_or ys i e) (sym last) ∙ get_or_from_slice_get ys k y e is_y in
      subst (λ u. R u y) first (subst (λ v. R (get_or xs n d) v) second here)
      )
]

pub each_of : {A : Type 0} (R : A → A → Type 0) (xs ys us vs : List A) (n : ℕ) → xs ≡ us → ys ≡ vs → length xs ≡ length ys → length xs ≤ n → EachBelow R xs ys n → AreEach R us vs
each_of R xs ys us vs n first second long all below =
    let each : AreEach R xs ys = record { as_long = long; each = λ k x y is_x is_y. below k x y (let within = slice_get_within xs k x is_x in omega arith) is_x is_y } in
    subst (λ ws. AreEach R ws vs) first (subst (AreEach R xs) second each)

-- ---- a rung by its gates and actions

pub rails : (R : List Bool) × AreRailed plain R
rails =
    let flat : List Bool = replicate LINKS false in (
      set flat ON true,
      record {
        long = length-set flat ON true ∙ length-replicate LINKS false;
        on = get_or-set_same flat ON true false (omega (arith, length-replicate LINKS false));
        off = get_or-set_other flat ON OFF true false (λ e. omega arith) ∙ get_or-replicate LINKS OFF false false (omega arith);
      },
    )

abbrev pub links_of : Drawing → ℕ → ℕ → Held → List Bool
links_of p now j h = ran plain (diagram_of p) h.kept now j (frame_of h) (gates_of p j) rails.0

pub they_link : (p : Drawing) (now j : ℕ) (h : Held) → AreLinks plain p h.kept now j (frame_of h) (links_of p now j h)
they_link p now j h =
    links_are plain AnyBool plain_lattice p h.kept now j (frame_of h) (record { values = λ i. tt; ends = λ i. tt }) rails.0 rails.1.long rails.1.on rails.1.off

pub by_links : (p : Drawing) (now j : ℕ) (h : Held)
    → evaluated (diagram_of p) now j h ≡ changes_of (diagram_of p) now (frame_of h) (links_of p now j h) (actions_of p j) h
by_links p now j h = sym (by_actions p now j h _ (frame_of h) (links_of p now j h) refl (they_link p now j h) refl)

-- ---- two rungs

pub step_same : (kind other : BlockKind) (preset set : ℕ) (s t : Stored) (now : ℕ) (x y : Bool) → kind ≡ other → preset ≡ set → s ≡ t
    → q_from plain kind preset s now x y ≡ q_from plain other set t now x y
step_same kind other preset set s t now x y e f g =
    ap (λ k. q_from plain k preset s now x y) e ∙ ap (λ n. q_from plain other n s now x y) f ∙ ap (λ b. q_from plain other set b now x y) g

-- the links after a gate that lets x through
abbrev kept_from : List Bool → Bool → ℕ → ℕ → Bool → List Bool
kept_from links other place source x = slice_set (cond other (slice_set links (OWN + place) x) links) place (x || among plain links source)

module _ (m : Matching) (p q : Drawing) (c : Marks) (now i j : ℕ) (h g : Held) (same : AreSame m c h g) where
  let_same : (a b : Cell) → LetSame m p q c a b → (x y : Bool)
      → own plain (diagram_of p) h.kept now (frame_of h) a x y ≡ own plain (diagram_of q) g.kept now (frame_of g) b x y
  let_same Wire Wire is x y = refl
  let_same (Coil mode var memory) (Coil other written kept) is x y = refl
  let_same (Contact mode operand memory) (Contact other read kept) is x y =
      ap₂ (λ u w. x && contact plain mode u w) (operand_same m c h g same operand read is.1) (memory_same m c h g same memory kept is.2)
      ∙ ap (λ k. x && contact plain k (operand_value plain (frame_of g) read) (at g.kept.memories kept false)) is.0
  let_same (Block a) (Block b) is x y = step_same _ _ _ _ _ _ now x y is.1.0 is.1.1 (instance_same m c h g same a b is.0)
  let_same _ _ is x y = absurd is

  say_same : (place : ℕ) (a b : Literal) → SaySame m p q c i j place a b → (x y : Bool)
      → through plain (diagram_of p) h.kept now (frame_of h) a ((diagram_of p).cell i place) x y
      ≡ through plain (diagram_of q) g.kept now (frame_of g) b ((diagram_of q).cell j place) x y
  say_same place (Is a) (Is b) is x y = ap (λ v. x && v) (variable_same m c h g same a b is)
  say_same place (Not a) (Not b) is x y = ap (λ v. x && plain.inverse v) (variable_same m c h g same a b is)
  say_same place Other Other is x y = let_same _ _ is x y
  say_same _ _ _ is x y = absurd is

  both_other : (place : ℕ) (a b : Literal) → SaySame m p q c i j place a b → is_other a ≡ is_other b
  both_other place (Is a) (Is b) is = refl
  both_other place (Not a) (Not b) is = refl
  both_other place Other Other is = refl
  both_other _ _ _ is = absurd is

  give_same : (links : List Bool) (a b : Gate) → GiveSame m p q c i j a b
      → passed plain (diagram_of p) h.kept now i (frame_of h) links a ≡ passed plain (diagram_of q) g.kept now j (frame_of g) links b
  give_same links a b is =
      let x : Bool = through plain (diagram_of p) h.kept now (frame_of h) a.literal ((diagram_of p).cell i a.place) (among plain links a.left) (among plain links a.below) in
      let e = say_same a.place a.literal b.literal is.literal (among plain links a.left) (among plain links a.below)
      ∙ ap (λ n. through plain (diagram_of q) g.kept now (frame_of g) b.literal ((diagram_of q).cell j n) (among plain links a.left) (among plain links a.below)) is.place
      ∙ ap₂ (λ k n. through plain (diagram_of q) g.kept now (frame_of g) b.literal ((diagram_of q).cell j b.place) (among plain links k) (among plain links n)) is.left is.below in
      ap (λ k. kept_from links k a.place a.other x) (both_other a.place a.literal b.literal is.literal)
      ∙ ap₂ (λ n k. kept_from links (is_other b.literal) n k x) is.place is.other
      ∙ ap (kept_from links (is_other b.literal) b.place b.other) e

  ran_same : (xs ys : List Gate) → AreEach (GiveSame m p q c i j) xs ys → (links : List Bool)
      → ran plain (diagram_of p) h.kept now i (frame_of h) xs links ≡ ran plain (diagram_of q) g.kept now j (frame_of g) ys links
  unfolding ran
  ran_same [] [] is links = refl
  ran_same [] (y ∷ ys) is links = absurd (omega (arith, is.as_long))
  ran_same (x ∷ xs) [] is links = absurd (omega (arith, is.as_long))
  ran_same (x ∷ xs) (y ∷ ys) is links =
      ran_same xs ys (record { as_long = ap pred is.as_long; each = λ n a b. is.each (suc n) a b }) (passed plain (diagram_of p) h.kept now i (frame_of h) links x)
      ∙ ap (ran plain (diagram_of q) g.kept now j (frame_of g) ys) (give_same links x y (is.each 0 x y refl refl))

  pub links_same : AreEach (GiveSame m p q c i j) (gates_of p i) (gates_of q j) → links_of p now i h ≡ links_of q now j g
  links_same is = ran_same (gates_of p i) (gates_of q j) is rails.0
