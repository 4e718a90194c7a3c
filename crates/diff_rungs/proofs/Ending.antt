-- The beginning and the end of both scans.
use Rattle.std.proofs.Common.{◌≡◌, ◌∙◌, ◌<◌, ℕ, Bool, true, false, List, [], ◌∷◌, All, Some, ap, length, map, refl, slice_get, subst, sym, arith, inl}
use Rattle.std.proofs.lemmas.List.{length-map}
use Rattle.std.proofs.lemmas.Option.{get_or_from_slice_get, slice_get_within}
use Rattle.diagram_declarations.specs.declared.decls.Instance.{Instance}
use Rattle.diagram_declarations.specs.declared.kind.BlockKind.{BlockKind}
use Rattle.diagram_declarations.specs.Decls.{is_input}
use Rattle.diagram_program.specs.Program.{Drawing, memories_of}
use Rattle.scan_cycle.specs.Programs.{IsSound, diagram_of}
use Rattle.scan_cycle.specs.Rung.{Held}
use Rattle.scan_cycle.specs.RungByRung.{scanned as by_rung}
use Rattle.scan_cycle.specs.Scan.{evaluated_from, given}
use Rattle.scan_cycle.specs.Standing.{Fits, IsStanding, Standing}
use Rattle.scan_cycle.proofs.ByList.{scanned_is}
use Rattle.scan_cycle.proofs.Rungs.{at_first, resume_first}
use Rattle.scan_cycle.proofs.Scanned.{rungs_back}
use Rattle.diff_matching.specs.declared.matching.Pair.{Pair}
use Rattle.diff_matching.specs.Matching.{AreShared, Matching, scanned}
use Rattle.diff_matching.specs.Suited.{AreBoth, AreOfKind, IsSuited}
use Rattle.diff_cases.specs.declared.target.Target.TheVariants.{Variable, Memory, Contents}
use Rattle.diff_rungs.specs.declared.marks.Marks.{Marks}
use Rattle.diff_rungs.specs.declared.reading.Rungs.{Rungs}
use Rattle.diff_rungs.specs.declared.walking.Place.{Place}
use Rattle.diff_rungs.specs.Common.{AreLeftAlike}
use Rattle.diff_rungs.specs.Same.{AreSame}
use Rattle.diff_rungs.specs.Walking.{IsReached, Reached}

-- ---- the beginning

abbrev first_place : Place
first_place = record { old_rung = 0; new_rung = 0; old_reach = 0; new_reach = 0; together = true }

module _ (p q : Drawing) (m : Matching) (suited : IsSuited m p q) (moment : ℕ) (s t : Standing) (shared : AreShared m p q moment s t) where
  in_pair : (P : Pair → Type 0) (pairs : List Pair) → All P pairs → (n : ℕ) (x : Pair) → slice_get pairs n ≡ Some x → P x
  in_pair P pairs all n x is = subst P (get_or_from_slice_get pairs n x x is) (all n x (slice_get_within pairs n x is))

  value_there : (d : Drawing) (w : Standing) (b : Bool) (n : ℕ) → Fits d w → slice_get (map is_input d.decls.vars) n ≡ Some b → n < length w.held.values
  value_there d w b n fits is =
      let within = slice_get_within (map is_input d.decls.vars) n b is in
      let size = length-map d.decls.vars is_input in
      let many = fits.values in
      omega arith

  block_there : (d : Drawing) (w : Standing) (kind : BlockKind) (n : ℕ) → Fits d w → IsStanding w
      → slice_get (map (λ (i : Instance). i.kind) d.decls.instances) n ≡ Some kind → n < length w.held.kept.blocks
  block_there d w kind n fits stands is =
      let within = slice_get_within (map (λ (i : Instance). i.kind) d.decls.instances) n kind is in
      let kinds : length w.kinds ≡ length (map (λ (i : Instance). i.kind) d.decls.instances) = ap length fits.kinds in
      let many = stands.sound.as_many in
      omega arith

  all_same : (c : Marks) → AreSame m c s.held t.held
  all_same c = record {
    inputs = record {
      same = λ n x is mark. shared.inputs n x is;
      inside = λ n x is.
          let both = in_pair (AreBoth true p q) m.inputs suited.inputs n x is in
          (value_there p s true x.old shared.old_fits both.0, value_there q t true x.new shared.new_fits both.1);
    };
    variables = record {
      same = λ n x is mark. shared.agree.variables n x is;
      inside = λ n x is.
          let both = in_pair (AreBoth false p q) m.variables suited.variables n x is in
          (value_there p s false x.old shared.old_fits both.0, value_there q t false x.new shared.new_fits both.1);
    };
    instances = record {
      same = λ n x is mark. shared.agree.instances n x is;
      inside = λ n x is.
          let both = in_pair (λ y. (kind : BlockKind) × AreOfKind kind p q y) m.instances suited.instances n x is in
          (block_there p s both.0 x.old shared.old_fits shared.old_standing both.1.0, block_there q t both.0 x.new shared.new_fits shared.new_standing both.1.1);
    };
    memories = record {
      same = λ n x is mark. shared.agree.memories n x is;
      inside = λ n x is.
          let both = in_pair (λ y. (y.old < memories_of p) × (y.new < memories_of q)) m.memories suited.memories n x is in
          (subst (λ k. x.old < k) (sym shared.old_fits.memories) both.0, subst (λ k. x.new < k) (sym shared.new_fits.memories) both.1);
    };
  }

  begun : (leaps : List Rungs) (c : Marks) → IsReached m p q first_place leaps c moment s.held t.held
  begun leaps c = record {
    same =
        subst (λ (h : Held). AreSame m c h (by_rung (diagram_of q) moment t.held 0).held) (sym (at_first (diagram_of p) moment s.held))
        (subst (λ (g : Held). AreSame m c s.held g) (sym (at_first (diagram_of q) moment t.held)) (all_same c));
    old = let e = resume_first (diagram_of p) moment s.held in omega arith;
    new = let e = resume_first (diagram_of q) moment t.held in omega arith;
    together = λ is.
        let e = resume_first (diagram_of p) moment s.held in
        let f = resume_first (diagram_of q) moment t.held in
        inl (omega arith, omega arith);
  }

pub begins : (p q : Drawing) (m : Matching) → IsSuited m p q → (leaps : List Rungs) (c : Marks) → Reached m p q first_place leaps c
begins p q m suited leaps c moment s t shared = begun p q m suited moment s t shared leaps c

-- ---- the end

given_none : (flags vs : List Bool) → given flags [] vs ≡ vs
given_none [] vs = refl
given_none (true ∷ flags) [] = refl
given_none (false ∷ flags) [] = refl
given_none (true ∷ flags) (v ∷ vs) = ap (λ ws. v ∷ ws) (given_none flags vs)
given_none (false ∷ flags) (v ∷ vs) = ap (λ ws. v ∷ ws) (given_none flags vs)

after_all : (p : Drawing) → IsSound (diagram_of p) → (moment : ℕ) (s : Standing) → (by_rung (diagram_of p) moment s.held p.rungs).held ≡ scanned p moment s
after_all p sound moment s =
    let d = diagram_of p in
    ap (λ n. (by_rung d moment s.held n).held) (rungs_back p)
    ∙ scanned_is d sound.forward moment s.held
    ∙ sym (ap (λ vs. evaluated_from d moment d.rungs 0 (record { values = vs; kept = s.held.kept })) (given_none d.inputs s.held.values))

module _ (p q : Drawing) (m : Matching) (old_sound : IsSound (diagram_of p)) (new_sound : IsSound (diagram_of q)) (w : Place) (leaps : List Rungs) (c : Marks)
    (old_end : w.old_rung ≡ p.rungs) (new_end : w.new_rung ≡ q.rungs) (reached : Reached m p q w leaps c) where
  at_end : (moment : ℕ) (s t : Standing) → AreShared m p q moment s t → AreSame m c (scanned p moment s) (scanned q moment t)
  at_end moment s t shared =
      let old = ap (λ n. (by_rung (diagram_of p) moment s.held n).held) old_end ∙ after_all p old_sound moment s in
      let new = ap (λ n. (by_rung (diagram_of q) moment t.held n).held) new_end ∙ after_all q new_sound moment t in
      subst (λ (h : Held). AreSame m c h (scanned q moment t)) old
      (subst (λ (g : Held). AreSame m c (by_rung (diagram_of p) moment s.held w.old_rung).held g) new (reached moment s t shared).same)

  pub variables_alike : AreLeftAlike Variable m.variables c.variables.items m p q
  variables_alike n x is mark moment s t shared =
      (at_end moment s t shared).variables.same n x is (get_or_from_slice_get c.variables.items n true false mark)

  pub instances_alike : AreLeftAlike Contents m.instances c.instances.items m p q
  instances_alike n x is mark moment s t shared =
      (at_end moment s t shared).instances.same n x is (get_or_from_slice_get c.instances.items n true false mark)

  pub memories_alike : AreLeftAlike Memory m.memories c.memories.items m p q
  memories_alike n x is mark moment s t shared =
      (at_end moment s t shared).memories.same n x is (get_or_from_slice_get c.memories.items n true false mark)
