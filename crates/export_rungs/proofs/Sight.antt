-- What statements see, as they write.
use Rattle.std.proofs.Common.{◌≡◌, ℕ, ◌/◌, ◌%◌, ◌<◌, ◌≤◌, ◌==◌, All, Bool, true, false, List, [], ◌∷◌, ◌++◌, length, get_or, set, map, suc, refl, sym, ap, ◌∙◌, arith, inl, inr, get_or-set_other, get_or-set_same}
use Rattle.std.proofs.lemmas.Bool.{cases_eq, eqb-false, ne_eqb}
use Rattle.std.proofs.lemmas.List.{map-set}
use Rattle.std.proofs.lemmas.List.Elements.{All-nil, All-cons, All-head, All-tail}
use Rattle.diagram_declarations.specs.declared.kind.BlockKind.TheVariants.{Ton}
use Rattle.diagram_program.specs.declared.geometry.TheConstants.{ROWS}
use Rattle.diagram_program.specs.declared.cell.Cell.TheVariants.{Block}
use Rattle.diagram_program.specs.declared.gates.Action.{Action}
use Rattle.diagram_program.specs.Program.{Drawing, is_coil_of}
use Rattle.scan_signals.specs.Blocks.{new_block, q_of, step}
use Rattle.scan_signals.specs.declared.block.Stored.{Stored}
use Rattle.scan_cycle.specs.Cells.{Frame, Kept}
use Rattle.scan_cycle.specs.Rung.{Held, frame_of}
use Rattle.scan_cycle.specs.Programs.{diagram_of}
use Rattle.st_statements.specs.Run.{assigned, called, kind_in, preset_in}
use Rattle.draw_power.specs.Power.{right}
use Rattle.export_power.specs.declared.known.Known.{Known}
use Rattle.export_power.specs.Sight.{Sees, is_block_of, meant}
use Rattle.export_rungs.proofs.Entries.{any_one_more, or_first, or_left, or_second}

abbrev pub IsOther : ℕ → Known → Type 0
IsOther v x = x.variable ≡ v → ⊥

-- a variable below those that stand for something
pub others : (base v : ℕ) (known : List Known) → v < base → All (λ (x : Known). base ≤ x.variable) known → All (IsOther v) known
others base v [] lt high = All-nil (IsOther v)
others base v (x ∷ xs) lt high =
    let High : Known → Type 0 = λ y. base ≤ y.variable in
    let first : base ≤ x.variable = All-head High x xs high in
    All-cons (IsOther v) x xs (λ e. omega (arith, e, lt, first)) (others base v xs lt (All-tail High x xs high))

module _ (d : Drawing) (rung : ℕ) (known : List Known) (k : Kept) (now : ℕ) (f : Frame Bool) where
  abbrev Stands : List Bool → Known → Type 0
  Stands values x = get_or values x.variable false ≡ meant d rung k now f x.meaning

  keep : (values : List Bool) (v : ℕ) (y : Bool) (xs : List Known) → All (IsOther v) xs → All (Stands values) xs → All (Stands (set values v y)) xs
  keep values v y [] others are = All-nil (Stands (set values v y))
  keep values v y (x ∷ xs) others are =
      All-cons (Stands (set values v y)) x xs
      (get_or-set_other values v x.variable y false (All-head (IsOther v) x xs others) ∙ All-head (Stands values) x xs are)
      (keep values v y xs (All-tail (IsOther v) x xs others) (All-tail (Stands values) x xs are))

  -- a variable that the program doesn't have
  pub sees_high : (done : List Action) (v : ℕ) (y : Bool) (h : Held) → length d.decls.vars ≤ v → All (IsOther v) known
      → Sees d rung done known k now f (frame_of h) → Sees d rung done known k now f (frame_of (assigned v y h))
  sees_high done v y h le others sees = record {
    values = λ w lt t. get_or-set_other h.values v w y false (λ e. omega (arith, e, lt, le)) ∙ sees.values w lt t;
    ends = sees.ends;
    called = sees.called;
    stands = keep h.values v y known others sees.stands;
  }

  -- a cell that is no block, and leaves what it writes as it is
  pub sees_kept : (done : List Action) (a : Action) (h : Held) → ((i : ℕ) → is_block_of i a.cell ≡ false)
      → Sees d rung done known k now f (frame_of h) → Sees d rung (done ++ a ∷ []) known k now f (frame_of h)
  sees_kept done a h none sees = record {
    values = λ w lt t. sees.values w lt (or_first _ _ (sym (any_one_more (λ (x : Action). is_coil_of w x.cell) done a) ∙ t));
    ends = λ i t. sees.ends i (or_first _ _ (sym (any_one_more (λ (x : Action). is_block_of i x.cell) done a) ∙ t));
    called = λ i place is t. sees.called i place is (or_left _ _ (none i) (sym (any_one_more (λ (x : Action). is_block_of i x.cell) done a) ∙ t));
    stands = sees.stands;
  }

  -- a coil, and the variable that it writes
  pub sees_coil : (done : List Action) (a : Action) (v : ℕ) (y : Bool) (h : Held) → is_coil_of v a.cell ≡ true → ((i : ℕ) → is_block_of i a.cell ≡ false)
      → All (IsOther v) known → Sees d rung done known k now f (frame_of h) → Sees d rung (done ++ a ∷ []) known k now f (frame_of (assigned v y h))
  sees_coil done a v y h coil none others sees = record {
    values = λ w lt t.
        let both = sym (any_one_more (λ (x : Action). is_coil_of w x.cell) done a) ∙ t in
        get_or-set_other h.values v w y false (λ e. unwritten w e (or_second _ _ both)) ∙ sees.values w lt (or_first _ _ both);
    ends = λ i t. sees.ends i (or_first _ _ (sym (any_one_more (λ (x : Action). is_block_of i x.cell) done a) ∙ t));
    called = λ i place is t. sees.called i place is (or_left _ _ (none i) (sym (any_one_more (λ (x : Action). is_block_of i x.cell) done a) ∙ t));
    stands = keep h.values v y known others sees.stands;
  }
    where
      two_ways : {b : Bool} → b ≡ true → b ≡ false → ⊥
      two_ways s t = cc

      unwritten : (w : ℕ) → w ≡ v → is_coil_of w a.cell ≡ false → ⊥
      unwritten w e t = two_ways coil (ap (λ n. is_coil_of n a.cell) (sym e) ∙ t)

  -- a block, and its step
  module _ (done : List Action) (a : Action) (i : ℕ) (x y : Bool) (h : Held) (cell : a.cell ≡ Block i) (inside : i < length h.kept.blocks) where
    abbrev stored : Stored
    stored = step (kind_in d.decls.instances i) (preset_in d.decls.instances i) (get_or h.kept.blocks i (new_block Ton)) x y now

    abbrev after : Held
    after = called d.decls.instances now i x y h

    no_coil : (w : ℕ) → is_coil_of w a.cell ≡ false
    no_coil w = ap (is_coil_of w) cell

    block_is : (j : ℕ) → is_block_of j a.cell ≡ (i == j)
    block_is j = ap (is_block_of j) cell

    end_other : (j : ℕ) → (j ≡ i → ⊥) → get_or (frame_of after).ends j false ≡ get_or (frame_of h).ends j false
    end_other j other = ap (λ (bs : List Bool). get_or bs j false) (map-set q_of h.kept.blocks i stored) ∙ get_or-set_other (map q_of h.kept.blocks) i j (q_of stored) false other

    end_own : get_or (frame_of after).ends i false ≡ q_of stored
    end_own = ap (λ (bs : List Bool). get_or bs i false) (map-set q_of h.kept.blocks i stored) ∙ get_or-set_same (map q_of h.kept.blocks) i (q_of stored) false (omega (arith, inside, sizes q_of h.kept.blocks))
      where
        sizes : (g : Stored → Bool) (bs : List Stored) → length (map g bs) ≡ length bs
        sizes g [] = refl
        sizes g (b ∷ bs) = ap suc (sizes g bs)

    pub sees_call : ((place : ℕ) → (diagram_of d).cell rung place ≡ Block i → q_of stored ≡ right d rung k now f (place / ROWS) (place % ROWS))
        → Sees d rung done known k now f (frame_of h) → Sees d rung (done ++ a ∷ []) known k now f (frame_of after)
    sees_call shown sees = record {
      values = λ w lt t. sees.values w lt (or_first _ _ (sym (any_one_more (λ (x : Action). is_coil_of w x.cell) done a) ∙ t));
      ends = λ j t.
          let both = sym (any_one_more (λ (x : Action). is_block_of j x.cell) done a) ∙ t in
          end_other j (λ e. eqb-false i j (sym (block_is j) ∙ or_second _ _ both) (sym e)) ∙ sees.ends j (or_first _ _ both);
      called = λ j place is t. elim (cases_eq j i) [
        | inl e ↦ ap (λ n. get_or (frame_of after).ends n false) e ∙ end_own ∙ shown place (is ∙ ap Block e)
        | inr e ↦ end_other j e ∙ sees.called j place is (or_left _ _ (block_is j ∙ ne_eqb i j (λ s. e (sym s))) (sym (any_one_more (λ (x : Action). is_block_of j x.cell) done a) ∙ t))
      ];
      stands = sees.stands;
    }
