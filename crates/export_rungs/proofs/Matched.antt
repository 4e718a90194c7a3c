-- States that match still match where both are changed alike.
use Rattle.std.proofs.Common.{◌≡◌, ℕ, ◌+◌, ◌<◌, ◌≤◌, Bool, false, List, length, get_or, set, sym, ap, ◌∙◌, arith, inl, inr, get_or-set_other, get_or-set_same, length-set}
use Rattle.std.proofs.lemmas.Bool.{cases_eq}
use Rattle.diagram_program.specs.Program.{Drawing, memories_of}
use Rattle.scan_cycle.specs.Rung.{Held, held}
use Rattle.diagram_declarations.specs.declared.decls.Instance.{Instance}
use Rattle.st_statements.specs.Run.{assigned, called}
use Rattle.export_rungs.specs.Matched.{AreFlagged, AreMatched}
use Rattle.export_rungs.specs.Rungs.{AreAt}
use Rattle.export_rungs.specs.Steps.{base_of}
use Rattle.export_rungs.proofs.Entries.{set_alike, set_own}

module _ (d : Drawing) (variables : ℕ) (flags : List Bool) where
  -- a variable of the drawing
  pub at_value : (v : ℕ) (y : Bool) (g h : Held) → v < length d.decls.vars → AreAt d variables flags g h → AreAt d variables flags (assigned v y g) (assigned v y h)
  at_value v y g h lt at =
      let m = at.matched in record {
        matched = record {
          fits = length-set g.values v y ∙ m.fits;
          remembers = m.remembers;
          instances = m.instances;
          long = length-set h.values v y ∙ m.long;
          enough = m.enough;
          values = λ i k. set_alike h.values g.values v y false (omega (arith, lt, m.enough, m.long)) (omega (arith, lt, m.fits)) i (m.values i k);
          memories = λ i k. get_or-set_other h.values v (length d.decls.vars + i) y false (λ e. omega (arith, e, lt)) ∙ m.memories i k;
          blocks = m.blocks;
        };
        flagged = record {
          room = omega (arith, at.flagged.room, length-set h.values v y);
          each = λ i k. get_or-set_other h.values v (length d.decls.vars + memories_of d + i) y false (λ e. omega (arith, e, lt)) ∙ at.flagged.each i k;
        };
      }

  -- a variable of the drawing that is given the value that it has
  pub at_own : (v : ℕ) (g h : Held) → v < length d.decls.vars → AreAt d variables flags g h → AreAt d variables flags (assigned v (get_or g.values v false) g) h
  at_own v g h lt at =
      let m = at.matched in record {
        matched = record {
          fits = length-set g.values v _ ∙ m.fits;
          remembers = m.remembers;
          instances = m.instances;
          long = m.long;
          enough = m.enough;
          values = λ i k. m.values i k ∙ sym (set_own g.values v false (omega (arith, lt, m.fits)) i);
          memories = m.memories;
          blocks = m.blocks;
        };
        flagged = at.flagged;
      }

  -- a memory
  pub at_memory : (n : ℕ) (y : Bool) (g h : Held) → n < memories_of d → AreAt d variables flags g h
      → AreAt d variables flags (held g.values (set g.kept.memories n y) g.kept.blocks) (assigned (length d.decls.vars + n) y h)
  at_memory n y g h lt at =
      let m = at.matched in
      let v = length d.decls.vars + n in record {
        matched = record {
          fits = m.fits;
          remembers = length-set g.kept.memories n y ∙ m.remembers;
          instances = m.instances;
          long = length-set h.values v y ∙ m.long;
          enough = m.enough;
          values = λ i k. get_or-set_other h.values v i y false (λ e. omega (arith, e, k)) ∙ m.values i k;
          memories = λ i k. at_memories n y g h lt m i k;
          blocks = m.blocks;
        };
        flagged = record {
          room = omega (arith, at.flagged.room, length-set h.values v y);
          each = λ i k. get_or-set_other h.values v (length d.decls.vars + memories_of d + i) y false (λ e. omega (arith, e, lt)) ∙ at.flagged.each i k;
        };
      }
    where
      at_memories : (n : ℕ) (y : Bool) (g h : Held) → n < memories_of d → AreMatched d variables g h → (i : ℕ) → i < memories_of d
          → get_or (set h.values (length d.decls.vars + n) y) (length d.decls.vars + i) false ≡ get_or (set g.kept.memories n y) i false
      at_memories n y g h lt m i k = elim (cases_eq i n) [
        | inl e ↦
            ap (λ j. get_or (set h.values (length d.decls.vars + n) y) (length d.decls.vars + j) false) e
            ∙ get_or-set_same h.values (length d.decls.vars + n) y false (omega (arith, lt, m.enough, m.long))
            ∙ sym (ap (λ j. get_or (set g.kept.memories n y) j false) e ∙ get_or-set_same g.kept.memories n y false (omega (arith, lt, m.remembers)))
        | inr e ↦
            get_or-set_other h.values (length d.decls.vars + n) (length d.decls.vars + i) y false (λ s. e (omega (arith, s)))
            ∙ m.memories i k
            ∙ sym (get_or-set_other g.kept.memories n i y false e)
      ]

  -- a variable that the drawing doesn't have
  pub at_high : (v : ℕ) (y : Bool) (g h : Held) → base_of d (length flags) ≤ v → AreAt d variables flags g h → AreAt d variables flags g (assigned v y h)
  at_high v y g h le at =
      let m = at.matched in record {
        matched = record {
          fits = m.fits;
          remembers = m.remembers;
          instances = m.instances;
          long = length-set h.values v y ∙ m.long;
          enough = m.enough;
          values = λ i k. get_or-set_other h.values v i y false (λ e. omega (arith, e, k, le)) ∙ m.values i k;
          memories = λ i k. get_or-set_other h.values v (length d.decls.vars + i) y false (λ e. omega (arith, e, k, le)) ∙ m.memories i k;
          blocks = m.blocks;
        };
        flagged = record {
          room = omega (arith, at.flagged.room, length-set h.values v y);
          each = λ i k. get_or-set_other h.values v (length d.decls.vars + memories_of d + i) y false (λ e. omega (arith, e, k, le)) ∙ at.flagged.each i k;
        };
      }

  -- the flag of a jump
  pub at_flag : (n : ℕ) (y : Bool) (g h : Held) → n < length flags → AreAt d variables flags g h → AreAt d variables (set flags n y) g (assigned (length d.decls.vars + memories_of d + n) y h)
  at_flag n y g h lt at =
      let m = at.matched in
      let v = length d.decls.vars + memories_of d + n in record {
        matched = record {
          fits = m.fits;
          remembers = m.remembers;
          instances = m.instances;
          long = length-set h.values v y ∙ m.long;
          enough = m.enough;
          values = λ i k. get_or-set_other h.values v i y false (λ e. omega (arith, e, k)) ∙ m.values i k;
          memories = λ i k. get_or-set_other h.values v (length d.decls.vars + i) y false (λ e. omega (arith, e, k)) ∙ m.memories i k;
          blocks = m.blocks;
        };
        flagged = record {
          room = omega (arith, at.flagged.room, length-set h.values v y, length-set flags n y);
          each = λ i k. at_flags n y h lt at.flagged i (omega (arith, k, length-set flags n y));
        };
      }
    where
      at_flags : (n : ℕ) (y : Bool) (h : Held) → n < length flags → AreFlagged d flags h → (i : ℕ) → i < length flags
          → get_or (set h.values (length d.decls.vars + memories_of d + n) y) (length d.decls.vars + memories_of d + i) false ≡ get_or (set flags n y) i false
      at_flags n y h lt f i k = elim (cases_eq i n) [
        | inl e ↦
            ap (λ j. get_or (set h.values (length d.decls.vars + memories_of d + n) y) (length d.decls.vars + memories_of d + j) false) e
            ∙ get_or-set_same h.values (length d.decls.vars + memories_of d + n) y false (omega (arith, lt, f.room))
            ∙ sym (ap (λ j. get_or (set flags n y) j false) e ∙ get_or-set_same flags n y false lt)
        | inr e ↦
            get_or-set_other h.values (length d.decls.vars + memories_of d + n) (length d.decls.vars + memories_of d + i) y false (λ s. e (omega (arith, s)))
            ∙ f.each i k
            ∙ sym (get_or-set_other flags n i y false e)
      ]

  -- a block
  pub at_call : (is : List Instance) (now i : ℕ) (x y : Bool) (g h : Held) → AreAt d variables flags g h → AreAt d variables flags (called is now i x y g) (called is now i x y h)
  at_call is now i x y g h at =
      let m = at.matched in record {
        matched = record {
          fits = m.fits;
          remembers = m.remembers;
          instances = length-set g.kept.blocks i _ ∙ m.instances;
          long = m.long;
          enough = m.enough;
          values = m.values;
          memories = m.memories;
          blocks = ap (λ (bs : _). (called is now i x y (held g.values g.kept.memories bs)).kept.blocks) m.blocks;
        };
        flagged = record { room = at.flagged.room; each = at.flagged.each };
      }
