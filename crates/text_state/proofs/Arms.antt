-- How the reading of all items ends.
use Rattle.std.proofs.Common.{◌≡◌, ◌∙◌, ◌+◌, ◌++◌, ◌∷◌, [], ℕ, List, Bool, true, false, Err, sym, ap, subst, append_assoc, append-nil, length}
use Rattle.std.specs.Prelude.{⊤}
use Rattle.std.specs.Borrow.{Bor}
use Rattle.csv.specs.declared.reader.Reader.{Reader}
use Rattle.diagram_declarations.specs.declared.decls.Instance.{Instance}
use Rattle.diagram_declarations.specs.declared.decls.Var.{Var}
use Rattle.diagram_program.specs.Program.{Drawing, memories_of}
use Rattle.io_text.specs.Left.{Fields, TakesFirst}
use Rattle.scan_cycle.specs.Standing.{Fits, Standing, with_blocks, with_memories, with_values}
use Rattle.text_state.specs.declared.fault.StateFault.{StateFault}
use Rattle.text_state.specs.declared.fault.StateFault.TheVariants as fault
use Rattle.text_state.specs.declared.version.Version.{Version}
use Rattle.text_state.specs.Parts.{CanHold, IsRead, IsStuck, ReadsItems, ReadsPart, block_item, block_records, each, every, memory_records, tells, var_records}
use Rattle.text_state.specs.StateText.{IsStateOf, item_records, memory_places, memory_record, var_record}
use Rattle.text_state.proofs.Segments.{blocks_bad, blocks_in, further_bad, in_parts, memories_bad, memories_in, values_bad, values_of}

pub fits_values : (p : Drawing) (a n : Standing) → Fits p a → n ≡ with_values a n.held.values → length n.held.values ≡ length p.decls.vars → Fits p n
fits_values p a n f e h = record { values = h; memories = ap (λ (x : Standing). length x.held.kept.memories) e ∙ f.memories; kinds = ap (λ (x : Standing). x.kinds) e ∙ f.kinds }

pub fits_memories : (p : Drawing) (a n : Standing) → Fits p a → n ≡ with_memories a n.held.kept.memories → length n.held.kept.memories ≡ memories_of p → Fits p n
fits_memories p a n f e h = record { values = ap (λ (x : Standing). length x.held.values) e ∙ f.values; memories = h; kinds = ap (λ (x : Standing). x.kinds) e ∙ f.kinds }

pub fits_blocks : (p : Drawing) (a n : Standing) → Fits p a → n ≡ with_blocks a n.held.kept.blocks → Fits p n
fits_blocks p a n f e = record {
  values = ap (λ (x : Standing). length x.held.values) e ∙ f.values;
  memories = ap (λ (x : Standing). length x.held.kept.memories) e ∙ f.memories;
  kinds = ap (λ (x : Standing). x.kinds) e ∙ f.kinds;
}

pub values_arm : (v : Version) (p : Drawing) (s : Standing) (vars : List Var) (rows : List Fields) (new : Reader (Bor (List ℕ))) (f : StateFault) → vars ≡ p.decls.vars → IsStateOf p s
    → ReadsPart {T = ⊤} every var_record (λ _ _. ⊤) vars s.held.values rows 2 new (Err f) → ReadsItems {T = ⊤} v p s rows (Err f)
values_arm v p s vars rows new (fault.BadRow n) e ok h = values_bad v p s rows n ok (subst (λ l. IsStuck every var_record (λ _ _. ⊤) l s.held.values rows 2 n) e h)
values_arm v p s vars rows new fault.Memory e ok h = tt

-- what is read of the values stands in the states after them
pub values_cut : (p : Drawing) (a : Standing) (vars : List Var) (rows : List Fields) (new : Reader (Bor (List ℕ))) → vars ≡ p.decls.vars → (h : IsRead var_records vars a.held.values rows new)
    → (s : Standing) → s ≡ with_memories a s.held.kept.memories → rows ≡ values_of p s ++ h.rest
values_cut p a vars rows new e h s same =
    h.cut ∙ ap (λ l. each var_records l a.held.values ++ h.rest) e ∙ ap (λ l. each var_records p.decls.vars l ++ h.rest) (sym (ap (λ (x : Standing). x.held.values) same))

pub memories_arm : (v : Version) (p : Drawing) (s : Standing) (rows rest : List Fields) (new : Reader (Bor (List ℕ))) (before : ℕ) (f : StateFault) → IsStateOf p s
    → before ≡ 2 + length p.decls.vars → rows ≡ values_of p s ++ rest
    → ReadsPart {T = ⊤} every memory_record (λ _ _. ⊤) (memory_places p) s.held.kept.memories rest before new (Err f) → ReadsItems {T = ⊤} v p s rows (Err f)
memories_arm v p s rows rest new before (fault.BadRow n) ok b cut h =
    memories_bad v p s rows rest n ok cut (subst (λ k. IsStuck every memory_record (λ _ _. ⊤) (memory_places p) s.held.kept.memories rest k n) b h)
memories_arm v p s rows rest new before fault.Memory ok b cut h = tt

pub both_cut : (p : Drawing) (a b s : Standing) (rows rest : List Fields) (new : Reader (Bor (List ℕ))) → rows ≡ values_of p a ++ rest → (h : IsRead memory_records (memory_places p) a.held.kept.memories rest new)
    → s ≡ with_blocks a s.held.kept.blocks → rows ≡ (values_of p s ++ memories_in p s) ++ h.rest
both_cut p a b s rows rest new cut h same =
    cut ∙ ap (λ l. values_of p a ++ l) h.cut ∙ sym (append_assoc (values_of p a) (memories_in p a) h.rest)
    ∙ ap (λ (x : Standing). (values_of p x ++ memories_in p x) ++ h.rest) (sym same)

pub blocks_arm : (v : Version) (p : Drawing) (s : Standing) (instances : List Instance) (rows rest : List Fields) (new : Reader (Bor (List ℕ))) (moment before : ℕ) (f : StateFault)
    → IsStateOf p s → instances ≡ p.decls.instances → moment ≡ s.moment → before ≡ 2 + length p.decls.vars + memories_of p
    → rows ≡ (values_of p s ++ memories_in p s) ++ rest
    → ReadsPart {T = ℕ} (tells v) block_item (CanHold moment) instances s.held.kept.blocks rest before new (Err f) → ReadsItems {T = ⊤} v p s rows (Err f)
blocks_arm v p s instances rows rest new moment before (fault.BadRow n) ok i m b cut h =
    let h = subst (λ k. IsStuck (tells v) block_item (CanHold moment) instances s.held.kept.blocks rest k n) b h in
    let h = subst (λ l. IsStuck (tells v) block_item (CanHold moment) l s.held.kept.blocks rest (2 + length p.decls.vars + memories_of p) n) i h in
    blocks_bad v p s rows rest n ok cut (subst (λ t. IsStuck (tells v) block_item (CanHold t) p.decls.instances s.held.kept.blocks rest (2 + length p.decls.vars + memories_of p) n) m h)
blocks_arm v p s instances rows rest new moment before fault.Memory ok i m b cut h = tt

pub all_cut : (v : Version) (p : Drawing) (s : Standing) (instances : List Instance) (rows rest : List Fields) (new : Reader (Bor (List ℕ))) → instances ≡ p.decls.instances
    → rows ≡ (values_of p s ++ memories_in p s) ++ rest → (h : IsRead (block_records v) instances s.held.kept.blocks rest new) → rows ≡ item_records v p s ++ h.rest
all_cut v p s instances rows rest new i cut h =
    let parts = values_of p s ++ memories_in p s in
    cut ∙ ap (λ l. parts ++ l) h.cut ∙ ap (λ l. parts ++ (each (block_records v) l s.held.kept.blocks ++ h.rest)) i
    ∙ sym (append_assoc parts (blocks_in v p s) h.rest) ∙ ap (λ l. l ++ h.rest) (append_assoc (values_of p s) (memories_in p s) (blocks_in v p s) ∙ sym (in_parts v p s))

pub further_arm : (v : Version) (p : Drawing) (s : Standing) (rows rest : List Fields) (found : Bool) (fields : Fields) (new : Reader (Bor (List ℕ))) (n : ℕ) → IsStateOf p s
    → rows ≡ item_records v p s ++ rest → found ≡ true → TakesFirst rest found fields new → n ≡ 2 + (length p.decls.vars + memories_of p + length (blocks_in v p s)) + 1
    → ReadsItems {T = ⊤} v p s rows (Err (fault.BadRow n))
further_arm v p s rows [] found fields new n ok cut e t count = let bad : true ≡ false = sym e ∙ t in cc
further_arm v p s rows (r ∷ more) found fields new n ok cut e t count = further_bad v p s rows more r n ok cut count

pub done_arm : (v : Version) (p : Drawing) (s : Standing) (rows rest : List Fields) (found : Bool) (fields : Fields) (new : Reader (Bor (List ℕ)))
    → rows ≡ item_records v p s ++ rest → found ≡ false → TakesFirst rest found fields new → rows ≡ item_records v p s
done_arm v p s rows [] found fields new cut e t = cut ∙ append-nil (item_records v p s)
done_arm v p s rows (r ∷ more) found fields new cut e t = let bad : true ≡ false = sym t.0 ∙ e in cc
