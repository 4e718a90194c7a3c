-- The note of a variable by what the code finds.
use Rattle.std.proofs.Common.{◌≡◌, ◌∙◌, ℕ, Bool, true, false, cond, List, [], Result, Some, None, get_or, slice_get, ap, sym, subst}
use Rattle.diagram_declarations.specs.Decls.{Declared}
use Rattle.diagram_declarations.specs.declared.decls.Var.{Var}
use Rattle.scan_cycle.specs.Standing.{Standing}
use Rattle.io_text.specs.Buffer.{Sends}
use Rattle.io_text.specs.Log.{WriteLog}
use Rattle.text_drawing.specs.Notes.{is_among, noted_before, numbered_note, value_text, var_note}

-- a text is sent where an equal one is
pub sends_as : {T E : Type 0} (a b : WriteLog) (w0 w1 : List ℕ) (r : Result T E) (text other : List ℕ) → text ≡ other → Sends a b w0 w1 r text → Sends a b w0 w1 r other
sends_as a b w0 w1 r text other e p = subst (λ t. Sends a b w0 w1 r t) e p

pub value_noted : (gap : List ℕ) (inputs : Bool) (d : Declared) (after : Standing) (number many : ℕ) (v : Var) (name : List ℕ) (value : Bool)
    → slice_get d.vars number ≡ Some v → is_among inputs v ≡ true → many ≡ noted_before inputs d.vars number → name ≡ v.title
    → value ≡ get_or after.held.values number false → value_text gap many name value ≡ numbered_note gap inputs d after number
value_noted gap inputs d after number many v name value found among before named is =
    let all = noted_before inputs d.vars number in
    ap (λ n. value_text gap n name value) before
    ∙ ap (λ t. value_text gap all t value) named
    ∙ ap (value_text gap all v.title) is
    ∙ ap (λ b. cond b (value_text gap all v.title (get_or after.held.values number false)) []) (sym among)
    ∙ ap (var_note gap inputs after all number) (sym found)

pub not_among : (gap : List ℕ) (inputs : Bool) (d : Declared) (after : Standing) (number : ℕ) (v : Var) → slice_get d.vars number ≡ Some v → is_among inputs v ≡ false
    → [] ≡ numbered_note gap inputs d after number
not_among gap inputs d after number v found among =
    let all = noted_before inputs d.vars number in
    ap (λ b. cond b (value_text gap all v.title (get_or after.held.values number false)) []) (sym among)
    ∙ ap (var_note gap inputs after all number) (sym found)

pub not_declared : (gap : List ℕ) (inputs : Bool) (d : Declared) (after : Standing) (number : ℕ) → slice_get d.vars number ≡ None → [] ≡ numbered_note gap inputs d after number
not_declared gap inputs d after number missed = ap (var_note gap inputs after (noted_before inputs d.vars number) number) (sym missed)
