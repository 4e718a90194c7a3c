-- The marks of a line can be erased.
use Rattle.std.proofs.Common.{◌≡◌, ◌∙◌, ◌+◌, ◌*◌, ◌%◌, ◌/◌, ◌&&◌, ℕ, Bool, true, false, cond, List, refl, sym, arith}
use Rattle.std.specs.Prelude.{◌==◌, ◌||◌, nat_le, not, slice_index_or, slice_range}
use Rattle.std.specs.List.{list_all}
use Rattle.std.proofs.lemmas.Bool.Decides.{nat_tests}
use Rattle.diagram_program.specs.declared.geometry.TheConstants.{PITCH, RAIL}
use Rattle.scan_cycle.specs.declared.seen.Mark.{Mark}
use Rattle.text_power.specs.Show.{IsErased, cell_char, joint_char, mark_in, unlinked, unmarked, wire_char}

wire_back : (e p : Bool) → unmarked (wire_char e p) ≡ 45
wire_back true true = refl
wire_back true false = refl
wire_back false p = refl

link_back : (joint left : Bool) (b : ℕ) → unlinked b ≡ b → unlinked (cond (joint && (left && b == 124)) 33 b) ≡ b
link_back true true b h = grind (arith, nat_tests)
link_back true false b h = h
link_back false left b h = h

abbrev symbol : Bool → ℕ → ℕ
symbol front b = cond (b == 124) (cond front 91 93) (cond (b == 40) 123 (cond (b == 41) 125 b))

symbol_back : (front : Bool) (b : ℕ) → unmarked b ≡ b → unmarked (symbol front b) ≡ b
symbol_back front b h = grind (arith, nat_tests)

is_dash : (b : ℕ) → (b == 45) ≡ true → b ≡ 45
is_dash b h = grind (arith, nat_tests)

upright_back : (left : Bool) (b : ℕ) → unmarked b ≡ b → unmarked (cond (not left) b (cond (b == 43) 35 (cond (b == 124) 33 b))) ≡ b
upright_back false b h = h
upright_back true b h = grind (arith, nat_tests)

joint_by : (e left c : Bool) (b : ℕ) → (b == 45) ≡ c → unmarked b ≡ b
    → unmarked (cond c (wire_char e left) (cond (not left) b (cond (b == 43) 35 (cond (b == 124) 33 b)))) ≡ b
joint_by e left true b d h = wire_back e left ∙ sym (is_dash b d)
joint_by e left false b d h = upright_back left b h

joint_back : (m : Mark) (b : ℕ) → unmarked b ≡ b → unmarked (joint_char m b) ≡ b
joint_back m b h = joint_by m.evaluated m.left (b == 45) b refl h

on_back : (on front : Bool) (b : ℕ) → unmarked b ≡ b → unmarked (cond (not on) b (symbol front b)) ≡ b
on_back true front b h = symbol_back front b h
on_back false front b h = h

cell_by : (e p on front c : Bool) (b : ℕ) → (b == 45) ≡ c → unmarked b ≡ b → unmarked (cond c (wire_char e p) (cond (not on) b (symbol front b))) ≡ b
cell_by e p on front true b d h = wire_back e p ∙ sym (is_dash b d)
cell_by e p on front false b d h = on_back on front b h

cell_back : (m : Mark) (front : Bool) (b : ℕ) → unmarked b ≡ b → unmarked (cell_char m front b) ≡ b
cell_back m front b h = cell_by m.evaluated (cond front m.left m.right) m.on front (b == 45) b refl h

back_by : (edge even joint : Bool) (m : Mark) (front : Bool) (b : ℕ) → cond even (unlinked b) (unmarked b) ≡ b
    → let x = cond edge b (cond even (cond (joint && (m.left && b == 124)) 33 b) (cond joint (joint_char m b) (cell_char m front b))) in
    cond even (unlinked x) (unmarked x) ≡ b
back_by true even joint m front b h = h
back_by false true joint m front b h = link_back joint m.left b h
back_by false false true m front b h = joint_back m b h
back_by false false false m front b h = cell_back m front b h

pub marks_erased : (marks : List Mark) (rung line : ℕ) (text : List ℕ) → IsErased marks rung line text
marks_erased marks rung line text = λ h at lt.
    back_by (at == 0 || nat_le RAIL at) (line % 2 == 0) (at % PITCH == 0) (mark_in marks rung (line / 2) (at / PITCH))
    (list_all (λ c. c == 45) (slice_range text (PITCH * (at / PITCH) + 1) at)) (slice_index_or text at 32) (h at lt)
