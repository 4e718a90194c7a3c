-- The names of the inputs, presets and outputs of the standard function blocks (IEC 61131-3:2013, 6.6.3.5), with SET1, RESET, SET and RESET1
-- as other tools spell those of bistables.
use Rattle.std.specs.Prelude.{ℕ, List, [], ◌∷◌, codes, if◌then◌else◌}
use Rattle.diagram_declarations.specs.declared.kind.BlockKind.{BlockKind}
use Rattle.diagram_declarations.specs.declared.kind.BlockKind.TheVariants as kind
use Rattle.diagram_declarations.specs.Name.{same_letters}
use Rattle.st_program.specs.declared.formal.Formal.{Formal}
use Rattle.st_program.specs.declared.formal.Formal.TheVariants as formal
use Rattle.st_program.specs.declared.formal.Callee.{Callee}
use Rattle.st_program.specs.declared.formal.Callee.TheVariants as callee
use Rattle.st_program.specs.declared.formal.Role.{Role}
use Rattle.st_program.specs.declared.formal.Role.TheVariants as role

abbrev pub formals : List (List ℕ × Formal)
formals =
    (codes "CLK", formal.Clk) ∷ (codes "IN", formal.In) ∷ (codes "CU", formal.Cu) ∷ (codes "CD", formal.Cd) ∷ (codes "R", formal.R) ∷
    (codes "LD", formal.Ld) ∷ (codes "S1", formal.S1) ∷ (codes "S", formal.S) ∷ (codes "R1", formal.R1) ∷ (codes "SET1", formal.SetOne) ∷
    (codes "RESET", formal.Reset) ∷ (codes "SET", formal.Set) ∷ (codes "RESET1", formal.ResetOne) ∷ (codes "PT", formal.Pt) ∷
    (codes "PV", formal.Pv) ∷ (codes "Q", formal.Q) ∷ (codes "Q1", formal.Q1) ∷ []

abbrev pub formal_in : List ℕ → List (List ℕ × Formal) → Formal
formal_in word [] = formal.Other
formal_in word (row ∷ rows) = if same_letters word row.0 then row.1 else formal_in word rows

-- What a word names, whatever the case of its letters.
unfoldable pub formal_of : List ℕ → Formal
formal_of word = formal_in word formals

abbrev pub timer_role : Formal → Role
timer_role formal.In = role.First
timer_role formal.Pt = role.Preset
timer_role formal.Q = role.Output
timer_role _ = role.Nothing

abbrev pub counter_role : BlockKind → Formal → Role
counter_role kind.Ctu formal.Cu = role.First
counter_role kind.Ctu formal.R = role.Second
counter_role kind.Ctd formal.Cd = role.First
counter_role kind.Ctd formal.Ld = role.Second
counter_role _ formal.Pv = role.Preset
counter_role _ formal.Q = role.Output
counter_role _ _ = role.Nothing

abbrev pub bistable_role : BlockKind → Formal → Role
bistable_role kind.Sr formal.S1 = role.First
bistable_role kind.Sr formal.SetOne = role.First
bistable_role kind.Sr formal.R = role.Second
bistable_role kind.Sr formal.Reset = role.Second
bistable_role kind.Rs formal.S = role.First
bistable_role kind.Rs formal.Set = role.First
bistable_role kind.Rs formal.R1 = role.Second
bistable_role kind.Rs formal.ResetOne = role.Second
bistable_role _ formal.Q1 = role.Output
bistable_role _ _ = role.Nothing

abbrev pub block_role : BlockKind → Formal → Role
block_role kind.Ctu f = counter_role kind.Ctu f
block_role kind.Ctd f = counter_role kind.Ctd f
block_role kind.Sr f = bistable_role kind.Sr f
block_role kind.Rs f = bistable_role kind.Rs f
block_role _ f = timer_role f

-- What an argument of a name is for what is called.
abbrev pub role_of : Callee → Formal → Role
role_of callee.Trigger formal.Clk = role.First
role_of callee.Trigger formal.Q = role.Output
role_of callee.Trigger _ = role.Nothing
role_of (callee.Block k) f = block_role k f
