-- The number and the sentence of each rule that a program text can break.
use Rattle.std.specs.Prelude.{ℕ, List, codes}
use Rattle.diagram_declarations.specs.declared.fault.VarRule.{VarRule}
use Rattle.diagram_declarations.specs.declared.fault.VarRule.TheVariants as var
use Rattle.diagram_reader.specs.declared.grid_rule.GridRule.{GridRule}
use Rattle.diagram_reader.specs.declared.grid_rule.GridRule.TheVariants as rule

-- the rules of the declarations, V1 to V9
abbrev pub var_number : VarRule → ℕ
var_number var.BadByte = 1
var_number var.BadToken = 2
var_number var.BadName = 3
var_number var.Duplicate = 4
var_number var.DuplicateAddress = 5
var_number var.BadPreset = 6
var_number var.TooMany = 7
var_number var.Unfinished = 8
var_number var.Memory = 9

abbrev pub var_sentence : VarRule → List ℕ
var_sentence var.BadByte = codes "V1: this byte may stand in comments only"
var_sentence var.BadToken = codes "V2: this token may not stand here"
var_sentence var.BadName = codes "V3: this is no name"
var_sentence var.Duplicate = codes "V4: this name was declared before"
var_sentence var.DuplicateAddress = codes "V5: this address was declared before"
var_sentence var.BadPreset = codes "V6: this is no preset for the block"
var_sentence var.TooMany = codes "V7: there are too many variables or instances"
var_sentence var.Unfinished = codes "V8: the text ends too early"
var_sentence var.Memory = codes "V9: out of memory"

-- the rules of the drawing, G1 to G15
abbrev pub grid_number : GridRule → ℕ
grid_number rule.TooWide = 1
grid_number rule.TooTall = 2
grid_number rule.BadCell = 3
grid_number rule.BadJoint = 4
grid_number rule.BrokenVertical = 5
grid_number rule.Unfed = 6
grid_number rule.NameMissing = 7
grid_number rule.NameWithoutSymbol = 8
grid_number rule.Undeclared = 9
grid_number rule.WrongKind = 10
grid_number rule.BlockShape = 11
grid_number rule.DrawnTwice = 12
grid_number rule.LabelFault = 13
grid_number rule.TwoJumps = 14
grid_number rule.TooManyRungs = 15

abbrev pub grid_sentence : GridRule → List ℕ
grid_sentence rule.TooWide = codes "G1: past the right rail there may be spaces alone"
grid_sentence rule.TooTall = codes "G2: a rung has at most 12 lines"
grid_sentence rule.BadCell = codes "G3: this is no form of a cell"
grid_sentence rule.BadJoint = codes "G4: this is no joint"
grid_sentence rule.BrokenVertical = codes "G5: this vertical link has a loose end"
grid_sentence rule.Unfed = codes "G6: nothing feeds this cell"
grid_sentence rule.NameMissing = codes "G7: a name is missing over this symbol"
grid_sentence rule.NameWithoutSymbol = codes "G8: there is no symbol under this text"
grid_sentence rule.Undeclared = codes "G9: this name isn't declared"
grid_sentence rule.WrongKind = codes "G10: this symbol can't have this name"
grid_sentence rule.BlockShape = codes "G11: the upper or the lower cell of a block is missing"
grid_sentence rule.DrawnTwice = codes "G12: this instance was drawn before"
grid_sentence rule.LabelFault = codes "G13: this label or jump can't stand here"
grid_sentence rule.TwoJumps = codes "G14: a rung has at most one jump or return"
grid_sentence rule.TooManyRungs = codes "G15: there are too many rungs"
