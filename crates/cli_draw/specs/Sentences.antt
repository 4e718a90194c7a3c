-- The sentence that explains why a text isn't drawn.
use Rattle.std.specs.Prelude.{◌++◌, ℕ, List, codes}
use Rattle.st_program.specs.declared.fault.Expected.{Expected}
use Rattle.st_program.specs.declared.fault.Expected.TheVariants as expected
use Rattle.st_program.specs.declared.fault.Refusal.{Refusal}
use Rattle.st_program.specs.declared.fault.Refusal.TheVariants as refusal
use Rattle.st_program.specs.declared.fault.StFault.{StFault}
use Rattle.st_program.specs.declared.fault.StFault.TheVariants as st
use Rattle.st_program.specs.declared.mark.Mark.{Mark}
use Rattle.st_program.specs.declared.mark.Mark.TheVariants as mark
use Rattle.draw_program.specs.declared.fault.DrawFault.{DrawFault}
use Rattle.draw_program.specs.declared.fault.DrawFault.TheVariants as fault

-- a keyword as it is spelled
abbrev pub keyword : Mark → List ℕ
keyword mark.Program = codes "PROGRAM"
keyword mark.EndProgram = codes "END_PROGRAM"
keyword mark.Var = codes "VAR"
keyword mark.VarInput = codes "VAR_INPUT"
keyword mark.VarOutput = codes "VAR_OUTPUT"
keyword mark.EndVar = codes "END_VAR"
keyword mark.At = codes "AT"
keyword mark.Bool = codes "BOOL"
keyword mark.Int = codes "INT"
keyword mark.Ton = codes "TON"
keyword mark.Tof = codes "TOF"
keyword mark.Tp = codes "TP"
keyword mark.Ctu = codes "CTU"
keyword mark.Ctd = codes "CTD"
keyword mark.Sr = codes "SR"
keyword mark.Rs = codes "RS"
keyword mark.RisingTrigger = codes "R_TRIG"
keyword mark.FallingTrigger = codes "F_TRIG"
keyword mark.On = codes "TRUE"
keyword mark.Off = codes "FALSE"
keyword mark.If = codes "IF"
keyword mark.Then = codes "THEN"
keyword mark.Else = codes "ELSE"
keyword mark.EndIf = codes "END_IF"
keyword mark.Case = codes "CASE"
keyword mark.Of = codes "OF"
keyword mark.Return = codes "RETURN"
keyword mark.Not = codes "NOT"
keyword mark.And = codes "AND"
keyword mark.Or = codes "OR"
keyword mark.Exclusive = codes "XOR"
keyword _ = codes "another word"

-- a symbol or a keyword that is due; where ELSIF is, ELSE and END_IF are too, and where END_CASE is, a number and ELSE
abbrev pub mark_word : Mark → List ℕ
mark_word mark.Elsif = codes "ELSIF, ELSE or END_IF"
mark_word mark.EndCase = codes "a number, ELSE or END_CASE"
mark_word mark.Becomes = codes ":="
mark_word mark.Yields = codes "=>"
mark_word mark.Colon = codes ":"
mark_word mark.Semicolon = codes ";"
mark_word mark.Comma = codes ","
mark_word mark.Open = codes "("
mark_word mark.Close = codes ")"
mark_word mark.Equal = codes "="
mark_word mark.Unequal = codes "<>"
mark_word word = keyword word

-- what is due, in words
abbrev pub expected_words : Expected → List ℕ
expected_words (expected.Mark m) = mark_word m
expected_words expected.Name = codes "a name"
expected_words expected.Address = codes "a place such as %IX0.0"
expected_words expected.Constant = codes "TRUE or FALSE"
expected_words expected.Parameter = codes "PT of a timer or PV of a counter"
expected_words expected.Preset = codes "a duration such as T#5s or a number up to 32767"
expected_words expected.Number = codes "a number up to 32767"
expected_words expected.Integer = codes "the name of an INT"
expected_words expected.Expression = codes "an expression"
expected_words expected.Statement = codes "a statement"
expected_words expected.Argument = codes "an input, a preset or an output of the block that isn't given yet"
expected_words expected.End = codes "the end of the text"

abbrev pub due_sentence : Expected → List ℕ
due_sentence e = codes "T2: " ++ (expected_words e ++ codes " is due here\n")

-- why words are no program
abbrev pub refusal_sentence : Refusal → List ℕ
refusal_sentence refusal.Memory = codes "X7: out of memory\n"
refusal_sentence (refusal.Due at e) = due_sentence e
refusal_sentence (refusal.Name at) = codes "T3: the name isn't declared, or it is declared twice\n"
refusal_sentence (refusal.Type at) =
    codes "T4: a variable is a BOOL, or an INT of VAR without an address; a block is a TON, TOF, TP, CTU, CTD, SR, RS, R_TRIG or F_TRIG, and has no address\n"
refusal_sentence (refusal.Undrawable at) = codes "T5: a ladder diagram has no such statement or operator\n"
refusal_sentence (refusal.Integer at) =
    codes "T5: an INT is set to a number, compared with one by = or <> (behind NOT in parentheses), or chosen by CASE\n"
refusal_sentence (refusal.Member at) = codes "T6: a program can't read or write this of a block\n"
refusal_sentence (refusal.Input at) = codes "T7: an input can't be written\n"
refusal_sentence (refusal.Call at) = codes "T8: the block is called twice, or it has no preset, or more than one\n"
refusal_sentence (refusal.TooMany at) = codes "T9: a program has at most 600 statements, 256 variables and 64 blocks\n"
refusal_sentence (refusal.TooDeep at) = codes "T9: in an expression, at most 100 parentheses and operators stand within one another\n"

-- why a text is no program
abbrev pub text_sentence : StFault → List ℕ
text_sentence (st.Character at) = codes "T1: no word begins with this character, or the comment that begins here has no end\n"
text_sentence (st.Words r) = refusal_sentence r

-- why a text isn't drawn
abbrev pub sentence : DrawFault → List ℕ
sentence fault.Memory = codes "X7: out of memory\n"
sentence (fault.Text f) = text_sentence f
sentence (fault.AlikeNames at) = codes "T3: in a drawing this name would be as another one; of a name the first 32 characters count\n"
sentence (fault.TooManyRungs count) = codes "T9: a program has at most 100 rungs\n"
sentence (fault.TooManyVariables count) = codes "T9: a program has at most 256 variables\n"
sentence (fault.TooManyBlocks count) = codes "T9: a program has at most 64 blocks\n"
sentence fault.NotFaithful = codes "T10: the drawing isn't found to do what the statements do, so it isn't written\n"
