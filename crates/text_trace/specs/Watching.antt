-- What a trace can have beside its outputs (the profile): of a variable its value, of an instance its output, the elapsed time or the count.
use Rattle.std.specs.Prelude.{◌++◌, ℕ, List, false, None, Some, codes, decimal, slice_get, slice_index_or}
use Rattle.std.specs.Fmt.{signed_decimal}
use Rattle.diagram_declarations.specs.declared.kind.BlockKind.TheVariants.{Ton}
use Rattle.diagram_declarations.specs.Decls.{Declared, instance_name, output_suffix, var_name}
use Rattle.scan_signals.specs.declared.block.Stored.{Stored}
use Rattle.scan_signals.specs.Blocks.{elapsed, new_block, q_of}
use Rattle.scan_signals.specs.Histories.{cv_of}
use Rattle.io_text.specs.Text.{bit_text}
use Rattle.scan_cycle.specs.Standing.{Standing}
use Rattle.text_trace.specs.declared.column.Column.{Column}
use Rattle.text_trace.specs.declared.column.Column.TheVariants as column

-- Its name in the header: that of the variable, or that of the instance with `.Q` (of a bistable `.Q1`), `.ET` or `.CV`.
abbrev pub column_name : Declared → Column → List ℕ
column_name d (column.Value n) = var_name d n
column_name d (column.Output n) = instance_name d n ++ output_suffix d n
column_name d (column.Elapsed n) = instance_name d n ++ codes ".ET"
column_name d (column.Count n) = instance_name d n ++ codes ".CV"

-- What an instance stores in a state, and its preset.
abbrev pub stored_of : Standing → ℕ → Stored
stored_of s n = slice_index_or s.held.kept.blocks n (new_block Ton)

abbrev pub preset_of : Declared → ℕ → ℕ
preset_of d n = elim (slice_get d.instances n) [ None ↦ 0 | Some i ↦ i.preset ]

-- Its field in the row of a state.
abbrev pub column_text : Declared → Standing → Column → List ℕ
column_text d s (column.Value n) = bit_text (slice_index_or s.held.values n false)
column_text d s (column.Output n) = bit_text (q_of (stored_of s n))
column_text d s (column.Elapsed n) = decimal (elapsed (preset_of d n) s.moment (stored_of s n))
column_text d s (column.Count n) = signed_decimal (cv_of (stored_of s n))
