-- The coils of a program, and a request that is made of one of them.
use Rattle.std.specs.Prelude.{ℕ, Bool, false, List, [], filter, length, map, slice_get, String}
use Rattle.std.specs.Global.{Global}
use Rattle.std.specs.List.{range_with_len}
use Rattle.std.specs.Option.{option_map_or}
use Rattle.diagram_program.specs.Program.{Drawing, has_coil}
use Rattle.cli_arguments.specs.declared.request.Request.{Request}
use Rattle.cli_arguments.specs.declared.request.Request.TheVariants.{Causes, Groups, Held, Possible, Progress, Relevant}

-- the variables that coils write, in order of declaration
abbrev pub coils_of : Drawing → List ℕ
coils_of p = filter (λ var. has_coil var p) (range_with_len 0 (length p.decls.vars))

abbrev pub name_at : Drawing → ℕ → List ℕ
name_at p var = option_map_or (λ v. v.name) (slice_get p.decls.vars var) []

-- their names, as they are declared
abbrev pub coil_names : Drawing → List (List ℕ)
coil_names p = map (name_at p) (coils_of p)

-- the request for a list, made of the coil with this name; one that asks of no coil stays as it is
abbrev pub of_coil : String Global → Request → Request
of_coil coil (Causes list after upto) = Causes (record list { coil = coil }) after upto
of_coil coil (Progress list after upto) = Progress (record list { coil = coil }) after upto
of_coil coil (Held list scans every grouped) = Held (record list { coil = coil }) scans every grouped
of_coil coil (Groups list grouping) = Groups (record list { coil = coil }) grouping
of_coil coil (Relevant list after grouping) = Relevant (record list { coil = coil }) after grouping
of_coil coil (Possible r) = Possible (record r { coil = coil })
of_coil coil other = other

-- whether the line of counts of a list is left out
abbrev pub is_quiet : Request → Bool
is_quiet (Causes list after upto) = list.quiet
is_quiet (Progress list after upto) = list.quiet
is_quiet (Held list scans every grouped) = list.quiet
is_quiet (Groups list grouping) = list.quiet
is_quiet (Relevant list after grouping) = list.quiet
is_quiet (Possible r) = r.quiet
is_quiet other = false
