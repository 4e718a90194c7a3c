-- A request with what the comments of its program text assume.
use Rattle.std.specs.Prelude.{◌≡◌, ◌++◌, ℕ, List, String, Vec, map, string_bytes}
use Rattle.std.specs.Global.{Global}
use Rattle.assume_comments.specs.Comments.{AreAssumed}
use Rattle.cli_arguments.specs.declared.request.Request.{Request}
use Rattle.cli_arguments.specs.declared.request.Request.TheVariants.{Causes, Groups, Held, Never, Possible, Progress, Reach, Relevant, Show}

abbrev pub Expressions : Type 0
Expressions = Vec (String Global) Global

-- These expressions, and then those before.
abbrev pub ArePutFirst : List (List ℕ) → Expressions → Expressions → Type 0
ArePutFirst texts old new = map string_bytes new.items ≡ texts ++ map string_bytes old.items

-- The same request, with these expressions assumed before its own where it has any: of a list of causes, of what never is, of a run, and of a scan that is shown.
abbrev pub IsAssuming : List (List ℕ) → Request → Request → Type 0
IsAssuming texts (Causes list after upto) new = (all : Expressions) × ArePutFirst texts list.assumed all × (new ≡ Causes (record list { assumed = all }) after upto)
IsAssuming texts (Progress list after upto) new = (all : Expressions) × ArePutFirst texts list.assumed all × (new ≡ Progress (record list { assumed = all }) after upto)
IsAssuming texts (Held list scans every grouped) new = (all : Expressions) × ArePutFirst texts list.assumed all × (new ≡ Held (record list { assumed = all }) scans every grouped)
IsAssuming texts (Groups list grouping) new = (all : Expressions) × ArePutFirst texts list.assumed all × (new ≡ Groups (record list { assumed = all }) grouping)
IsAssuming texts (Relevant list after grouping) new = (all : Expressions) × ArePutFirst texts list.assumed all × (new ≡ Relevant (record list { assumed = all }) after grouping)
IsAssuming texts (Possible r) new = (all : Expressions) × ArePutFirst texts r.assumed all × (new ≡ Possible (record r { assumed = all }))
IsAssuming texts (Never r) new = (all : Expressions) × ArePutFirst texts r.assumed all × (new ≡ Never (record r { assumed = all }))
IsAssuming texts (Reach r) new = (all : Expressions) × ArePutFirst texts r.assumed all × (new ≡ Reach (record r { assumed = all }))
IsAssuming texts (Show r) new = (all : Expressions) × ArePutFirst texts r.assumed all × (new ≡ Show (record r { assumed = all }))
IsAssuming texts other new = new ≡ other

-- The same request, with what the comments of the text assume before what it assumes by itself.
abbrev pub TakesComments : (text : List ℕ) → Request → Request → Type 0
TakesComments text old new = (texts : List (List ℕ)) × AreAssumed text texts × IsAssuming texts old new
