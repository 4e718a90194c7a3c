use Rattle.std.proofs.Common.{◌≡◌, ◌∙◌, ◌⊎◌, ap, ap₂, inl, inr, refl, sym, true, List, [], Option, Some, None, IfSome, IsSome, map, string_bytes}
use Rattle.std.proofs.lemmas.Result.{IfErr-weaker, IfOk-weaker}
use Rattle.clap.specs.Words.{App, HasKind, IsAmong, Row, Text, fault_of, is_simple, is_simple_and_free, kind_of, subcommand_of}
use Rattle.clap.specs.declared.error.kind.ErrorKind.{ErrorKind}
use Rattle.clap.specs.declared.error.kind.ErrorKind.TheVariants.{OutOfMemory}
use Rattle.clap.proofs.OnLiterals.{clap_on_literals}
use Rattle.cli_options.specs.CommandLine.{ladder_app}
use Rattle.cli_arguments.specs.Asking.{AsksBy, AsksNothing, HasNoTask, HasTask}
use Rattle.cli_arguments.specs.Faults.{IsFaultOf, IsTold, SaysOf}
use Rattle.cli_arguments.specs.declared.request.Task.{Task}
use Rattle.cli_arguments.specs.declared.request.WordFault.{WordFault}
use Rattle.cli_arguments.specs.declared.request.WordFault.TheVariants.{Broken, Help, Memory, Mistake, NoCode, Usage}
use Rattle.cli_arguments.proofs.words.read_words.Goals as goal

is_simple_ladder : is_simple ladder_app ≡ true
unfolding clap_on_literals
is_simple_ladder = refl

asks_by : (app : App) (words : List Text) (o : Option (Text × List Row)) (task : Task) → o ≡ subcommand_of app words
    → IfSome o (λ p. HasTask p.0 p.1 task) → IsSome o → AsksBy app words task
asks_by app words None t e h some = cc
asks_by app words (Some p) t e h some = (p.0, p.1, sym e, h)

asks_nothing : (app : App) (words : List Text) (o : Option (Text × List Row)) → o ≡ subcommand_of app words
    → IfSome o (λ p. HasNoTask p.0 p.1) → AsksNothing app words
asks_nothing app words None same none task asked = let bad = same ∙ asked.2 in cc
asks_nothing app words (Some p) same none task asked =
    let both = same ∙ asked.2 in
    let name : p.0 ≡ asked.0 = cc in
    let rows : p.1 ≡ asked.1 = cc in
    none task (rw (name, rows) asked.3)

no_request : (app : App) (words : List Text) (o : Option (Text × List Row)) (fault : WordFault) → o ≡ subcommand_of app words
    → fault_of app words ≡ [] → IsTold o fault → IsFaultOf app words fault
no_request app words o Usage same clear (inl none) = inr (clear, asks_nothing app words o same none)
no_request app words o Usage same clear (inr told) = inr (clear, asks_nothing app words o same told.0)
no_request app words o (Broken b) same clear (inl none) = absurd none
no_request app words o (Broken b) same clear (inr told) = (clear, asks_nothing app words o same told.0, (told.1.0, sym same ∙ told.1.1, told.1.2))
no_request app words o (NoCode word) same clear (inl none) = (clear, asks_nothing app words o same none.0, none.1)
no_request app words o (NoCode word) same clear (inr told) = absurd told.1
no_request app words o (Mistake text) same clear (inl none) = absurd none
no_request app words o (Mistake text) same clear (inr told) = absurd told.1
no_request app words o (Help text) same clear (inl none) = absurd none
no_request app words o (Help text) same clear (inr told) = absurd told.1
no_request app words o Memory same clear none = tt

refused : (app : App) (words : List Text) (kind : ErrorKind) (fault : WordFault) → (kind ≡ OutOfMemory) ⊎ IsAmong kind (fault_of app words)
    → SaysOf kind fault → IsFaultOf app words fault
refused app words kind Usage (inl memory) says = absurd (says.1 memory)
refused app words kind Usage (inr among) says = inl (kind, among, says.0)
refused app words kind (Broken b) either says = absurd says
refused app words kind (NoCode word) either says = absurd says
refused app words kind (Mistake text) (inl memory) says = absurd (says.1 memory)
refused app words kind (Mistake text) (inr among) says = (kind, among, says.0)
refused app words kind (Help text) (inl memory) (inl says) = let bad = sym says ∙ memory in cc
refused app words kind (Help text) (inl memory) (inr says) = let bad = sym says ∙ memory in cc
refused app words kind (Help text) (inr among) says = (kind, among, says)
refused app words kind Memory either says = tt

is_free_ladder : is_simple_and_free ladder_app ≡ true
unfolding clap_on_literals
is_free_ladder = refl

pub returns-in-Ok-try_get_matches_from-clause-asks : goal.returns-in-Ok-try_get_matches_from-clause-asks
returns-in-Ok-try_get_matches_from-clause-asks c =
    let simple = ap is_simple c.in-Ok.ensures ∙ is_simple_ladder in
    let exact = (c.in-Ok-try_get_matches_from.ensures.matches simple).1 in
    let words : map string_bytes c.as_slice.result.now ≡ map string_bytes c.args.words.items = ap (λ ws. map string_bytes ws) c.as_slice.ensures.value in
    IfOk-weaker c.told_in.result _ _
    (λ r h. asks_by ladder_app (map string_bytes c.args.words.items) _ r (exact ∙ ap₂ subcommand_of c.in-Ok.ensures words) h.0 h.1)
    c.told_in.ensures.ok

pub returns-in-Ok-try_get_matches_from-clause-accepted : goal.returns-in-Ok-try_get_matches_from-clause-accepted
returns-in-Ok-try_get_matches_from-clause-accepted c =
    let none = c.in-Ok-try_get_matches_from.ensures.kinds (ap is_simple_and_free c.in-Ok.ensures ∙ is_free_ladder) in
    let words : map string_bytes c.as_slice.result.now ≡ map string_bytes c.args.words.items = ap (λ ws. map string_bytes ws) c.as_slice.ensures.value in
    let clear : fault_of ladder_app (map string_bytes c.args.words.items) ≡ [] = sym (ap₂ fault_of c.in-Ok.ensures words) ∙ none in
    IfOk-weaker c.told_in.result _ _ (λ r h. clear) c.told_in.ensures.ok

pub returns-in-Ok-try_get_matches_from-clause-fault : goal.returns-in-Ok-try_get_matches_from-clause-fault
returns-in-Ok-try_get_matches_from-clause-fault c =
    let simple = ap is_simple c.in-Ok.ensures ∙ is_simple_ladder in
    let exact = (c.in-Ok-try_get_matches_from.ensures.matches simple).1 in
    let none = c.in-Ok-try_get_matches_from.ensures.kinds (ap is_simple_and_free c.in-Ok.ensures ∙ is_free_ladder) in
    let words : map string_bytes c.as_slice.result.now ≡ map string_bytes c.args.words.items = ap (λ ws. map string_bytes ws) c.as_slice.ensures.value in
    let clear : fault_of ladder_app (map string_bytes c.args.words.items) ≡ [] = sym (ap₂ fault_of c.in-Ok.ensures words) ∙ none in
    IfErr-weaker c.told_in.result _ _
    (λ fault h. no_request ladder_app (map string_bytes c.args.words.items) _ fault (exact ∙ ap₂ subcommand_of c.in-Ok.ensures words) clear h)
    c.told_in.ensures.err

pub returns-clause-fault : goal.returns-clause-fault
returns-clause-fault c =
    let some = c.in-Err.ensures.kinds (ap is_simple_and_free c.in-Ok.ensures ∙ is_free_ladder) in
    let words : map string_bytes c.as_slice.result.now ≡ map string_bytes c.args.words.items = ap (λ ws. map string_bytes ws) c.as_slice.ensures.value in
    let kinds = ap₂ fault_of c.in-Ok.ensures words in
    refused ladder_app (map string_bytes c.args.words.items) (kind_of c.in-Err.error) c.fault_of.result
    (rw (ap (λ k. HasKind k c.in-Err.error) kinds) at some)
    c.fault_of.ensures
