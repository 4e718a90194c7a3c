use Rattle.std.proofs.Common.{◌≡◌, ◌∙◌, ◌⊎◌, IfSome, ap, inl, inr, subst, sym}
use Rattle.csv.specs.Records.{fields_of}
use Rattle.diagram_declarations.specs.declared.kind.BlockKind.{BlockKind}
use Rattle.diagram_declarations.specs.declared.kind.BlockKind.TheVariants.{Ctu, Ctd, Sr, Rs}
use Rattle.scan_signals.specs.Blocks.{new_block}
use Rattle.text_state.specs.StateText.{block_record}
use Rattle.text_state.proofs.Items.{can_of, record_of, record_with}
use Rattle.text_state.proofs.row.read_block.Goals as goal

counter_kind : (kind : BlockKind) → (kind ≡ Ctu) ⊎ (kind ≡ Ctd) → new_block kind ≡ new_block Ctu
counter_kind kind (inl e) = ap new_block e
counter_kind kind (inr e) = ap new_block e

bistable_kind : (kind : BlockKind) → (kind ≡ Sr) ⊎ (kind ≡ Rs) → new_block kind ≡ new_block Sr
bistable_kind kind (inl e) = ap new_block e
bistable_kind kind (inr e) = ap new_block e

pub returns-in-Ctu-clause-record : goal.returns-in-Ctu-clause-record
returns-in-Ctu-clause-record c =
    subst (λ name. IfSome c.read_counter.result (λ s. fields_of c.args.row.now ≡ block_record name s)) c.bytes-name.ensures.spelling
    (record_of _ _ (new_block Ctu) _ c.read_counter.ensures.some)

pub returns-in-Sr-clause-record : goal.returns-in-Sr-clause-record
returns-in-Sr-clause-record c =
    subst (λ name. IfSome c.read_bistable.result (λ s. fields_of c.args.row.now ≡ block_record name s)) c.bytes-name.ensures.spelling
    (record_of _ _ (new_block Sr) _ c.read_bistable.ensures.some)

pub returns-in-Ctu-clause-some : goal.returns-in-Ctu-clause-some
returns-in-Ctu-clause-some c = can_of _ c.args.instance.now.kind _ (new_block Ctu) c.args.moment _ (counter_kind _ c.in-Ctu.is) c.read_counter.ensures.some

pub returns-in-Ctu-clause-none : goal.returns-in-Ctu-clause-none
returns-in-Ctu-clause-none c = λ none s can same.
    c.read_counter.ensures.none none c.args.moment s
    (record_with c.args.instance.now.kind _ (new_block Ctu) c.args.moment _ s (counter_kind _ c.in-Ctu.is) can (same ∙ ap (λ name. block_record name s) (sym c.bytes-name.ensures.spelling)))

pub returns-in-Sr-clause-some : goal.returns-in-Sr-clause-some
returns-in-Sr-clause-some c = can_of _ c.args.instance.now.kind _ (new_block Sr) c.args.moment _ (bistable_kind _ c.in-Sr.is) c.read_bistable.ensures.some

pub returns-in-Sr-clause-none : goal.returns-in-Sr-clause-none
returns-in-Sr-clause-none c = λ none s can same.
    c.read_bistable.ensures.none none c.args.moment s
    (record_with c.args.instance.now.kind _ (new_block Sr) c.args.moment _ s (bistable_kind _ c.in-Sr.is) can (same ∙ ap (λ name. block_record name s) (sym c.bytes-name.ensures.spelling)))
