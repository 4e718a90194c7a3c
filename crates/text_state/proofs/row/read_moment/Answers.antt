use Rattle.std.proofs.Common.{◌≡◌, ◌∙◌, [], ◌∷◌, Some, None, ℕ, ap, refl, codes, decimal, sym}
use Rattle.std.proofs.lemmas.Option.{same_Some}
use Rattle.csv.specs.Records.{field_at, fields_of}
use Rattle.io_text.specs.Left.{Fields}
use Rattle.text_state.specs.Parts.{moment_record}
use Rattle.text_state.proofs.row.read_moment.Goals as goal

second : (fs : Fields) (n : ℕ) → fs ≡ moment_record n → field_at fs 1 ≡ Some (decimal n)
unfolding field_at
second fs n e = rw e refl

pub returns-in_default-clause-none : goal.returns-in_default-clause-none
returns-in_default-clause-none c = λ _ n h e.
    let bad : None ≡ Some (decimal n) = c.in_default.ensures.value ∙ second (fields_of c.args.row.now) n e in cc

pub returns-in_default-read_number-clause-none : goal.returns-in_default-read_number-clause-none
returns-in_default-read_number-clause-none c = λ _ n h e.
    c.in_default-read_number.ensures.none refl n h (same_Some _ _ (c.in-Some.ensures.value ∙ second (fields_of c.args.row.now) n e))

pub returns-else-is_moment-clause-none : goal.returns-else-is_moment-clause-none
returns-else-is_moment-clause-none c = λ _ n h e.
    let same = same_Some _ _ (c.in-Some.ensures.value ∙ second (fields_of c.args.row.now) n e) in
    c.if-is_moment.ensures.other refl (e ∙ ap (λ f. codes "moment" ∷ f ∷ []) (sym same))
