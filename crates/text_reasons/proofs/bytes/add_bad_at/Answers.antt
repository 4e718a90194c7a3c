use Rattle.std.proofs.Common.{◌++◌, ◌+◌, ◌-◌, refl}
use Rattle.io_text.proofs.Sending.{sends_last}
use Rattle.text_reasons.specs.Bytes.{bad_words, place_text}
use Rattle.text_reasons.proofs.Quoting.{first_failed}
use Rattle.text_reasons.proofs.bytes.add_bad_at.Goals as goal

pub returns-in_err-add_place : goal.returns-in_err-add_place
returns-in_err-add_place g c = first_failed _ _ _ _ (place_text c.args.place ++ bad_words c.args.at.now) (place_text c.args.place) (bad_words c.args.at.now) _ c.from_residual.ensures.0 refl c.in_err-add_place.ensures

pub returns : goal.returns
returns g c = sends_last _ _ _ _ _ _ (place_text c.args.place ++ bad_words c.args.at.now) (place_text c.args.place) (bad_words c.args.at.now) _ refl c.in_ok-add_place.ensures c.add_bad_words.ensures
