use Rattle.std.proofs.Common.{sym, refl, ◌∙◌, rules}
use Rattle.listing_read.proofs.Said.{none_from_err, event_says}
use Rattle.listing_read.proofs.fields.read_event.Goals as goal

pub returns-in_err-read_number : goal.returns-in_err-read_number
returns-in_err-read_number c =
    none_from_err _ c.from_residual.ensures.0
    ∙ sym (event_says c.args.words.now _ _ _ _ _ (search rules) c.in_err-read_number.ensures.answer refl refl refl)

pub returns-in_err-read_number-2 : goal.returns-in_err-read_number-2
returns-in_err-read_number-2 c =
    none_from_err _ c.from_residual-in_err-read_number-2.ensures.0
    ∙ sym (event_says c.args.words.now _ _ _ _ _ (search rules) c.in_ok-read_number.ensures.answer c.in_err-read_number-2.ensures.answer refl refl)

pub returns-in_err-read_side : goal.returns-in_err-read_side
returns-in_err-read_side c =
    none_from_err _ c.from_residual-in_err-read_side.ensures.0
    ∙ sym (event_says c.args.words.now _ _ _ _ _ (search rules) c.in_ok-read_number.ensures.answer c.in_ok-read_number-2.ensures.answer c.in_err-read_side.ensures.answer refl)

pub returns-in_err-read_number-3 : goal.returns-in_err-read_number-3
returns-in_err-read_number-3 c =
    none_from_err _ c.from_residual-in_err-read_number-3.ensures.0
    ∙ sym (event_says c.args.words.now _ _ _ _ _ (search rules) c.in_ok-read_number.ensures.answer c.in_ok-read_number-2.ensures.answer c.in_ok-read_side.ensures.answer c.in_err-read_number-3.ensures.answer)

pub returns : goal.returns
returns c =
    sym (event_says c.args.words.now _ _ _ _ _ (search rules) c.in_ok-read_number.ensures.answer c.in_ok-read_number-2.ensures.answer c.in_ok-read_side.ensures.answer c.in_ok-read_number-3.ensures.answer)
