use Rattle.std.proofs.Common.{sym, refl, ◌∙◌, rules}
use Rattle.listing_read.proofs.Said.{none_from_err, activity_says}
use Rattle.listing_read.proofs.fields.read_activity.Goals as goal

pub returns-in_err-read_number : goal.returns-in_err-read_number
returns-in_err-read_number c =
    none_from_err _ c.from_residual.ensures.0
    ∙ sym (activity_says c.args.kind c.args.words.now _ _ _ _ (search rules) c.in_err-read_number.ensures.answer refl refl)

pub returns-in_err-read_number-2 : goal.returns-in_err-read_number-2
returns-in_err-read_number-2 c =
    none_from_err _ c.from_residual-in_err-read_number-2.ensures.0
    ∙ sym (activity_says c.args.kind c.args.words.now _ _ _ _ (search rules) c.in_ok-read_number.ensures.answer c.in_err-read_number-2.ensures.answer refl)

pub returns-in_err-read_number-3 : goal.returns-in_err-read_number-3
returns-in_err-read_number-3 c =
    none_from_err _ c.from_residual-in_err-read_number-3.ensures.0
    ∙ sym (activity_says c.args.kind c.args.words.now _ _ _ _ (search rules) c.in_ok-read_number.ensures.answer c.in_ok-read_number-2.ensures.answer c.in_err-read_number-3.ensures.answer)

pub returns : goal.returns
returns c =
    sym (activity_says c.args.kind c.args.words.now _ _ _ _ (search rules) c.in_ok-read_number.ensures.answer c.in_ok-read_number-2.ensures.answer c.in_ok-read_number-3.ensures.answer)
