use Rattle.std.proofs.Common.{◌≢◌, get_or, slice_get, refl, ap, ◌∙◌}
use Rattle.words.proofs.Reading.{no_plus, parsed}
use Rattle.words.proofs.number.number.Goals as goal

pub returns : goal.returns
returns c =
    let plain : get_or c.args.word.now 0 0 ≢ 43 = no_plus c.args.word.now c.first.result _ (c.first.ensures.value ∙ ap (λ w. slice_get w 0) c.as_bytes.ensures.value) refl c.if-eq.ensures in
    c.ok.ensures.value ∙ parsed c.args.word.now c.parse.result c.parse.ensures.value.0 plain
