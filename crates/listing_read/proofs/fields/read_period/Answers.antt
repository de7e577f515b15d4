use Rattle.std.proofs.Common.{sym, rules}
use Rattle.listing_read.proofs.Said.{period_says}
use Rattle.listing_read.proofs.fields.read_period.Goals as goal

pub returns : goal.returns
returns c = sym (period_says c.args.words.now _ _ (search rules) c.read_number.ensures.answer)
