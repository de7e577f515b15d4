-- A well-formed sheet's lots are light, so there is room, and their sum is no bulkier.
use Rattle.std.proofs.Common.{arith}
use Rattle.sheet.specs.Sheets.{tables_of}
use Rattle.sums.proofs.Weights.{light_sheet}
use Rattle.sums.proofs.sheet_sum.sum_sheet.Goals as goal

pub sum_charges-requires-clause-room : goal.sum_charges-requires-clause-room
sum_charges-requires-clause-room g c = omega (arith, light_sheet (tables_of c.args.sheet.now) c.args.sheet.now.kept)

pub returns-clause-light : goal.returns-clause-light
returns-clause-light g c = omega (arith, light_sheet (tables_of c.args.sheet.now) c.args.sheet.now.kept, c.sum_charges.ensures.light)
