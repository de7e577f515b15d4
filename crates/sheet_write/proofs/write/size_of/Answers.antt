use Rattle.std.proofs.Common.{sym}
use Rattle.sheet.specs.Sheets.{tables_of}
use Rattle.sheet_write.proofs.Sizes.{bytes_length}
use Rattle.sheet_write.proofs.write.size_of.Goals as goal

pub returns : goal.returns
returns c = sym (bytes_length (tables_of c.args.sheet.now) c.args.sheet.now.kept)
