use Rattle.std.proofs.Common.{◌≡◌, true, is_ok, sym, ap}
use Rattle.sheet.specs.Sheets.{tables_of}
use Rattle.board.specs.Ledger.{ledger_of, strike_answer}
use Rattle.board.proofs.Trying.{struck_yard, trial_so}
use Rattle.board.proofs.board.Board.trial.Goals as goal

pub returns-clause-refuses : goal.returns-clause-refuses
returns-clause-refuses g c =
    let b = c.args.self.now in
    let ok : is_ok (strike_answer (ledger_of b) c.args.activity) ≡ true = ap is_ok (sym c.in_ok-free.ensures) in
    let y = struck_yard (tables_of b.sheet) b.number b.delays b.marks c.args.activity (g.R.Carry.hands c.args.rule.now) ok in
    trial_so (tables_of b.sheet) b.number b.delays b.marks c.args.activity _ _ _ _ ok y c.toll_on.ensures.refuses
