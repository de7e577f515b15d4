use Rattle.std.proofs.Common.{length, Some, None, sym, ap, subst, arith}
use Rattle.std.proofs.lemmas.Bool.{cond-true, le-leb}
use Rattle.model.specs.Yard.{Yard, event_count}
use Rattle.board.specs.Calls.{ReserveIn}
use Rattle.board.specs.Ledger.{ledger_of, yard_on}
use Rattle.board.proofs.Planning.{law_so}
use Rattle.board.proofs.board.Board.reserve.Goals as goal

pub write_reserves-requires : goal.write_reserves-requires
write_reserves-requires g c =
    let e = ap (λ (x : Yard). length x.sheet.events) (c.day.ensures.yard (g.R.Carry.hands c.args.rule.now)) in
    omega (arith, e, c.if-reserves-self.false)

pub returns : goal.returns
unfolding event_count
returns g c =
    let rule = g.R.Carry.hands c.args.rule.now in
    let l = ledger_of c.args.self.now in
    let y = c.day.ensures.yard rule in
    let e = ap (λ (x : Yard). length x.sheet.events) y in
    let cells : ReserveIn (yard_on rule l) c.write_reserves.new.reserves = subst (λ (x : Yard). ReserveIn x c.write_reserves.new.reserves) y c.write_reserves.ensures.cells in
    record {
      refuses = sym (cond-true _ None (Some _) (le-leb (length l.sheet.events) (length c.args.reserves.now) c.if-reserves-self.false));
      cells = cells;
      law = law_so l.sheet rule l.delay l.mark c.write_reserves.new.reserves c.args.self.now.sheet.kept (g.met.R.Carry.lawful c.args.rule.now) cells;
      untouched = tt;
      kept = λ k h. c.write_reserves.ensures.kept k (omega (arith, e, h));
    }
