use Rattle.std.proofs.Common.{◌≡◌, List, ◌++◌, length}
use Rattle.sheet.specs.Sheets.{tables_of}
use Rattle.board.specs.Ledger.{Call, ledger_of, opened, steps}
use Rattle.keeper.specs.Lent.{SameTables}
use Rattle.keeper.proofs.tend.tend.Given as goal

abbrev pub invariant-loop-turn : goal.invariant-loop-turn
invariant-loop-turn g l = record {
  performed :
      (calls : List Call)
      × ((g.K.Keeper.log l.keeper ≡ g.K.Keeper.log l.initial.keeper ++ calls)
      × ((length calls ≡ l.turn)
      × (ledger_of l.board ≡ steps (opened (tables_of l.sheet) l.number) calls)));
  same : SameTables l.initial.tables l.tables;
}
