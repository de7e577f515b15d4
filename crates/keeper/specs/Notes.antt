-- What is noted of calls.
--
--   call_noted    the call that a note is of
--   call_text     how a call is told: a release by its transfer alone
--   note_text     how the call of a note is told
use Rattle.std.specs.Prelude.{ℕ, List, ◌++◌, codes, decimal}
use Rattle.board.specs.Ledger.{Call, report, hold, release, strike, clear, trial, plan, reserve}
use Rattle.keeper.specs.declared.order.Order.{Order}
use Rattle.keeper.specs.Orders.{call_by}

abbrev pub call_noted : Order (ℕ × ℕ) (Unit {0}) → Call
call_noted o = call_by (λ (n : ℕ × ℕ). n.0) (λ (n : ℕ × ℕ). n.1) o

abbrev pub call_text : Call → List ℕ
call_text (report event minutes) = codes "report " ++ (decimal event ++ (codes " " ++ decimal minutes))
call_text (hold a) = codes "hold " ++ decimal a
call_text (release board a) = codes "release " ++ decimal a
call_text (strike a) = codes "strike " ++ decimal a
call_text (clear a) = codes "clear " ++ decimal a
call_text (trial a) = codes "trial " ++ decimal a
call_text plan = codes "plan"
call_text reserve = codes "reserve"

abbrev pub note_text : Order (ℕ × ℕ) (Unit {0}) → List ℕ
note_text note = call_text (call_noted note)
