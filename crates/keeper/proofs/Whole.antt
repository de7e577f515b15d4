-- The keeper law, put together.
use Rattle.std.proofs.Common.{◌≡◌, ℕ, ◌+◌, Bool, true, List, IfOk, Result, sym, ap, ◌∙◌}
use Rattle.std.specs.Result.{result_err}
use Rattle.sheet.specs.Rules.{Tables}
use Rattle.tariff.specs.Prices.{Prices}
use Rattle.planner.specs.Plans.{PlanIn}
use Rattle.board.specs.declared.refusal.Refusal.{Refusal}
use Rattle.board.specs.Ledger.{Ledger, Call, opened, steps, yard_on}
use Rattle.board.specs.Calls.{for_events, plan_room, plan_refusal, ReserveLaw}
use Rattle.keeper.specs.Orders.{TablesIn, room_in}
use Rattle.keeper.specs.Law.{held_count, releases_taken, KeeperLaw}
use Rattle.keeper.proofs.Slips.{slips_out}
use Rattle.keeper.proofs.Exact.{exactly_so}

-- the same room, by the same lengths
pub room_same : (t : Tables) (a b c d e f g h : ℕ) → a ≡ e → b ≡ f → c ≡ g → d ≡ h → plan_room t a b c d ≡ plan_room t e f g h
room_same t a b c d e f g h w x y z =
    ap (λ (n : ℕ). plan_room t n b c d) w
    ∙ ap (λ (n : ℕ). plan_room t e n c d) x
    ∙ ap (λ (n : ℕ). plan_room t e f n d) y
    ∙ ap (λ (n : ℕ). plan_room t e f g n) z

pub whole_law : {A : Type 0} (p : Prices A) (rule : ℕ → ℕ → ℕ) (measured : Bool) (t : Tables) (number : ℕ) (calls : List Call) (l : Ledger) (other : Bool) (answer : Result (A × ℕ) Refusal) (w : TablesIn)
    → l ≡ steps (opened t number) calls
    → other ≡ room_in l w
    → IfOk answer (λ plan. PlanIn p (yard_on rule l) w.late w.gone plan.0 plan.1)
    → result_err answer ≡ plan_refusal (yard_on rule l) other
    → (measured ≡ true → for_events l.sheet w.reserves_room ≡ true → ReserveLaw (yard_on rule l) w.reserves)
    → KeeperLaw p rule measured t number calls l answer w
whole_law p rule measured t number calls l other answer w e o best why bear =
    let named = why ∙ ap (plan_refusal (yard_on rule l)) o in
    record {
      ledger = e;
      slips = slips_out t number calls ∙ ap (λ (x : Ledger). held_count x + releases_taken (opened t number) calls) (sym e);
      optimum = best;
      exactly = exactly_so (yard_on rule l) (room_in l w) answer named;
      named = named;
      bearing = bear;
    }
