use Rattle.std.proofs.Common.{◌≡◌, ◌<◌, ◌⊎◌, [], ◌∷◌, ◌++◌, length, sym, refl, ap, ◌∙◌, subst, inl, inr, arith, length-append}
use Rattle.board.specs.Calls.{for_events}
use Rattle.sheet.specs.Sheets.{tables_of}
use Rattle.board.specs.Ledger.{Ledger, Call, ledger_of, opened, step}
use Rattle.keeper.specs.Orders.{call_of}
use Rattle.keeper.proofs.Folds.{steps_none, steps_more, logged, logged_none}
use Rattle.keeper.proofs.Same.{same_none, same_more}
use Rattle.keeper.proofs.Whole.{room_same, whole_law}
use Rattle.keeper.proofs.tend.tend.Goals.{else-loop-turn-test, then-loop-turn-test+in_default}
use Rattle.keeper.proofs.tend.tend.Goals as goal

pub loop-turn-init : goal.loop-turn-init
loop-turn-init g c = record {
  performed = ([], (logged_none _, (refl, c.open-board.ensures ∙ steps_none (opened (tables_of c.args.sheet) c.args.number))));
  same = same_none _;
}

pub loop-turn-preserved : goal.loop-turn-preserved
loop-turn-preserved g c =
    let inv = c.loop-turn.invariant.performed in
    let calls = inv.0 in
    let call = call_of c.in-Some.order in
    let log = g.K.Keeper.log in
    let o = opened (tables_of c.args.sheet) c.args.number in
    record {
      performed = (
        calls ++ (call ∷ []),
        (
          logged _ (log c.next.new.self) _ calls call (c.next.ensures.same ∙ inv.1.0) (c.told.ensures ∙ ap (λ (x : Call). log c.next.new.self ++ (x ∷ [])) c.perform-answer.ensures.call),
          (
            simp length-append (omega (arith, inv.1.1.0)),
            c.perform-answer.ensures.after ∙ ap (λ (l : Ledger). step l call) inv.1.1.1 ∙ sym (steps_more calls o call),
          ),
        ),
      );
      same = same_more _ _ _ c.loop-turn.invariant.same c.perform-answer.ensures.same;
    }

pub returns-clause-law : goal.returns-clause-law
returns-clause-law g c =
    let inv = c.loop-turn.invariant.performed in
    let calls = inv.0 in
    let log = g.K.Keeper.log in
    let kept = c.loop-turn.auto in
    let l = ledger_of c.loop-turn.board in
    let same = c.loop-turn.invariant.same in
    let room = room_same l.sheet _ _ _ _ _ _ _ _ same.worst_long same.bills_long same.late_long same.gone_long in
    let k : log c.loop-turn-test.keeper ≡ log c.args.keeper.now ++ calls = elim c.loop-turn-test.branch [
      | else-loop-turn-test w ↦ ap log w.keeper-is ∙ inv.1.0
      | then-loop-turn-test+in_default w ↦ ap log w.keeper-is ∙ w.next.ensures.same ∙ inv.1.0
    ] in
    let end : (length calls ≡ c.args.turns) ⊎ ((length calls < c.args.turns) × g.K.Keeper.done c.loop-turn-test.keeper) = elim c.loop-turn-test.branch [
      | else-loop-turn-test w ↦ inl (omega (arith, inv.1.1.0, w.loop-turn-test.false, kept.turn-end))
      | then-loop-turn-test+in_default w ↦ inr (omega (arith, inv.1.1.0, w.loop-turn-test.true), subst g.K.Keeper.done (sym w.keeper-is) w.in_default.ensures.room)
    ] in (
      calls,
      (
        record { logged = k; ended = end },
        whole_law (g.T.Tariff.prices c.args.tariff.now) (g.R.Carry.hands c.args.rule.now) (g.Q.Reserving.measures c.args.reserving.now) (tables_of c.args.sheet) c.args.number calls l _ c.plan-plan.result _
            inv.1.1.1 room c.plan-plan.ensures.planned c.plan-plan.ensures.refuses
            (λ m h. c.write_last.ensures m (ap (for_events l.sheet) (c.plan-plan.ensures.same.reserves_long ∙ same.reserves_long) ∙ h)),
      ),
    )
