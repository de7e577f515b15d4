use Rattle.std.proofs.Common.{◌≡◌}
use Rattle.console.proofs.console.Console.next_order.Given as goal

-- no call is performed while lines are read
abbrev pub invariant-loop : goal.invariant-loop
invariant-loop g l = l.self.past.items ≡ l.initial.self.past.items
