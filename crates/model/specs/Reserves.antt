-- Reserves: how much delay an event alone may have.
--
--   remaining    the greatest lateness up to 1,440 that hands on at most an allowance
--   tolerance    the most minutes that an event may be late without harm
--   reserve      the least of an event's tolerance and of what remains by each unstruck activity that leaves it
use Rattle.std.specs.Prelude.{ℕ, zero, suc, ◌-◌, cond, not, ◌&&◌, ◌==◌, nat_le}
use Rattle.sheet.specs.Rules.{event_at}
use Rattle.model.specs.Yard.{Yard, event_count, activity_count, tail, head, handed, struck}
use Rattle.model.specs.Finite.{low, turns}

unfoldable pub tolerance : Yard → ℕ → ℕ
tolerance g e = (event_at g.sheet.events e).tolerance

-- the greatest l up to the cap with f l ≤ r
unfoldable pub greatest : (ℕ → ℕ) → ℕ → ℕ → ℕ
greatest f r zero = 0
greatest f r (suc k) = cond (nat_le (f (suc k)) r) (suc k) (greatest f r k)

abbrev pub remaining : Yard → ℕ → ℕ → ℕ
remaining g a allowance = greatest (handed g a) allowance 1440

abbrev pub reserve_step : Yard → (ℕ → ℕ) → ℕ → ℕ
reserve_step g b e = low (activity_count g) (λ a. cond (tail g a == e && not (struck g a)) (remaining g a (b (head g a))) (tolerance g e)) (tolerance g e)

unfoldable pub reserve : Yard → ℕ → ℕ
reserve g e = turns 0 (reserve_step g) (suc (event_count g - e)) e
