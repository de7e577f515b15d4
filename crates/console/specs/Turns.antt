-- What a line leads to.
--
--   asked_in     what an order was asked for as
--   asked_back   what is told at once of a call that was asked for: a release for which no slip is held
--   said_back    what is told at once of what a line says: that, and a line that is no call, by its number
--   Follows      what a line says leads to what it asks for, or to nothing
--   Leads        a call that was asked for leads to its order, or to nothing where it is a release and no slip for it is held
use Rattle.std.specs.Prelude.{◌≡◌, ℕ, List, [], ◌++◌, None, Some, codes, decimal, Option}
use Rattle.board.specs.declared.slip.Slip.{Slip}
use Rattle.keeper.specs.declared.order.Order.{Order}
use Rattle.keeper.specs.declared.order.Order.TheVariants as order
use Rattle.console.specs.declared.lines.Said.{Said}
use Rattle.console.specs.declared.lines.Said.TheVariants as said
use Rattle.console.specs.Hands.{place_for}
use Rattle.console.specs.Words.{Asked}

abbrev pub asked_in : {A : Type 0} → Order Slip A → Asked
asked_in (order.Report event minutes) = order.Report event minutes
asked_in (order.Hold a) = order.Hold a
asked_in (order.Release slip) = order.Release slip.activity
asked_in (order.Strike a) = order.Strike a
asked_in (order.Clear a) = order.Clear a
asked_in (order.Trial a) = order.Trial a
asked_in order.Plan = order.Plan
asked_in (order.Reserve ask) = order.Reserve tt

abbrev pub Leads : {A : Type 0} → List Slip → Asked → Option (Order Slip A) → Type 0
Leads slips call (Some o) = asked_in o ≡ call
Leads slips call None = (a : ℕ) × (call ≡ order.Release a) × (place_for a slips ≡ None)

abbrev pub Follows : {A : Type 0} → List Slip → Said → Option (Order Slip A) → Type 0
Follows slips (said.Call call) o = Leads slips call o
Follows slips said.Nothing o = o ≡ None
Follows slips said.NoCall o = o ≡ None

abbrev pub without_slip : ℕ → Option ℕ → List ℕ
without_slip a (Some place) = []
without_slip a None = codes "release " ++ (decimal a ++ codes ": no slip\n")

abbrev pub asked_back : List Slip → Asked → List ℕ
asked_back slips (order.Release a) = without_slip a (place_for a slips)
asked_back slips (order.Report event minutes) = []
asked_back slips (order.Hold a) = []
asked_back slips (order.Strike a) = []
asked_back slips (order.Clear a) = []
asked_back slips (order.Trial a) = []
asked_back slips order.Plan = []
asked_back slips (order.Reserve ask) = []

abbrev pub said_back : ℕ → List Slip → Said → List ℕ
said_back number slips said.Nothing = []
said_back number slips (said.Call call) = asked_back slips call
said_back number slips said.NoCall = codes "line " ++ (decimal number ++ codes ": not a call\n")
