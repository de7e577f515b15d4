-- What the words of a line ask for.
--
--   Asked          a call as it is asked for
--   activity_of    the activity of the words after a call's name: one number
--   report_of      the report of the words after `report`: two numbers
--   alone          a call that no words follow
--   asked_of       what a line's first word and the words after it ask for
--   said_of        what all words of a line say
use Rattle.std.specs.Prelude.{ℕ, cond, List, [], ◌∷◌, length, Some, None, codes, Option, ◌==◌}
use Rattle.std.specs.Borrow.{Bor}
use Rattle.words.specs.Numbers.{number_of}
use Rattle.listing_read.specs.Words.{same, word_at, with}
use Rattle.keeper.specs.declared.order.Order.{Order}
use Rattle.keeper.specs.declared.order.Order.TheVariants as order
use Rattle.console.specs.declared.lines.Said.{Said}
use Rattle.console.specs.declared.lines.Said.TheVariants as said
use Rattle.console.specs.declared.lines.Said.TheVariants.{Nothing, NoCall}

-- a call as it is asked for: a release by its transfer
abbrev pub Asked : Type 0
Asked = Order ℕ (Unit {0})

abbrev pub activity_of : List (Bor (List ℕ)) → Option ℕ
activity_of words = cond (length words == 1) (number_of (word_at words 0)) None

abbrev pub report_of : List (Bor (List ℕ)) → Option Asked
report_of words =
    cond (length words == 2) (with (number_of (word_at words 0)) (λ event. with (number_of (word_at words 1)) (λ minutes. Some (order.Report event minutes)))) None

abbrev pub alone : Asked → List (Bor (List ℕ)) → Option Asked
alone call words = cond (length words == 0) (Some call) None

abbrev pub asked_of : List ℕ → List (Bor (List ℕ)) → Option Asked
asked_of first words =
    cond (same first (codes "report")) (report_of words)
    (cond (same first (codes "hold")) (with (activity_of words) (λ a. Some (order.Hold a)))
    (cond (same first (codes "release")) (with (activity_of words) (λ a. Some (order.Release a)))
    (cond (same first (codes "strike")) (with (activity_of words) (λ a. Some (order.Strike a)))
    (cond (same first (codes "clear")) (with (activity_of words) (λ a. Some (order.Clear a)))
    (cond (same first (codes "trial")) (with (activity_of words) (λ a. Some (order.Trial a)))
    (cond (same first (codes "plan")) (alone order.Plan words)
    (cond (same first (codes "reserve")) (alone (order.Reserve tt) words) None)))))))

abbrev pub said_by : Option Asked → Said
said_by None = NoCall
said_by (Some call) = said.Call call

-- no words say nothing
abbrev pub said_of : List (Bor (List ℕ)) → Said
said_of [] = Nothing
said_of (first ∷ rest) = said_by (asked_of first.now rest)
