-- What the rules mean that the desk knows by name, and which arguments it refuses.
--
--   rule_of          the rule that a word names
--   meaning          what a named rule hands on, by margin and lateness
--   too_long         the argument that is refused, if one is
--   argument_word    what an argument is called
use Rattle.std.specs.Prelude.{ℕ, cond, List, Some, None, codes, Option, nat_lt}
use Rattle.carry.specs.Handed.{deducted, gated, shared}
use Rattle.listing_read.specs.Words.{same}
use Rattle.desk.specs.declared.minutes.Argument.{Argument}
use Rattle.desk.specs.declared.minutes.Argument.TheVariants.{Margin, Lateness, Allowance}
use Rattle.desk.specs.declared.rules.RuleName.{RuleName}
use Rattle.desk.specs.declared.rules.RuleName.TheVariants.{Deduct, Gate, Share}

abbrev pub rule_of : List ℕ → Option RuleName
rule_of word =
    cond (same word (codes "deduct")) (Some Deduct) (cond (same word (codes "gate")) (Some Gate) (cond (same word (codes "share")) (Some Share) None))

abbrev pub meaning : RuleName → ℕ → ℕ → ℕ
meaning Deduct = deducted
meaning Gate = gated
meaning Share = shared

-- the margin if it is above 1,440 minutes, else the other argument if that is
abbrev pub too_long : ℕ → Argument → ℕ → Option Argument
too_long margin other minutes = cond (nat_lt 1440 margin) (Some Margin) (cond (nat_lt 1440 minutes) (Some other) None)

abbrev pub argument_word : Argument → List ℕ
argument_word Margin = codes "margin"
argument_word Lateness = codes "lateness"
argument_word Allowance = codes "allowance"
