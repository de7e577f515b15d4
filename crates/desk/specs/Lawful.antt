-- The rules that the desk knows by name keep the laws of a carry rule.
use Rattle.std.specs.Prelude.{◌-◌}
use Rattle.std.proofs.Common.{arith, rules}
use Rattle.carry.specs.Laws.{LawfulRule}
use Rattle.carry.specs.Hundredths.{part_rising, part_le}
use Rattle.desk.specs.declared.rules.RuleName.{RuleName}
use Rattle.desk.specs.declared.rules.RuleName.TheVariants.{Deduct, Gate, Share}
use Rattle.desk.specs.Meanings.{meaning}

pub meaning_lawful : (rule : RuleName) → LawfulRule (meaning rule)
meaning_lawful Deduct = search rules
meaning_lawful Gate = search rules
meaning_lawful Share = record {
  punctual = λ margin. omega arith;
  rising = λ margin. part_rising (100 - margin);
  no_growth = λ margin lateness. part_le (100 - margin) lateness (omega arith);
}
