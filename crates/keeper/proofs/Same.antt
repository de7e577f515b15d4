-- Tables that stay the caller's own, over one call and over many.
use Rattle.std.proofs.Common.{refl, ◌∙◌}
use Rattle.keeper.specs.declared.tables.Tables.{Tables}
use Rattle.keeper.specs.Lent.{SameTables}

pub same_none : {X : Type 0} (a : Tables X) → SameTables a a
same_none a = record {
  worst = refl;
  bills = refl;
  late = refl;
  gone = refl;
  reserves = refl;
  worst_long = refl;
  bills_long = refl;
  late_long = refl;
  gone_long = refl;
  reserves_long = refl;
}

pub same_more : {X : Type 0} (a b c : Tables X) → SameTables a b → SameTables b c → SameTables a c
same_more a b c p q = record {
  worst = q.worst ∙ p.worst;
  bills = q.bills ∙ p.bills;
  late = q.late ∙ p.late;
  gone = q.gone ∙ p.gone;
  reserves = q.reserves ∙ p.reserves;
  worst_long = q.worst_long ∙ p.worst_long;
  bills_long = q.bills_long ∙ p.bills_long;
  late_long = q.late_long ∙ p.late_long;
  gone_long = q.gone_long ∙ p.gone_long;
  reserves_long = q.reserves_long ∙ p.reserves_long;
}
