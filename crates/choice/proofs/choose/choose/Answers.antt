use Rattle.std.proofs.Common.{◌∙◌}
use Rattle.model.specs.Yard.{event_count, activity_count}
use Rattle.model.proofs.OnSheets.{sound}
use Rattle.timetable.specs.Days.{sheet_on, delay_on, mark_on, yard_of}
use Rattle.choice.proofs.Plans.{chosen}
use Rattle.choice.proofs.choose.choose.Goals as goal

pub returns : goal.returns
unfolding event_count activity_count
returns g c =
    let rule = g.R.Carry.hands c.args.priced.now.forecast.now.rule.now in
    let d = c.args.priced.now.forecast.now.day in
    let so = sound (sheet_on d) rule (delay_on d.delays.now) (mark_on d.marks.now d.trial) c.args.priced.now.forecast.now.day.sheet.kept (g.met.R.Carry.lawful c.args.priced.now.forecast.now.rule.now) in
    record {
      chosen = chosen (yard_of rule d) (g.T.Tariff.prices c.args.priced.now.tariff.now) so c.write_cheap.new.gone c.keep_punctual.new.gone c.write_least.new.late c.write_cheap.ensures.cells c.write_least.ensures.cells (c.keep_punctual.ensures.cells rule);
      count = c.count_gone.ensures rule;
      late = c.write_least.ensures.kept;
      gone = λ a h. c.keep_punctual.ensures.kept a h ∙ c.write_cheap.ensures.kept a h;
    }
