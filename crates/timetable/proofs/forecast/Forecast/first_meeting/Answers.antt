use Rattle.std.proofs.Common.{◌≡◌, true, false, length, rules}
use Rattle.std.proofs.lemmas.Iterator.{first_from_Range}
use borrow.Author.Tests.{tests}
use Rattle.model.specs.Meeting.{meets}
use Rattle.timetable.specs.Days.{yard_of}
use Rattle.timetable.proofs.Sources.{found_by}
use Rattle.timetable.proofs.forecast.Forecast.first_meeting.Goals as goal

pub returns : goal.returns
returns g c =
    let t = meets (yard_of (g.R.Carry.hands c.args.self.now.rule.now) c.args.self.now.day) in
    found_by (length c.args.self.now.day.sheet.events.now) t c.find.result
    (first_from_Range _ _ _ c.find.result (λ e. t e ≡ true) (λ e. t e ≡ false) c.find.ensures.ran (λ x q k. search (rules, tests)) (λ x q k. search (rules, tests)))
