use Rattle.std.proofs.Common.{length, ap, ◌∙◌, subst, arith}
use Rattle.sheet.specs.Sheets.{tables_of}
use Rattle.model.specs.Yard.{Yard}
use Rattle.outlook.specs.Outlook.{ShowsWorst, ShowsLive, verdict_of}
use Rattle.outlook.proofs.Noting.{clean, all_sound}
use Rattle.outlook.proofs.Unmarked.{few, marks_enough, delays_short, yard_ahead}
use Rattle.outlook.proofs.look.foresee.Goals as goal

pub note-requires : goal.note-requires
note-requires g c =
    let s = c.args.sheet.now in
    let free = clean (tables_of s) c.args.reports.now (length c.args.late.now) (length c.args.lives.now) c.requires in
    λ i h.
    omega (arith, (all_sound (tables_of s) c.args.reports.now free.reports i h).known, (few (tables_of s) s.kept).0)

pub invariant_of-day : goal.invariant_of-day
invariant_of-day g c =
    let s = c.args.sheet.now in
    let free = clean (tables_of s) c.args.reports.now (length c.args.late.now) (length c.args.lives.now) c.requires in
    record {
      delays_for_all = omega (arith, (few (tables_of s) s.kept).0, c.note.auto.delays);
      marks_for_all = marks_enough (tables_of s) c.unmarked.result.now s.kept c.unmarked.ensures;
      timely = λ e h. delays_short (tables_of s) c.note.new.delays c.args.reports.now free.reports c.note.ensures e;
    }

pub survey-requires : goal.survey-requires
survey-requires g c =
    let s = c.args.sheet.now in
    let free = clean (tables_of s) c.args.reports.now (length c.args.late.now) (length c.args.lives.now) c.requires in
    record { late = free.late_room; live = free.live_room }

pub returns : goal.returns
returns g c =
    let s = c.args.sheet.now in
    let same = yard_ahead (g.R.Carry.hands c.args.rule.now) (tables_of s) c.note.new.delays c.unmarked.result.now c.args.reports.now c.note.ensures c.unmarked.ensures in
    record {
      verdict = c.survey.ensures.verdict ∙ ap verdict_of same;
      late = subst (λ (y : Yard). ShowsWorst y c.args.late.now c.survey.new.late) same c.survey.ensures.late;
      live = subst (λ (y : Yard). ShowsLive y c.args.lives.now c.survey.new.lives) same c.survey.ensures.live;
    }
