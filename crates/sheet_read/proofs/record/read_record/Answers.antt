use Rattle.std.proofs.Common.{◌≡◌, ℕ, List, Ok, Option, Result, sym, ap, ◌∙◌}
use Rattle.std.proofs.lemmas.List.{length-replicate}
use Rattle.std.proofs.lemmas.Result.{err_from_is_err_and}
use Rattle.std.proofs.Math.ListN.{replicate}
use Rattle.sheet_read.specs.declared.fault.Spot.{Spot}
use Rattle.sheet_read.specs.declared.fault.ReaderFault.{ReaderFault}
use Rattle.sheet_read.specs.declared.fault.RecordFault.{RecordFault}
use Rattle.sheet_read.specs.Numbers.{then, numbers_of}
use Rattle.sheet_read.specs.Records.{in_record, ruled, record_of}
use Rattle.sheet_read.proofs.Numbers.{numbers_whole}
use Rattle.sheet_read.proofs.record.read_record.Goals as goal

-- a record whose numbers were read, by what they make
made : {A : Type 0} (make : List ℕ → Option A) (n : ℕ) (at : Spot) (bs ns rest : List ℕ) (o : Option A) (r : Result A RecordFault) → numbers_of n at bs ≡ Ok (ns, rest) → o ≡ make ns → r ≡ ruled at o
    → then r (λ x. Ok (x, rest)) ≡ record_of make n at bs
made {A = A} make n at bs ns rest o r e m q =
    ap {B = Result (A × List ℕ) RecordFault} (λ (y : Result A RecordFault). then y (λ x. Ok (x, rest))) (q ∙ ap (ruled at) m)
    ∙ ap {B = Result (A × List ℕ) RecordFault} (λ (y : Result (List ℕ × List ℕ) ReaderFault). then (in_record y) (λ p. then (ruled at (make p.0)) (λ x. Ok (x, p.1)))) (sym e)

pub returns-in_err-item : goal.returns-in_err-item
returns-in_err-item g c =
    let p = err_from_is_err_and c.from_residual-in_err-item.result c.from_residual-in_err-item.ensures.1 in
    let e = numbers_whole g.row.N c.args.at c.args.unread.rest.now (replicate g.row.N 0) c.numbers.new.cells c.in_ok-rest.rest.rest.now (length-replicate g.row.N 0) c.numbers.ensures.cells c.in_ok-rest.ensures.answer.0 in
    rw (p.1, p.2) (made (g.R.RecordRule.makes c.args.rule.now) g.row.N c.args.at c.args.unread.rest.now c.numbers.new.cells c.in_ok-rest.rest.rest.now c.make.result _ e c.make.ensures c.in_err-item.ensures.value, tt)

pub returns : goal.returns
returns g c =
    let e = numbers_whole g.row.N c.args.at c.args.unread.rest.now (replicate g.row.N 0) c.numbers.new.cells c.in_ok-rest.rest.rest.now (length-replicate g.row.N 0) c.numbers.ensures.cells c.in_ok-rest.ensures.answer.0 in
    (made (g.R.RecordRule.makes c.args.rule.now) g.row.N c.args.at c.args.unread.rest.now c.numbers.new.cells c.in_ok-rest.rest.rest.now c.make.result _ e c.make.ensures c.in_ok-item.ensures.value, c.in_ok-rest.ensures.answer.1)
