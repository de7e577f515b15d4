-- The byte reader, as its slice pattern sees the bytes; and numbers that fill the cells which they were read into.
use Rattle.std.proofs.Common.{◌≡◌, ℕ, ◌+◌, ◌-◌, ◌*◌, ◌≤◌, List, [], ◌∷◌, ◌++◌, length, get_or, take, drop, Ok, Result, sym, ap, ◌∙◌, arith}
use Rattle.std.proofs.lemmas.List.{append-nil, take_rest, drop_all}
use Rattle.sheet.specs.Laid.{laid}
use Rattle.sheet_read.specs.declared.fault.Spot.{Spot}
use Rattle.sheet_read.specs.declared.fault.ReaderFault.{ReaderFault}
use Rattle.sheet_read.specs.Numbers.{number_of, number_in, next_number, numbers_run, whole_run, numbers_of}
use Rattle.sheet_read.proofs.Running.{run_length}

-- what two bytes or more give
pub number_at : (at : Spot) (bs : List ℕ) → 2 ≤ length bs → number_of at bs ≡ Ok (get_or bs 0 0 * 256 + get_or bs 1 0, take (length bs - 2) (drop 2 bs))
number_at at [] h = absurd (omega arith)
number_at at (b ∷ []) h = absurd (omega arith)
number_at at (a ∷ b ∷ rest) h = rw (take_rest (a ∷ b ∷ rest) 2)

-- cells that are as many as the numbers hold just these
pub numbers_whole : (n : ℕ) (at : Spot) (bs old new rest : List ℕ) → length old ≡ n → new ≡ laid 0 (numbers_run (length old) at bs).0 old → Ok rest ≡ (numbers_run (length old) at bs).1
    → numbers_of n at bs ≡ Ok (new, rest)
numbers_whole n at bs old new rest l c a =
    let xs = (numbers_run (length old) at bs).0 in
    let whole : numbers_run (length old) at bs ≡ (xs, Ok rest) = ap (λ (r : Result (List ℕ) ReaderFault). (xs, r)) (sym a) in
    let long : length xs ≡ length old = run_length (number_in at) next_number 0 (length old) bs xs rest whole in
    let none : drop (length xs) old ≡ [] = drop_all (length xs) old (omega (arith, long)) in
    let e : new ≡ xs = c ∙ ap (λ (ys : List ℕ). xs ++ ys) none ∙ append-nil xs in
    ap (λ (k : ℕ). numbers_of k at bs) (sym l) ∙ ap whole_run whole ∙ ap {B = Result (List ℕ × List ℕ) ReaderFault} (λ (ys : List ℕ). Ok (ys, rest)) (sym e)
