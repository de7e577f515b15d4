-- Numbers from bytes.
--
--   then             one reading after another; the first fault is the answer
--   run              one reading after another, `n` times: what was read before the end or the first fault, and how it ends
--   Reads, GoesOn    a call's answer is what is meant, and what it leaves unread is of the same sheet
--   number_of        two leading bytes as one number, and the bytes after them
--   numbers_of       so many numbers, one after another, and the bytes after them
use Rattle.std.specs.Prelude.{◌≡◌, ℕ, zero, suc, ◌+◌, ◌*◌, List, [], ◌∷◌, Ok, Err, Result, IfOk}
use Rattle.std.specs.Result.{result_map_both}
use Rattle.sheet_read.specs.declared.fault.Spot.{Spot}
use Rattle.sheet_read.specs.declared.fault.ReaderFault.{ReaderFault}
use Rattle.sheet_read.specs.declared.fault.ReaderFault.TheVariants.{Short}
use Rattle.sheet_read.specs.declared.unread.Unread.{Unread}

abbrev pub then : {A B E : Type 0} → Result A E → (A → Result B E) → Result B E
then (Ok x) f = f x
then (Err e) f = Err e

-- `read s bs` reads one thing at the front of bs in the state s, and `next` is the state after it
abbrev pub run : {A S E : Type 0} → (S → List ℕ → Result (A × List ℕ) E) → (S → A → S) → S → ℕ → List ℕ → List A × Result (List ℕ) E
run read next s zero bs = ([], Ok bs)
run read next s (suc n) bs =
    elim (read s bs) [
      | Ok p ↦ (p.0 ∷ (run read next (next s p.0) n p.1).0, (run read next (next s p.0) n p.1).1)
      | Err f ↦ ([], Err f)
    ]

-- what is read one after another is numbered
abbrev pub next_number : {A : Type 0} → ℕ → A → ℕ
next_number i x = i + 1

-- what was read, with the bytes that are left, as the program hands them on
abbrev pub with_rest : {A : Type 0} → A × Unread → A × List ℕ
with_rest p = (p.0, p.1.rest.now)

abbrev pub rest_of : Unread → List ℕ
rest_of u = u.rest.now

-- of what was unread before, a call has read just what is meant
abbrev pub Reads : {A E : Type 0} → Unread → Result (A × Unread) E → Result (A × List ℕ) E → Type 0
Reads before result meant = (result_map_both with_rest (λ e. e) result ≡ meant) × IfOk result (λ p. p.1.total ≡ before.total)

-- the same where a call answers no more than what is left
abbrev pub GoesOn : {E : Type 0} → Unread → Result Unread E → Result (List ℕ) E → Type 0
GoesOn before result meant = (result_map_both rest_of (λ e. e) result ≡ meant) × IfOk result (λ u. u.total ≡ before.total)

abbrev pub number_of : Spot → List ℕ → Result (ℕ × List ℕ) ReaderFault
number_of at [] = Err (Short at)
number_of at (b ∷ []) = Err (Short at)
number_of at (high ∷ low ∷ rest) = Ok (high * 256 + low, rest)

-- the numbers of one thing, which is told by one spot
abbrev pub number_in : Spot → ℕ → List ℕ → Result (ℕ × List ℕ) ReaderFault
number_in at i bs = number_of at bs

abbrev pub numbers_run : ℕ → Spot → List ℕ → List ℕ × Result (List ℕ) ReaderFault
numbers_run n at = run (number_in at) next_number 0 n

-- what a run has read, if it came to its end
abbrev pub whole_run : {A E : Type 0} → List A × Result (List ℕ) E → Result (List A × List ℕ) E
whole_run (xs, Ok rest) = Ok (xs, rest)
whole_run (xs, Err e) = Err e

abbrev pub numbers_of : ℕ → Spot → List ℕ → Result (List ℕ × List ℕ) ReaderFault
numbers_of n at bs = whole_run (numbers_run n at bs)
