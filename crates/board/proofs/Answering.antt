-- Answers of one call told by another's.
use Rattle.std.proofs.Common.{◌≡◌, ℕ, Bool, true, false, cond, is_ok, Ok, Err, Result, sym, refl, ap}
use Rattle.std.proofs.lemmas.Bool.{both_ways}
use Rattle.model.specs.declared.mark.Mark.{Mark}
use Rattle.model.specs.declared.mark.Mark.TheVariants.{Unmarked, Held, Struck}
use Rattle.board.specs.declared.refusal.Refusal.{Refusal}
use Rattle.board.specs.declared.refusal.Refusal.TheVariants.{NoSuch, NoTransfer, Marked, NotStruck}
use Rattle.board.specs.Ledger.{Ledger, if_unmarked, if_free, if_struck, same_mark, marked_answer, strike_answer, clear_answer, has_activity, transfers}

-- what a free transfer may be told is refused alike
abbrev told : {X : Type 0} → X → Bool → Bool → Mark → Result X Refusal
told x has transfer m = cond has (cond transfer (if_unmarked x m) (Err NoTransfer)) (Err NoSuch)

why : {X : Type 0} → Result X Refusal → Refusal → Refusal
why (Ok x) r = r
why (Err e) r = e

alike : {X Y : Type 0} (x : X) (y : Y) (has transfer : Bool) (m : Mark) (e : Refusal) → told x has transfer m ≡ Err e → told y has transfer m ≡ Err e
unfolding why
alike x y false t m e h = ap Err (ap (λ r. why r NoSuch) h)
alike x y true false m e h = ap Err (ap (λ r. why r NoSuch) h)
alike x y true true Unmarked e h = absurd (both_ways true (sym (ap is_ok (sym h))) refl)
alike x y true true Held e h = ap Err (ap (λ r. why r NoSuch) h)
alike x y true true Struck e h = ap Err (ap (λ r. why r NoSuch) h)

pub refused_alike : {X Y : Type 0} (x : X) (y : Y) (l : Ledger) (a : ℕ) (e : Refusal) → if_free x l a ≡ Err e → if_free y l a ≡ Err e
refused_alike x y l a e h = alike x y (has_activity l a) (transfers l a) (l.mark a) e h

allowed : {X Y : Type 0} (x : X) (y : Y) (has transfer : Bool) (m : Mark) → is_ok (told x has transfer m) ≡ is_ok (told y has transfer m)
allowed x y false t m = refl
allowed x y true false m = refl
allowed x y true true Unmarked = refl
allowed x y true true Held = refl
allowed x y true true Struck = refl

pub allowed_alike : {X Y : Type 0} (x : X) (y : Y) (l : Ledger) (a : ℕ) → is_ok (if_free x l a) ≡ is_ok (if_free y l a)
allowed_alike x y l a = allowed x y (has_activity l a) (transfers l a) (l.mark a)

-- a transfer that is free, and one that is struck
abbrev done : Bool → Refusal → Result (Unit {0}) Refusal
done b r = cond b (Ok tt) (Err r)

unmarked_so : (m : Mark) → done (same_mark Unmarked m) Marked ≡ if_unmarked tt m
unmarked_so Unmarked = refl
unmarked_so Held = refl
unmarked_so Struck = refl

struck_so : (m : Mark) → done (same_mark Struck m) NotStruck ≡ if_struck m
struck_so Unmarked = refl
struck_so Held = refl
struck_so Struck = refl

pub strike_is : (l : Ledger) (a : ℕ) → marked_answer l a Unmarked Marked ≡ strike_answer l a
strike_is l a = ap (λ (x : Result (Unit {0}) Refusal). cond (has_activity l a) (cond (transfers l a) x (Err NoTransfer)) (Err NoSuch)) (unmarked_so (l.mark a))

pub clear_is : (l : Ledger) (a : ℕ) → marked_answer l a Struck NotStruck ≡ clear_answer l a
clear_is l a = ap (λ (x : Result (Unit {0}) Refusal). cond (has_activity l a) (cond (transfers l a) x (Err NoTransfer)) (Err NoSuch)) (struck_so (l.mark a))
