-- Lists of calls, one call longer.
use Rattle.std.proofs.Common.{◌≡◌, List, [], ◌∷◌, ◌++◌, sym, refl, append_assoc, append-nil}
use Rattle.board.specs.Ledger.{Ledger, Call, step, steps}

pub steps_more : (calls : List Call) (l : Ledger) (c : Call) → steps l (calls ++ (c ∷ [])) ≡ step (steps l calls) c
unfolding steps
steps_more [] l c = refl
steps_more (d ∷ calls) l c = steps_more calls (step l d) c

pub logged : {X : Type 0} (from mid last calls : List X) (c : X) → mid ≡ from ++ calls → last ≡ mid ++ (c ∷ []) → last ≡ from ++ (calls ++ (c ∷ []))
logged from mid last calls c p q = let e = append_assoc from calls (c ∷ []) in cc

-- the empty list
pub steps_none : (l : Ledger) → l ≡ steps l []
unfolding steps
steps_none l = refl

pub logged_none : {X : Type 0} (from : List X) → from ≡ from ++ []
logged_none from = sym (append-nil from)
