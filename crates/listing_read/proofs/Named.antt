-- Words: when two are the same, and when one is a number.
use Rattle.std.proofs.Common.{◌≡◌, ℕ, Bool, true, false, List, refl}
use Rattle.std.proofs.lemmas.Slice.Eq.{bytes_eq-Decides}
use Rattle.listing_read.specs.Words.{same}
pub use Rattle.words.proofs.Reading.{own, a_number, no_number, plus_no_number}

pub false_from : (b : Bool) → (b ≡ true → ⊥) → b ≡ false
false_from true never = absurd (never refl)
false_from false never = refl

pub other_words : (cs ds : List ℕ) → (cs ≡ ds → ⊥) → same cs ds ≡ false
other_words cs ds never = false_from (same cs ds) (λ e. never ((bytes_eq-Decides cs ds).0 e))
