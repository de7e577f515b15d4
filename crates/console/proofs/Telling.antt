-- The line of the slips that are out grows slip by slip.
use Rattle.std.proofs.Common.{◌≡◌, ℕ, ◌+◌, ◌<◌, List, [], ◌++◌, length, get_or, take, codes, sym, ap, ◌∙◌, append_assoc}
use Rattle.std.proofs.lemmas.List.{take_more, flat_map_more}
use Rattle.outlook.specs.Lines.{number_word}
use Rattle.board.specs.declared.slip.Slip.{Slip}
use Rattle.console.specs.Hands.{transfer_word, transfers_words, slips_line}

-- a slip that stands where there is none
abbrev pub no_slip : Slip
no_slip = record { board = 0; activity = 0 }

pub transfers_next : (slips : List Slip) (i n : ℕ) → n ≡ (get_or slips i no_slip).activity → i < length slips → transfers_words (take i slips) ++ number_word n ≡ transfers_words (take (i + 1) slips)
transfers_next slips i n e h =
    ap (λ (m : ℕ). transfers_words (take i slips) ++ number_word m) e
    ∙ flat_map_more transfer_word [] (take i slips) (get_or slips i no_slip)
    ∙ ap transfers_words (sym (take_more slips i no_slip h))

pub slips_next : (slips : List Slip) (i n : ℕ) → n ≡ (get_or slips i no_slip).activity → i < length slips → slips_line (take i slips) ++ number_word n ≡ slips_line (take (i + 1) slips)
slips_next slips i n e h =
    append_assoc (codes "slips out:") (transfers_words (take i slips)) (number_word n)
    ∙ ap (λ (l : List ℕ). codes "slips out:" ++ l) (transfers_next slips i n e h)
