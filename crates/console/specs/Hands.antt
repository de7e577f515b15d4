-- Slips that the console holds.
--
--   place_for          the place of the first slip for a transfer
--   without            the slips but that one
--   transfers_words    the transfers of slips, a blank before each
--   slips_back         what is told at the end: that line, if any are
--   slips_line         the line that tells of those that are out
use Rattle.std.specs.Prelude.{ℕ, List, [], ◌∷◌, ◌++◌, None, Some, codes, Option, ◌==◌, position, take, drop, ◌+◌}
use Rattle.std.specs.List.{flat_map}
use Rattle.outlook.specs.Lines.{number_word}
use Rattle.board.specs.declared.slip.Slip.{Slip}

abbrev pub place_for : ℕ → List Slip → Option ℕ
place_for a slips = position (λ (s : Slip). s.activity == a) slips

abbrev pub without_at : List Slip → Option ℕ → List Slip
without_at slips None = slips
without_at slips (Some i) = take i slips ++ drop (i + 1) slips

abbrev pub without : ℕ → List Slip → List Slip
without a slips = without_at slips (place_for a slips)

abbrev pub transfer_word : Slip → List ℕ
transfer_word slip = number_word slip.activity

abbrev pub transfers_words : List Slip → List ℕ
transfers_words slips = flat_map transfer_word slips

-- slips out: 1 4
abbrev pub slips_line : List Slip → List ℕ
slips_line slips = codes "slips out:" ++ transfers_words slips

abbrev pub slips_back : List Slip → List ℕ
slips_back [] = []
slips_back (slip ∷ slips) = slips_line (slip ∷ slips) ++ codes "\n"
