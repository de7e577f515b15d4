-- What a word says that reports a delay.
--
--   before_equals, after_equals    what stands before a word's first equals sign, and after it
--   report_of                      the report of a word: a number, an equals sign and a number
use Rattle.std.specs.Prelude.{ℕ, cond, List, [], ◌∷◌, Some, Option, ◌==◌}
use Rattle.words.specs.Numbers.{number_of}
use Rattle.listing_read.specs.Words.{with}
use Rattle.outlook.specs.declared.report.Report.{Report}

-- all of a word that has none
unfoldable pub before_equals : List ℕ → List ℕ
before_equals [] = []
before_equals (c ∷ cs) = cond (c == 61) [] (c ∷ before_equals cs)

-- nothing of a word that has none
unfoldable pub after_equals : List ℕ → List ℕ
after_equals [] = []
after_equals (c ∷ cs) = cond (c == 61) cs (after_equals cs)

abbrev pub report_by : Option ℕ → Option ℕ → Option Report
report_by a b = with a (λ event. with b (λ minutes. Some (record { event = event; minutes = minutes })))

abbrev pub report_of : List ℕ → Option Report
report_of word = report_by (number_of (before_equals word)) (number_of (after_equals word))
