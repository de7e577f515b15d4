-- What is written of live activities grows cell by cell.
use Rattle.std.proofs.Common.{◌≡◌, ℕ, ◌+◌, Bool, true, false, List, [], ◌++◌, get_or, codes, sym, ap, ◌∙◌, append-nil, append_assoc, add-one}
use Rattle.std.proofs.lemmas.Bool.{cond-true, cond-false}
use Rattle.outlook.specs.Lines.{number_word, picked_words}

pub picked_more : (cells : List Bool) (i : ℕ) → get_or cells i false ≡ true → picked_words cells i ++ number_word i ≡ picked_words cells (i + 1)
unfolding picked_words
picked_more cells i h = sym (ap (picked_words cells) (add-one i) ∙ ap (λ (l : List ℕ). picked_words cells i ++ l) (cond-true (get_or cells i false) (number_word i) [] h))

pub picked_skip : (cells : List Bool) (i : ℕ) → get_or cells i false ≡ false → picked_words cells i ≡ picked_words cells (i + 1)
unfolding picked_words
picked_skip cells i h = sym (ap (picked_words cells) (add-one i) ∙ ap (λ (l : List ℕ). picked_words cells i ++ l) (cond-false (get_or cells i false) (number_word i) [] h) ∙ append-nil (picked_words cells i))

-- the line as far as the cells below n
abbrev line_to : List Bool → ℕ → List ℕ
line_to cells n = codes "live" ++ picked_words cells n

pub live_none : (cells : List Bool) → codes "live" ≡ line_to cells 0
unfolding picked_words
live_none cells = sym (append-nil (codes "live"))

pub live_more : (cells : List Bool) (i : ℕ) → get_or cells i false ≡ true → line_to cells i ++ number_word i ≡ line_to cells (i + 1)
live_more cells i h = append_assoc (codes "live") (picked_words cells i) (number_word i) ∙ ap (λ (l : List ℕ). codes "live" ++ l) (picked_more cells i h)

pub live_skip : (cells : List Bool) (i : ℕ) → get_or cells i false ≡ false → line_to cells i ≡ line_to cells (i + 1)
live_skip cells i h = ap (λ (l : List ℕ). codes "live" ++ l) (picked_skip cells i h)
