-- What is written of a table grows by one record at a time.
use Rattle.std.proofs.Common.{◌≡◌, ℕ, ◌+◌, ◌<◌, ◌≤◌, List, [], ◌++◌, length, get_or, take, sym, ap, ◌∙◌, append_assoc, take_all}
use Rattle.std.specs.List.{flat_map}
use Rattle.std.proofs.lemmas.List.{take_more, flat_map_more}

-- after `bs`, the records before i, and then the one at i
pub joined_next : {A : Type 0} (f : A → List ℕ) (bs : List ℕ) (xs : List A) (i : ℕ) (d : A) → i < length xs → (bs ++ flat_map f (take i xs)) ++ f (get_or xs i d) ≡ bs ++ flat_map f (take (i + 1) xs)
joined_next {A} f bs xs i d h =
    flat_map_more f bs (take i xs) (get_or xs i d)
    ∙ ap (λ (l : List A). bs ++ flat_map f l) (sym (take_more xs i d h))

-- the text so far has the records before i, and one more is written
pub grows : {A : Type 0} (f : A → List ℕ) (bs so_far after : List ℕ) (xs : List A) (i : ℕ) (d : A) → i < length xs → so_far ≡ bs ++ flat_map f (take i xs) → after ≡ so_far ++ f (get_or xs i d) → after ≡ bs ++ flat_map f (take (i + 1) xs)
grows f bs so_far after xs i d h e step =
    step ∙ ap (λ (l : List ℕ). l ++ f (get_or xs i d)) e ∙ joined_next f bs xs i d h

-- at the end the text has them all
pub has_all : {A : Type 0} (f : A → List ℕ) (bs so_far : List ℕ) (xs : List A) (i : ℕ) → length xs ≤ i → so_far ≡ bs ++ flat_map f (take i xs) → so_far ≡ bs ++ flat_map f xs
has_all {A} f bs so_far xs i h e = e ∙ ap (λ (l : List A). bs ++ flat_map f l) (take_all i xs h)

-- one text after another
pub then_more : (a p q b c : List ℕ) → b ≡ a ++ p → c ≡ b ++ q → c ≡ a ++ (p ++ q)
then_more a p q b c e f = f ∙ ap (λ (l : List ℕ). l ++ q) e ∙ append_assoc a p q

-- four texts in a row, from nothing
pub four_in_a_row : (p q r s a b c d e : List ℕ) → a ≡ [] → b ≡ a ++ p → c ≡ b ++ q → d ≡ c ++ r → e ≡ d ++ s → e ≡ p ++ (q ++ (r ++ s))
four_in_a_row p q r s a b c d e start hb hc hd he =
    then_more a p (q ++ (r ++ s)) b e hb (then_more b q (r ++ s) c e hc (then_more c r s d e hd he))
    ∙ ap (λ (l : List ℕ). l ++ (p ++ (q ++ (r ++ s)))) start
