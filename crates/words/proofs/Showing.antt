-- A row grows by one value at a time, and the row of some numbers is known.
use Rattle.std.proofs.Common.{◌≡◌, ℕ, ◌+◌, ◌<◌, List, [], ◌∷◌, ◌++◌, length, get_or, take, Some, None, Ok, Option, codes, decimal, IfSome, subst, refl, sym, ap, ◌∙◌, append-nil, append_assoc}
use Rattle.std.specs.Fmt.{◌++?◌, IsPlainFormatter, HasWritten, DisplaysOnOk}
use Rattle.std.specs.declared.fmt.Formatter.{Formatter}
use Rattle.std.proofs.Output.{has_written_append}
use Rattle.std.proofs.lemmas.List.{take_more}
use Rattle.words.specs.Rows.{row_of, numbers_row}

-- one text after another, known or not
and_then : (o p q : Option (List ℕ)) → (o ++? p) ++? q ≡ o ++? (p ++? q)
and_then None p q = refl
and_then (Some a) None q = refl
and_then (Some a) (Some b) None = refl
and_then (Some a) (Some b) (Some c) = ap Some (append_assoc a b c)

and_nothing : (o : Option (List ℕ)) → o ++? Some [] ≡ o
and_nothing None = refl
and_nothing (Some a) = ap Some (append-nil a)

nothing_and : (o : Option (List ℕ)) → Some [] ++? o ≡ o
nothing_and None = refl
nothing_and (Some a) = refl

row_push : {A : Type 0} (shown : A → Option (List ℕ)) (xs : List A) (x : A) → row_of shown (xs ++ x ∷ []) ≡ row_of shown xs ++? (Some (codes " ") ++? shown x)
row_push shown [] x = and_nothing _ ∙ sym (nothing_and _)
row_push shown (y ∷ ys) x =
    ap (λ (o : Option (List ℕ)). (Some (codes " ") ++? shown y) ++? o) (row_push shown ys x)
    ∙ sym (and_then (Some (codes " ") ++? shown y) (row_of shown ys) (Some (codes " ") ++? shown x))

-- the values before i, and then x, the one at i
row_next : {A : Type 0} (shown : A → Option (List ℕ)) (xs : List A) (i : ℕ) (x : A) → i < length xs → x ≡ get_or xs i x
    → row_of shown (take (i + 1) xs) ≡ row_of shown (take i xs) ++? (Some (codes " ") ++? shown x)
row_next {A} shown xs i x h is = ap (row_of shown) (take_more xs i x h) ∙ row_push shown (take i xs) (get_or xs i x) ∙ ap (λ (y : A). row_of shown (take i xs) ++? (Some (codes " ") ++? shown y)) (sym is)

module _ {W : Type 0} (took : W → List ℕ → W → Type 0) (f g h : Formatter W) where
  -- what a write says that has not failed
  shown_by : (u : Unit {0}) (o : Option (List ℕ)) → DisplaysOnOk took g (Ok u) o h → IsPlainFormatter g → IfSome o (λ bs. HasWritten took g bs h)
  shown_by u None x plain = tt
  shown_by u (Some a) x plain = x plain refl

  -- two texts written in a row
  written_both : (o p : Option (List ℕ)) → IfSome o (λ bs. HasWritten took f bs g) → (IsPlainFormatter g → IfSome p (λ bs. HasWritten took g bs h)) → IfSome (o ++? p) (λ bs. HasWritten took f bs h)
  written_both None p x y = tt
  written_both (Some a) None x y = tt
  written_both (Some a) (Some b) x y = has_written_append took f a g b h x (y x.plain)

  -- one more value written
  pub written_next : {A : Type 0} (shown : A → Option (List ℕ)) (xs : List A) (i : ℕ) (x : A) → i < length xs → x ≡ get_or xs i x
      → IfSome (row_of shown (take i xs)) (λ bs. HasWritten took f bs g)
      → (u : Unit {0}) → DisplaysOnOk took g (Ok u) (Some (codes " ") ++? shown x) h
      → IfSome (row_of shown (take (i + 1) xs)) (λ bs. HasWritten took f bs h)
  written_next shown xs i x within is before u now =
      subst (λ (o : Option (List ℕ)). IfSome o (λ bs. HasWritten took f bs h)) (sym (row_next shown xs i x within is))
      (written_both (row_of shown (take i xs)) (Some (codes " ") ++? shown x) before (shown_by u (Some (codes " ") ++? shown x) now))

pub row_of_numbers : (ns : List ℕ) → row_of (λ n. Some (decimal n)) ns ≡ Some (numbers_row ns)
row_of_numbers [] = refl
row_of_numbers (n ∷ ns) = ap (λ (o : Option (List ℕ)). (Some (codes " ") ++? Some (decimal n)) ++? o) (row_of_numbers ns)
