-- Bytes put one after another.
use Rattle.std.proofs.Common.{◌≡◌, ℕ, ◌+◌, ◌<◌, ◌≤◌, List, [], ◌∷◌, ◌++◌, length, get_or, take, drop, set, subst, sym, refl, ap, ◌∙◌, add-zero, arith, length-append}
use Rattle.std.specs.List.{flat_map}
use Rattle.std.proofs.lemmas.List.{append_assoc, take-append-drop, take_more, take_all, flat_map_more}
use Rattle.sheet.specs.Laid.{laid}
use Rattle.sheet.proofs.Laying.{laid_none, laid_more, laid_laid, length_laid}
use Rattle.sheet_write.specs.declared.page.Page.{Page}
use Rattle.sheet_write.specs.Pages.{Puts}

-- two bytes
pub two_laid : {A : Type 0} (at : ℕ) (x y : A) (old : List A) → at + 2 ≤ length old → set (set old at x) (at + 1) y ≡ laid at (x ∷ y ∷ []) old
two_laid {A} at x y old h =
    let l : at + 0 < length old = omega arith in
    let m : at + 1 < length old = omega arith in
    let first : set old at x ≡ laid at (x ∷ []) old =
    ap (λ (zs : List A). set zs at x) (sym (laid_none at old)) ∙ ap (λ (k : ℕ). set (laid at [] old) k x) (sym (add-zero at)) ∙ laid_more at [] old x l in
    ap (λ (zs : List A). set zs (at + 1) y) first ∙ laid_more at (x ∷ []) old y m

-- a stretch behind another
pub laid_then : {A : Type 0} (at next : ℕ) (new more old mid out : List A) → next ≡ at + length new → at + length new ≤ length old → mid ≡ laid at new old → out ≡ laid next more mid → out ≡ laid at (new ++ more) old
laid_then {A} at next new more old mid out e h m o =
    o ∙ ap (λ (k : ℕ). laid k more mid) e ∙ ap (λ (zs : List A). laid (at + length new) more zs) m ∙ laid_laid at new more old h

pub joined_append : {X A : Type 0} (f : X → List A) (xs ys : List X) → flat_map f (xs ++ ys) ≡ flat_map f xs ++ flat_map f ys
joined_append f [] ys = refl
joined_append {X} {A} f (x ∷ xs) ys = ap (λ (zs : List A). f x ++ zs) (joined_append f xs ys) ∙ sym (append_assoc (f x) (flat_map f xs) (flat_map f ys))

pub puts_none : (p : Page) → p.at ≤ length p.cells.now → Puts p [] p
puts_none p h = record { same = refl; room = omega (arith, h); place = sym (add-zero p.at); holds = sym (laid_none p.at p.cells.now) }

pub puts_length : (p q : Page) (bs : List ℕ) → Puts p bs q → length q.cells.now ≡ length p.cells.now
puts_length p q bs h = ap length h.holds ∙ length_laid p.at bs p.cells.now h.room

-- some bytes and then some more
pub puts_then : (p q r : Page) (bs cs : List ℕ) → Puts p bs q → Puts q cs r → Puts p (bs ++ cs) r
puts_then p q r bs cs a b =
    let n : length (bs ++ cs) ≡ length bs + length cs = length-append bs cs in
    let k = puts_length p q bs a in
    record {
      same = b.same ∙ a.same;
      room = omega (arith, n, k, a.place, b.room);
      place = omega (arith, n, a.place, b.place);
      holds = laid_then p.at q.at bs cs p.cells.now q.cells.now r.cells.now a.place a.room a.holds b.holds;
    }

-- what is left of the room
pub puts_left : (p q : Page) (bs cs : List ℕ) → p.at + length (bs ++ cs) ≤ length p.cells.now → Puts p bs q → q.at + length cs ≤ length q.cells.now
puts_left p q bs cs h a =
    let n : length (bs ++ cs) ≡ length bs + length cs = length-append bs cs in
    omega (arith, n, h, a.place, puts_length p q bs a)

-- the loop over some items, each with bytes of its own
module _ {X : Type 0} (f : X → List ℕ) (items : List X) (p : Page) (fits : p.at + length (flat_map f items) ≤ length p.cells.now) where
  -- the items before number i have been put
  abbrev pub Put : ℕ → Page → Type 0
  Put i q = Puts p (flat_map f (take i items)) q

  pub put_none : Put 0 p
  put_none = puts_none p (omega (arith, fits))

  -- one item more
  next : (i : ℕ) (x : X) → i < length items → x ≡ get_or items i x → flat_map f (take (i + 1) items) ≡ flat_map f (take i items) ++ f x
  next i x h e = ap (flat_map f) (take_more items i x h) ∙ sym (flat_map_more f [] (take i items) (get_or items i x)) ∙ ap (λ (y : X). flat_map f (take i items) ++ f y) (sym e)

  -- there is room for the next item
  pub put_room : (i : ℕ) (q : Page) (x : X) → Put i q → i < length items → x ≡ get_or items i x → q.at + length (f x) ≤ length q.cells.now
  put_room i q x a h e =
      let n : length (flat_map f (take (i + 1) items)) ≡ length (flat_map f (take i items)) + length (f x) = ap length (next i x h e) ∙ length-append (flat_map f (take i items)) (f x) in
      let w : length (flat_map f items) ≡ length (flat_map f (take (i + 1) items)) + length (flat_map f (drop (i + 1) items)) =
      ap (λ (xs : List X). length (flat_map f xs)) (sym (take-append-drop (i + 1) items)) ∙ ap length (joined_append f (take (i + 1) items) (drop (i + 1) items)) ∙ length-append _ _ in
      omega (arith, n, w, fits, a.place, puts_length p q _ a)

  pub put_more : (i : ℕ) (q r : Page) (x : X) → Put i q → i < length items → x ≡ get_or items i x → Puts q (f x) r → Put (i + 1) r
  put_more i q r x a h e b = subst (λ (bs : List ℕ). Puts p bs r) (sym (next i x h e)) (puts_then p q r (flat_map f (take i items)) (f x) a b)

  pub put_all : (i : ℕ) (q : Page) → Put i q → length items ≤ i → Puts p (flat_map f items) q
  put_all i q a h = subst (λ (xs : List X). Puts p (flat_map f xs) q) (take_all i items h) a
