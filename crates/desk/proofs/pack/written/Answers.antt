use Rattle.std.proofs.Common.{◌≡◌, ℕ, ◌≤◌, Bool, true, false, cond, ltb, List, ◌++◌, length, take, drop, Ok, Err, refl, ap, ◌∙◌, append_assoc, arith}
use Rattle.std.proofs.lemmas.Bool.{ltb-false}
use Rattle.std.proofs.lemmas.List.{take-take, take_at}
use Rattle.sheet.specs.Bytes.{bytes_of}
use Rattle.sheet.specs.Sheets.{tables_of}
use Rattle.desk.proofs.pack.written.Goals as goal

-- an answer of `Ok` is the second one
second : {E : Type 0} (b : Bool) (count n : ℕ) (f : E) → Ok count ≡ cond b (Err f) (Ok n) → (b ≡ false) × (count ≡ n)
second true count n f e = let z : ◌≡◌ {A = ℕ} 0 1 = cc in absurd (omega arith)
second false count n f e = (refl, cc)

-- the front of a buffer that begins with the bytes
front : (bs rest more : List ℕ) (len : ℕ) → length bs ≤ len → take (length bs) (take len ((bs ++ rest) ++ more)) ≡ bs
front bs rest more len h = take-take (length bs) len _ h ∙ ap (take (length bs)) (append_assoc bs rest more) ∙ take_at bs (rest ++ more) (length bs) refl

pub returns-in-Ok : goal.returns-in-Ok
returns-in-Ok c =
    let bs = bytes_of (tables_of c.args.sheet.now) in
    let known = second (ltb (length c.as_mut_slice.result.now) (length bs)) c.in-Ok.count (length bs) _ c.in-Ok.ensures.answer in
    let fits = ltb-false (length c.as_mut_slice.result.now) (length bs) known.0 in
    let room : length bs ≤ c.in_ok-bytes.bytes.len = omega (arith, c.as_mut_slice.ensures.len) in
    record {
      whole =
          c.truncate.ensures.items
          ∙ ap (λ (n : ℕ). take n (take c.in_ok-bytes.bytes.len (c.write_sheet.new.out ++ drop (length c.write_sheet.new.out) c.in_ok-bytes.bytes.items))) known.1
          ∙ ap (λ (out : List ℕ). take (length bs) (take c.in_ok-bytes.bytes.len (out ++ drop (length c.write_sheet.new.out) c.in_ok-bytes.bytes.items))) c.in-Ok.ensures.bytes
          ∙ front bs (drop (length bs) c.as_mut_slice.result.now) (drop (length c.write_sheet.new.out) c.in_ok-bytes.bytes.items) c.in_ok-bytes.bytes.len room;
      memory = tt;
    }
