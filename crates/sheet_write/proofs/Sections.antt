-- The four sections of a sheet put into a buffer that has room for them.
use Rattle.std.proofs.Common.{◌≡◌, ℕ, ◌+◌, ◌≤◌, List, [], ◌∷◌, ◌++◌, length, ap, ◌∙◌, arith, length-append}
use Rattle.std.specs.List.{flat_map}
use Rattle.sheet.specs.Laid.{laid}
use Rattle.sheet.specs.Bytes.{number_bytes, event_bytes, activity_bytes, lot_bytes, section_bytes, bytes_of}
use Rattle.sheet.specs.Rules.{Tables}
use Rattle.sheet_write.specs.declared.page.Page.{Page}
use Rattle.sheet_write.specs.Pages.{Puts}
use Rattle.sheet_write.proofs.Putting.{puts_left, puts_then}

module _ (t : Tables) where
  abbrev pub terms : List ℕ
  terms = flat_map number_bytes (1 ∷ t.period ∷ [])

  abbrev pub events : List ℕ
  events = section_bytes event_bytes t.events

  abbrev pub activities : List ℕ
  activities = section_bytes activity_bytes t.activities

  abbrev pub lots : List ℕ
  lots = section_bytes (lot_bytes t.steps) t.lots

  pub record Roomy (p : Page) (old : List ℕ) : Type 0 where
    pub front : p.at ≡ 0
    pub kept : p.cells.now ≡ old
    pub room : length (bytes_of t) ≤ length old

  after_front : (p : Page) (old : List ℕ) → Roomy p old → p.at + length (terms ++ (events ++ (activities ++ lots))) ≤ length p.cells.now
  after_front p old h = let k : length p.cells.now ≡ length old = ap length h.kept in omega (arith, h.front, h.room, k)

  module _ (p q : Page) (old : List ℕ) (h : Roomy p old) (a : Puts p terms q) where
    left₁ : q.at + length (events ++ (activities ++ lots)) ≤ length q.cells.now
    left₁ = puts_left p q terms (events ++ (activities ++ lots)) (after_front p old h) a

    pub room_events : q.at + length events ≤ length q.cells.now
    room_events = let n = length-append events (activities ++ lots) in let l = left₁ in omega (arith, n, l)

    module _ (r : Page) (b : Puts q events r) where
      left₂ : r.at + length (activities ++ lots) ≤ length r.cells.now
      left₂ = puts_left q r events (activities ++ lots) left₁ b

      pub room_activities : r.at + length activities ≤ length r.cells.now
      room_activities = let n = length-append activities lots in let l = left₂ in omega (arith, n, l)

      module _ (s : Page) (c : Puts r activities s) where
        pub room_lots : s.at + length lots ≤ length s.cells.now
        room_lots = puts_left r s activities lots left₂ c

        -- all four
        pub filled : (e : Page) → Puts s lots e → Puts p (bytes_of t) e
        filled e d = puts_then p q e terms (events ++ (activities ++ lots)) a (puts_then q r e events (activities ++ lots) b (puts_then r s e activities lots c d))

        pub filled_front : (e : Page) → Puts s lots e → e.cells.now ≡ laid 0 (bytes_of t) old
        filled_front e d =
            (filled e d).holds ∙ ap (λ (k : ℕ). laid k (bytes_of t) p.cells.now) h.front ∙ ap (laid 0 (bytes_of t)) h.kept
