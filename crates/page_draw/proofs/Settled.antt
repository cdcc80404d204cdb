-- A draw of pages that nothing refuses is the draw on the numbers of the range alone; of an inclusive range, set by the last page of its half where that is drawn.
use Prim.Native.Nat.{ℕ}
use mathlib.Core.Path.{◌≡◌}
use mathlib.Core.Bool.{Bool, false}
use Rattle.answer.specs.Outcome.{gives}
use Rattle.laws.specs.Draw as draw
use Rattle.laws.specs.Run.{below, through, len_below, len_through, page_len_below, page_len_through}
use Rattle.laws.specs.Kind.{guarded}
use Rattle.laws.proofs.Gap.{front_below, back_below, front-through, back-through}
use Rattle.laws.proofs.Length as lengths
use Rattle.laws.proofs.Length.{Alike}
use Rattle.laws.proofs.Within.{within_low_half, within_high_half, low-half-kept, high-half-kept}
use Rattle.table.specs.Level.{bytes_of}
use Rattle.table.specs.declared.size.PageSize.{PageSize}
use Rattle.laws.specs.Address.{virt}
use Rattle.laws.specs.Item.{items_refusal}
use Rattle.addr.specs.Widths.{width_of}
use Rattle.addr.specs.declared.width.Width.{Width}
use Rattle.laws.specs.Width.{PageWidth}
use Rattle.addr.proofs.Widths.{page-width}
use Rattle.page_draw.specs.Draws as draws
use Rattle.page_draw.specs.Draws.{draw_refusal}
use Rattle.page_draw.proofs.Accepted.{accepted, gap-room}

-- of ends that are accepted, away from the gap
settled : (w a y b z : ℕ) (gap : Bool) (d : draw.Draw) → items_refusal (virt w) a y b z ≡ 0 → gap ≡ false → gives d ≡ guarded (record { refusal = draw_refusal w a y b z gap; draw = d })
settled w a y b z gap d e g = simp (e, g)

module _ (v : PageWidth) (a : ℕ) (s : PageSize) (b : ℕ) (t : PageSize) (n : ℕ) (e : items_refusal (virt v.bits) a (bytes_of s) b (bytes_of t) ≡ 0) where
  -- as many pages as the range has are taken, by either length
  pub front-alike : draw.gap_front v.bits a b (bytes_of s) n ≡ false → Alike (page_len_below v.bits a b (bytes_of s)) (len_below a b (bytes_of s)) n
  front-alike g = let p = accepted v a s b t e in lengths.front-alike v.bits (bytes_of s) a b v.width p.first-address p.last-address p.ends n g

  pub back-alike : draw.gap_back v.bits a b (bytes_of s) n ≡ false → Alike (page_len_below v.bits a b (bytes_of s)) (len_below a b (bytes_of s)) n
  back-alike g = let p = accepted v a s b t e in lengths.back-alike v.bits (bytes_of s) a b v.width p.first-address p.last-address p.ends n g

  pub front-through-alike : draw.gap_front v.bits a b (bytes_of s) n ≡ false → Alike (page_len_through v.bits a b (bytes_of s)) (len_through a b (bytes_of s)) n
  front-through-alike g = let p = accepted v a s b t e in lengths.front-through-alike v.bits (bytes_of s) a b v.width p.first-address p.last-address p.ends n g

  pub back-through-alike : draw.gap_back v.bits a b (bytes_of s) n ≡ false → Alike (page_len_through v.bits a b (bytes_of s)) (len_through a b (bytes_of s)) n
  back-through-alike g = let p = accepted v a s b t e in lengths.back-through-alike v.bits (bytes_of s) a b v.width p.first-address p.last-address p.ends n g

  pub front-exclusive : draw.gap_front v.bits a b (bytes_of s) n ≡ false → gives (draw.front_below (below a b (bytes_of s)) a b (bytes_of s) n) ≡ guarded (draws.nth_below v.bits a (bytes_of s) b (bytes_of t) n)
  front-exclusive g = rw (← front_below v.bits (bytes_of s) a b (accepted v a s b t e).ends n g, ← (front-alike g).same) (settled v.bits a (bytes_of s) b (bytes_of t) _ _ e g)

  pub back-exclusive : draw.gap_back v.bits a b (bytes_of s) n ≡ false → gives (draw.back_below (below a b (bytes_of s)) a b (bytes_of s) n) ≡ guarded (draws.nth_back_below v.bits a (bytes_of s) b (bytes_of t) n)
  back-exclusive g = rw (← back_below v.bits (bytes_of s) a b (accepted v a s b t e).ends n g, ← (back-alike g).same) (settled v.bits a (bytes_of s) b (bytes_of t) _ _ e g)

  -- to the topmost and to the lowest page of the range, and as the code draws it
  pub front-inclusive : draw.gap_front v.bits a b (bytes_of s) n ≡ false
      → gives (draw.front_through (through a b (bytes_of s)) (draw.top_of v.bits a b (bytes_of s)) a b (bytes_of s) n) ≡ guarded (draws.nth_through v.bits a (bytes_of s) b (bytes_of t) n)
  front-inclusive g = rw (← front-through v.bits (bytes_of s) a b (accepted v a s b t e).ends n g, ← (front-through-alike g).same) (settled v.bits a (bytes_of s) b (bytes_of t) _ _ e g)

  pub back-inclusive : draw.gap_back v.bits a b (bytes_of s) n ≡ false
      → gives (draw.back_through (through a b (bytes_of s)) (draw.bottom_of v.bits a b) a b (bytes_of s) n) ≡ guarded (draws.nth_back_through v.bits a (bytes_of s) b (bytes_of t) n)
  back-inclusive g = rw (← back-through v.bits (bytes_of s) a b (accepted v a s b t e).ends n g, ← (back-through-alike g).same) (settled v.bits a (bytes_of s) b (bytes_of t) _ _ e g)

-- at the two widths, as the proofs of the code cite them
module _ (v : Width) (a : ℕ) (s : PageSize) (b : ℕ) (t : PageSize) (n : ℕ) (e : items_refusal (virt (width_of v)) a (bytes_of s) b (bytes_of t) ≡ 0) where
  pub nth_below : draw.gap_front (width_of v) a b (bytes_of s) n ≡ false → gives (draw.front_below (below a b (bytes_of s)) a b (bytes_of s) n) ≡ guarded (draws.nth_below (width_of v) a (bytes_of s) b (bytes_of t) n)
  nth_below g = front-exclusive (page-width v) a s b t n e g

  pub nth_back_below : draw.gap_back (width_of v) a b (bytes_of s) n ≡ false → gives (draw.back_below (below a b (bytes_of s)) a b (bytes_of s) n) ≡ guarded (draws.nth_back_below (width_of v) a (bytes_of s) b (bytes_of t) n)
  nth_back_below g = back-exclusive (page-width v) a s b t n e g

  pub nth_through : draw.gap_front (width_of v) a b (bytes_of s) n ≡ false
      → gives (within_low_half (width_of v) (bytes_of s) (draw.front_through (through a b (bytes_of s)) (draw.top_page (bytes_of s)) a b (bytes_of s) n)) ≡ guarded (draws.nth_through (width_of v) a (bytes_of s) b (bytes_of t) n)
  nth_through g =
      rw (low-half-kept (width_of v) (bytes_of s) a b (accepted (page-width v) a s b t e).ends (gap-room (page-width v) a s b t e) (through a b (bytes_of s)) n g) (front-inclusive (page-width v) a s b t n e g)

  pub nth_back_through : draw.gap_back (width_of v) a b (bytes_of s) n ≡ false
      → gives (within_high_half (width_of v) (bytes_of s) (draw.back_through (through a b (bytes_of s)) 0 a b (bytes_of s) n)) ≡ guarded (draws.nth_back_through (width_of v) a (bytes_of s) b (bytes_of t) n)
  nth_back_through g =
      rw (high-half-kept (width_of v) (bytes_of s) a b (accepted (page-width v) a s b t e).ends (gap-room (page-width v) a s b t e) (through a b (bytes_of s)) n g) (back-inclusive (page-width v) a s b t n e g)
