-- What draws of pages come to on the numbers of a range, over the width `w`: `a` and `y` are the start and its size, `b` and `z` the end and its size. The sentences are those of
-- document 01, "Ranges", and of document 02, requests One and Three.
use Rattle.std.specs.Prelude.{ℕ, Bool, cond}
use Rattle.answer.specs.Refusal.{draw_meets_gap}
use Rattle.laws.specs.Draw as draw
use Rattle.laws.specs.Run.{pages_below, pages_through, page_len_below, page_len_through}
use Rattle.laws.specs.Address.{virt}
use Rattle.laws.specs.Item.{first_refusal, items_refusal}
use Rattle.laws.specs.Kind.{GuardedDraw}

-- the number that refuses a draw, 0 for none: "a range handed to any call is tested the same way first"; then "Page draws: 10", by whether the draw meets the gap
abbrev pub draw_refusal : ℕ → ℕ → ℕ → ℕ → ℕ → Bool → ℕ
draw_refusal w a y b z gap = first_refusal (items_refusal (virt w) a y b z) (cond gap draw_meets_gap 0)

-- the pages are as many as request Three counts them; "Conditions for 10 don't use `len` and remain"
abbrev pub nth_below : ℕ → ℕ → ℕ → ℕ → ℕ → ℕ → GuardedDraw
nth_below w a y b z n = record { refusal = draw_refusal w a y b z (draw.gap_front w a b y n); draw = draw.front_of (pages_below w a b y) (page_len_below w a b y) a b y n }

abbrev pub nth_back_below : ℕ → ℕ → ℕ → ℕ → ℕ → ℕ → GuardedDraw
nth_back_below w a y b z n = record { refusal = draw_refusal w a y b z (draw.gap_back w a b y n); draw = draw.back_of (pages_below w a b y) (page_len_below w a b y) a b y n }

-- of an inclusive range, up to its topmost page and down to its lowest one, which request One sets for a range in one half
abbrev pub nth_through : ℕ → ℕ → ℕ → ℕ → ℕ → ℕ → GuardedDraw
nth_through w a y b z n = record { refusal = draw_refusal w a y b z (draw.gap_front w a b y n); draw = draw.front_inclusive_of (pages_through w a b y) (page_len_through w a b y) (draw.top_of w a b y) a b y n }

abbrev pub nth_back_through : ℕ → ℕ → ℕ → ℕ → ℕ → ℕ → GuardedDraw
nth_back_through w a y b z n = record { refusal = draw_refusal w a y b z (draw.gap_back w a b y n); draw = draw.back_inclusive_of (pages_through w a b y) (page_len_through w a b y) (draw.bottom_of w a b) a b y n }
