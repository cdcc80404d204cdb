-- Steps of pages past the last one, by their low parts, and what the code's steps by bytes need.
use mathlib.Core.Path.{◌≡◌, ◌∙◌}
use mathlib.Core.Bool.{true}
use Prim.Native.Nat.{ℕ, ◌+◌, ◌*◌, ◌^◌, ◌≤◌, ◌<◌}
use native.Mathlib.Omega.{arith}
use Rattle.answer.specs.Outcome.{Outcome, gives, none, and_then}
use Rattle.laws.specs.Width.{low, canonical}
use Rattle.laws.proofs.Width.{sizes, low-lt}
use Rattle.laws.specs.Steps.{forward, backward}
use Rattle.laws.proofs.Steps.{forward-out, backward-out}
use Rattle.laws.specs.Address.{virt}
use Rattle.laws.specs.Item.{Item, item, item_refusal, items_refusal}
use Rattle.laws.proofs.Item.{virt-argument, item-given, item-passed, items-passed}
use Rattle.addr.specs.Widths.{width_of}
use Rattle.addr.specs.declared.width.Width.{Width}
use Rattle.addr.proofs.Widths.{widths}
use Rattle.page.specs.Page.{page_forward, page_backward}

module _ (w a z n : ℕ) (r : item_refusal (virt w) a z ≡ 0) where
  pub forward-none : 2 ^ w ≤ low w a + n * z → none ≡ page_forward w a z n
  forward-none h =
      let o = and_then (forward w a (n * z)) (λ t. gives (item t z)) in
      let q : ◌≡◌ {A = Outcome Item} none o = rw (forward-out w a (n * z) h) in
      q ∙ item-given (virt w) a z o r

  pub backward-none : low w a < n * z → none ≡ page_backward w a z n
  backward-none h =
      let o = and_then (backward w a (n * z)) (λ t. gives (item t z)) in
      let q : ◌≡◌ {A = Outcome Item} none o = rw (backward-out w a (n * z) h) in
      q ∙ item-given (virt w) a z o r

-- a page that is not refused starts at an address
module _ (w a z : ℕ) where
  pub page_start : item_refusal (virt w) a z ≡ 0 → canonical w a ≡ true
  page_start r = (item-passed (virt w) a z (virt-argument w) r).0

module _ (w a y b z : ℕ) (r : items_refusal (virt w) a y b z ≡ 0) where
  pub first_start : canonical w a ≡ true
  first_start = page_start w a y (items-passed (virt w) a y b z r).0

  pub second_start : canonical w b ≡ true
  second_start = page_start w b z (items-passed (virt w) a y b z r).1

-- so many pages that their bytes pass 64 bits lead past the last one
module _ (v : Width) (a z n : ℕ) (r : item_refusal (virt (width_of v)) a z ≡ 0) (h : 2 ^ 64 ≤ n * z) where
  pub forward_past : none ≡ page_forward (width_of v) a z n
  forward_past = forward-none (width_of v) a z n r (omega (arith, sizes (width_of v) (widths v)))

  pub backward_past : none ≡ page_backward (width_of v) a z n
  backward_past = backward-none (width_of v) a z n r (omega (arith, sizes (width_of v) (widths v), low-lt (width_of v) (widths v) a))
