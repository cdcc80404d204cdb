-- What ends that are not refused are: two pages of one size, at a width.
use Prim.Native.Nat.{ℕ, ◌+◌, ◌%◌, ◌^◌, ◌≤◌, ◌<◌}
use mathlib.Core.Path.{◌≡◌}
use native.Mathlib.Omega.{arith}
use borrow.Author.Tests.{eqb-true}
use Rattle.laws.specs.Width.{half, first_high, sign_extend, PageWidth}
use Rattle.laws.proofs.Width.{sizes, sign-lt}
use Rattle.laws.proofs.Gap.{PageEnds, page-ends}
use Rattle.table.specs.Level.{power_of, bytes_of}
use Rattle.table.specs.declared.size.PageSize.{PageSize}
use Rattle.table.proofs.Sizes.{bounds}
use Rattle.laws.specs.Address.{virt}
use Rattle.laws.specs.Item.{items_refusal}
use Rattle.laws.proofs.Item.{virt-argument, item-passed, items-passed}

pub record Accepted (w a y b z : ℕ) : Type 0 where
  pub same : y ≡ z
  pub ends : PageEnds w y a b
  pub whole : a % y ≡ 0
  pub last-whole : b % y ≡ 0
  pub first-address : sign_extend w a ≡ a
  pub last-address : sign_extend w b ≡ b

module _ (v : PageWidth) (a : ℕ) (s : PageSize) (b : ℕ) (t : PageSize) (r : items_refusal (virt v.bits) a (bytes_of s) b (bytes_of t) ≡ 0) where
  pub accepted : Accepted v.bits a (bytes_of s) b (bytes_of t)
  accepted =
      let w = v.bits in
      let i = items-passed (virt w) a (bytes_of s) b (bytes_of t) r in
      let p = item-passed (virt w) a (bytes_of s) (virt-argument w) i.0 in
      let q = item-passed (virt w) b (bytes_of t) (virt-argument w) i.1 in
      let ca : sign_extend w a ≡ a = eqb-true (sign_extend w a) a p.0 in
      let cb : sign_extend w b ≡ b = eqb-true (sign_extend w b) b q.0 in
      let fa : a < 2 ^ 64 = omega (arith, sign-lt w v.width a) in
      let fb : b < 2 ^ 64 = omega (arith, sign-lt w v.width b) in
      let zb : b % bytes_of s ≡ 0 = rw i.2 q.1 in
      let k = bounds s in
      let g = v.wide in
      record {
        same = i.2;
        ends = page-ends w (power_of s) a b v.width (omega arith) fa fb ca cb p.1 zb;
        whole = p.1;
        last-whole = zb;
        first-address = ca;
        last-address = cb;
      }

  -- a page fits into the gap
  pub gap-room : half v.bits + bytes_of s ≤ first_high v.bits
  gap-room = omega (arith, accepted.ends.two, sizes v.bits v.width)
