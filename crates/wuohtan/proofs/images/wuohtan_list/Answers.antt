-- `wuohtan_list` meets its contract.
use Prim.Native.Nat.{ℕ}
use native.Mathlib.Omega.{arith}
use mathlib.Core.Path.{◌≡◌, refl, ap, ◌∙◌}
use lib.ListN.{length}
use borrow.Author.Tests.{le-leb, lt-leb, both_ways}
use Rattle.addr.specs.Widths.{width_of, levels_of}
use Rattle.paging.specs.List.{Listing, listing}
use Rattle.convention.specs.Choice.{is_width, levels_with}
use Rattle.convention.specs.Images.{leaves_list, listed_length}
use Rattle.convention.proofs.Choice.{bits_with}
use Rattle.wuohtan.proofs.images.wuohtan_list.Goals as goal

pub returns-then-out-lt-LISTED_WORDS : goal.returns-then-out-lt-LISTED_WORDS
unfolding leaves_list
returns-then-out-lt-LISTED_WORDS c = (
  simp (c.in-Some.ensures.0, lt-leb listed_length (length c.args.out.now) (omega arith)),
  record { no-width = λ h. refl; at-width = λ k. record { not-asked = λ h. refl; asked = λ h. absurd (omega (arith, c.if-out-lt-LISTED_WORDS.true)) } },
)

-- the width that was chosen has the bits asked for
pub returns : goal.returns
unfolding leaves_list
returns c =
    let w = c.args.width in
    let chosen = c.in-Some.ensures in
    let bits : width_of c.in-Some.width ≡ w = rw chosen.1 (bits_with w chosen.0) in
    let levels : levels_of c.in-Some.width ≡ levels_with w = ap levels_of chosen.1 in
    let asked = c.list-listed.ensures in
    let at : (v l : ℕ) → Listing = λ v l. listing v l c.args.image.now c.args.base c.args.root c.args.page c.args.answers.now in
    let told = asked.0 ∙ ap (λ (v : ℕ). at v (levels_of c.in-Some.width)) bits ∙ ap (at w) levels in (
      rw (
        chosen.0,
        le-leb listed_length (length c.args.out.now) (omega (arith, c.if-out-lt-LISTED_WORDS.false)),
        ← told,
        c.give_listed.ensures,
      ),
      record {
        no-width = λ h. absurd (both_ways (is_width w) h chosen.0);
        at-width = λ k. record { not-asked = λ h. absurd (omega (arith, c.if-out-lt-LISTED_WORDS.false)); asked = λ h. rw bits at asked.1 };
      },
    )
