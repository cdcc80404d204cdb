-- A turn of the loop over the pages of a table of level 1: the pages before the word `i` are passed, and this is its page.
use Prim.Native.Nat.{ℕ, ◌+◌, ◌-◌, ◌/◌, ◌%◌, ◌^◌, ◌≤◌, ◌<◌}
use mathlib.Core.Path.{◌≡◌, sym, ap, ◌∙◌, subst}
use mathlib.Core.Bool.{Bool, true, false}
use mathlib.Core.List.{List}
use mathlib.Core.Option.{Option, none}
use native.Mathlib.Omega.{arith}
use lib.Bits.{bit_and, bit_xor}
use lib.ListN.{get_or}
use Rattle.mapping.specs.Pages.{Rights, reserved, PageState, mapped}
use Rattle.mapping.specs.Pass.{Progress}
use Rattle.mapping.specs.Walk.{joined}
use Rattle.paging.specs.Entry.{set, rights_of}
use Rattle.paging.specs.Packed.{rights_over}
use Rattle.paging.specs.Pages.{pages_by, Alike, PassesPages}
use Rattle.paging.specs.Progress.{finds_nothing, GoesOn, Passes, Takes, Halts}
use Rattle.paging.specs.Span.{after}
use Rattle.paging.proofs.Passing.{passes_none, passes_then, passes-in, still-goes, passes-absent, ends-absent, passes-mapped, ends-mapped, stops-broken}
use Rattle.paging.proofs.ReadBits.{read_mask}
use Rattle.paging.proofs.RightsBits.{rights-step}
use Rattle.walk.proofs.Lowest.{page-absent, page-masked, page-mapped, all-absent, all-mapped}

-- the end of the table's pages
table-end : (from : ℕ) → after 1 from ≡ from - from % 512 + 512
unfolding after
table-end from = omega arith

-- what holds at the word `i`
pub record PassedTo (reserved rights from : ℕ) (table : List ℕ) (before now : Progress) (i : ℕ) : Type 0 where
  pub begun : from % 512 ≤ i
  pub inside : i ≤ 512
  pub going : GoesOn now (from - from % 512 + i)
  pub passes : (memory : ℕ → Option (List ℕ)) → Passes (pages_by reserved memory 1 table (rights_over rights)) from (from - from % 512 + i) before now (from - from % 512 + i)

pub at-first : {reserved rights from : ℕ} {table : List ℕ} {before : Progress} → GoesOn before from → PassedTo reserved rights from table before before (from % 512)
at-first {reserved} {rights} {from} {table} {before} g =
    let e : from ≡ from - from % 512 + from % 512 = omega arith in
    record {
      begun = omega arith;
      inside = omega arith;
      going = subst (λ (x : ℕ). GoesOn before x) e g;
      passes = λ memory. subst (λ (x : ℕ). Passes (pages_by reserved memory 1 table (rights_over rights)) from x before before x) e (passes_none g);
    }

module _ {mask rights from : ℕ} {table : List ℕ} {before now : Progress} {i : ℕ} (turn : PassedTo mask rights from table before now i) where
  abbrev start : ℕ
  start = from - from % 512

  abbrev here : ℕ
  here = start + i

  abbrev word : ℕ
  word = get_or table i 0

  abbrev held : Rights
  held = joined (rights_over rights) (rights_of word)

  -- the page was taken with the rights of its own word
  abbrev Taken : Progress → Bool → Type 0
  Taken u b = Takes here (word / 2 ^ 12 % 2 ^ 40) (rights_over (bit_and rights (bit_xor word (2 ^ 63)))) now u b

  abbrev pages : (ℕ → Option (List ℕ)) → ℕ → PageState
  pages memory = pages_by mask memory 1 table (rights_over rights)

  pub all-passed : 512 ≤ i → PassesPages mask table rights from before now (start + 512)
  all-passed h memory =
      let e : i ≡ 512 = omega (arith, turn.inside) in
      subst (λ (n : ℕ). Passes (pages memory) from n before now (start + 512)) (sym (table-end from))
      (subst (λ (n : ℕ). Passes (pages memory) from (start + n) before now (start + n)) e (turn.passes memory))

  module _ (below : i < 512) where
    aligned : start % 512 ≡ 0
    aligned = omega arith

    started : from ≤ here
    started = omega (arith, turn.begun)

    index : here % 512 ≡ i
    index = omega (arith, aligned)

    -- it ends here
    halts : {u : Progress} → ((memory : ℕ → Option (List ℕ)) → Passes (pages memory) here (here + 1) now u here) → PassesPages mask table rights from before u here
    halts {u} q memory =
        subst (λ (e : ℕ). Passes (pages memory) from e before u here) (sym (table-end from))
        (passes-in started (omega arith) (omega arith) (omega arith) (turn.passes memory) (q memory))

    -- it goes on at the word e
    again : {u : Progress} {e : ℕ} → i < e → e ≤ 512 → ((memory : ℕ → Option (List ℕ)) → Passes (pages memory) here (start + e) now u (start + e)) → PassedTo mask rights from table before u e
    again h b q = record {
      begun = omega (arith, turn.begun);
      inside = b;
      going = still-goes turn.going (q (λ a. none));
      passes = λ memory. passes_then started (omega arith) (turn.passes memory) (q memory);
    }

    module _ (present : set 0 word ≡ true) where
      pub reserved-page : (bit_and word mask ≡ 0 → ⊥) → {u : Progress} → Halts here 1 reserved now u → PassesPages mask table rights from before u here
      reserved-page n k =
          halts (λ memory. stops-broken (omega arith) now turn.going (page-masked mask memory table (rights_over rights) here i index present n) k)

      module _ (clear : bit_and word mask ≡ 0) where
        pub other-page : {u : Progress} → Taken u false → PassesPages mask table rights from before u here
        other-page k = halts (λ memory. ends-mapped (omega arith) (λ x a b. one memory x (omega arith)) now turn.going (rw (rights-step rights word) at k))
          where
            one : (memory : ℕ → Option (List ℕ)) (x : ℕ) → x ≡ here → pages memory x ≡ mapped (word / 2 ^ 12 % 2 ^ 40 + (x - here)) held
            one memory x e =
                page-mapped mask memory table (rights_over rights) x i (ap (λ (n : ℕ). n % 512) e ∙ index) present clear
                ∙ ap (λ (n : ℕ). mapped n held) (omega arith)

        pub mapped-on : {u : Progress} → Taken u true → {e : ℕ} → Alike table i read_mask 4096 mask e → PassedTo mask rights from table before u e
        mapped-on k {e} a =
            again a.later a.at_most
            (λ memory.
            passes-mapped (omega (arith, a.later))
            (all-mapped mask memory table (rights_over rights) start i e aligned a present clear) now turn.going (omega arith) (rw (rights-step rights word) at k))

    module _ (missing : set 0 word ≡ false) where
      pub run-ends : finds_nothing now ≡ false → PassesPages mask table rights from before now here
      run-ends n = halts (λ memory. ends-absent (omega arith) now turn.going (page-absent mask memory table (rights_over rights) here i index missing) n)

      pub absent-on : finds_nothing now ≡ true → {e : ℕ} → Alike table i 1 0 0 e → PassedTo mask rights from table before now e
      absent-on z {e} a =
          again a.later a.at_most
          (λ memory. passes-absent (omega (arith, a.later)) now (all-absent mask memory table (rights_over rights) start i e aligned a missing) z)
