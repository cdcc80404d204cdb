-- What is known of tables that hold nothing: one that was gone through whole with nothing found is such a table.
use Prim.Native.Nat.{ℕ, ◌+◌, ◌/◌, ◌%◌, ◌≤◌, ◌<◌}
use mathlib.Core.Path.{◌≡◌, refl, sym, subst}
use mathlib.Core.Bool.{Bool, true, false, cond, ◌&&◌}
use mathlib.Core.List.{List}
use mathlib.Core.Option.{Option}
use native.Mathlib.Omega.{arith}
use native.Mathlib.Nat.{div-add-mod', add-mul, mod-eq_of_lt}
use borrow.Author.Tests.{eqb-true}
use lib.Dec.{eqb}
use lib.ListN.{length}
use Rattle.mapping.specs.Pages.{Rights, PageState, absent}
use Rattle.mapping.specs.Pass.{Progress, unfound, stopped, running, pass}
use Rattle.mapping.specs.Walk.{HoldsNothing, span_pages}
use Rattle.mapping.proofs.Pass.{all-absent}
use Rattle.mapping.proofs.Walk.{holds-nothing}
use Rattle.paging.specs.EmptyTables.{TrueOf, marking, marking_whole}
use Rattle.paging.specs.Entry.{entry_by}
use Rattle.paging.specs.Memory.{table_from}
use Rattle.paging.specs.Pages.{pages_by}
use Rattle.paging.specs.Progress.{finds_nothing, GoesOn, Passes}
use Rattle.paging.specs.Span.{after}
use Rattle.paging.proofs.Remembering.{marking-true}

module _ (mask : ℕ) (memory : ℕ → Option (List ℕ)) (l : ℕ) (t : List ℕ) (r : Rights) (a : ℕ) where
  abbrev pages : ℕ → PageState
  pages = pages_by mask memory l t r

  -- a run that is found stays found
  pub found_nothing : (s : Progress) → GoesOn s a → (e y : ℕ) (u : Progress) → a ≤ e → Passes pages a e s u y → finds_nothing u ≡ true → (x : ℕ) → a ≤ x → x < e → pages x ≡ absent
  unfolding pass
  found_nothing unfound g e y unfound b p z x i j = all-absent pages a e y b p.comes x i j
  found_nothing (running q c h) g e y unfound b p z x i j = let m = p.comes in cc
  found_nothing (stopped q n h) g e y u b p z x i j = absurd g
  found_nothing s g e y (running q c h) b p z x i j = cc
  found_nothing s g e y (stopped q n h) b p z x i j = cc

  pub now-empty : (s : Progress) → GoesOn s a → (y : ℕ) (u : Progress) → a % span_pages l ≡ 0 → Passes pages a (after l a) s u y → finds_nothing u ≡ true
      → HoldsNothing (entry_by mask) memory l t
  unfolding after
  now-empty s g y u e p z =
      let b : after l a ≡ a + span_pages l = omega (arith, add-mul (a / span_pages l) 1 (span_pages l), div-add-mod' a (span_pages l)) in
      holds-nothing (entry_by mask) memory l t r a e (λ x i j. found_nothing s g (after l a) y u (omega arith) p z x i (omega arith))

-- the bytes after a table of level n + 1 was gone through from page a on
module _ (mask : ℕ) (memory : ℕ → Option (List ℕ)) (words : List ℕ) (p n : ℕ) (r : Rights) (a : ℕ) (s : Progress) (g : GoesOn s a) (bytes : List ℕ) (t : TrueOf (entry_by mask) memory words bytes) (inside : p + 512 ≤ length words) (l : n < 8) where
  pub whole-true : (y : ℕ) (u : Progress) → Passes (pages_by mask memory (n + 1) (table_from words p) r) a (after (n + 1) a) s u y
      → TrueOf (entry_by mask) memory words (marking_whole bytes (finds_nothing u) p n a)
  whole-true y u q =
      subst (λ (m : ℕ). TrueOf (entry_by mask) memory words (cond (finds_nothing u && eqb (a % span_pages (m + 1)) 0) (marking bytes p n) bytes)) (sym (mod-eq_of_lt l))
      (go (finds_nothing u) refl (eqb (a % span_pages (n + 1)) 0) refl)
    where
      go : (b : Bool) → finds_nothing u ≡ b → (c : Bool) → eqb (a % span_pages (n + 1)) 0 ≡ c → TrueOf (entry_by mask) memory words (cond (b && c) (marking bytes p n) bytes)
      go true e true f =
          marking-true (entry_by mask) memory words bytes t p n l inside
          (now-empty mask memory (n + 1) (table_from words p) r a s g y u (eqb-true (a % span_pages (n + 1)) 0 f) q e)
      go true e false f = t
      go false e c f = t
