-- Every list of run searches from page zero on an accepted image agrees with translating its 4 KiB pages singly, at any width and number of levels that fit.
use Prim.Native.Nat.{ℕ, ◌+◌, ◌*◌, ◌%◌, ◌^◌, ◌<◌}
use mathlib.Core.Path.{◌≡◌, refl, sym, ap, ◌∙◌, subst, fun_ext}
use mathlib.Core.Bool.{true}
use mathlib.Core.List.{List}
use native.Mathlib.Omega.{arith}
use native.Mathlib.Nat.{mod-lt, mod-eq_of_lt, mul-mod_left}
use borrow.Author.Tests.{eq-eqb}
use lib.Pow.{high, pow_pos, pow-add}
use Rattle.answer.specs.Outcome.{Outcome, gives}
use Rattle.laws.specs.Width.{IsWidth}
use Rattle.laws.specs.Number.{start}
use Rattle.laws.proofs.Width.{sign_low, sign-canonical}
use Rattle.laws.proofs.Number.{low-multiple}
use Rattle.mapping.specs.Pages.{Space}
use Rattle.mapping.specs.Pages as page
use Rattle.mapping.specs.Search.{Answer, search}
use Rattle.mapping.specs.Search as answer
use Rattle.mapping.specs.Walk.{Walked, absent, broken, mapped, walk, all_rights, state_of, space_of}
use Rattle.mapping.specs.Agreement.{Calls, Agreement}
use Rattle.mapping.specs.PageNumbers.{PageNumbers}
use Rattle.mapping.proofs.Found.{Found, no_more, at-stop, at-run, finds}
use Rattle.mapping.proofs.Walk.{walk-low, spanned}
use Rattle.mapping.proofs.Calls.{Searching, agreement}
use Rattle.mapping.proofs.PageNumbers.{number_of, number-back, page-numbers}
use Rattle.laws.specs.Item.{Item, item_refusal}
use Rattle.paging.specs.Entry.{entry}
use Rattle.paging.specs.Memory.{table_at}
use Rattle.paging.specs.Translate.{translated, image_refusal, root_table, page_number, translation}
use Rattle.paging.specs.Search.{Report, page_item, frame_item, report, image_pages, search_refusal, searching}
use Rattle.addr.specs.declared.width.Width.TheVariants.{Bits48, Bits57}
use Rattle.addr.proofs.Widths.{widths}
use Rattle.paging.specs.Agreement.{state_in, translated_pages, AtFrame, PagesTranslated, IsPage, Reported, Reports, call_from, RunsAgree}

-- the state that translation answers is the one that the walk says
state-translated : (a : ℕ) (s : Walked) → state_in (gives (translated a s)) ≡ state_of s
state-translated a (absent l) = refl
state-translated a (broken l r) = refl
state-translated a (mapped g l h) = ap (λ (n : ℕ). page.mapped n h) (high g 12 (mod-lt a (pow_pos 12)))

-- an address that is whole pages from 0 is translated to a frame's first
at-frame : (a : ℕ) → a % 4096 ≡ 0 → (s : Walked) → AtFrame (translated a s)
at-frame a e (absent l) = tt
at-frame a e (broken l r) = tt
at-frame a e (mapped g l h) = omega (arith, e)

-- an answer's page is a page of the space
PageBelow : ℕ → Answer → Type 0
PageBelow k answer.end = Unit {0}
PageBelow k (answer.stop q l r) = q < k
PageBelow k (answer.run q g c h) = q < k

-- an item is one page, or one frame
one-page : (w q o : ℕ) (p : Item) → IsPage w q p → IsPage w o p → q ≡ o
one-page w q o p a b = omega (arith, a.low-start, b.low-start)

-- a reply reports one answer
one_answer : (w : ℕ) (r : Outcome Report) (a b : Answer) → Reports w r a → Reports w r b → a ≡ b
one_answer w r answer.end answer.end x y = refl
one_answer w r answer.end (answer.stop q l o) (u, d, e) (v, f, (p, z, g)) = absurd (let n : ◌≡◌ {A = ℕ} 0 1 = cc in omega arith)
one_answer w r answer.end (answer.run q g c h) (u, d, e) (v, f, (p, k, z, y, i)) = absurd (let n : ◌≡◌ {A = ℕ} 0 1 = cc in omega arith)
one_answer w r (answer.stop q l o) answer.end (v, f, (p, z, g)) (u, d, e) = absurd (let n : ◌≡◌ {A = ℕ} 0 1 = cc in omega arith)
one_answer w r (answer.stop q l o) (answer.stop q' l' o') (v, f, (p, z, g)) (u, d, (p', z', e)) =
    let s : p ≡ p' = cc in
    let n : q ≡ q' = one-page w q q' p z (rw (← s) at z') in
    cc
one_answer w r (answer.stop q l o) (answer.run q' g c h) (v, f, (p, z, e)) (u, d, (p', k, z', y, i)) = absurd (let n : ◌≡◌ {A = ℕ} 0 1 = cc in omega arith)
one_answer w r (answer.run q g c h) answer.end (u, d, (p, k, z, y, i)) (v, f, e) = absurd (let n : ◌≡◌ {A = ℕ} 0 1 = cc in omega arith)
one_answer w r (answer.run q g c h) (answer.stop q' l o) (u, d, (p, k, z, y, i)) (v, f, (p', z', e)) = absurd (let n : ◌≡◌ {A = ℕ} 0 1 = cc in omega arith)
one_answer w r (answer.run q g c h) (answer.run q' g' c' h') (u, d, (p, k, z, y, i)) (v, f, (p', k', z', y', j)) =
    let s : p ≡ p' = cc in
    let t : k ≡ k' = cc in
    let n : q ≡ q' = one-page w q q' p z (rw (← s) at z') in
    let m : g ≡ g' = omega (arith, y.from_start, y'.from_start, ap (λ (x : Item). x.start) t) in
    cc

module _ (w levels : ℕ) (v : IsWidth w) (e : w ≡ 9 * levels + 12) where
  start-whole : (n : ℕ) → start w 4096 n % 4096 ≡ 0
  start-whole n =
      sym (low-multiple w 12 v v.above (start w 4096 n)) ∙ ap (λ (x : ℕ). x % 4096) (sign_low w v (n * 4096)) ∙ low-multiple w 12 v v.above (n * 4096) ∙ mul-mod_left n 4096

  pub is-page : (n : ℕ) → n < 2 ^ (9 * levels) → IsPage w n (page_item w n)
  is-page n h =
      let b : n * 2 ^ 12 < 2 ^ w = rw (e, pow-add 2 (9 * levels) 12) (omega arith) in
      record { canonical-start = sign-canonical w v (n * 4096); low-start = sign_low w v (n * 4096) ∙ mod-eq_of_lt b; size = refl }

  report-exact : (a : Answer) → PageBelow (2 ^ (9 * levels)) a → Reported w a (report w a)
  unfolding PageBelow
  report-exact answer.end h = refl
  report-exact (answer.stop q l r) h = (page_item w q, is-page q h, refl)
  report-exact (answer.run q g c k) h = (page_item w q, frame_item g, is-page q h, record { from_start = refl; size = refl }, refl)

  page-below : {s : Space} {p : ℕ} {a : Answer} → Found s p a → s.size ≡ 2 ^ (9 * levels) → PageBelow (2 ^ (9 * levels)) a
  unfolding PageBelow
  page-below (no_more z) k = tt
  page-below (at-stop f h) k = rw (← k) f.inside
  page-below (at-run f h) k = rw (← k) f.inside

  module _ (image : List ℕ) (base root : ℕ) (ok : image_refusal image base root ≡ 0) where
    abbrev t : List ℕ
    t = root_table image base root

    abbrev walked : ℕ → Walked
    walked n = walk (entry 52 true) (table_at image base) levels t all_rights n

    abbrev pages : Space
    pages = image_pages levels image base t

    page-state : (n : ℕ) → state_in (translation w levels image base root (start w 4096 n)) ≡ state_of (walked n)
    unfolding translation
    page-state n =
        rw (ok, sign-canonical w v (n * 4096)) (state-translated _ (walked (page_number w (start w 4096 n))))
        ∙ ap (λ (x : ℕ). state_of (walked x)) (number_of w levels v e n)
        ∙ ap state_of (walk-low (entry 52 true) (table_at image base) levels levels t all_rights n (omega arith))

    page-translated : PagesTranslated w levels image base root
    unfolding translation
    page-translated n h = (
      translated (start w 4096 n) (walked (page_number w (start w 4096 n))),
      rw (ok, sign-canonical w v (n * 4096)),
      at-frame (start w 4096 n) (start-whole n) (walked (page_number w (start w 4096 n))),
    )

    -- the pages as translation answers them are the pages as the walk says
    pub same-pages : translated_pages w levels image base root ≡ pages
    same-pages = ap (space_of levels) (fun_ext page-state)

    pub passed : (n : ℕ) → search_refusal w image base root (start w 4096 n) ≡ 0
    unfolding search_refusal item_refusal
    passed n = simp (ok, sign-canonical w v (n * 4096), eq-eqb (start w 4096 n % 4096) 0 (start-whole n))

    pub call-answered : (n : ℕ) → n < pages.size → call_from w levels image base root n ≡ gives (report w (search pages n))
    unfolding searching
    call-answered n h = rw (passed n) (ap (λ (x : ℕ). gives (report w (search pages x))) (number-back w levels v e n h))

    pub calls-search : Searching pages (Reports w) (call_from w levels image base root)
    calls-search =
        record {
          one = one_answer w;
          answer = λ n h.
              (report w (search pages n), call-answered n h, report-exact (search pages n) (page-below (finds pages (spanned (entry 52 true) (table_at image base) levels t).halves n (omega arith)) refl));
        }

    -- of a list of calls over the pages as the walk says
    pub agrees : (replies : List (Outcome Report)) (passed : ℕ) → Calls pages (Reports w) (call_from w levels image base root) 0 replies passed
        → Agreement (translated_pages w levels image base root) (Reports w) (call_from w levels image base root) replies passed
    agrees replies passed calls =
        let call = call_from w levels image base root in
        subst (λ (s : Space). Agreement s (Reports w) call replies passed) (sym same-pages)
        (agreement pages (Reports w) call calls-search (spanned (entry 52 true) (table_at image base) levels t) replies passed calls)

-- at every width and number of levels that fit each other
pub runs-agree : (w levels : ℕ) → IsWidth w → w ≡ 9 * levels + 12 → RunsAgree w levels
runs-agree w levels v e image base root ok = (
  page-translated w levels v e image base root ok,
  λ replies passed calls. agrees w levels v e image base root ok replies passed
      (subst (λ (s : Space). Calls s (Reports w) (call_from w levels image base root) 0 replies passed) (same-pages w levels v e image base root ok) calls),
)

pub runs-agree-48 : RunsAgree 48 4
runs-agree-48 = runs-agree 48 4 (widths Bits48) refl

pub runs-agree-57 : RunsAgree 57 5
runs-agree-57 = runs-agree 57 5 (widths Bits57) refl

-- the pages that it speaks of are those of the addresses
pub page-numbers-48 : (image : List ℕ) (base root : ℕ) → PageNumbers 48 4 (translated_pages 48 4 image base root)
page-numbers-48 image base root = page-numbers 48 4 (widths Bits48) refl (translated_pages 48 4 image base root).page

pub page-numbers-57 : (image : List ℕ) (base root : ℕ) → PageNumbers 57 5 (translated_pages 57 5 image base root)
page-numbers-57 image base root = page-numbers 57 5 (widths Bits57) refl (translated_pages 57 5 image base root).page
