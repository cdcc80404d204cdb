-- What `list` writes, in one call or in several that follow each other, is the replies of a list of searches, so that it agrees with translating the pages singly.
use Prim.Native.Nat.{ℕ, ◌+◌, ◌*◌, ◌^◌, ◌≤◌, ◌<◌}
use mathlib.Core.Path.{◌≡◌, refl, sym, ap, ◌∙◌, subst}
use mathlib.Core.Bool.{Bool, true, false, cond}
use mathlib.Core.List.{List, ◌++◌, map, map-append}
use mathlib.Core.Option.{Option, none, some}
use native.Mathlib.Omega.{arith}
use lib.Dec.{ltb}
use lib.ListN.{length, length-map, take, drop}
use lib.Seq.{take_at}
use lib.Pow.{pow_pos}
use borrow.Author.Tests.{ltb-true, ltb-false}
use Rattle.answer.specs.Outcome.{gives}
use Rattle.laws.specs.Width.{IsWidth}
use Rattle.laws.specs.Number.{start}
use Rattle.laws.proofs.Width.{sign_zero}
use Rattle.mapping.specs.Pages.{Space}
use Rattle.mapping.specs.Search.{Answer, Searches, answers_from, left_after}
use Rattle.mapping.specs.Search as searches
use Rattle.mapping.specs.Agreement.{Calls}
use Rattle.mapping.specs.Agreement as calls
use Rattle.mapping.proofs.Some.{some-searches, at_most, all_there, join}
use Rattle.mapping.proofs.PageNumbers.{number-back}
use Rattle.laws.specs.Item.{Item}
use Rattle.addr.specs.declared.width.Width.TheVariants.{Bits48, Bits57}
use Rattle.addr.proofs.Widths.{widths}
use Rattle.paging.specs.Translate.{image_refusal, root_table}
use Rattle.paging.specs.Search.{page_item, report, answer_words, image_pages}
use Rattle.paging.specs.List.{Listed, Listing, all_words, reports_from, room, listed_from, settled, listing}
use Rattle.paging.specs.Agreement.{Reports, call_from}
use Rattle.paging.specs.ListAgreement.{Chain, one, more, Answered, ChainAgrees, ListsAgree}
use Rattle.paging.proofs.ListWords.{all-length, all_append}
use Rattle.paging.proofs.Agreement.{is-page, same-pages, passed, call-answered, calls-search, agrees}

-- the page that a list leaves, by whether there is one
left-some : (k n : ℕ) (x p : Item) → cond (ltb n k) (some x) none ≡ some p → (n < k) × (x ≡ p)
left-some k n x p = go (ltb n k) refl
  where
    go : (b : Bool) → ltb n k ≡ b → cond b (some x) none ≡ some p → (n < k) × (x ≡ p)
    go true t e = (ltb-true n k t, cc)
    go false t e = absurd (let z : ◌≡◌ {A = ℕ} 0 1 = cc in omega arith)

left-none : (k n : ℕ) (x : Item) → cond (ltb n k) (some x) none ≡ none → k ≤ n
left-none k n x = go (ltb n k) refl
  where
    go : (b : Bool) → ltb n k ≡ b → cond b (some x) none ≡ none → k ≤ n
    go true t e = absurd (let z : ◌≡◌ {A = ℕ} 0 1 = cc in omega arith)
    go false t e = ltb-false n k t

-- what calls from page `n` of a space on wrote and left
record Wrote (w : ℕ) (s : Space) (n : ℕ) (words : List ℕ) (left : Option Item) : Type 0 where
  answers : List Answer
  reached : ℕ
  searched : Searches s n answers reached
  written : words ≡ all_words (map (report w) answers)
  remains : left ≡ cond (ltb reached s.size) (some (page_item w reached)) none

-- calls that go on where others ended
then : (w : ℕ) (s : Space) (n : ℕ) (words later : List ℕ) (left end : Option Item) (d : Wrote w s n words left) → Wrote w s d.reached later end → Wrote w s n (words ++ later) end
then w s n words later left end d f =
    record {
      answers = d.answers ++ f.answers;
      reached = f.reached;
      searched = join s d.searched f.searched;
      written =
          ap (λ (x : List ℕ). x ++ later) d.written
          ∙ ap (λ (x : List ℕ). all_words (map (report w) d.answers) ++ x) f.written
          ∙ sym (all_append (map (report w) d.answers) (map (report w) f.answers))
          ∙ ap all_words (sym (map-append (report w) d.answers f.answers));
      remains = f.remains;
    }

-- calls that list the pages of a space
module _ (w : ℕ) (s : Space) (call : ℕ → List ℕ → Listing)
    (listed : (n : ℕ) (out : List ℕ) → n < s.size → call (start w 4096 n) out ≡ settled w (gives s) n out) where
  answered : (n : ℕ) → n < s.size → (out : List ℕ) → Answered call (start w 4096 n) out
  answered n h out = (
    listed_from w s n out,
    ap (λ (r : Listing). r.answer) (listed n out h),
    at_most s (room out) n,
    λ p x. all_there s (room out) n (left-some s.size (left_after s (room out) n) (page_item w (left_after s (room out) n)) p x).0,
  )

  first-call : (n : ℕ) (l : Listed) (out : List ℕ) → n < s.size → (call (start w 4096 n) out).answer ≡ gives l
      → Wrote w s n (take (answer_words * l.written) (call (start w 4096 n) out).words) l.next
  first-call n l out h g =
      let c = listed n out h in
      let rs = reports_from w s (room out) n in
      let same : l ≡ listed_from w s n out = cc in
      let five : length (all_words rs) ≡ answer_words * length (answers_from s (room out) n)
      = all-length rs ∙ ap (λ (k : ℕ). answer_words * k) (length-map (answers_from s (room out) n) (report w)) in
      record {
        answers = answers_from s (room out) n;
        reached = left_after s (room out) n;
        searched = some-searches s (room out) n;
        written = rw (c, same) (take_at (all_words rs) (drop (length (all_words rs)) out) (answer_words * length (answers_from s (room out) n)) five);
        remains = ap (λ (x : Listed). x.next) same;
      }

  chain-wrote : {a : ℕ} {words : List ℕ} {left : Option Item} → Chain call a words left → (n : ℕ) → n < s.size → a ≡ start w 4096 n → Wrote w s n words left
  chain-wrote (one {a} {l} out g) n h q = rw q (first-call n l out h (rw q at g))
  chain-wrote (more {a} {l} {p} {words} {e = end} out g x rest) n h q =
      let d = first-call n l out h (rw q at g) in
      let (i, y) = left-some s.size d.reached (page_item w d.reached) p (sym d.remains ∙ x) in
      let f = chain-wrote rest d.reached i (ap (λ (k : Item). k.start) (sym y)) in
      rw q (then w s n (take (answer_words * l.written) (call (start w 4096 n) out).words) words l.next end d f)

module _ (w levels : ℕ) (v : IsWidth w) (e : w ≡ 9 * levels + 12) (image : List ℕ) (base root : ℕ) (ok : image_refusal image base root ≡ 0) where
  abbrev pages : Space
  pages = image_pages levels image base (root_table image base root)

  abbrev call : ℕ → List ℕ → Listing
  call = listing w levels image base root

  listed : (n : ℕ) (out : List ℕ) → n < pages.size → call (start w 4096 n) out ≡ settled w (gives pages) n out
  unfolding listing
  listed n out h = rw (passed w levels v e image base root ok n, number-back w levels v e n h)

  -- a list of searches as calls, with what they reply
  called : {n o : ℕ} {answers : List Answer} → Searches pages n answers o
      → Calls pages (Reports w) (call_from w levels image base root) n (map gives (map (report w) answers)) o
  called searches.none = calls.none
  called (searches.more {p = n} h r) =
      rw (← call-answered w levels v e image base root ok n h)
      (calls.more h ((calls-search w levels v e image base root ok).answer n h) (called r))

  chain-agrees : (words : List ℕ) (left : Option Item) → Wrote w pages 0 words left → ChainAgrees w levels image base root call words left
  chain-agrees words left d =
      let replies = map gives (map (report w) d.answers) in
      let agreement = agrees w levels v e image base root ok replies d.reached (called d.searched) in
      let some_left : (p : Item) → left ≡ some p → (d.reached < pages.size) × (page_item w d.reached ≡ p)
      = λ p x. left-some pages.size d.reached (page_item w d.reached) p (sym d.remains ∙ x) in
      record {
        reports = map (report w) d.answers;
        passed = d.reached;
        written = d.written;
        searched =
            subst (λ (s : Space). Calls s (Reports w) (call_from w levels image base root) 0 replies d.reached) (sym (same-pages w levels v e image base root ok)) (called d.searched);
        agreement = agreement;
        next-page = λ p x. ((some_left p x).0, rw (← (some_left p x).1) (is-page w levels v e d.reached (some_left p x).0));
        over = λ x. omega (arith, left-none pages.size d.reached (page_item w d.reached) (sym d.remains ∙ x), agreement.agrees.inside);
        goes_on = λ p x out. rw (← (some_left p x).1) (answered w pages call listed d.reached (some_left p x).0 out);
      }

-- at every width and number of levels that fit each other
pub lists_agree : (w levels : ℕ) → IsWidth w → w ≡ 9 * levels + 12 → ListsAgree w levels
lists_agree w levels v e image base root ok =
    let h : 0 < 2 ^ (9 * levels) = pow_pos (9 * levels) in
    let pages = image_pages levels image base (root_table image base root) in
    let call = listing w levels image base root in (
      λ out. rw (sign_zero w) at (answered w pages call (listed w levels v e image base root ok) 0 h out),
      λ words left c. chain-agrees w levels v e image base root ok words left (chain-wrote w pages call (listed w levels v e image base root ok) c 0 h (sym (sign_zero w))),
    )

pub lists-agree-48 : ListsAgree 48 4
lists-agree-48 = lists_agree 48 4 (widths Bits48) refl

pub lists-agree-57 : ListsAgree 57 5
lists-agree-57 = lists_agree 57 5 (widths Bits57) refl
