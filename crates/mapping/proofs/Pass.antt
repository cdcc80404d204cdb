-- The laws of `pass`: over pages in two parts, over pages that are alike, and over all pages.
use Prim.Native.Nat.{ℕ, ◌+◌, ◌-◌, ◌≤◌, ◌<◌, min}
use mathlib.Core.Path.{◌≡◌, refl, sym, ap, ◌∙◌}
use mathlib.Core.Bool.{Bool, cond}
use native.Mathlib.Decide.{dec_lt}
use native.Mathlib.Omega.{arith}
use borrow.Author.Tests.{lt-ltb, le-ltb}
use lib.Dec.{ltb}
use Rattle.laws.proofs.Cases.{by_cases}
use Rattle.mapping.specs.Pages.{Rights, Reason, PageState, absent, broken, mapped, Space}
use Rattle.mapping.specs.Search.{end, run, first, nothing, line, half_end, answer_at, answer_from, search}
use Rattle.mapping.specs.Pass.{Progress, unfound, stopped, running, at-page, begins, pass, answer_of}
use Rattle.mapping.proofs.First.{first-ge, first-le, first_below, first-stop, first-other, first-all, first-congr}
use Rattle.mapping.proofs.Spans.{go_on, found_inside}

-- the first page that is not absent, if there is one before `e`
module _ (f : ℕ → PageState) (a e : ℕ) where
  abbrev found : ℕ
  found = first f nothing (e - a) a

  pub pass-found : found < e → pass f a e unfound ≡ begins f e found (f found)
  unfolding pass
  pass-found h = ap (λ (b : Bool). cond b (begins f e found (f found)) (at-page unfound e)) (lt-ltb found e h)

  pub pass-none : e ≤ found → pass f a e unfound ≡ at-page unfound e
  unfolding pass
  pass-none h = ap (λ (b : Bool). cond b (begins f e found (f found)) (at-page unfound e)) (le-ltb found e h)

  -- it is not absent
  not-absent : a ≤ e → found < e → f found ≡ absent → ⊥
  unfolding nothing
  not-absent i h z = first-stop f nothing (e - a) a (omega arith) z

-- what begins at a page, with the pages from m on
module _ (f : ℕ → PageState) (m e q : ℕ) (i : q ≤ m) (j : m ≤ e) where
  begins-inside : (s : PageState) (t : Progress) (x : ℕ) → (s ≡ absent → ⊥) → begins f m q s ≡ at-page t x → x < m → begins f e q s ≡ at-page t x
  unfolding begins
  begins-inside absent t x n h l = absurd (n refl)
  begins-inside (broken k r) t x n h l = h
  begins-inside (mapped g k) t x n h l =
      let y : first f (line q g k) (m - q) q ≡ x = cc in
      ap (at-page (running q g k)) (found_inside f (line q g k) q m e i j (omega arith)) ∙ h

  begins-on : (s : PageState) (t : Progress) (x : ℕ) → (s ≡ absent → ⊥) → q < m → begins f m q s ≡ at-page t x → m ≤ x → begins f e q s ≡ pass f m e t
  unfolding begins pass
  begins-on absent t x n p h l = absurd (n refl)
  begins-on (broken k r) t x n p h l = let y : q ≡ x = cc in absurd (omega arith)
  begins-on (mapped g k) t x n p h l =
      let y : first f (line q g k) (m - q) q ≡ x = cc in
      let le = first-le f (line q g k) (m - q) q in
      let u : running q g k ≡ t = cc in
      ap (at-page (running q g k)) (go_on f (line q g k) q m e i j (omega arith)) ∙ ap (pass f m e) u

-- in two parts that meet at m
module _ (f : ℕ → PageState) (a m e : ℕ) (i : a ≤ m) (j : m ≤ e) where
  pub pass-inside : (s t : Progress) (x : ℕ) → pass f a m s ≡ at-page t x → x < m → pass f a e s ≡ at-page t x
  unfolding pass
  pass-inside unfound t x h l = by_cases (dec_lt (found f a m) m) inside past
    where
      inside : found f a m < m → pass f a e unfound ≡ at-page t x
      inside p =
          let k : found f a e ≡ found f a m = found_inside f nothing a m e i j p in
          let ge = first-ge f nothing (m - a) a in
          pass-found f a e (omega arith)
          ∙ ap (λ (q : ℕ). begins f e q (f q)) k
          ∙ begins-inside f m e (found f a m) (omega arith) j (f (found f a m)) t x (not-absent f a m i p) (sym (pass-found f a m p) ∙ h) l

      past : (found f a m < m → ⊥) → pass f a e unfound ≡ at-page t x
      past n = let z : at-page unfound m ≡ at-page t x = sym (pass-none f a m (omega arith)) ∙ h in let y : m ≡ x = cc in absurd (omega arith)
  pass-inside (stopped q k r) t x h l = h
  pass-inside (running q g k) t x h l =
      let y : first f (line q g k) (m - a) a ≡ x = cc in
      ap (at-page (running q g k)) (found_inside f (line q g k) a m e i j (omega arith)) ∙ h

  pub pass_on : (s t : Progress) (x : ℕ) → pass f a m s ≡ at-page t x → m ≤ x → pass f a e s ≡ pass f m e t
  unfolding pass
  pass_on unfound t x h l = by_cases (dec_lt (found f a m) m) inside past
    where
      inside : found f a m < m → pass f a e unfound ≡ pass f m e t
      inside p =
          let k : found f a e ≡ found f a m = found_inside f nothing a m e i j p in
          let ge = first-ge f nothing (m - a) a in
          pass-found f a e (omega arith)
          ∙ ap (λ (q : ℕ). begins f e q (f q)) k
          ∙ begins-on f m e (found f a m) (omega arith) j (f (found f a m)) t x (not-absent f a m i p) p (sym (pass-found f a m p) ∙ h) l

      same : found f a e ≡ found f m e → pass f a e unfound ≡ pass f m e unfound
      same k = ap (λ (q : ℕ). cond (ltb q e) (begins f e q (f q)) (at-page unfound e)) k

      past : (found f a m < m → ⊥) → pass f a e unfound ≡ pass f m e t
      past n =
          let z : at-page unfound m ≡ at-page t x = sym (pass-none f a m (omega arith)) ∙ h in
          let u : unfound ≡ t = cc in
          let le = first-le f nothing (m - a) a in
          same (go_on f nothing a m e i j (omega arith)) ∙ ap (pass f m e) u
  pass_on (stopped q k r) t x h l =
      let y : a ≡ x = cc in
      let u : stopped q k r ≡ t = cc in
      ap (at-page (stopped q k r)) (omega arith) ∙ ap (pass f m e) u
  pass_on (running q g k) t x h l =
      let y : first f (line q g k) (m - a) a ≡ x = cc in
      let le = first-le f (line q g k) (m - a) a in
      let u : running q g k ≡ t = cc in
      ap (at-page (running q g k)) (go_on f (line q g k) a m e i j (omega arith)) ∙ ap (pass f m e) u

-- only the pages gone over count
pub pass-congr : (f g : ℕ → PageState) (a e : ℕ) (s : Progress) → a ≤ e → ((x : ℕ) → a ≤ x → x < e → f x ≡ g x) → pass f a e s ≡ pass g a e s
unfolding pass begins
pass-congr f g a e unfound i h = by_cases (dec_lt (found f a e) e) inside past
  where
    k : found f a e ≡ found g a e
    k = first-congr f g nothing nothing (e - a) a (λ x u v. h x u (omega arith)) (λ x u v. refl)

    same : (q : ℕ) (s : PageState) → a ≤ q → q ≤ e → begins f e q s ≡ begins g e q s
    same q absent u v = refl
    same q (broken l r) u v = refl
    same q (mapped c r) u v =
        ap (at-page (running q c r)) (first-congr f g (line q c r) (line q c r) (e - q) q (λ x y z. h x (omega arith) (omega arith)) (λ x y z. refl))

    inside : found f a e < e → pass f a e unfound ≡ pass g a e unfound
    inside l =
        let ge = first-ge f nothing (e - a) a in
        pass-found f a e l
        ∙ ap (begins f e (found f a e)) (h (found f a e) ge l)
        ∙ same (found f a e) (g (found f a e)) ge (omega arith)
        ∙ ap (λ (q : ℕ). begins g e q (g q)) k
        ∙ sym (pass-found g a e (omega (arith, k)))

    past : (found f a e < e → ⊥) → pass f a e unfound ≡ pass g a e unfound
    past n = pass-none f a e (omega arith) ∙ sym (pass-none g a e (omega (arith, k)))
pass-congr f g a e (stopped q l r) i h = refl
pass-congr f g a e (running q c r) i h =
    ap (at-page (running q c r)) (first-congr f g (line q c r) (line q c r) (e - a) a (λ x u v. h x u (omega arith)) (λ x u v. refl))

-- pages that are alike, from a up to m
module _ (f : ℕ → PageState) (a m : ℕ) (i : a < m) where
  pub pass-absent : ((x : ℕ) → a ≤ x → x < m → f x ≡ absent) → pass f a m unfound ≡ at-page unfound m
  unfolding nothing
  pass-absent h = pass-none f a m (omega (arith, first-all f nothing (m - a) a (λ x u v. h x u (omega arith))))

  ends-here : (q g : ℕ) (k : Rights) → (f a ≡ line q g k a → ⊥) → pass f a m (running q g k) ≡ at-page (running q g k) a
  unfolding pass
  ends-here q g k n = ap (at-page (running q g k)) (first-other f (line q g k) (m - a) a n)

  pub absent-ends : (q g : ℕ) (k : Rights) → f a ≡ absent → pass f a m (running q g k) ≡ at-page (running q g k) a
  unfolding line
  absent-ends q g k h = ends-here q g k (λ z. let y : absent ≡ mapped (g + (a - q)) k = sym h ∙ z in let o : ◌≡◌ {A = ℕ} 0 1 = cc in omega arith)

  begins-here : (s : PageState) → f a ≡ s → (s ≡ absent → ⊥) → pass f a m unfound ≡ begins f m a s
  unfolding nothing
  begins-here s h n =
      let k : found f a m ≡ a = first-other f nothing (m - a) a (λ z. n (sym h ∙ z)) in
      pass-found f a m (omega arith) ∙ ap (λ (q : ℕ). begins f m q (f q)) k ∙ ap (begins f m a) h

  module _ (l : ℕ) (r : Reason) (h : f a ≡ broken l r) where
    pub broken-stops : pass f a m unfound ≡ at-page (stopped a l r) a
    unfolding begins
    broken-stops = begins-here (broken l r) h (λ z. let o : ◌≡◌ {A = ℕ} 0 1 = cc in omega arith)

    pub broken-ends : (q g : ℕ) (k : Rights) → pass f a m (running q g k) ≡ at-page (running q g k) a
    unfolding line
    broken-ends q g k = ends-here q g k (λ z. let y : broken l r ≡ mapped (g + (a - q)) k = sym h ∙ z in let o : ◌≡◌ {A = ℕ} 0 1 = cc in omega arith)

  module _ (g : ℕ) (k : Rights) (h : (x : ℕ) → a ≤ x → x < m → f x ≡ mapped (g + (x - a)) k) where
    here : f a ≡ mapped g k
    here = h a (omega arith) i ∙ ap (λ (n : ℕ). mapped n k) (omega arith)

    pub mapped-begins : pass f a m unfound ≡ at-page (running a g k) m
    unfolding begins line
    mapped-begins =
        begins-here (mapped g k) here (λ z. let o : ◌≡◌ {A = ℕ} 0 1 = cc in omega arith)
        ∙ ap (at-page (running a g k)) (first-all f (line a g k) (m - a) a (λ x u v. h x u (omega arith)) ∙ omega arith)

    pub mapped-goes-on : (q c : ℕ) → q ≤ a → c + (a - q) ≡ g → pass f a m (running q c k) ≡ at-page (running q c k) m
    unfolding pass line
    mapped-goes-on q c j e =
        ap (at-page (running q c k))
        (first-all f (line q c k) (m - a) a (λ x u v. h x u (omega arith) ∙ ap (λ (n : ℕ). mapped n k) (omega arith)) ∙ omega arith)

    pub mapped-ends : (q c : ℕ) (d : Rights) → (k ≡ d → c + (a - q) ≡ g → ⊥) → pass f a m (running q c d) ≡ at-page (running q c d) a
    unfolding line
    mapped-ends q c d n =
        ends-here q c d (λ z.
        let y : mapped g k ≡ mapped (c + (a - q)) d = sym here ∙ z in
        let u : k ≡ d = cc in
        let v : g ≡ c + (a - q) = cc in
        n u (sym v))

-- where nothing is found the pages are absent
pub all-absent : (f : ℕ → PageState) (a e y : ℕ) → a ≤ e → pass f a e unfound ≡ at-page unfound y → (x : ℕ) → a ≤ x → x < e → f x ≡ absent
unfolding begins nothing
all-absent f a e y i h x u v = by_cases (dec_lt (found f a e) e) inside (λ n. first_below f nothing (e - a) a x u (omega arith))
  where
    not-unfound : (s : PageState) → (s ≡ absent → ⊥) → begins f e (found f a e) s ≡ at-page unfound y → ⊥
    not-unfound absent n z = n refl
    not-unfound (broken l r) n z = let o : ◌≡◌ {A = ℕ} 0 1 = cc in omega arith
    not-unfound (mapped g k) n z = let o : ◌≡◌ {A = ℕ} 0 1 = cc in omega arith

    inside : found f a e < e → f x ≡ absent
    inside l = absurd (not-unfound (f (found f a e)) (not-absent f a e i l) (sym (pass-found f a e l) ∙ h))

-- where a run is found
pub record Ran (f : ℕ → PageState) (a e q g : ℕ) (k : Rights) (x : ℕ) : Type 0 where
  pub from : a ≤ q
  pub before : q < e
  pub first-page : f q ≡ mapped g k
  pub last : x ≡ first f (line q g k) (e - q) q

pub ran : (f : ℕ → PageState) (a e q g : ℕ) (k : Rights) (x : ℕ) → pass f a e unfound ≡ at-page (running q g k) x → Ran f a e q g k x
unfolding begins
ran f a e q g k x h = by_cases (dec_lt (found f a e) e) inside past
  where
    go : (y : ℕ) → a ≤ y → y < e → (s : PageState) → f y ≡ s → begins f e y s ≡ at-page (running q g k) x → Ran f a e q g k x
    go y i j absent p z = absurd (let o : ◌≡◌ {A = ℕ} 0 1 = cc in omega arith)
    go y i j (broken l r) p z = absurd (let o : ◌≡◌ {A = ℕ} 0 1 = cc in omega arith)
    go y i j (mapped c d) p z =
        let u : y ≡ q = cc in
        let v : c ≡ g = cc in
        let w : d ≡ k = cc in
        let b : first f (line y c d) (e - y) y ≡ x = cc in
        record { from = omega arith; before = omega arith; first-page = rw (← u, ← v, ← w) p; last = rw (← u, ← v, ← w) (sym b) }

    inside : found f a e < e → Ran f a e q g k x
    inside l = go (found f a e) (first-ge f nothing (e - a) a) l (f (found f a e)) refl (sym (pass-found f a e l) ∙ h)

    past : (found f a e < e → ⊥) → Ran f a e q g k x
    past n = absurd (let z : at-page unfound e ≡ at-page (running q g k) x = sym (pass-none f a e (omega arith)) ∙ h in let o : ◌≡◌ {A = ℕ} 0 1 = cc in omega arith)

-- `first` up to m, by `first` up to e
up_to : (f w : ℕ → PageState) (x m e : ℕ) → x ≤ m → m ≤ e → first f w (m - x) x ≡ min (first f w (e - x) x) m
up_to f w x m e a b =
    let ge = first-ge f w (e - m) m in
    let le = first-le f w (m - x) x in
    by_cases (dec_lt (first f w (m - x) x) m) (λ l. omega (arith, found_inside f w x m e a b l))
    (λ n. omega (arith, go_on f w x m e a b (omega arith)))

-- the half that a page is in has it, and ends with the pages at last
pub in-own-half : (s : Space) (q : ℕ) → s.high ≤ s.size → q < s.size → (q < half_end s q) × (half_end s q ≤ s.size)
unfolding half_end
in-own-half s q h i =
    by_cases (dec_lt q s.high) (λ l. rw (lt-ltb q s.high l) (l, h)) (λ n. rw (le-ltb q s.high (omega arith)) (i, omega arith))

-- over all pages from p on it is the search
pub passed-search : (s : Space) (p : ℕ) → s.high ≤ s.size → answer_of s (pass s.page p s.size unfound) ≡ search s p
unfolding search answer_from answer_of answer_at begins
passed-search s p h = by_cases (dec_lt q s.size) inside past
  where
    q : ℕ
    q = found s.page p s.size

    go : q < s.size → (t : PageState) → answer_of s (begins s.page s.size q t) ≡ answer_at s q t
    go l absent = refl
    go l (broken k r) = refl
    go l (mapped g k) =
        let o = in-own-half s q h l in
        ap (λ (n : ℕ). run q g (n - q) k) (sym (up_to s.page (line q g k) q (half_end s q) s.size (omega arith) o.1))

    inside : q < s.size → answer_of s (pass s.page p s.size unfound) ≡ search s p
    inside l =
        ap (answer_of s) (pass-found s.page p s.size l) ∙ go l (s.page q)
        ∙ sym (ap (λ (b : Bool). cond b (answer_at s q (s.page q)) end) (lt-ltb q s.size l))

    past : (q < s.size → ⊥) → answer_of s (pass s.page p s.size unfound) ≡ search s p
    past n =
        ap (answer_of s) (pass-none s.page p s.size (omega arith))
        ∙ sym (ap (λ (b : Bool). cond b (answer_at s q (s.page q)) end) (le-ltb q s.size (omega arith)))

-- over no pages
pub pass-nowhere : (f : ℕ → PageState) (a : ℕ) (s : Progress) → pass f a a s ≡ at-page s a
unfolding pass first
pass-nowhere f a unfound = pass-none f a a (first-ge f nothing (a - a) a)
pass-nowhere f a (stopped q l r) = refl
pass-nowhere f a (running q g k) =
    let z : a - a ≡ 0 = omega arith in
    ap (λ (n : ℕ). at-page (running q g k) (first f (line q g k) n a)) z

-- a search that is not stopped stops before the end
pub stops-before : (f : ℕ → PageState) (a e : ℕ) (s : Progress) (q l : ℕ) (r : Reason) (x : ℕ) → ((p k : ℕ) (c : Reason) → s ≡ stopped p k c → ⊥)
    → pass f a e s ≡ at-page (stopped q l r) x → x < e
unfolding pass begins
stops-before f a e unfound q l r x n h = by_cases (dec_lt (found f a e) e) (λ i. go (f (found f a e)) i (sym (pass-found f a e i) ∙ h)) (λ i. absurd (past (sym (pass-none f a e (omega arith)) ∙ h)))
  where
    past : at-page unfound e ≡ at-page (stopped q l r) x → ⊥
    past z = let o : ◌≡◌ {A = ℕ} 0 1 = cc in omega arith

    go : (s : PageState) → found f a e < e → begins f e (found f a e) s ≡ at-page (stopped q l r) x → x < e
    go absent i z = absurd (let o : ◌≡◌ {A = ℕ} 0 1 = cc in omega arith)
    go (broken k c) i z = let y : found f a e ≡ x = cc in omega arith
    go (mapped g k) i z = absurd (let o : ◌≡◌ {A = ℕ} 0 1 = cc in omega arith)
stops-before f a e (stopped p k c) q l r x n h = absurd (n p k c refl)
stops-before f a e (running p g k) q l r x n h = absurd (let o : ◌≡◌ {A = ℕ} 0 1 = cc in omega arith)

-- it comes no further than the end
pub pass_le : (f : ℕ → PageState) (a e : ℕ) (s t : Progress) (y : ℕ) → a ≤ e → pass f a e s ≡ at-page t y → y ≤ e
unfolding pass begins
pass_le f a e unfound t y i h = by_cases (dec_lt (found f a e) e) (λ l. go (f (found f a e)) l (sym (pass-found f a e l) ∙ h)) (λ n. let z : at-page unfound e ≡ at-page t y = sym (pass-none f a e (omega arith)) ∙ h in let j : e ≡ y = cc in omega arith)
  where
    go : (s : PageState) → found f a e < e → begins f e (found f a e) s ≡ at-page t y → y ≤ e
    go absent l z = let j : e ≡ y = cc in omega arith
    go (broken k c) l z = let j : found f a e ≡ y = cc in omega arith
    go (mapped g k) l z = let j : first f (line (found f a e) g k) (e - found f a e) (found f a e) ≡ y = cc in omega (arith, first-le f (line (found f a e) g k) (e - found f a e) (found f a e))
pass_le f a e (stopped q l r) t y i h = let j : a ≡ y = cc in omega arith
pass_le f a e (running q g k) t y i h = let j : first f (line q g k) (e - a) a ≡ y = cc in omega (arith, first-le f (line q g k) (e - a) a)
