-- The steps of the loops that read numbers and pages.
use Rattle.std.proofs.Common.{◌≡◌, ℕ, suc, ◌+◌, ◌-◌, ◌<◌, ◌≤◌, List, [], ◌∷◌, ◌++◌, length, get_or, drop, Result, Ok, Err, refl, sym, ap, ◌∙◌, arith}
use Rattle.std.proofs.lemmas.List.{append-nil, at_drop_more, at_drop_all}
use Rattle.dq_base.specs.declared.pages.NumberedPage.{NumberedPage}
use Rattle.wire_words.specs.declared.fault.WordFault.{WordFault}
use Rattle.wire_words.specs.Reading.{◌>>=◌, Unread, word_at, Fails}
use Rattle.wire_words.proofs.ReadingLoops.{with_front, regroup, fails_so}
use Rattle.log_commands.specs.Reading.{numbers_at, page_at, pages_at}

-- ---- reading numbers

pub numbers_more : (front : List ℕ) (count i : ℕ) (left next : Unread) (n : ℕ) (total : Result (List ℕ × Unread) WordFault) → i < count → word_at left ≡ Ok (n, next)
    → with_front front (numbers_at (count - i) left) ≡ total → with_front (front ++ n ∷ []) (numbers_at (count - (i + 1)) next) ≡ total
unfolding numbers_at
numbers_more front count i left next n total lt h so_far =
    let k : count - i ≡ suc (count - (i + 1)) = omega arith in
    let one : with_front front (numbers_at (count - i) left) ≡ with_front (front ++ n ∷ []) (numbers_at (count - (i + 1)) next) = rw (k, h) (regroup front n (numbers_at (count - (i + 1)) next)) in
    sym one ∙ so_far

pub numbers_end : (e : WordFault) (front : List ℕ) (count i : ℕ) (left : Unread) (total : Result (List ℕ × Unread) WordFault) → i < count → Fails e (word_at left)
    → with_front front (numbers_at (count - i) left) ≡ total → Fails e total
unfolding numbers_at
numbers_end e front count i left total lt fails so_far =
    let k : count - i ≡ suc (count - (i + 1)) = omega arith in
    fails_so e (word_at left) total (λ f h. let one : with_front front (numbers_at (count - i) left) ≡ Err f = rw (k, h) refl in sym so_far ∙ one) fails

pub numbers_done : (front : List ℕ) (count i : ℕ) (left : Unread) (total : Result (List ℕ × Unread) WordFault) → count ≤ i → with_front front (numbers_at (count - i) left) ≡ total → total ≡ Ok (front, left)
unfolding numbers_at
numbers_done front count i left total le so_far =
    let k : count - i ≡ 0 = omega arith in
    let one : with_front front (numbers_at (count - i) left) ≡ Ok (front, left) = rw k (ap (λ (ns : List ℕ). Ok (ns, left)) (append-nil front)) in
    sym so_far ∙ one

-- ---- reading pages

abbrev pub pages_so_far : List NumberedPage → List ℕ → Unread → Result (List NumberedPage × Unread) WordFault
pages_so_far front numbers left = with_front front (pages_at numbers left)

-- what a list leaves to do at its item, one item on
next_number : {Y : Type 0} (F : List ℕ → Y) (ns : List ℕ) (i n : ℕ) → i < length ns → n ≡ get_or ns i 0 → F (drop i ns) ≡ F (n ∷ drop (i + 1) ns)
next_number F ns i n lt is = at_drop_more F ns i 0 lt ∙ ap (λ (m : ℕ). F (m ∷ drop (i + 1) ns)) (sym is)

pub pages_more : (front : List NumberedPage) (ns : List ℕ) (i n : ℕ) (left next : Unread) (p : NumberedPage) (total : Result (List NumberedPage × Unread) WordFault) → i < length ns → n ≡ get_or ns i 0 → page_at n left ≡ Ok (p, next)
    → pages_so_far front (drop i ns) left ≡ total → pages_so_far (front ++ p ∷ []) (drop (i + 1) ns) next ≡ total
unfolding pages_at
pages_more front ns i n left next p total lt is h so_far =
    let one : pages_so_far front (n ∷ drop (i + 1) ns) left ≡ pages_so_far (front ++ p ∷ []) (drop (i + 1) ns) next = rw h (regroup front p (pages_at (drop (i + 1) ns) next)) in
    sym (next_number (λ (ms : List ℕ). pages_so_far front ms left) ns i n lt is ∙ one) ∙ so_far

pub pages_end : (e : WordFault) (front : List NumberedPage) (ns : List ℕ) (i n : ℕ) (left : Unread) (total : Result (List NumberedPage × Unread) WordFault) → i < length ns → n ≡ get_or ns i 0 → Fails e (page_at n left)
    → pages_so_far front (drop i ns) left ≡ total → Fails e total
unfolding pages_at
pages_end e front ns i n left total lt is fails so_far =
    fails_so e (page_at n left) total (λ f h.
    let one : pages_so_far front (n ∷ drop (i + 1) ns) left ≡ Err f = rw h refl in
    sym so_far ∙ next_number (λ (ms : List ℕ). pages_so_far front ms left) ns i n lt is ∙ one) fails

pub pages_done : (front : List NumberedPage) (ns : List ℕ) (i : ℕ) (left : Unread) (total : Result (List NumberedPage × Unread) WordFault) → length ns ≤ i → pages_so_far front (drop i ns) left ≡ total → total ≡ Ok (front, left)
unfolding pages_at
pages_done front ns i left total le so_far =
    let one : pages_so_far front [] left ≡ Ok (front, left) = ap (λ (ps : List NumberedPage). Ok (ps, left)) (append-nil front) in
    sym so_far ∙ at_drop_all (λ (ms : List ℕ). pages_so_far front ms left) ns i le ∙ one

-- ---- pages

-- what a list leaves to do at its page, one page on
pub next_page : {Y : Type 0} (F : List NumberedPage → Y) (ps : List NumberedPage) (i : ℕ) (p : NumberedPage) → i < length ps → p ≡ get_or ps i p → F (drop i ps) ≡ F (p ∷ drop (i + 1) ps)
next_page F ps i p lt is = at_drop_more F ps i p lt ∙ ap (λ (q : NumberedPage). F (q ∷ drop (i + 1) ps)) (sym is)
