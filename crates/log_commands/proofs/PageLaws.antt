-- Numbers and pages are read exactly if the bytes are their encoding.
use Rattle.std.proofs.Common.{◌≡◌, ℕ, zero, suc, ◌<◌, ◌^◌, List, [], ◌∷◌, ◌++◌, length, Ok, refl, ap, subst}
use Rattle.std.specs.List.{AllByRecursion}
use Rattle.dq_base.specs.declared.pages.NumberedPage.{NumberedPage}
use Rattle.wire_words.specs.Items.{word, raw, AreBytes}
use Rattle.wire_words.specs.Reading.{◌>>=◌, Unread, word_at, raw_at}
use Rattle.wire_words.proofs.ReadBack.{bind_ok, ok_is}
use Rattle.log_commands.specs.Spelling.{number_words, page_bytes, HaveNumbers, HaveSizes}
use Rattle.log_commands.specs.Reading.{numbers_at, page_at, pages_at}
use Rattle.wire_words.proofs.Passing.{Passed, passed_none, pass_none, passed_both, between, passed_first, passed_second, bytes_after, word_passed, word_stood, raw_passed, raw_stood}

abbrev pub words_of : List ℕ → List ℕ
words_of [] = []
words_of (n ∷ ns) = word n ++ words_of ns

abbrev pub AreWords : List ℕ → Type 0
AreWords ns = AllByRecursion (λ n. n < 2 ^ 64) ns

abbrev pub numbers_of : List NumberedPage → List ℕ
numbers_of [] = []
numbers_of (p ∷ ps) = p.number ∷ numbers_of ps

-- ---- numbers

-- this many numbers were between two states of a reader
pub record PassedNumbers (count : ℕ) (ns : List ℕ) (old new : Unread) : Type 0 where
  pub many : length ns ≡ count
  pub fit : AreWords ns
  pub passed : Passed (words_of ns) old new

pub numbers_passed : (count : ℕ) (old new : Unread) (ns : List ℕ) → AreBytes old.bytes → numbers_at count old ≡ Ok (ns, new) → PassedNumbers count ns old new
unfolding numbers_at
numbers_passed zero old new ns fits e =
    subst (λ (x : List ℕ × Unread). PassedNumbers 0 x.0 old x.1) (ok_is ([], old) (ns, new) e) (record { many = refl; fit = tt; passed = pass_none old })
numbers_passed (suc count) old new ns fits e =
    let a = bind_ok (word_at old) (λ first. numbers_at count first.1 >>= λ others. Ok (first.0 ∷ others.0, others.1)) (ns, new) e in
    let n = a.0.0 in
    let mid = a.0.1 in
    let b = bind_ok (numbers_at count mid) (λ others. Ok (n ∷ others.0, others.1)) (ns, new) a.2 in
    let first = word_passed old mid n fits a.1 in
    let others = numbers_passed count mid b.0.1 b.0.0 (bytes_after (word n) old mid first.1 fits) b.1 in
    let made : List ℕ × Unread = (n ∷ b.0.0, b.0.1) in
    subst (λ (x : List ℕ × Unread). PassedNumbers (suc count) x.0 old x.1) (ok_is made (ns, new) b.2)
    (record { many = ap suc others.many; fit = (first.0, others.fit); passed = passed_both old mid b.0.1 (word n) (words_of b.0.0) first.1 others.passed })

pub numbers_stood : (ps : List NumberedPage) (old new : Unread) → HaveNumbers ps → Passed (number_words ps) old new → numbers_at (length ps) old ≡ Ok (numbers_of ps, new)
unfolding numbers_at
numbers_stood [] old new fit p = ap (λ (left : Unread). Ok ([], left)) (passed_none old new p)
numbers_stood (x ∷ ps) old new fit p =
    let mid = between old (word x.number) (number_words ps) new in
    let first = word_stood old mid x.number fit.0 (passed_first old new (word x.number) (number_words ps) p) in
    let others = numbers_stood ps mid new fit.1 (passed_second old new (word x.number) (number_words ps) p) in
    rw (first, others) refl

-- ---- pages

pub record PassedPages (ns : List ℕ) (ps : List NumberedPage) (old new : Unread) : Type 0 where
  pub numbers : numbers_of ps ≡ ns
  pub sizes : HaveSizes ps
  pub passed : Passed (page_bytes ps) old new

page_passed : (n : ℕ) (old new : Unread) (p : NumberedPage) → page_at n old ≡ Ok (p, new) → (p.number ≡ n) × (length p.page ≡ 4096) × Passed (raw p.page) old new
unfolding page_at
page_passed n old new p e =
    let a = bind_ok (raw_at 4096 old) (λ page. Ok (record { number = n; page = page.0 }, page.1)) (p, new) e in
    let made : NumberedPage × Unread = (record { number = n; page = a.0.0 }, a.0.1) in
    let r = raw_passed 4096 old a.0.1 a.0.0 a.1 in
    subst (λ (x : NumberedPage × Unread). (x.0.number ≡ n) × (length x.0.page ≡ 4096) × Passed (raw x.0.page) old x.1) (ok_is made (p, new) a.2) (refl, r.0, r.1)

page_stood : (p : NumberedPage) (old new : Unread) → length p.page ≡ 4096 → Passed (raw p.page) old new → page_at p.number old ≡ Ok (p, new)
unfolding page_at
page_stood p old new size passed = rw (raw_stood 4096 old new p.page size passed) refl

pub pages_passed : (ns : List ℕ) (old new : Unread) (ps : List NumberedPage) → pages_at ns old ≡ Ok (ps, new) → PassedPages ns ps old new
unfolding pages_at
pages_passed [] old new ps e =
    subst (λ (x : List NumberedPage × Unread). PassedPages [] x.0 old x.1) (ok_is ([], old) (ps, new) e) (record { numbers = refl; sizes = tt; passed = pass_none old })
pages_passed (n ∷ ns) old new ps e =
    let a = bind_ok (page_at n old) (λ first. pages_at ns first.1 >>= λ others. Ok (first.0 ∷ others.0, others.1)) (ps, new) e in
    let p = a.0.0 in
    let mid = a.0.1 in
    let b = bind_ok (pages_at ns mid) (λ others. Ok (p ∷ others.0, others.1)) (ps, new) a.2 in
    let first = page_passed n old mid p a.1 in
    let others = pages_passed ns mid b.0.1 b.0.0 b.1 in
    let made : List NumberedPage × Unread = (p ∷ b.0.0, b.0.1) in
    subst (λ (x : List NumberedPage × Unread). PassedPages (n ∷ ns) x.0 old x.1) (ok_is made (ps, new) b.2)
    (record {
      numbers = rw (first.0, others.numbers) refl;
      sizes = (first.1, others.sizes);
      passed = passed_both old mid b.0.1 (raw p.page) (page_bytes b.0.0) first.2 others.passed;
    })

pub pages_stood : (ps : List NumberedPage) (old new : Unread) → HaveSizes ps → Passed (page_bytes ps) old new → pages_at (numbers_of ps) old ≡ Ok (ps, new)
unfolding pages_at
pages_stood [] old new sizes p = ap (λ (left : Unread). Ok ([], left)) (passed_none old new p)
pages_stood (x ∷ ps) old new sizes p =
    let mid = between old (raw x.page) (page_bytes ps) new in
    let first = page_stood x old mid sizes.0 (passed_first old new (raw x.page) (page_bytes ps) p) in
    let others = pages_stood ps mid new sizes.1 (passed_second old new (raw x.page) (page_bytes ps) p) in
    rw (first, others) refl

-- ---- the numbers of pages

pub words_are : (ps : List NumberedPage) → words_of (numbers_of ps) ≡ number_words ps
words_are [] = refl
words_are (p ∷ ps) = ap (λ (x : List ℕ). word p.number ++ x) (words_are ps)

pub numbers_have : (ps : List NumberedPage) → AreWords (numbers_of ps) → HaveNumbers ps
numbers_have [] fit = tt
numbers_have (p ∷ ps) fit = (fit.0, numbers_have ps fit.1)

pub as_many : (ps : List NumberedPage) → length (numbers_of ps) ≡ length ps
as_many [] = refl
as_many (p ∷ ps) = ap suc (as_many ps)
