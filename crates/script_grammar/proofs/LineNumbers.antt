-- Numbers and words of a line are read exactly if they are encoded so.
use Rattle.std.proofs.Common.{◌≡◌, ◌≢◌, ℕ, ◌<◌, ◌≤◌, ◌^◌, false, cond, eqb, ltb, leb, ◌&&◌, inl, inr, List, [], ◌∷◌, ◌++◌, length, take, drop, codes, Option}
use Rattle.std.proofs.Common.{Some, None, option_map, refl, sym, ap, subst, ◌∙◌, take-append-drop, arith}
use Rattle.std.specs.Prelude.{bytes_eq}
use Rattle.std.specs.List.{AllByRecursion, position_or_len}
use Rattle.std.specs.Fmt.{decimal}
use Rattle.std.proofs.lemmas.Bool.{and_parts, leb-true, le-leb, le-ltb, ne_eqb}
use Rattle.std.proofs.lemmas.Slice.Eq.{bytes_eq-Decides}
use Rattle.dq_base.specs.Texts.{halves, behind}
use Rattle.dq_base.proofs.Choices.{some_is, passed, mapped, bound}
use Rattle.dq_base.proofs.Numbers.{number_is, number_again}
use Rattle.dq_base.proofs.Halves.{halves_cut, halves_of, decimal_no_space}
use Rattle.script_grammar.specs.Events.{number, number_within, numbers_in, one_or_two}
use Rattle.script_grammar.specs.Spelling.{IsNumbered, IsCounted, IsPaired}

-- what follows a word
pub behind_is : (word line text : List ℕ) → behind word line ≡ Some text → line ≡ word ++ text
behind_is word line text e =
    let a = passed (bytes_eq (take (length word) line) word) (Some (drop (length word) line)) text e in
    let front : take (length word) line ≡ word = (bytes_eq-Decides (take (length word) line) word).0 a.0 in
    sym (take-append-drop (length word) line) ∙ ap (λ (x : List ℕ). x ++ drop (length word) line) front
    ∙ ap (λ (x : List ℕ). word ++ x) (some_is (drop (length word) line) text a.1)

pub numbered_is : (word line text : List ℕ) (n : ℕ) → line ≡ word ++ text → number text ≡ Some n → IsNumbered word n line
numbered_is word line text n at e =
    let is = number_is (2 ^ 32) text n e in
    record { in_range = is.small; parts = at ∙ ap (λ (x : List ℕ). word ++ x) is.written }

pub within_is : (least most : ℕ) (text : List ℕ) (n : ℕ) → number_within least most text ≡ Some n → (least ≤ n) × (n ≤ most) × (number text ≡ Some n)
unfolding number_within
within_is least most text n e =
    let a = bound (number text) (λ m. cond (leb least m && leb m most) (Some m) None) n e in
    let b = passed (leb least a.0 && leb a.0 most) (Some a.0) n a.2 in
    let both = and_parts (leb least a.0) (leb a.0 most) b.0 in
    let is : a.0 ≡ n = some_is a.0 n b.1 in (
      subst (λ (m : ℕ). least ≤ m) is (leb-true least a.0 both.0),
      subst (λ (m : ℕ). m ≤ most) is (leb-true a.0 most both.1),
      a.1 ∙ ap (λ (m : ℕ). Some m) is,
    )

pub counted_is : (least most : ℕ) (word line text : List ℕ) (n : ℕ) → line ≡ word ++ text → number_within least most text ≡ Some n
    → IsCounted least most word n line
counted_is least most word line text n at e =
    let a = within_is least most text n e in
    record { at_least = a.0; at_most = a.1; numbered = numbered_is word line text n at a.2 }

paired_so : (word line text : List ℕ) (cut : Option (List ℕ × List ℕ)) (both : ℕ × ℕ) → halves text ≡ cut → line ≡ word ++ text
    → numbers_in cut text ≡ Some both → IsPaired word both.0 both.1 line
paired_so word line text None both is at e =
    let a = mapped (λ (n : ℕ). (n, 0)) (number text) both e in
    let n = number_is (2 ^ 32) text a.0 a.1 in
    subst (λ (p : ℕ × ℕ). IsPaired word p.0 p.1 line) a.2 (record {
      first_in_range = n.small;
      second_in_range = omega arith;
      parts = inl (refl, at ∙ ap (λ (x : List ℕ). word ++ x) n.written);
    })
paired_so word line text (Some cut) both is at e =
    let a = bound (number cut.0) (λ (n : ℕ). option_map (λ (m : ℕ). (n, m)) (number cut.1)) both e in
    let b = mapped (λ (m : ℕ). (a.0, m)) (number cut.1) both a.2 in
    let n = number_is (2 ^ 32) cut.0 a.0 a.1 in
    let m = number_is (2 ^ 32) cut.1 b.0 b.1 in
    let front : List ℕ → List ℕ → List ℕ = λ x y. word ++ (x ++ (codes " " ++ y)) in
    subst (λ (p : ℕ × ℕ). IsPaired word p.0 p.1 line) b.2 (record {
      first_in_range = n.small;
      second_in_range = m.small;
      parts = inr (at ∙ ap (λ (x : List ℕ). word ++ x) (halves_cut text cut is) ∙ ap (λ (x : List ℕ). front x cut.1) n.written
          ∙ ap (front (decimal a.0)) m.written);
    })

pub paired_is : (word line text : List ℕ) (both : ℕ × ℕ) → line ≡ word ++ text → one_or_two text ≡ Some both → IsPaired word both.0 both.1 line
unfolding one_or_two
paired_is word line text both at e = paired_so word line text (halves text) both refl at e

-- ---- what is encoded so is read

pub again : (n : ℕ) → n < 2 ^ 32 → number (decimal n) ≡ Some n
again n small = number_again (2 ^ 32) n (omega arith) small

pub no_space : (n : ℕ) → n < 2 ^ 32 → AllByRecursion (λ b. b ≢ 32) (decimal n)
no_space n small = decimal_no_space n (omega arith)

pub within_again : (least most n : ℕ) → n < 2 ^ 32 → least ≤ n → n ≤ most → number_within least most (decimal n) ≡ Some n
unfolding number_within
within_again least most n small low high = rw (again n small, le-leb least n low, le-leb n most high) refl

-- a text without a space isn't cut
space_none : (text : List ℕ) → AllByRecursion (λ b. b ≢ 32) text → position_or_len (λ b. eqb b 32) text ≡ length text
space_none [] none = refl
space_none (b ∷ text) none = rw (ne_eqb b 32 none.0, space_none text none.1) (omega arith)

ltb_self : (n : ℕ) → ltb n n ≡ false
ltb_self n = le-ltb n n (omega arith)

halves_none : (text : List ℕ) → AllByRecursion (λ b. b ≢ 32) text → halves text ≡ None
unfolding halves
halves_none text none = rw (space_none text none, ltb_self (length text)) refl

pub one_again : (n : ℕ) → n < 2 ^ 32 → one_or_two (decimal n) ≡ Some (n, 0)
unfolding one_or_two
one_again n small = rw (halves_none (decimal n) (no_space n small), again n small) refl

pub two_again : (n m : ℕ) → n < 2 ^ 32 → m < 2 ^ 32 → one_or_two (decimal n ++ (codes " " ++ decimal m)) ≡ Some (n, m)
unfolding one_or_two
two_again n m small small' = rw (halves_of (decimal n) (decimal m) (no_space n small), again n small, again m small') refl
