-- A text is read as a statement of cells exactly if it is written so.
use Rattle.std.proofs.Common.{◌≡◌, ℕ, ◌<◌, ◌≤◌, ◌^◌, true, ltb, leb, ◌&&◌, inl, inr, List, ◌++◌, length, take, drop, codes, Option, Some, None, refl, sym, ap, subst, ◌∙◌, take-append-drop, arith}
use Rattle.std.specs.Prelude.{bytes_eq}
use Rattle.std.specs.Fmt.{decimal}
use Rattle.std.proofs.lemmas.Bool.{and_parts, and_from, ltb-true, lt-ltb, leb-true, le-leb, cond-true}
use Rattle.std.proofs.lemmas.Slice.Eq.{bytes_eq-Decides}
use Rattle.sql_engine.specs.declared.cell_statement.CellStatement.{CellStatement}
use Rattle.sql_engine.specs.declared.cell_statement.CellStatement.TheVariants.{Set, Get, Wipe}
use Rattle.dq_base.specs.Decimal.{number_below}
use Rattle.dq_base.specs.Texts.{halves, behind}
use Rattle.dq_base.proofs.Choices.{some_is, passed, chosen}
use Rattle.dq_base.proofs.Numbers.{number_is, number_again}
use Rattle.dq_base.proofs.Halves.{halves_cut, halves_of, decimal_no_space}
use Rattle.sql_engine.specs.CellTexts.{IsCellPage, IsInRange, Says, is_cell_page, set_of, get_of, wipe_of, set_in, statement_of}

-- ---- what is read is written so

-- what follows a word
behind_is : (word text rest : List ℕ) → behind word text ≡ Some rest → text ≡ word ++ rest
behind_is word text rest e =
    let a = passed (bytes_eq (take (length word) text) word) (Some (drop (length word) text)) rest e in
    let front : take (length word) text ≡ word = (bytes_eq-Decides (take (length word) text) word).0 a.0 in
    sym (take-append-drop (length word) text) ∙ ap (λ (x : List ℕ). x ++ drop (length word) text) front ∙ ap (λ (x : List ℕ). word ++ x) (some_is (drop (length word) text) rest a.1)

cell_page_is : (page : ℕ) → is_cell_page page ≡ true → IsCellPage page
cell_page_is page e =
    let parts = and_parts (leb 1 page) (leb page 8192) e in
    (leb-true 1 page parts.0, leb-true page 8192 parts.1)

cell_page_test : (page : ℕ) → IsCellPage page → is_cell_page page ≡ true
cell_page_test page h = and_from (leb 1 page) (leb page 8192) (le-leb 1 page h.0) (le-leb page 8192 h.1)

set_numbers : (page value : Option ℕ) (c : CellStatement) → set_of page value ≡ Some c → (p : ℕ) × (v : ℕ) × (page ≡ Some p) × (value ≡ Some v) × (Set p v ≡ c) × IsInRange (Set p v)
set_numbers None value c e = absurd cc
set_numbers (Some p) None c e = absurd cc
set_numbers (Some p) (Some v) c e =
    let a = passed (is_cell_page p && ltb v (10 ^ 19)) (Some (Set p v)) c e in
    let parts = and_parts (is_cell_page p) (ltb v (10 ^ 19)) a.0 in
    (p, v, refl, refl, some_is (Set p v) c a.1, (cell_page_is p parts.0, ltb-true v (10 ^ 19) parts.1))

set_halves : (both : Option (List ℕ × List ℕ)) (c : CellStatement) → set_in both ≡ Some c → (h : List ℕ × List ℕ) × (both ≡ Some h) × (set_of (number_below (2 ^ 64) h.0) (number_below (2 ^ 64) h.1) ≡ Some c)
set_halves None c e = absurd cc
set_halves (Some h) c e = (h, refl, e)

set_is : (text rest : List ℕ) (c : CellStatement) → behind (codes "SET ") text ≡ Some rest → set_in (halves rest) ≡ Some c → Says text c
set_is text rest c at e =
    let a = set_halves (halves rest) c e in
    let b = set_numbers (number_below (2 ^ 64) a.0.0) (number_below (2 ^ 64) a.0.1) c a.2 in
    let page = number_is (2 ^ 64) a.0.0 b.0 b.2 in
    let value = number_is (2 ^ 64) a.0.1 b.1 b.3 in
    let front : List ℕ → List ℕ → List ℕ = λ x y. codes "SET " ++ (x ++ (codes " " ++ y)) in
    subst (Says text) b.4 (record {
      in_range = b.5;
      spelling = behind_is (codes "SET ") text rest at ∙ ap (λ (x : List ℕ). codes "SET " ++ x) (halves_cut rest a.0 a.1) ∙ ap (λ (x : List ℕ). front x a.0.1) page.written ∙ ap (front (decimal b.0)) value.written;
    })

get_number : (page : Option ℕ) (c : CellStatement) → get_of page ≡ Some c → (p : ℕ) × (page ≡ Some p) × (Get p ≡ c) × IsInRange (Get p)
get_number None c e = absurd cc
get_number (Some p) c e =
    let a = passed (is_cell_page p) (Some (Get p)) c e in
    (p, refl, some_is (Get p) c a.1, cell_page_is p a.0)

get_is : (text rest : List ℕ) (c : CellStatement) → behind (codes "GET ") text ≡ Some rest → get_of (number_below (2 ^ 64) rest) ≡ Some c → Says text c
get_is text rest c at e =
    let a = get_number (number_below (2 ^ 64) rest) c e in
    let page = number_is (2 ^ 64) rest a.0 a.1 in
    subst (Says text) a.2 (record {
      in_range = a.3;
      spelling = behind_is (codes "GET ") text rest at ∙ ap (λ (x : List ℕ). codes "GET " ++ x) page.written;
    })

wipe_number : (pages : Option ℕ) (c : CellStatement) → wipe_of pages ≡ Some c → (n : ℕ) × (pages ≡ Some n) × (Wipe n ≡ c) × IsInRange (Wipe n)
wipe_number None c e = absurd cc
wipe_number (Some n) c e =
    let a = passed (leb n 8192) (Some (Wipe n)) c e in
    (n, refl, some_is (Wipe n) c a.1, leb-true n 8192 a.0)

wipe_is : (text rest : List ℕ) (c : CellStatement) → behind (codes "WIPE ") text ≡ Some rest → wipe_of (number_below (2 ^ 64) rest) ≡ Some c → Says text c
wipe_is text rest c at e =
    let a = wipe_number (number_below (2 ^ 64) rest) c e in
    let pages = number_is (2 ^ 64) rest a.0 a.1 in
    subst (Says text) a.2 (record {
      in_range = a.3;
      spelling = behind_is (codes "WIPE ") text rest at ∙ ap (λ (x : List ℕ). codes "WIPE " ++ x) pages.written;
    })

pub statement_is : (text : List ℕ) (c : CellStatement) → statement_of text ≡ Some c → Says text c
unfolding statement_of
statement_is text c e =
    elim (chosen (behind (codes "SET ") text) (λ rest. set_in (halves rest)) _ c e) [
      | inl a ↦ set_is text a.0 c a.1 a.2
      | inr e ↦ elim (chosen (behind (codes "GET ") text) (λ rest. get_of (number_below (2 ^ 64) rest)) _ c e) [
        | inl a ↦ get_is text a.0 c a.1 a.2
        | inr e ↦ elim (chosen (behind (codes "WIPE ") text) (λ rest. wipe_of (number_below (2 ^ 64) rest)) None c e) [
          | inl a ↦ wipe_is text a.0 c a.1 a.2
          | inr e ↦ absurd cc
        ]
      ]
    ]

-- ---- what is written so is read

set_read : (rest : List ℕ) → statement_of (codes "SET " ++ rest) ≡ set_in (halves rest)
unfolding statement_of
set_read rest = refl

get_read : (rest : List ℕ) → statement_of (codes "GET " ++ rest) ≡ get_of (number_below (2 ^ 64) rest)
unfolding statement_of
get_read rest = refl

wipe_read : (rest : List ℕ) → statement_of (codes "WIPE " ++ rest) ≡ wipe_of (number_below (2 ^ 64) rest)
unfolding statement_of
wipe_read rest = refl

again : (n : ℕ) → n < 2 ^ 64 → number_below (2 ^ 64) (decimal n) ≡ Some n
again n small = number_again (2 ^ 64) n (omega arith) small

set_again : (page value : ℕ) → IsInRange (Set page value) → set_in (halves (decimal page ++ (codes " " ++ decimal value))) ≡ Some (Set page value)
set_again page value h =
    let page_most = h.0.1 in
    let value_most = h.1 in
    let page_small : page < 2 ^ 64 = omega arith in
    let value_small : value < 2 ^ 64 = omega arith in
    let fits : (is_cell_page page && ltb value (10 ^ 19)) ≡ true = and_from (is_cell_page page) (ltb value (10 ^ 19)) (cell_page_test page h.0) (lt-ltb value (10 ^ 19) h.1) in
    ap set_in (halves_of (decimal page) (decimal value) (decimal_no_space page page_small))
    ∙ ap (λ (o : Option ℕ). set_of o (number_below (2 ^ 64) (decimal value))) (again page page_small)
    ∙ ap (set_of (Some page)) (again value value_small)
    ∙ cond-true (is_cell_page page && ltb value (10 ^ 19)) (Some (Set page value)) None fits

says_statement : (c : CellStatement) (text : List ℕ) → Says text c → statement_of text ≡ Some c
says_statement (Set page value) text h = ap statement_of h.spelling ∙ set_read (decimal page ++ (codes " " ++ decimal value)) ∙ set_again page value h.in_range
says_statement (Get page) text h =
    let most = h.in_range.1 in
    ap statement_of h.spelling ∙ get_read (decimal page) ∙ ap get_of (again page (omega arith))
    ∙ cond-true (is_cell_page page) (Some (Get page)) None (cell_page_test page h.in_range)
says_statement (Wipe pages) text h =
    let most : pages ≤ 8192 = h.in_range in
    ap statement_of h.spelling ∙ wipe_read (decimal pages) ∙ ap wipe_of (again pages (omega arith))
    ∙ cond-true (leb pages 8192) (Some (Wipe pages)) None (le-leb pages 8192 most)

pub text_is_statement : (text : List ℕ) (c : CellStatement) → (statement_of text ≡ Some c → Says text c) × (Says text c → statement_of text ≡ Some c)
text_is_statement text c = (statement_is text c, says_statement c text)
