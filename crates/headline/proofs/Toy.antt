-- The premises are met.
use Rattle.std.proofs.Common.{◌≡◌, ◌≢◌, inl, inr, ⊎_elim, ℕ, suc, true, false, true≢false, List, [], ◌∷◌, length, refl, sym, ap, subst, arith}
use Rattle.std.specs.Prelude.{codes, map, not, Ok, Err}
use Rattle.dq_base.specs.declared.images.Image.{Image}
use Rattle.wire_words.specs.declared.value.Value.{Value}
use Rattle.wire_msgs.specs.declared.response.Response.{Response}
use Rattle.wire_msgs.specs.declared.response.Response.TheVariants as responses
use Rattle.wire_rows.specs.Cut.{cut, bodies}
use Rattle.sql_scan.specs.declared.fault.ScanFault.TheVariants as faults
use Rattle.sql_scan.specs.declared.heading.WordKind.TheVariants as words
use Rattle.sql_scan.specs.Bytes.{is_space, is_digit, is_letter, is_word_start, is_word_part, is_sigil, is_quote, is_in_line}
use Rattle.sql_scan.specs.Grammar.{has_end}
use Rattle.sql_scan.specs.Kinds.{kind_of}
use Rattle.sql_scan.specs.Lengths.{quoted, starred}
use Rattle.sql_scan.specs.Statements.{decimal, in_range, parameter, solid, extended, finished, statements_from, scan_of}
use Rattle.sql_scan.specs.Tokens.{sigil_token, dash_token, slash_token, sign_token, token_of, tokens_past}
use Rattle.sql_scan.specs.Words.{is_write, is_left_out, keyword_of, followed_by, kind_so_far}
use Rattle.sql_engine.specs.Replies.{Reply, plain_rows}
use Rattle.headline.specs.Headline.{IsSentAs}
use Rattle.headline.specs.Laws.{StaysInImages, IsMarked, IsSole, KeepsUnmarked, statement}
use Rattle.headline.specs.Toy.{selected, toy, has_byte, marked, marked_aside, span, rows_of, PremisesAreMet}

scans_insert : scan_of (codes "INSERT") ≡ Ok (span 6 words.Write ∷ [])
unfolding is_space is_digit is_letter is_word_start is_word_part is_sigil is_quote is_in_line has_end kind_of quoted starred decimal in_range parameter solid
    extended finished statements_from scan_of sigil_token dash_token slash_token sign_token token_of tokens_past is_write is_left_out keyword_of followed_by
    kind_so_far
scans_insert = refl

scans_update : scan_of (codes "UPDATE") ≡ Ok (span 6 words.Write ∷ [])
unfolding is_space is_digit is_letter is_word_start is_word_part is_sigil is_quote is_in_line has_end kind_of quoted starred decimal in_range parameter solid
    extended finished statements_from scan_of sigil_token dash_token slash_token sign_token token_of tokens_past is_write is_left_out keyword_of followed_by
    kind_so_far
scans_update = refl

scans_select : scan_of (codes "SELECT") ≡ Ok (span 6 words.Other ∷ [])
unfolding is_space is_digit is_letter is_word_start is_word_part is_sigil is_quote is_in_line has_end kind_of quoted starred decimal in_range parameter solid
    extended finished statements_from scan_of sigil_token dash_token slash_token sign_token token_of tokens_past is_write is_left_out keyword_of followed_by
    kind_so_far
scans_select = refl

scans_begin : scan_of (codes "BEGIN") ≡ Ok (span 5 (words.Begin false) ∷ [])
unfolding is_space is_digit is_letter is_word_start is_word_part is_sigil is_quote is_in_line has_end kind_of quoted starred decimal in_range parameter solid
    extended finished statements_from scan_of sigil_token dash_token slash_token sign_token token_of tokens_past is_write is_left_out keyword_of followed_by
    kind_so_far
scans_begin = refl

scans_commit : scan_of (codes "COMMIT") ≡ Ok (span 6 words.Commit ∷ [])
unfolding is_space is_digit is_letter is_word_start is_word_part is_sigil is_quote is_in_line has_end kind_of quoted starred decimal in_range parameter solid
    extended finished statements_from scan_of sigil_token dash_token slash_token sign_token token_of tokens_past is_write is_left_out keyword_of followed_by
    kind_so_far
scans_commit = refl

scans_rollback : scan_of (codes "ROLLBACK") ≡ Ok (span 8 words.Rollback ∷ [])
unfolding is_space is_digit is_letter is_word_start is_word_part is_sigil is_quote is_in_line has_end kind_of quoted starred decimal in_range parameter solid
    extended finished statements_from scan_of sigil_token dash_token slash_token sign_token token_of tokens_past is_write is_left_out keyword_of followed_by
    kind_so_far
scans_rollback = refl

scans_pragma : scan_of (codes "PRAGMA") ≡ Ok (span 6 words.LeftOut ∷ [])
unfolding is_space is_digit is_letter is_word_start is_word_part is_sigil is_quote is_in_line has_end kind_of quoted starred decimal in_range parameter solid
    extended finished statements_from scan_of sigil_token dash_token slash_token sign_token token_of tokens_past is_write is_left_out keyword_of followed_by
    kind_so_far
scans_pragma = refl

scans_quote : scan_of (codes "'") ≡ Err (faults.OpenQuote 0)
unfolding is_space is_digit is_letter is_word_start is_word_part is_sigil is_quote is_in_line has_end kind_of quoted starred decimal in_range parameter solid
    extended finished statements_from scan_of sigil_token dash_token slash_token sign_token token_of tokens_past is_write is_left_out keyword_of followed_by
    kind_so_far
scans_quote = refl

abbrev head : List ℕ → ℕ
head [] = 0
head (x ∷ xs) = x

insert_update : codes "INSERT" ≡ codes "UPDATE" → ⊥
insert_update e = let h : 73 ≡ 85 = ap head e in absurd (omega (arith, h))

insert_select : codes "INSERT" ≡ codes "SELECT" → ⊥
insert_select e = let h : 73 ≡ 83 = ap head e in absurd (omega (arith, h))

update_select : codes "UPDATE" ≡ codes "SELECT" → ⊥
update_select e = let h : 85 ≡ 83 = ap head e in absurd (omega (arith, h))

stays : StaysInImages toy (IsMarked marked)
stays before after s r runs is = ⊎_elim
    (λ p. subst (λ (i : Image). marked i ≡ true) (sym p.1) refl)
    (λ q. ⊎_elim
    (λ p. subst (λ (i : Image). marked i ≡ true) (sym p.1) is)
    (λ p. subst (λ (i : Image). marked i ≡ true) (sym p.1) is)
    q)
    runs

stays_aside : StaysInImages toy (IsMarked marked_aside)
stays_aside before after s r runs is = ⊎_elim
    (λ p. subst (λ (i : Image). marked_aside i ≡ true) (sym p.1) is)
    (λ q. ⊎_elim
    (λ p. subst (λ (i : Image). marked_aside i ≡ true) (sym p.1) refl)
    (λ p. subst (λ (i : Image). marked_aside i ≡ true) (sym p.1) is)
    q)
    runs

makes : (before after : Image) (r : Reply) → toy.runs before (statement (codes "INSERT") (span 6 words.Write)) after r → marked after ≡ true
makes before after r runs = ⊎_elim
    (λ p. subst (λ (i : Image). marked i ≡ true) (sym p.1) refl)
    (λ q. ⊎_elim (λ p. absurd (insert_update p.0)) (λ p. absurd (insert_select p.0)) q)
    runs

makes_aside : (before after : Image) (r : Reply) → toy.runs before (statement (codes "UPDATE") (span 6 words.Write)) after r → marked_aside after ≡ true
makes_aside before after r runs = ⊎_elim
    (λ p. absurd (insert_update (sym p.0)))
    (λ q. ⊎_elim (λ p. subst (λ (i : Image). marked_aside i ≡ true) (sym p.1) refl) (λ p. absurd (update_select p.0)) q)
    runs

longer : (xs : List ℕ) → xs ≡ 1 ∷ xs → ⊥
longer xs e = let h : length xs ≡ suc (length xs) = ap length e in absurd (omega (arith, h))

moves : (image : Image) (r : Reply) → toy.runs image (statement (codes "INSERT") (span 6 words.Write)) image r → ⊥
moves image r runs = ⊎_elim
    (λ p. longer image.main (ap (λ (i : Image). i.main) p.1))
    (λ q. ⊎_elim (λ p. insert_update p.0) (λ p. insert_select p.0) q)
    runs

moves_aside : (image : Image) (r : Reply) → toy.runs image (statement (codes "UPDATE") (span 6 words.Write)) image r → ⊥
moves_aside image r runs = ⊎_elim
    (λ p. insert_update (sym p.0))
    (λ q. ⊎_elim (λ p. longer image.side (ap (λ (i : Image). i.side) p.1)) (λ p. update_select p.0) q)
    runs

keeps_update : KeepsUnmarked toy marked (codes "UPDATE") (span 6 words.Write)
keeps_update before after r runs is = ⊎_elim
    (λ p. absurd (insert_update (sym p.0)))
    (λ q. ⊎_elim (λ p. subst (λ (i : Image). marked i ≡ false) (sym p.1) is) (λ p. absurd (update_select p.0)) q)
    runs

keeps_select : KeepsUnmarked toy marked (codes "SELECT") (span 6 words.Other)
keeps_select before after r runs is = ⊎_elim
    (λ p. absurd (insert_select (sym p.0)))
    (λ q. ⊎_elim (λ p. absurd (update_select (sym p.0))) (λ p. subst (λ (i : Image). marked i ≡ false) (sym p.1) is) q)
    runs

abbrev first_byte : List Response → ℕ
first_byte (responses.Rows (x ∷ xs) ∷ rs) = x
first_byte _ = 0

no_rows : (rows : List (List Value)) → [] ≡ plain_rows rows → rows ≡ []
no_rows [] e = refl
no_rows (x ∷ xs) e = absurd cc

sends_marked : (main : List ℕ) → has_byte main ≡ true → IsSentAs true (selected main ∷ []) (rows_of []) → ⊥
unfolding cut
sends_marked [] is sent = true≢false (sym is)
sends_marked (x ∷ xs) is (rows, plain, answer) =
    let none = no_rows rows plain in
    let e = subst (λ (rs : List (List Value)). rows_of [] ≡ map (λ (body : List ℕ). responses.Rows body) (bodies (codes "n" ∷ []) (cut (codes "n" ∷ []) rs)))
    none answer in
    let h : 0 ≡ 1 = ap first_byte e in
    absurd (omega (arith, h))

sends_unmarked : (main : List ℕ) → not (has_byte main) ≡ true → IsSentAs true (selected main ∷ []) (rows_of (codes "n" ∷ [])) → ⊥
unfolding cut
sends_unmarked (x ∷ xs) is sent = true≢false (sym is)
sends_unmarked [] is (rows, plain, answer) =
    let none = no_rows rows plain in
    let e = subst (λ (rs : List (List Value)). rows_of (codes "n" ∷ []) ≡ map (λ (body : List ℕ). responses.Rows body) (bodies [] (cut [] rs))) none answer in
    let h : 1 ≡ 0 = ap first_byte e in
    absurd (omega (arith, h))

differs : (before after : Image) (r : Reply) → toy.runs before (statement (codes "SELECT") (span 6 words.Other)) after r → marked before ≡ true →
    IsSentAs true (r ∷ []) (rows_of []) → ⊥
differs before after r runs is sent = ⊎_elim
    (λ p. absurd (insert_select (sym p.0)))
    (λ q. ⊎_elim
    (λ p. absurd (update_select (sym p.0)))
    (λ p. sends_marked before.main is (subst (λ (t : Reply). IsSentAs true (t ∷ []) (rows_of [])) p.2 sent))
    q)
    runs

differs_unmarked : (before after : Image) (r : Reply) → toy.runs before (statement (codes "SELECT") (span 6 words.Other)) after r →
    not (marked before) ≡ true → IsSentAs true (r ∷ []) (rows_of (codes "n" ∷ [])) → ⊥
differs_unmarked before after r runs is sent = ⊎_elim
    (λ p. absurd (insert_select (sym p.0)))
    (λ q. ⊎_elim
    (λ p. absurd (update_select (sym p.0)))
    (λ p. sends_unmarked before.main is (subst (λ (t : Reply). IsSentAs true (t ∷ []) (rows_of (codes "n" ∷ []))) p.2 sent))
    q)
    runs

no_refusal : (columns : List (List ℕ)) (code : ℕ) (message : List ℕ) → rows_of columns ≢ responses.Failure code message ∷ []
no_refusal columns code message e = absurd cc

sends_one : IsSentAs true (selected (1 ∷ []) ∷ []) (rows_of (codes "n" ∷ []))
unfolding cut
sends_one = ([], refl, refl)

sole_insert : IsSole (codes "INSERT") (span 6 words.Write) words.Write
sole_insert = record { scans = scans_insert; first = refl; params = refl }

sole_update : IsSole (codes "UPDATE") (span 6 words.Write) words.Write
sole_update = record { scans = scans_update; first = refl; params = refl }

sole_select : IsSole (codes "SELECT") (span 6 words.Other) words.Other
sole_select = record { scans = scans_select; first = refl; params = refl }

pub premises_are_met : PremisesAreMet
premises_are_met = (
  record { sole = sole_insert; new = refl; makes = makes; stays = stays },
  record { sole = sole_insert; moves = moves },
  record { sole = sole_update; new = refl; makes = makes_aside; stays = stays_aside },
  record { sole = sole_update; moves = moves_aside },
  keeps_update,
  record { sole = sole_select; differs = differs; no_refusal = no_refusal [] },
  record { sole = sole_select; differs = differs_unmarked; no_refusal = no_refusal (codes "n" ∷ []) },
  keeps_select,
  record {
    write = sole_insert;
    writes = inl (refl, refl, refl);
    query_sole = sole_select;
    reads = inr (inr (refl, refl, refl));
    sends = sends_one;
    no_refusal = no_refusal (codes "n" ∷ []);
  },
  record { scans = scans_begin; first = refl; params = refl },
  record { scans = scans_commit; first = refl; params = refl },
  record { scans = scans_rollback; first = refl; params = refl },
  record { scans = scans_pragma; first = refl; params = refl },
  scans_quote,
)
