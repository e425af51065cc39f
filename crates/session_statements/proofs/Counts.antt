-- The statements of a text from a place on, and how many parameters they take.
use Rattle.std.proofs.Common.{◌≡◌, ℕ, ◌+◌, ◌<◌, ◌||◌, List, [], ◌∷◌, length, take, drop, get_or, sum_by, refl, sym, ap, ◌∙◌}
use Rattle.std.proofs.lemmas.List.{at_drop_more}
use Rattle.std.proofs.lemmas.List.Sums.{sum_by-drop_more, sum_by-cons}
use Rattle.wire_words.specs.declared.value.Value.{Value}
use Rattle.sql_scan.specs.declared.pieces.StatementSpan.{StatementSpan}
use Rattle.session_spec.specs.Sessions.{Prepared}
use Rattle.session_spec.specs.Statements.{prepared_from, is_control, is_left_out, any_barred}
use Rattle.session_statements.specs.Texts.{cut_at, wants, assigned}

pub wants_next : (pieces : List StatementSpan) (i : ℕ) (d : StatementSpan) → i < length pieces → wants (drop i pieces) ≡ (get_or pieces i d).params + wants (drop (i + 1) pieces)
wants_next pieces i d h = sum_by-drop_more (λ (p : StatementSpan). p.params) pieces i d h

-- as many parameters as the statements want at their places
pub wants_cut : (text : List ℕ) (pieces : List StatementSpan) → sum_by (λ (p : Prepared). p.params) (cut_at text pieces) ≡ wants pieces
wants_cut text [] = refl
wants_cut text (p ∷ ps) =
    sum_by-cons (λ (q : Prepared). q.params) (prepared_from text p) (cut_at text ps)
    ∙ ap (λ (n : ℕ). p.params + n) (wants_cut text ps)
    ∙ sym (sum_by-cons (λ (q : StatementSpan). q.params) p ps)

pub assigned_next : (text : List ℕ) (pieces : List StatementSpan) (i : ℕ) (d : StatementSpan) (params : List Value) → i < length pieces →
    assigned text (drop i pieces) params ≡ record { text = (prepared_from text (get_or pieces i d)).text; params = take (get_or pieces i d).params params } ∷ assigned text (drop (i + 1) pieces) (drop (get_or pieces i d).params params)
assigned_next text pieces i d params h = at_drop_more (λ (ps : List StatementSpan). assigned text ps params) pieces i d h

pub barred_next : (text : List ℕ) (pieces : List StatementSpan) (i : ℕ) (d : StatementSpan) → i < length pieces →
    any_barred (cut_at text (drop i pieces)) ≡ ((is_control (get_or pieces i d).word || is_left_out (get_or pieces i d).word) || any_barred (cut_at text (drop (i + 1) pieces)))
barred_next text pieces i d h = at_drop_more (λ (ps : List StatementSpan). any_barred (cut_at text ps)) pieces i d h
