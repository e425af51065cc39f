-- The statements of a text, by the places where they are in it.
use Rattle.std.specs.Prelude.{ℕ, List, map, sum_by}
use Rattle.wire_words.specs.declared.value.Value.{Value}
use Rattle.sql_scan.specs.declared.pieces.StatementSpan.{StatementSpan}
use Rattle.sql_engine.specs.Replies.{Statement}
use Rattle.session_spec.specs.Sessions.{Prepared}
use Rattle.session_spec.specs.Statements.{prepared_from, with_params}

-- the statements that are at these places
abbrev pub cut_at : List ℕ → List StatementSpan → List Prepared
cut_at text pieces = map (prepared_from text) pieces

-- how many parameters they take together
abbrev pub wants : List StatementSpan → ℕ
wants pieces = sum_by (λ (p : StatementSpan). p.params) pieces

-- each with as many parameters as it counts, in order
abbrev pub assigned : List ℕ → List StatementSpan → List Value → List Statement
assigned text pieces params = with_params (cut_at text pieces) params
