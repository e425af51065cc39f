-- What a scan says of its text.
use Rattle.std.proofs.Common.{◌≡◌, ℕ, List, Result, Ok, Err, sym, subst, ap}
use Rattle.std.specs.Result.{IfOk}
use Rattle.std.specs.List.{All, AllPairs}
use Rattle.std.specs.Str.{IsUtf8}
use Rattle.sql_scan.specs.declared.pieces.StatementSpan.{StatementSpan}
use Rattle.sql_scan.specs.declared.fault.ScanFault.{ScanFault}
use Rattle.sql_scan.specs.Tokens.{Token}
use Rattle.sql_scan.specs.Grammar.{Cuts}
use Rattle.sql_scan.specs.Statements.{Gives, statements_of, scan_of}
use Rattle.sql_scan.specs.Places.{StandsIn, StandsBefore}
use Rattle.sql_scan.proofs.Cutting.{one_cut}
use Rattle.sql_scan.proofs.Standing.{places, order}

pub by_tokens : (text : List ℕ) (tokens : List Token) → Cuts text tokens → scan_of text ≡ statements_of tokens
unfolding scan_of
by_tokens text tokens h = sym (ap statements_of (one_cut text tokens h))

pub gives_cut : {X : Type 0} (view : X → List StatementSpan) (result : Result X ScanFault) (text : List ℕ) (tokens : List Token) → Gives view result (scan_of text) → Cuts text tokens → Gives view result (statements_of tokens)
gives_cut view result text tokens h c = subst (Gives view result) (by_tokens text tokens c) h

pub gives_places : {X : Type 0} (view : X → List StatementSpan) (result : Result X ScanFault) (text : List ℕ) → IsUtf8 text → Gives view result (scan_of text) → IfOk result (λ x. All (StandsIn text) (view x))
gives_places view (Ok x) text utf8 h = places text (view x) utf8 h
gives_places view (Err e) text utf8 h = tt

pub gives_order : {X : Type 0} (view : X → List StatementSpan) (result : Result X ScanFault) (text : List ℕ) → IsUtf8 text → Gives view result (scan_of text) → IfOk result (λ x. AllPairs StandsBefore (view x))
gives_order view (Ok x) text utf8 h = order text (view x) utf8 h
gives_order view (Err e) text utf8 h = tt

pub scan_gives : {X : Type 0} (view : X → List StatementSpan) (result : Result X ScanFault) (bytes text : List ℕ) → bytes ≡ text → Gives view result (scan_of bytes) → Gives view result (scan_of text)
scan_gives view result bytes text e h = subst (λ (xs : List ℕ). Gives view result (scan_of xs)) e h
