use Rattle.std.proofs.Common.{◌≡◌, ℕ, ◌+◌, ◌-◌, ◌≤◌, List, ◌++◌, length, take, drop, Option, Some, sym, ap, subst, ◌∙◌, arith}
use Rattle.std.specs.Option.{option_to_list}
use Rattle.std.proofs.lemmas.List.{drop-drop, length-drop, take_rest}
use Rattle.std.proofs.lemmas.Result.{err_from_is_err_and}
use Rattle.sql_scan.specs.declared.draft.PartialStatement.{PartialStatement}
use Rattle.sql_scan.specs.declared.pieces.StatementSpan.{StatementSpan}
use Rattle.sql_scan.specs.Tokens.{first_token, tokens_of}
use Rattle.sql_scan.specs.Statements.{with_front, statements_from, scan_of}
use Rattle.sql_scan.proofs.Scanning.{step, fails, ends, begins}
use Rattle.sql_scan.proofs.scanner.statements_of.Goals as goal

pub tokens-init : goal.tokens-init
tokens-init c =
    let params : c.blank-draft.result.params ≡ 0 = ap (λ (d : PartialStatement). d.params) c.blank-draft.ensures in (
      ap (λ (d : PartialStatement). with_front c.new-statements.result.items (statements_from 0 d (tokens_of c.args.bytes.now))) c.blank-draft.ensures
          ∙ begins c.new-statements.result.items c.args.bytes.now c.new-statements.ensures.items,
      omega arith,
      omega arith,
    )

pub tokens-preserved : goal.tokens-preserved
tokens-preserved c =
    let rest : List ℕ = drop c.tokens.place c.args.bytes.now in
    let n : ℕ = c.in-Some.first.1 in
    let rest_is : take (length c.args.bytes.now - c.tokens.place) (drop c.tokens.place c.args.bytes.now) ≡ rest = take_rest c.args.bytes.now c.tokens.place in
    let within : n ≤ length rest = subst (λ (xs : List ℕ). n ≤ length xs) rest_is c.in-Some.ensures.within in
    let first : first_token rest ≡ Some c.in-Some.first = sym (ap first_token rest_is) ∙ sym c.in-Some.ensures.exact in
    let same : (c.tokens.place + n) - c.tokens.place ≡ n = omega arith in
    let moves = c.in_ok-draft.ensures.exact in (
      subst (λ (xs : List ℕ). with_front c.advance.new.statements.items (statements_from (c.tokens.place + n) c.in_ok-draft.draft (tokens_of xs)) ≡ scan_of c.args.bytes.now)
          (drop-drop n c.tokens.place c.args.bytes.now)
          (step c.tokens.statements.items c.advance.new.statements.items moves.0 c.tokens.place n c.tokens.draft c.in_ok-draft.draft c.in-Some.first.0 rest (take (c.tokens.place + n - c.tokens.place) rest)
          (scan_of c.args.bytes.now) first c.in-Some.ensures.some within (ap (λ (k : ℕ). take k rest) same) moves.1 moves.2 c.tokens.invariant.0),
      omega (arith, length-drop c.tokens.place c.args.bytes.now),
      c.in_ok-draft.ensures.numbered,
    )

pub returns-in_err-draft : goal.returns-in_err-draft
returns-in_err-draft c =
    let rest : List ℕ = drop c.tokens.place c.args.bytes.now in
    let n : ℕ = c.in-Some.first.1 in
    let rest_is : take (length c.args.bytes.now - c.tokens.place) (drop c.tokens.place c.args.bytes.now) ≡ rest = take_rest c.args.bytes.now c.tokens.place in
    let within : n ≤ length rest = subst (λ (xs : List ℕ). n ≤ length xs) rest_is c.in-Some.ensures.within in
    let first : first_token rest ≡ Some c.in-Some.first = sym (ap first_token rest_is) ∙ sym c.in-Some.ensures.exact in
    let same : (c.tokens.place + n) - c.tokens.place ≡ n = omega arith in
    let p = err_from_is_err_and c.from_residual.result c.from_residual.ensures.1 in
    rw (p.1, p.2)
    (record {
      exact = fails c.tokens.statements.items c.tokens.place n c.tokens.draft c.in-Some.first.0 rest (take (c.tokens.place + n - c.tokens.place) rest)
          (scan_of c.args.bytes.now) c.in_err-draft.field-0.0 first c.in-Some.ensures.some within (ap (λ (k : ℕ). take k rest) same) c.tokens.invariant.0 c.in_err-draft.ensures.exact;
    })

pub returns : goal.returns
returns c = record {
  exact =
      ends c.tokens.statements.items c.add.new.statements.items c.tokens.place c.tokens.draft (drop c.tokens.place c.args.bytes.now) (scan_of c.args.bytes.now)
      (sym (ap first_token (take_rest c.args.bytes.now c.tokens.place)) ∙ sym c.first_token.ensures.exact ∙ c.in_default.is)
      (c.in_ok-add.ensures.ok ∙ ap (λ (o : Option StatementSpan). c.tokens.statements.items ++ option_to_list o) c.finished.ensures)
      c.tokens.invariant.0;
}
