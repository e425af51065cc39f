use Rattle.std.proofs.Common.{◌≡◌, List, length, Ok, sym, ap, ◌∙◌}
use Rattle.std.proofs.lemmas.Bool.{eqb-true, eqb-false}
use Rattle.sql_scan.specs.declared.pieces.StatementSpan.{StatementSpan}
use Rattle.session_spec.specs.Sessions.{Prepared}
use Rattle.session_spec.specs.Asking.{asks_one, asks_text}
use Rattle.session_requests.specs.Meant.{hinders_named}
use Rattle.session_requests.proofs.Counted.{not_one, just_one}
use Rattle.session_requests.proofs.text_requests.wanted_by_pieces.Goals as goal

pub returns-then-is_sole-clause-wants : goal.returns-then-is_sole-clause-wants
returns-then-is_sole-clause-wants c =
    let one : length c.args.pieces ≡ 1 = sym (ap length c.as_slice.ensures) ∙ eqb-true (length c.as_slice.result.now) 1 (sym c.is_sole.ensures ∙ c.if-is_sole.true) in
    let there : length c.as_slice-then-is_sole.result.now ≡ 1 = ap length c.as_slice-then-is_sole.ensures ∙ one in
    c.wanted_by_one.ensures.wants ∙ ap (λ (p : Prepared). asks_one (hinders_named c.args.hinders) c.args.inside p c.args.params.now) c.in_ok-prepared.ensures
    ∙ sym (just_one (hinders_named c.args.hinders) c.args.inside c.args.sql.now c.as_slice-then-is_sole.result.now c.args.params.now _ there)
    ∙ ap (λ (ps : List StatementSpan). asks_text (hinders_named c.args.hinders) c.args.inside c.args.sql.now (Ok ps) c.args.params.now) c.as_slice-then-is_sole.ensures

pub returns-clause-wants : goal.returns-clause-wants
returns-clause-wants c =
    let other : length c.args.pieces ≡ 1 → ⊥ = λ (e : length c.args.pieces ≡ 1). eqb-false (length c.as_slice.result.now) 1 (sym c.is_sole.ensures ∙ c.if-is_sole.false) (ap length c.as_slice.ensures ∙ e) in
    c.in_ok-wanted.ensures.wants ∙ sym (not_one (hinders_named c.args.hinders) c.args.inside c.args.sql.now c.args.pieces c.args.params.now other)
