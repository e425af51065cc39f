-- A statement with a parameter more.
use Rattle.std.proofs.Common.{◌≡◌, ℕ, max, List, drop, Some, None, Result, Ok, Err, sym, ap, ◌∙◌}
use Rattle.sql_scan.specs.declared.draft.PartialStatement.{PartialStatement}
use Rattle.sql_scan.specs.declared.fault.ScanFault.{ScanFault}
use Rattle.sql_scan.specs.declared.fault.ScanFault.TheVariants.{Number}
use Rattle.sql_scan.specs.declared.token.TokenKind.TheVariants.{Parameter}
use Rattle.sql_scan.specs.Statements.{parameter, solid, counted, extended}

pub with_number : (draft s : PartialStatement) (at n m : ℕ) (bytes rest : List ℕ) → s ≡ solid draft at Parameter bytes → s.params ≡ draft.params → rest ≡ drop 1 bytes → parameter draft.params rest ≡ Some n
    → m ≡ max draft.params n → extended draft at Parameter bytes ≡ Ok (record s { params = m })
unfolding extended
with_number draft s at n m bytes rest is same cut found greater =
    ap (counted at (solid draft at Parameter bytes)) (sym (ap (parameter draft.params) cut) ∙ found)
    ∙ ap (λ (d : PartialStatement). counted at d (Some n)) (sym is)
    ∙ ap (λ (k : ℕ). let r : Result PartialStatement ScanFault = Ok (record s { params = k }) in r) (ap (λ (k : ℕ). max k n) same ∙ sym greater)

pub with_none : (draft : PartialStatement) (at : ℕ) (bytes rest : List ℕ) → rest ≡ drop 1 bytes → parameter draft.params rest ≡ None → extended draft at Parameter bytes ≡ Err (Number at)
unfolding extended
with_none draft at bytes rest cut found = ap (counted at (solid draft at Parameter bytes)) (sym (ap (parameter draft.params) cut) ∙ found)
