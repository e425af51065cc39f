use Rattle.std.proofs.Common.{◌≡◌, ℕ, ◌+◌, ◌*◌, ◌-◌, min, drop, get_or, refl, ap, ◌∙◌, arith}
use Rattle.sql_scan.specs.Statements.{decimal}
use Rattle.sql_scan.proofs.Numbers.{decimal_more, decimal_all}
use Rattle.sql_scan.proofs.parameters.capped.Goals as goal

pub loop-digit-preserved : goal.loop-digit-preserved
loop-digit-preserved c =
    let d : ℕ = get_or c.args.digits.now c.loop-digit.digit-index 0 in
    let e : c.min-number.result ≡ min (10 * c.loop-digit.number + (d - 48)) 32767 = omega arith in (
      ap (λ (n : ℕ). min (decimal n (drop (c.loop-digit.digit-index + 1) c.args.digits.now)) 32767) e
          ∙ decimal_more c.loop-digit.number c.loop-digit.digit-index d c.args.digits.now (min (decimal 0 c.args.digits.now) 32767) (omega arith) refl c.loop-digit.invariant.0,
      omega arith,
    )

pub returns : goal.returns
returns c =
    decimal_all c.loop-digit.number c.loop-digit.digit-index c.args.digits.now (min (decimal 0 c.args.digits.now) 32767) (omega arith) c.loop-digit.invariant.1 c.loop-digit.invariant.0
