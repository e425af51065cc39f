use Rattle.std.proofs.Common.{sym, ◌∙◌, arith}
use Rattle.std.specs.Prelude.{◌≡◌, ◌≤◌, ◌^◌, true}
use Rattle.dq_base.proofs.Numbers.{number_plain, number_text, number_parsed}
use Rattle.dq_base.proofs.decimal.decimal_u64.Goals as goal

most : 2 ^ 64 ≤ 2 ^ 64
most = omega arith

pub returns-then-not-is_plain : goal.returns-then-not-is_plain
returns-then-not-is_plain c =
    sym (number_plain (2 ^ 64) c.args.word.now most (λ plain. let yes : c.is_plain.result ≡ true = c.is_plain.ensures.1 plain in absurd cc))

pub returns-in_default : goal.returns-in_default
returns-in_default c = sym (number_text (2 ^ 64) c.args.word.now most c.in_default.ensures.cases.0)

pub returns : goal.returns
returns c =
    let same = c.in-Ok.ensures.cases.0 in
    let parsed = rw same at c.parse.ensures.value.0 in
    c.ok.ensures.value ∙ sym (number_parsed 64 c.args.word.now c.parse.result most (c.is_plain.ensures.0 cc) parsed)
