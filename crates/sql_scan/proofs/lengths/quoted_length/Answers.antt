use Rattle.std.proofs.Common.{get_or, false, refl, sym, ◌∙◌, arith}
use Rattle.sql_scan.specs.Lengths.{quoted}
use Rattle.sql_scan.proofs.Closing.{quoted_stop, quoted_more, quoted_whole, quoted_open}
use Rattle.sql_scan.proofs.lengths.quoted_length.Goals as goal

pub returns-then-is_past_quote : goal.returns-then-is_past_quote
returns-then-is_past_quote c = record {
  exact =
      quoted_stop c.args.quote c.loop-i.odd c.args.bytes.now c.loop-i.i (get_or c.args.bytes.now c.loop-i.i 0) (quoted c.args.quote false c.args.bytes.now) (omega arith) refl
      (sym c.is_past_quote.ensures ∙ c.if-is_past_quote.true) c.loop-i.invariant;
  within = omega arith;
}

pub loop-i-preserved : goal.loop-i-preserved
loop-i-preserved c =
    rw c.is_odd_after-odd.ensures
    (quoted_more c.args.quote c.loop-i.odd c.args.bytes.now c.loop-i.i (get_or c.args.bytes.now c.loop-i.i 0) (quoted c.args.quote false c.args.bytes.now) (omega arith) refl
    (sym c.is_past_quote.ensures ∙ c.if-is_past_quote.false) c.loop-i.invariant)

pub returns-then-odd : goal.returns-then-odd
returns-then-odd c = record { exact = quoted_whole c.args.quote c.loop-i.odd c.args.bytes.now c.loop-i.i (quoted c.args.quote false c.args.bytes.now) (omega arith) (omega arith) c.if-odd.true c.loop-i.invariant; within = omega arith }

pub returns-else-odd : goal.returns-else-odd
returns-else-odd c = record { exact = quoted_open c.args.quote c.loop-i.odd c.args.bytes.now c.loop-i.i (quoted c.args.quote false c.args.bytes.now) (omega arith) c.if-odd.false c.loop-i.invariant; within = tt }
