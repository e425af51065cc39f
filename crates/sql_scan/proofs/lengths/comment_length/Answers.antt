use Rattle.std.proofs.Common.{get_or, false, refl, sym, ◌∙◌, arith}
use Rattle.sql_scan.specs.Lengths.{starred}
use Rattle.sql_scan.proofs.Closing.{starred_stop, starred_more, starred_all}
use Rattle.sql_scan.proofs.lengths.comment_length.Goals as goal

pub returns-then-ends_comment : goal.returns-then-ends_comment
returns-then-ends_comment c = record {
  exact =
      starred_stop c.loop-i.star c.args.bytes.now c.loop-i.i (get_or c.args.bytes.now c.loop-i.i 0) (starred false c.args.bytes.now) (omega arith) refl
      (sym c.ends_comment.ensures ∙ c.if-ends_comment.true) c.loop-i.invariant;
  within = omega arith;
}

pub loop-i-preserved : goal.loop-i-preserved
loop-i-preserved c =
    starred_more c.loop-i.star c.args.bytes.now c.loop-i.i (get_or c.args.bytes.now c.loop-i.i 0) (starred false c.args.bytes.now) (omega arith) refl
    (sym c.ends_comment.ensures ∙ c.if-ends_comment.false) c.loop-i.invariant

pub returns : goal.returns
returns c = record { exact = starred_all c.loop-i.star c.args.bytes.now c.loop-i.i (starred false c.args.bytes.now) (omega arith) c.loop-i.invariant; within = tt }
