use Rattle.std.proofs.lemmas.List.{get_or_default}
use Rattle.std.proofs.lemmas.Result.{err_from_is_err_and}
use Rattle.wire_words.specs.ReadingValues.{value_at, values_at}
use Rattle.wire_words.proofs.ReadingLoops.{each_more, each_end, each_done}
use Rattle.wire_words.proofs.values.values_of.Goals as goal

pub returns-in_err-value : goal.returns-in_err-value
returns-in_err-value c =
    let p = err_from_is_err_and c.from_residual.result c.from_residual.ensures.1 in
    rw (p.1, p.2) (each_end (value_at c.args.dialect) c.in_err-value.field-0.0 c.loop-value_type.values.items c.args.types.now c.loop-value_type.value_type-index _ c.loop-value_type.words (values_at c.args.dialect c.args.types.now c.args.words.now) c.loop-value_type-test.true (get_or_default c.args.types.now c.loop-value_type.value_type-index _ _ c.loop-value_type-test.true) c.in_err-value.ensures c.loop-value_type.invariant)

pub loop-value_type-preserved : goal.loop-value_type-preserved
loop-value_type-preserved c =
    rw c.in_ok-push.ensures.items (each_more (value_at c.args.dialect) c.loop-value_type.values.items c.args.types.now c.loop-value_type.value_type-index _ c.loop-value_type.words c.value_of.new.words c.in_ok-value.value (values_at c.args.dialect c.args.types.now c.args.words.now) c.loop-value_type-test.true (get_or_default c.args.types.now c.loop-value_type.value_type-index _ _ c.loop-value_type-test.true) c.in_ok-value.ensures c.loop-value_type.invariant)

pub returns : goal.returns
returns c = each_done (value_at c.args.dialect) c.loop-value_type.values.items c.args.types.now c.loop-value_type.value_type-index c.loop-value_type.words (values_at c.args.dialect c.args.types.now c.args.words.now) c.loop-value_type-test.false c.loop-value_type.invariant
