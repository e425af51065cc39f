use Rattle.std.proofs.Common.{get_or, refl, sym, ◌∙◌}
use Rattle.wire_words.specs.ReadingValues.{all_types}
use Rattle.wire_words.proofs.ReadingLoops.{types_more, types_end, types_done}
use Rattle.wire_words.proofs.values.known_types.Goals as goal

pub returns-in_default : goal.returns-in_default
returns-in_default c =
    rw c.from.ensures (types_end c.args.dialect c.args.at c.loop-code.types.items c.args.codes.now c.loop-code.code-index (get_or c.args.codes.now c.loop-code.code-index 0) (all_types c.args.dialect c.args.at c.args.codes.now) c.loop-code-test.true refl (sym c.with_code.ensures ∙ c.in_default.is) c.loop-code.invariant)

pub loop-code-preserved : goal.loop-code-preserved
loop-code-preserved c =
    rw c.in_ok-push.ensures.items (types_more c.args.dialect c.args.at c.loop-code.types.items c.args.codes.now c.loop-code.code-index (get_or c.args.codes.now c.loop-code.code-index 0) c.in-Some.value_type (all_types c.args.dialect c.args.at c.args.codes.now) c.loop-code-test.true refl (sym c.with_code.ensures ∙ c.in-Some.is) c.loop-code.invariant)

pub returns : goal.returns
returns c = types_done c.args.dialect c.args.at c.loop-code.types.items c.args.codes.now c.loop-code.code-index (all_types c.args.dialect c.args.at c.args.codes.now) c.loop-code-test.false c.loop-code.invariant
