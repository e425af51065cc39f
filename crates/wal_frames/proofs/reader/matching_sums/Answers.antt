use Rattle.std.proofs.Common.{sym, ap, ◌∙◌, arith}
use Rattle.std.proofs.lemmas.List.{take_rest}
use Rattle.wal_frames.specs.Text.{pair_of, frame_sums}
use Rattle.wal_frames.proofs.FrameLaws.{is_match-salts, is_match-sums, is_match-both, Stands-test}
use Rattle.wal_frames.proofs.HeaderLaws.{not_true, not_false}
use Rattle.wal_frames.proofs.reader.matching_sums.Goals as goal

pub returns-then-ne-clause-none : goal.returns-then-ne-clause-none
returns-then-ne-clause-none c =
    let bytes = c.args.bytes.now in
    is_match-salts c.args.header c.args.before bytes c.pair_of.result (c.pair_of.ensures ∙ ap pair_of (take_rest bytes 8)) (not_true _ (sym c.ne.ensures ∙ c.if-ne.true))

pub returns-then-ne-2-clause-none : goal.returns-then-ne-2-clause-none
returns-then-ne-2-clause-none c =
    let bytes = c.args.bytes.now in
    let sum = c.sums-sums.ensures ∙ ap (frame_sums c.args.header c.args.before) c.stated_frame.ensures.stated in
    is_match-sums c.args.header c.args.before bytes c.pair_of-2.result c.sums-sums.result (c.pair_of-2.ensures ∙ ap pair_of (take_rest bytes 16)) sum (not_true _ (sym c.ne-2.ensures ∙ c.if-ne-2.true))

pub returns-clause-found : goal.returns-clause-found
returns-clause-found c =
    let bytes = c.args.bytes.now in
    let sum = c.sums-sums.ensures ∙ ap (frame_sums c.args.header c.args.before) c.stated_frame.ensures.stated in
    let test = is_match-both c.args.header c.args.before bytes c.pair_of.result c.pair_of-2.result c.sums-sums.result (c.pair_of.ensures ∙ ap pair_of (take_rest bytes 8)) (not_false _ (sym c.ne.ensures ∙ c.if-ne.false)) (c.pair_of-2.ensures ∙ ap pair_of (take_rest bytes 16)) sum (not_false _ (sym c.ne-2.ensures ∙ c.if-ne-2.false)) in
    Stands-test c.args.header c.args.before bytes c.sums-sums.result c.requires (λ i. omega (arith, c.type_inv.bytes i)) test sum
