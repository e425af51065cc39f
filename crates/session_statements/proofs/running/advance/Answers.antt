use Rattle.std.proofs.Common.{◌<◌, ◌≤◌, length, refl, ap, ◌∙◌, arith}
use Rattle.std.proofs.lemmas.List.{drop_more}
use Rattle.session_statements.specs.Running.{stops_cut, stops_unopened}
use Rattle.session_statements.proofs.Reaching.{reached_start}
use Rattle.session_statements.proofs.Standing.{standing_more, standing_stops, standing_ends, touches_step}
use Rattle.sql_engine.proofs.Knowing.{all_contained}
use Rattle.image_diff.proofs.Touched.{lists_nothing}
use Rattle.session_statements.proofs.running.advance.Goals as goal

pub loop-piece-init : goal.loop-piece-init
loop-piece-init g c = record {
  standing = record {
    same_kind = refl;
    fit = c.requires.fit;
    reached = rw c.requires.start (reached_start _ _ _ _ _);
  };
  counted = omega arith;
  known = all_contained _;
  listed = rw c.requires.untouched (lists_nothing _);
  kept = refl;
}

pub loop-piece-preserved : goal.loop-piece-preserved
loop-piece-preserved g c =
    let at : c.loop-piece.piece-index < length c.args.pieces.now = omega arith in
    let so_far = c.loop-piece.invariant in
    record {
      standing = standing_more g.E.Engine.meaning _ _ _ _ _ _ _ _ _ _ _ _ _ _ _ _ _ _ _ _ _ _ so_far.standing c.in_ok-ending.ensures.step c.piece_text-one.ensures (drop_more _ _ _ at) c.split_at.ensures.front c.split_at.ensures.back
          c.step.ensures.stays.kind c.split_at.ensures.back_len c.in-None.is;
      counted = let more = c.step.ensures.stays.openings in omega arith;
      known = rw c.step.ensures.known (λ k d lt. absurd (omega (arith, lt)));
      listed = touches_step g.E.Engine.meaning _ _ (g.E.Engine.kind c.step.new.engine) _ _ _ _ _ _ _ _ _ _ _ _ _ _ _ _ _ _ _ so_far.standing c.in_ok-ending.ensures.step c.piece_text-one.ensures (drop_more _ _ _ at) c.split_at.ensures.front c.split_at.ensures.back
          _ _ c.in-None.is c.in_ok-ending.ensures.touched so_far.listed;
      kept = c.step.ensures.kept ∙ so_far.kept;
    }

pub returns-in-Some-clause-ran : goal.returns-in-Some-clause-ran
returns-in-Some-clause-ran g c =
    let at : c.loop-piece.piece-index < length c.args.pieces.now = omega arith in
    standing_stops g.E.Engine.meaning _ _ (g.E.Engine.kind c.step.new.engine) _ _ _ _ _ _ _ _ _ _ _ _ _ _ _ c.step.new.progress.answer _ _ _ c.loop-piece.invariant.standing c.in_ok-ending.ensures.step c.piece_text-one.ensures (drop_more _ _ _ at) c.split_at.ensures.front c.split_at.ensures.back
    _ c.in-Some.is

pub returns-clause-ran : goal.returns-clause-ran
returns-clause-ran g c =
    let past : length c.args.pieces.now ≤ c.loop-piece.piece-index = omega arith in
    standing_ends _ _ _ _ _ _ _ _ _ _ _ _ _ c.loop-piece.invariant.standing past

pub returns-in-Some-clause-unopened : goal.returns-in-Some-clause-unopened
returns-in-Some-clause-unopened g c = λ unopened.
    let rose = c.in_ok-ending.ensures.unopened (ap stops_unopened c.in-Some.is ∙ unopened) in
    omega arith

pub returns-in-Some-clause-cut : goal.returns-in-Some-clause-cut
returns-in-Some-clause-cut g c = λ cut. c.in_ok-ending.ensures.cut (ap stops_cut c.in-Some.is ∙ cut)
