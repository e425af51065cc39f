use Rattle.std.proofs.Common.{◌≤◌, length, take, drop, ap, ◌∙◌, arith, length-drop}
use Rattle.std.proofs.lemmas.List.{length-take-le}
use Rattle.store_format.proofs.Places.{behind_both}
use Rattle.store_format.proofs.snapshot.parts.Goals as goal

pub returns-clause-body : goal.returns-clause-body
returns-clause-body c = c.split_at-3.ensures.back ∙ ap (drop 8) (c.split_at-2.ensures.back ∙ ap (drop 24) c.split_at.ensures.back) ∙ behind_both c.args.bytes.now

pub returns-clause-long : goal.returns-clause-long
returns-clause-long c =
    ap length (c.split_at-2.ensures.front ∙ ap (take 24) c.split_at.ensures.back)
    ∙ length-take-le 24 (drop 8 c.args.bytes.now) (omega (arith, length-drop 8 c.args.bytes.now, c.requires))
