use Rattle.sqlite_engine.proofs.OpenImages.{is_open, numbered_over, if_some}
use Rattle.sqlite_engine.proofs.open_images.place_of.Goals as goal

pub returns-in-Some-clause-some : goal.returns-in-Some-clause-some
returns-in-Some-clause-some c = (c.in-Some.ensures.0, numbered_over c.args.list.now c.args.image.now c.args.number c.in-Some.at c.in-Some.ensures.0 c.requires c.in-Some.ensures.1)

pub returns-in-Some-clause-among : goal.returns-in-Some-clause-among
returns-in-Some-clause-among c =
    is_open c.args.list.now c.args.image.now c.in-Some.at c.in-Some.ensures.0 (numbered_over c.args.list.now c.args.image.now c.args.number c.in-Some.at c.in-Some.ensures.0 c.requires c.in-Some.ensures.1)

pub returns-in-None-clause-among : goal.returns-in-None-clause-among
returns-in-None-clause-among c = if_some c.place_compared.result _ _ (λ at h. is_open c.args.list.now c.args.image.now at h.0 h.1) c.place_compared.ensures.some
