use Rattle.page_tests.proofs.store.moves.Goals as goal

pub first_byte-byte-requires : goal.first_byte-byte-requires
first_byte-byte-requires c = (c.checkpoint-again.ensures.shown c.args.pin).live ((c.checkpoint-first.ensures.shown c.args.pin).live c.requires)

pub image_at-requires : goal.image_at-requires
image_at-requires c = (c.checkpoint-again.ensures.shown c.args.pin).live ((c.checkpoint-first.ensures.shown c.args.pin).live c.requires)

pub release-requires : goal.release-requires
release-requires c = (c.checkpoint-again.ensures.shown c.args.pin).live ((c.checkpoint-first.ensures.shown c.args.pin).live c.requires)
