use Rattle.page_tests.proofs.store.moves_around_a_pin.Goals as goal

pub moves-requires : goal.moves-requires
moves-requires c = (c.commit.ensures.shown c.in-Ok.pin).live c.in-Ok.ensures.shows.0
