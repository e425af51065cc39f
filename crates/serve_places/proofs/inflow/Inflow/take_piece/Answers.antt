use Rattle.serve_places.proofs.Reading.{taken_front}
use Rattle.serve_places.proofs.inflow.Inflow.take_piece.Goals as goal

pub returns : goal.returns
returns c =
    taken_front c.self.inside.bytes.items c.self.inside.at c.self.inside.left _ _ c.args.self.now c.rest-rest.result.now _ c.self.view_is
    c.rest-rest.ensures c.next_size-size.ensures c.fitting-count.ensures.size c.fitting-count.ensures.held c.in_ok-piece.ensures
