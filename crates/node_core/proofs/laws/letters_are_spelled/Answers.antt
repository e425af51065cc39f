use Rattle.node_core.proofs.Sending.{begins_apart, events_stay_apart, moves_stay_apart, carrying_begins, carrying_hears, carrying_sends, carrying_stays}
use Rattle.node_core.proofs.laws.letters_are_spelled.Goals as goal

pub returns : goal.returns
returns c =
    let law = c.peer_pieces_are_joined.ensures in
    record {
      apart = (begins_apart, events_stay_apart, moves_stay_apart);
      begins = carrying_begins law.handed law.taken law.received;
      hears = carrying_hears law.handed law.taken law.received;
      sends = carrying_sends law.handed law.taken law.received;
      stays = carrying_stays law.handed law.taken law.received;
    }
