use Rattle.page_store.proofs.History.{shows_image_pinned}
use Rattle.page_store.proofs.laws.live_mark_shows_image_pinned.Goals as goal

pub returns : goal.returns
returns c = shows_image_pinned
