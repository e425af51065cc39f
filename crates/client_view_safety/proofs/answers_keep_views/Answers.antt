use Rattle.client_view_safety.proofs.Keeping.{answers_keep_views_hold}
use Rattle.client_view_safety.proofs.answers_keep_views.Goals as goal

pub returns : goal.returns
returns c = answers_keep_views_hold
