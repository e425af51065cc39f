use Rattle.std.proofs.Common.{List, length, refl, sym, ap, ◌∙◌}
use Rattle.disk_model.specs.Memory.{first_half}
use Rattle.disk_model.specs.Folder.{tables_of, replayed}
use Rattle.disk_model.specs.declared.open_calls.UnsyncedCall.{UnsyncedCall}
use Rattle.disk_model.proofs.Replaying.{picked_half}
use Rattle.disk_model.proofs.storage.replay_picked.Goals as goal

pub returns-in_ok-replay_half : goal.returns-in_ok-replay_half
returns-in_ok-replay_half c =
    picked_half c.args.calls.now c.args.pick (length c.args.calls.now) c.whole_calls.result c.args.folder.now c.replay.new.folder c.replay_half.new.folder refl c.whole_calls.ensures.whole (sym c.keeps_half.ensures ∙ c.if-keeps_half.true)
    (c.in_ok-replay.ensures ∙ ap (λ (l : List UnsyncedCall). replayed l (tables_of c.args.folder.now)) c.split_at.ensures.front)
    (c.in_ok-replay_half.ensures ∙ ap (λ (l : List UnsyncedCall). replayed (first_half l) (tables_of c.replay.new.folder)) c.split_at.ensures.back)
