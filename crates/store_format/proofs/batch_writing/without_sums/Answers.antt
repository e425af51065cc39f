use Rattle.std.proofs.Common.{List, ℕ, ◌++◌, drop, ap, ◌∙◌}
use Rattle.raft_messages.specs.Entries.{contents_bytes}
use Rattle.store_laws.specs.Store.{Log}
use Rattle.store_format.proofs.SumPlaces.{behind_room}
use Rattle.store_format.proofs.batch_writing.without_sums.Goals as goal

pub returns-clause-body : goal.returns-clause-body
returns-clause-body c =
    let b : Log = record { first = c.args.first; entries = c.args.entries.now } in
    ap (drop 16) (c.into_vec.ensures ∙ c.finish.ensures.bytes ∙ c.in_ok-write_entry_contents.ensures ∙ ap (λ (x : List ℕ). x ++ contents_bytes c.args.entries.now) c.in_ok-write_entry_heads.ensures.bytes)
    ∙ behind_room b _ c.in_ok-out.ensures.long c.in_ok-out.ensures.numbers
