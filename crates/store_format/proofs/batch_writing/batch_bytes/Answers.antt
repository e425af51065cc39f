use Rattle.std.proofs.Common.{◌≡◌, ◌≤◌, ◌+◌, ◌*◌, List, ℕ, length, drop, sym, ap, ◌∙◌, subst}
use Rattle.store_laws.specs.Store.{Log}
use Rattle.store_format.specs.Batches.{with_sums}
use Rattle.store_format.proofs.SumPlaces.{has_room, sums_are, whole_back}
use Rattle.store_format.proofs.batch_writing.batch_bytes.Goals as goal

pub put_sums-requires : goal.put_sums-requires
put_sums-requires c =
    let b : Log = record { first = c.args.first; entries = c.args.entries.now } in
    subst (λ (x : List ℕ). 32 + 16 * length c.args.entries.now ≤ length x) (sym c.as_mut_slice.ensures.value) (has_room b c.in_ok-bytes.bytes.items c.in_ok-bytes.ensures.body)

pub returns-clause-bytes : goal.returns-clause-bytes
returns-clause-bytes c =
    let b : Log = record { first = c.args.first; entries = c.args.entries.now } in
    let same : length c.put_sums.new.bytes ≡ length c.as_mut_slice.result.now = c.put_sums.auto.bytes in
    whole_back c.in_ok-bytes.bytes.len c.put_sums.new.bytes c.in_ok-bytes.bytes.items (same ∙ c.as_mut_slice.ensures.len) (same ∙ ap length c.as_mut_slice.ensures.value)
    ∙ c.put_sums.ensures ∙ ap (λ (x : List ℕ). with_sums (16 + 16 * length c.args.entries.now) (drop 16 x)) c.as_mut_slice.ensures.value ∙ sums_are b c.in_ok-bytes.bytes.items c.in_ok-bytes.ensures.body
