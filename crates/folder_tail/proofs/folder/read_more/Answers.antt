use Rattle.std.proofs.Common.{ℕ, List, true, length, sym, subst, ap, ◌∙◌}
use Rattle.segment_store.specs.Reads.{ReadsOn}
use Rattle.segment_store.proofs.LoadSees.{looks_ok, piece_more}
use Rattle.folder_tail.proofs.folder.read_more.Goals as goal

pub returns-clause-told : goal.returns-clause-told
returns-clause-told g c =
    looks_ok _ _ _ true _ _ c.in_ok-count.ensures.told (λ d r. subst (λ (b : List ℕ). ReadsOn (d.read c.args.name.now).bytes c.args.bytes.now.items b true) (sym c.in_ok-push_front.ensures) (piece_more (d.read c.args.name.now).bytes c.args.bytes.now.items c.args.chunk.now c.read_at.new.into c.in_ok-count.count c.size_of-at.result (c.size_of-at.ensures ∙ ap length c.as_slice.ensures.value) r))
