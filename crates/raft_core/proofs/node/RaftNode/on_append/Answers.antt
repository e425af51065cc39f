use Rattle.std.proofs.Common.{List, ◌+◌, length, ◌∙◌, sym, ap, subst}
use Rattle.std.specs.Prelude.{max}
use Rattle.raft_spec.specs.Log.{Entry, LogEnd}
use Rattle.raft_spec.specs.NodeValues.{node_of}
use Rattle.raft_spec.specs.Replication.{on_append}
use Rattle.raft_core.specs.Effects.{Takes}
use Rattle.raft_core.proofs.VoteRules.{effects_are}
use Rattle.raft_core.proofs.AppendRules.{append_leads, append_differs, append_lost, replaces_past, append_takes}
use Rattle.raft_core.proofs.node.RaftNode.on_append.Goals as goal

pub returns-then-leads : goal.returns-then-leads
returns-then-leads c =
    let h = c.args.self.now in
    effects_are h h (on_append h.id (node_of h) c.args.from c.args.prev c.args.commit c.args.entries.items) c.says.result _ c.says.ensures (append_leads h c.args.from c.args.prev c.args.commit c.args.entries.items (sym c.leads.ensures ∙ c.if-leads.true))

pub returns-then-not-agrees : goal.returns-then-not-agrees
returns-then-not-agrees c =
    let h = c.args.self.now in
    effects_are h c.follow.new.self (on_append h.id (node_of h) c.args.from c.args.prev c.args.commit c.args.entries.items) c.says-then-not-agrees.result _ c.says-then-not-agrees.ensures (append_differs h c.follow.new.self c.args.from c.args.prev c.args.commit c.args.entries.items c.last_index-index.result (sym c.leads.ensures ∙ c.if-leads.false) (sym c.agrees.ensures.answer ∙ c.if-not-agrees.true) c.last_index-index.ensures c.follow.ensures)

pub returns-then-replaces_committed : goal.returns-then-replaces_committed
returns-then-replaces_committed c =
    let h = c.args.self.now in
    let place = c.place_past-place.ensures ∙ ap (λ (e : LogEnd). max c.args.prev.index e.index) c.snapshot.ensures in
    let lost = replaces_past h c.args.prev c.args.entries.items c.as_slice-2.result.now c.place_past-place.result place (c.as_slice-2.ensures.value ∙ c.past-coming.ensures) ∙ sym c.replaces_committed.ensures ∙ c.if-replaces_committed.true in
    effects_are h h (on_append h.id (node_of h) c.args.from c.args.prev c.args.commit c.args.entries.items) c.says-then-replaces_committed.result _ c.says-then-replaces_committed.ensures (append_lost h c.args.from c.args.prev c.args.commit c.args.entries.items (sym c.leads.ensures ∙ c.if-leads.false) (sym c.agrees.ensures.answer ∙ c.if-not-agrees.false) lost)

pub returns : goal.returns
returns c =
    let h = c.args.self.now in
    let place = c.place_past-place.ensures ∙ ap (λ (e : LogEnd). max c.args.prev.index e.index) c.snapshot.ensures in
    let kept = replaces_past h c.args.prev c.args.entries.items c.as_slice-2.result.now c.place_past-place.result place (c.as_slice-2.ensures.value ∙ c.past-coming.ensures) ∙ sym c.replaces_committed.ensures ∙ c.if-replaces_committed.false in
    let taken = subst (λ n. Takes c.follow-2.new.self c.take_in.new.self c.place_past-place.result c.past-coming.result.items n c.in_ok-change.change) c.known_commit.ensures c.in_ok-change.ensures in
    append_takes h c.follow-2.new.self c.take_in.new.self c.args.from c.args.prev c.args.commit c.args.entries.items c.past-coming.result.items c.place_past-place.result c.last_known-index.result c.in_ok-change.change (sym c.leads.ensures ∙ c.if-leads.false) (sym c.agrees.ensures.answer ∙ c.if-not-agrees.false) kept c.follow-2.ensures place c.past-coming.ensures (c.last_known-index.ensures ∙ ap (λ (es : List Entry). c.args.prev.index + length es) c.as_slice.ensures.value) taken
