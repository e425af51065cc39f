use Rattle.std.proofs.Common.{◌≡◌, true, false, nat_eq, refl, ap, subst}
use Rattle.raft_spec.specs.Log.{Entry}
use Rattle.node_core.proofs.OneChange.{owns_so, owns_not}
use Rattle.node_core.proofs.running.Running.owns_commit.Goals as goal

pub returns-in-Some-clause-owns : goal.returns-in-Some-clause-owns
returns-in-Some-clause-owns c = λ e.
    owns_so c.args.self.now.replica.raft c.view-raft.result.commit c.view-raft.result.term c.in-Some.entry.now c.view-raft.ensures.commit c.view-raft.ensures.term (c.in-Some.ensures.some.0 refl) c.in-Some.ensures.entry
    (subst (λ n. nat_eq n c.view-raft.result.term ≡ true) (ap (λ (z : Entry). z.term) c.entry-in-Some.view_is) e)

pub returns-in-Some-clause-not : goal.returns-in-Some-clause-not
returns-in-Some-clause-not c = λ e.
    owns_not c.args.self.now.replica.raft c.view-raft.result.commit c.view-raft.result.term c.in-Some.entry.now c.view-raft.ensures.commit c.view-raft.ensures.term (c.in-Some.ensures.some.0 refl) c.in-Some.ensures.entry
    (subst (λ n. nat_eq n c.view-raft.result.term ≡ false) (ap (λ (z : Entry). z.term) c.entry-in-Some.view_is) e)
