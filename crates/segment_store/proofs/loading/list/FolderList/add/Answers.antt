use Rattle.std.proofs.Common.{◌<◌, subst}
use Rattle.segment_store.specs.declared.names.File.{File}
use Rattle.segment_store.specs.FileNames.{number_of}
use Rattle.segment_store.proofs.LoadLists.{files_push}
use Rattle.segment_store.proofs.loading.list.FolderList.add.Goals as goal

pub invariant_of-self-in-First : goal.invariant_of-self-in-First
invariant_of-self-in-First c = (rw c.in_ok-push.ensures.items (files_push c.args.file c.self.inside.files.items c.requires c.self.invariant.0), c.self.invariant.1)

pub invariant_of-self-in-Second : goal.invariant_of-self-in-Second
invariant_of-self-in-Second c = (rw c.in_ok-push.ensures.items (files_push c.args.file c.self.inside.files.items c.requires c.self.invariant.0), c.self.invariant.1)

pub invariant_of-self-in-Segment : goal.invariant_of-self-in-Segment
invariant_of-self-in-Segment c =
    let small : c.in-Segment.number < 10000000000000000 = subst (λ (f : File). number_of f < 10000000000000000) c.in-Segment.is c.requires in
    (rw c.in_ok-push.ensures.items (files_push c.args.file c.self.inside.files.items c.requires c.self.invariant.0), (c.add_number.ensures.below small c.self.invariant.1.0, c.self.invariant.1.1))

pub invariant_of-self-in-Snapshot : goal.invariant_of-self-in-Snapshot
invariant_of-self-in-Snapshot c =
    let small : c.in-Snapshot.index < 10000000000000000 = subst (λ (f : File). number_of f < 10000000000000000) c.in-Snapshot.is c.requires in
    (rw c.in_ok-push.ensures.items (files_push c.args.file c.self.inside.files.items c.requires c.self.invariant.0), (c.self.invariant.1.0, c.add_number-in-Snapshot.ensures.below small c.self.invariant.1.1))
