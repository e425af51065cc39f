-- A start finds what the disk's files represented, which is nothing if there are none; and what is served from there on is a run.
use Rattle.std.proofs.Common.{◌≡◌, ◌≤◌, ℕ, ◌+◌, List, [], ◌++◌, length, sym, ap, ◌∙◌, subst, arith, length-append}
use Rattle.std.specs.Prelude.{Bool, true, false, Option}
use Rattle.disk_model.specs.Disk.{Disk, no_files}
use Rattle.disk_model.specs.Trait.{Text, told}
use Rattle.sql_engine.specs.declared.kind.EngineKind.{EngineKind}
use Rattle.sql_engine.specs.Meanings.{Meaning, Told}
use Rattle.raft_membership.specs.Members.{read_setup}
use Rattle.store_laws.specs.Chance.{Lawful, NoChance}
use Rattle.store_laws.specs.Store.{Kept, Outcome, Loaded, Damaged, NoMeta, Gap, Format, reader}
use Rattle.store_format.specs.NodeFormat.{node_format}
use Rattle.store_format.proofs.BatchesLawful.{is_lawful}
use Rattle.segment_store.specs.Keeps.{folder}
use Rattle.segment_store.specs.Loading.{kept_in}
use Rattle.node_spec.specs.Steps.{CompletesStart}
use Rattle.node_core.specs.declared.node.Node.{Node}
use Rattle.node_core.specs.Values.{kept_by, node_of, servers_told}
use Rattle.cluster_safety.specs.Runs.{nothing_kept}
use Rattle.node_meets_spec.proofs.FirstDisk.{first_disk_holds}
use Rattle.serve_safety.specs.Begun.{StartServes}
use Rattle.serve_safety.proofs.Alone.{alone_is_safe_hold}
use Rattle.serve_safety.proofs.Stepped.{serves_by_rules_hold}

-- ---- nothing is read by chance where there is nothing

no_batch : (f : Format) → Lawful f → (front rest : List ℕ) → [] ≡ front ++ rest → (reader f [] rest).size ≡ 0
no_batch f lawful front rest is =
    let e : (reader f [] rest).size ≤ length rest = (lawful.batches (f.version [])).size_within rest in
    let long : 0 ≡ length front + length rest = ap length is ∙ length-append front rest in
    omega (arith, e, long)

no_chance : (f : Format) → Lawful f → NoChance f (folder no_files) (folder no_files).read
no_chance f lawful = record {
  first = record { whole = λ h. absurd (h (lawful.meta_nil true)) };
  second = record { whole = λ h. absurd (h (lawful.meta_nil false)) };
  segment = λ k. record { each = λ front rest is whole h. absurd (h (no_batch f lawful front rest is)) };
  snapshot = λ j. record { whole = λ h. absurd (h (lawful.snap_nil j)) };
}

-- ---- what was kept

abbrev kept_in_it : Outcome → Kept
kept_in_it (Loaded kept) = kept
kept_in_it Damaged = nothing_kept
kept_in_it NoMeta = nothing_kept
kept_in_it (Gap first last) = nothing_kept

-- no files represent nothing
first_reads : kept_in (folder no_files).read ≡ Loaded nothing_kept
first_reads = first_disk_holds.crash (folder no_files).read first_disk_holds.seen (no_chance node_format is_lawful)

no_kept : (d : Disk Text) (node : Node) → d ≡ no_files → kept_in (folder d).read ≡ Loaded (kept_by node) → kept_by node ≡ nothing_kept
no_kept d node none reads = ap kept_in_it (sym reads ∙ ap (λ (x : Disk Text). kept_in (folder x).read) none ∙ first_reads)

module _ {D E : Type 0} (tells : Bool) (states : D → Disk Text → Type 0) (faults : D → ℕ) (meaning : EngineKind → Meaning) (kind : E → EngineKind) (heard : E → Option Told) (refused : E → ℕ) where
  pub start_serves_hold : StartServes tells states faults meaning kind heard refused
  start_serves_hold opening n node first disk disk_after engine engine_after before after said said_after budget end starts stands id runs d was seen =
      let x = starts.each d was seen in
      let by_rules = serves_by_rules_hold tells states faults meaning kind heard refused opening node disk disk_after engine engine_after before after said said_after budget end runs (told x.0 x.1.0 x.1.1.has) in
      let nothing : d ≡ no_files → kept_by node ≡ nothing_kept = λ none. no_kept d node none x.1.1.reads in
      record {
        reads = x.1.1.reads;
        by_rules = by_rules;
        nothing = nothing;
        alone = λ none links order. alone_is_safe_hold (meaning (kind engine)) (kind engine) (read_setup opening) n node.running by_rules.last.running (servers_told node) (heard engine) by_rules.told_last _ _
            (subst (λ (k : Kept). CompletesStart (read_setup opening) k (node_of node) (servers_told node)) (nothing none) stands) id links by_rules.path order;
      }
