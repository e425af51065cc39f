-- Entries that are changes, and changes that read.
use Rattle.std.proofs.Common.{◌≡◌, ◌≢◌, ℕ, suc, Bool, true, false, cond, List, [], ◌∷◌, ◌++◌, length, Option, Some, None, Result, Err, refl, sym, ap, subst, ◌∙◌, ◌&&◌}
use Rattle.raft_spec.specs.Log.{Entry}
use Rattle.raft_spec.specs.Node.{Server}
use Rattle.raft_messages.specs.declared.servers_fault.ServersFault.{ServersFault}
use Rattle.raft_messages.specs.declared.servers_fault.ServersFault.TheVariants.{Word, Order, Role, Limit, NoMemory}
use Rattle.raft_messages.specs.Servers.{servers_of, whole_servers, configuration_of, ServersFail}
use Rattle.raft_safety.specs.Members.{is_change, reads, servers_read, changes}
use Rattle.raft_membership.specs.Members.{Configurations, configuration_in, with_read, changed, read_setup, IsOf}
use Rattle.raft_membership.proofs.WholeLogs.{is_pushed, others_stay}

-- what no out of memory ended is no configuration
pub nothing_reads : (bytes : List ℕ) (fault : ServersFault) → fault ≢ NoMemory → ServersFail fault (servers_of bytes) → None ≡ configuration_of bytes
nothing_reads bytes fault n h = ap (whole_servers bytes) (sym (is_fault fault n (servers_of bytes) h))
  where
    is_fault : (fault : ServersFault) → fault ≢ NoMemory → (reading : Result (List Server × ℕ) ServersFault) → ServersFail fault reading → reading ≡ Err fault
    is_fault NoMemory n reading h = absurd (n refl)
    is_fault (Word w) n reading h = h
    is_fault (Order at) n reading h = h
    is_fault (Role at) n reading h = h
    is_fault (Limit at) n reading h = h

-- an entry that joins
pub is_taken : (opening : List Server) (log : List Entry) (e : Entry) (m : Configurations) (index : ℕ) →
    IsOf (read_setup opening) log m → index ≡ suc (length log) → IsOf (read_setup opening) (log ++ e ∷ []) (changed m index e)
is_taken opening log e m index h at = by_kind (is_change e.kind) refl (configuration_of e.bytes) refl
  where
    by_kind : (b : Bool) → is_change e.kind ≡ b → (o : Option (List Server)) → configuration_of e.bytes ≡ o → IsOf (read_setup opening) (log ++ e ∷ []) (changed m index e)
    by_kind false k o r =
        let is : changes (read_setup opening) e ≡ false = ap (λ (b : Bool). b && reads (configuration_of e.bytes)) k in
        let none : configuration_in e ≡ None = ap (λ (b : Bool). cond b (configuration_of e.bytes) None) k in
        subst (λ (x : Option (List Server)). IsOf (read_setup opening) (log ++ e ∷ []) (with_read m index x)) (sym none) (others_stay (read_setup opening) log m e h is)
    by_kind true k None r =
        let is : changes (read_setup opening) e ≡ false = ap (λ (b : Bool). b && reads (configuration_of e.bytes)) k ∙ ap reads r in
        let none : configuration_in e ≡ None = ap (λ (b : Bool). cond b (configuration_of e.bytes) None) k ∙ r in
        subst (λ (x : Option (List Server)). IsOf (read_setup opening) (log ++ e ∷ []) (with_read m index x)) (sym none) (others_stay (read_setup opening) log m e h is)
    by_kind true k (Some servers) r =
        let is : changes (read_setup opening) e ≡ true = ap (λ (b : Bool). b && reads (configuration_of e.bytes)) k ∙ ap reads r in
        let some : configuration_in e ≡ Some servers = ap (λ (b : Bool). cond b (configuration_of e.bytes) None) k ∙ r in
        subst (λ (x : Option (List Server)). IsOf (read_setup opening) (log ++ e ∷ []) (with_read m index x)) (sym some)
        (is_pushed (read_setup opening) log e m index servers h at is (ap servers_read r))
