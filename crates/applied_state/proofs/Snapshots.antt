-- A node's snapshot is read exactly if it is encoded, and gives back what was applied.
use Rattle.std.proofs.Common.{◌≡◌, ℕ, suc, Bool, true, false, true≢false, cond, List, [], ◌∷◌, ◌++◌, length, take, drop, Option, Some, None, Result, Ok, Err, refl, sym, ap, subst, ◌∙◌, take-append-drop, append_assoc, arith, ◌≤◌, length-append}
use Rattle.std.specs.Prelude.{◌==◌, ◌&&◌, nat_le, IsSome, IfOk}
use Rattle.std.specs.Option.{option_map}
use Rattle.std.specs.declared.alloc.AllocError.{AllocError}
use Rattle.std.proofs.lemmas.Result.{IfOk-weaker}
use Rattle.std.proofs.lemmas.Bool.{cond_both, cond-true, cond-false, le-leb, ne_eqb}
use Rattle.std.proofs.lemmas.List.{drop_at}
use Rattle.byteorder.specs.Endian.{little_number}
use Rattle.byteorder.specs.Numbers.{little_number-reads_back}
use Rattle.wire_words.specs.Items.{word, AreBytes}
use Rattle.dq_base.specs.declared.images.Image.{Image}
use Rattle.page_store.specs.Store.{IsLive, fresh_store}
use Rattle.page_store.proofs.History.{no_mark_at_first}
use Rattle.wire_words.proofs.Numbers.{AreBytes-drop}
use Rattle.raft_spec.specs.Log as raft
use Rattle.raft_spec.specs.Node.{Server}
use Rattle.raft_messages.specs.declared.servers_fault.ServersFault.{ServersFault}
use Rattle.raft_messages.specs.Servers.{servers_of, servers_bytes, each_bytes, WritesServers}
use Rattle.raft_messages.proofs.ServerLaws.{servers_found, servers_read}
use Rattle.database_state.specs.declared.fault.SnapFault.{SnapFault}
use Rattle.database_state.specs.Databases.{contents_of}
use Rattle.database_state.specs.Files.{Content}
use Rattle.database_state.specs.Machines.{IsMachine}
use Rattle.database_state.specs.declared.database.Database.{Database}
use Rattle.database_state.specs.Pins.{Pinning, at_place, is_live_in, IsPinned}
use Rattle.database_state.specs.Restoring.{snapshot_of, restored_at, restored_from, restored}
use Rattle.database_state.specs.Snapshot.{snapshot_text, IsSnapshot}
use Rattle.database_state.proofs.SnapshotLaws.{snapshot_passed, snapshot_stood}
use Rattle.session_spec.specs.Machine.{machine_of, files}
use Rattle.session_spec.specs.Seen.{log_seen}
use Rattle.applied_state.specs.declared.applied.Applied.{Applied}
use Rattle.applied_state.specs.Applied.{ShowsFiles, HasApplied}
use Rattle.applied_state.specs.Reading as reading
use Rattle.applied_state.specs.Laws.{SnapshotsRead, SnapshotsAreSpelled, BothFormsAreSpelled}
use Rattle.applied_state.specs.Snapshot.{NodeSnapshot, snapshot_value, SpellsSnapshot, snapshot_format, has_format, snapshot_body, snapshot_bytes, with_databases, of_parts, snapshot_in, IsRestoredIf, HasNoPinsIf, HasAppliedIf, IsBehind, contents_in, made_by, commits_of}
use Rattle.applied_state.proofs.Names.{own_contents, restored_shows, empty_files}

-- ---- both ways

pub snapshots_read_hold : SnapshotsRead
unfolding snapshot_in
snapshots_read_hold s bytes h =
    let front = servers_bytes s.servers in
    let text = snapshot_text s.contents in
    let body = snapshot_body bytes in
    ap (λ (r : Result (List Server × ℕ) ServersFault). of_parts body (reading.servers_read r)) (servers_read body s.servers front text h.servers h.parts)
    ∙ ap (λ (left : List ℕ). with_databases s.servers (reading.contents_read (snapshot_of left))) (ap (drop (length front)) h.parts ∙ drop_at front text (length front) refl)
    ∙ ap (λ (r : Result (List Content) SnapFault). with_databases s.servers (reading.contents_read r)) (snapshot_stood text s.contents h.databases)

joins : (servers : List Server) (place : ℕ) (contents : List Content) (bytes : List ℕ) → WritesServers servers (take place (snapshot_body bytes)) → IsSnapshot contents (drop place (snapshot_body bytes))
    → SpellsSnapshot (record { servers = servers; contents = contents }) bytes
joins servers place contents bytes w s = record {
  servers = subst (WritesServers servers) w.parts w;
  databases = subst (IsSnapshot contents) s.parts s;
  parts = sym (take-append-drop place (snapshot_body bytes)) ∙ ap (λ (front : List ℕ). front ++ drop place (snapshot_body bytes)) w.parts ∙ ap (λ (left : List ℕ). servers_bytes servers ++ left) s.parts;
}

some_same : {A : Type 0} {a b : A} → Some a ≡ Some b → a ≡ b
some_same q = cc

none_some : {A : Type 0} {a : A} → None ≡ Some a → ⊥
none_some q = cc

body_bytes : (bytes : List ℕ) → AreBytes bytes → AreBytes (snapshot_body bytes)
unfolding snapshot_body
body_bytes bytes are = cond_both (has_format bytes) (drop 8 bytes) bytes AreBytes (λ e. AreBytes-drop 8 bytes are) (λ e. are)

pub snapshots_spelled_hold : SnapshotsAreSpelled
unfolding snapshot_in
snapshots_spelled_hold s bytes are e = by (servers_of (snapshot_body bytes)) refl e
  where
    behind : (servers : List Server) (place : ℕ) → servers_of (snapshot_body bytes) ≡ Ok (servers, place) → (r : Result (List Content) SnapFault)
        → snapshot_of (drop place (snapshot_body bytes)) ≡ r → with_databases servers (reading.contents_read r) ≡ Some s → SpellsSnapshot s bytes
    behind servers place q (Ok contents) p e =
        let fits = body_bytes bytes are in
        let front = servers_found (snapshot_body bytes) servers place fits q in
        let back = snapshot_passed (drop place (snapshot_body bytes)) contents (AreBytes-drop place (snapshot_body bytes) fits) p in
        subst (λ (x : NodeSnapshot). SpellsSnapshot x bytes) (some_same e) (joins servers place contents bytes front back)
    behind servers place q (Err fault) p e = absurd (none_some e)

    by : (r : Result (List Server × ℕ) ServersFault) → servers_of (snapshot_body bytes) ≡ r → of_parts (snapshot_body bytes) (reading.servers_read r) ≡ Some s → SpellsSnapshot s bytes
    by (Ok read) q e = behind read.0 read.1 q (snapshot_of (drop read.1 (snapshot_body bytes))) refl e
    by (Err fault) q e = absurd (none_some e)

-- ---- what was read

-- by the configuration at the front and the databases that follow, or by none
pub reads_parts : (bytes body left : List ℕ) (read : Option (List Server × ℕ)) (p : List Server × ℕ) (r : Result (Option Applied) AllocError)
    → body ≡ snapshot_body bytes → read ≡ reading.servers_read (servers_of body) → read ≡ Some p → left ≡ drop p.1 body
    → IfOk r (λ o. option_map snapshot_value o ≡ with_databases p.0 (reading.contents_read (snapshot_of left)))
    → IfOk r (λ o. option_map snapshot_value o ≡ snapshot_in bytes)
unfolding snapshot_in
reads_parts bytes body left read p r eb er ep el h =
    let rest : with_databases p.0 (reading.contents_read (snapshot_of left)) ≡ of_parts body (Some p) =
    ap (λ (l : List ℕ). with_databases p.0 (reading.contents_read (snapshot_of l))) el in
    let all : of_parts body (Some p) ≡ of_parts (snapshot_body bytes) (reading.servers_read (servers_of (snapshot_body bytes))) =
    ap (of_parts body) (sym ep ∙ er) ∙ (λ i. of_parts (eb i) (reading.servers_read (servers_of (eb i)))) in
    IfOk-weaker r _ _ (λ o q. q ∙ rest ∙ all) h

pub reads_nothing : (bytes body : List ℕ) (read : Option (List Server × ℕ)) → body ≡ snapshot_body bytes
    → read ≡ reading.servers_read (servers_of body) → read ≡ None → option_map snapshot_value None ≡ snapshot_in bytes
unfolding snapshot_in
reads_nothing bytes body read eb er en = ap (of_parts body) (sym en ∙ er) ∙ (λ i. of_parts (eb i) (reading.servers_read (servers_of (eb i))))

pub restored_if : (index place : ℕ) (servers : List Server) (bytes : List ℕ) (o : Option Applied) → WritesServers servers (take place (snapshot_body bytes))
    → IsBehind index servers (drop place (snapshot_body bytes)) o → IsRestoredIf index bytes o
restored_if index place servers bytes None w h = tt
restored_if index place servers bytes (Some a) w h = record {
  index_is = h.0;
  spelled = subst (λ (ss : List Server). SpellsSnapshot (record { servers = ss; contents = contents_of a.machine }) bytes) (sym h.1) (joins servers place (contents_of a.machine) bytes w h.2.0);
  fresh = h.2.1;
}

pub applied_if : (opening : List Server) (front : List raft.Entry) (index : ℕ) (bytes : List ℕ) (o : Option Applied) → length front ≡ index → SpellsSnapshot (made_by opening front) bytes → IsRestoredIf index bytes o → HasAppliedIf opening (commits_of front) front o
applied_if opening front index bytes None len spelled found = tt
applied_if opening front index bytes (Some a) len spelled found =
    let m = files (log_seen front) in
    let same : snapshot_value a ≡ made_by opening front = some_same (sym (snapshots_read_hold (snapshot_value a) bytes found.spelled) ∙ snapshots_read_hold (made_by opening front) bytes spelled) in
    record {
      index = found.index_is ∙ sym len;
      servers = ap (λ (s : NodeSnapshot). s.servers) same;
      databases = subst (ShowsFiles (commits_of front) m) (sym (found.fresh ∙ ap (λ (s : NodeSnapshot). restored s.contents) same)) (restored_shows m (empty_files (log_seen front)));
    }

-- a database that was read has no live mark
live_nowhere : (image : Image) (mark : ℕ) → IsLive (fresh_store image) mark → ⊥
live_nowhere image mark h = true≢false (sym (subst (λ (o : Option ℕ). IsSome o) (no_mark_at_first mark) h))

live_or : (b : Bool) (d : Database) (o : Option Database) (mark : ℕ) → (IsLive d.store mark → ⊥) → (is_live_in o mark → ⊥) → is_live_in (cond b (Some d) o) mark → ⊥
live_or true d o mark own rest h = own h
live_or false d o mark own rest h = rest h

restored_pins : (contents : List Content) (place : ℕ) (pin : Pinning) → IsPinned (restored_from place contents) pin → ⊥
restored_pins [] place pin h = h
restored_pins (c ∷ contents) place pin h =
    live_or (place == pin.place) (restored_at place c) (at_place pin.place (restored_from (suc place) contents)) pin.mark (live_nowhere c.image pin.mark) (restored_pins contents (suc place) pin) h

pub unpinned_if : (index : ℕ) (bytes : List ℕ) (o : Option Applied) → IsRestoredIf index bytes o → HasNoPinsIf o
unpinned_if index bytes None found = tt
unpinned_if index bytes (Some a) found = λ pin h. restored_pins (contents_of a.machine) 0 pin (subst (λ (ds : List Database). IsPinned ds pin) found.fresh h)

-- ---- what is written

pub made_is : (a : Applied) → IsMachine a.machine → (opening : List Server) (lacks : List ℕ → ℕ) (front : List raft.Entry) → HasApplied opening lacks front a → snapshot_value a ≡ made_by opening front
made_is a stand opening lacks front h =
    let same : contents_of a.machine ≡ contents_in (files (log_seen front)) = sym (own_contents a.machine stand.in_order) ∙ sym (ap contents_in h.databases.1) in
    λ i. record { servers = h.servers i; contents = same i }

-- the format word is taken off, if there is one
pub format_taken : (rest : List ℕ) → snapshot_body (word snapshot_format ++ rest) ≡ rest
unfolding snapshot_body
format_taken rest =
    let all = word snapshot_format ++ rest in
    let long : nat_le 8 (length all) ≡ true = le-leb 8 (length all) (omega (arith, length-append (word snapshot_format) rest)) in
    let is : little_number 8 all ≡ snapshot_format = little_number-reads_back 8 snapshot_format rest (omega arith) in
    cond-true _ _ _ (λ i. long i && (is i == snapshot_format))

no_format : (servers : List Server) (rest : List ℕ) → length servers ≤ 9 → snapshot_body (servers_bytes servers ++ rest) ≡ servers_bytes servers ++ rest
unfolding snapshot_body
no_format servers rest few =
    let all = servers_bytes servers ++ rest in
    let n = length servers in
    let is : little_number 8 all ≡ n =
    ap (little_number 8) (append_assoc (word n) (each_bytes servers) rest)
    ∙ little_number-reads_back 8 n (each_bytes servers ++ rest) (omega arith) in
    let other : (little_number 8 all == snapshot_format) ≡ false = ne_eqb (little_number 8 all) snapshot_format (λ e. absurd (omega (arith, e, is, few))) in
    cond-false _ _ _ (ap (λ (b : Bool). nat_le 8 (length all) && b) other ∙ no_second (nat_le 8 (length all)))
  where
    no_second : (b : Bool) → (b && false) ≡ false
    no_second true = refl
    no_second false = refl

pub both_forms_hold : BothFormsAreSpelled
both_forms_hold s w d = record {
  written = record { servers = w; databases = d; parts = format_taken (servers_bytes s.servers ++ snapshot_text s.contents) };
  before = record { servers = w; databases = d; parts = no_format s.servers (snapshot_text s.contents) w.is.few };
}

pub writes_itself : (servers : List Server) (bytes : List ℕ) → WritesServers servers bytes → WritesServers servers (servers_bytes servers)
writes_itself servers bytes w = subst (WritesServers servers) w.parts w

-- its three parts, one after the other
pub joined_bytes : (servers : List Server) (contents : List Content) (front all : List ℕ) → front ≡ word snapshot_format ++ servers_bytes servers
    → all ≡ front ++ snapshot_text contents → all ≡ snapshot_bytes servers contents
joined_bytes servers contents front all f is =
    is ∙ ap (λ (x : List ℕ). x ++ snapshot_text contents) f ∙ append_assoc (word snapshot_format) (servers_bytes servers) (snapshot_text contents)

pub joined_spelled : (servers : List Server) (contents : List Content) (front all : List ℕ) → front ≡ word snapshot_format ++ servers_bytes servers
    → all ≡ front ++ snapshot_text contents → WritesServers servers (servers_bytes servers) → IsSnapshot contents (snapshot_text contents)
    → SpellsSnapshot (record { servers = servers; contents = contents }) all
joined_spelled servers contents front all f is w d =
    let s : NodeSnapshot = record { servers = servers; contents = contents } in
    subst (SpellsSnapshot s) (sym (joined_bytes servers contents front all f is)) (both_forms_hold s w d).written

pub bytes_are : (a : Applied) → IsMachine a.machine → (bytes : List ℕ) → bytes ≡ snapshot_bytes a.servers (contents_of a.machine)
    → bytes ≡ snapshot_bytes a.servers (contents_in (machine_of a.machine))
bytes_are a stand bytes is = is ∙ ap (snapshot_bytes a.servers) (sym (own_contents a.machine stand.in_order))
