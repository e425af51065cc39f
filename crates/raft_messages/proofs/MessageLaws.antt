-- A message of a peer is read exactly if the bytes are its encoding.
use Rattle.std.proofs.Common.{◌≡◌, ℕ, zero, suc, ◌+◌, ◌<◌, ◌≤◌, ◌^◌, ◌⊎◌, Bool, true, false, cond, ◌&&◌, eqb, inl, inr, List, [], ◌∷◌, ◌++◌, length}
use Rattle.std.proofs.Common.{Option, Some, None, Result, Ok, Err, refl, sym, ap, subst, ◌∙◌, arith}
use Rattle.std.specs.Prelude.{◌≢◌, IfOk, ◌==◌, nat_le}
use Rattle.std.proofs.lemmas.Bool.{cond-true, cond-false, cond_both, eq-eqb, ne_eqb, eqb-true, leb-true, le-leb, lt-leb}
use Rattle.std.proofs.lemmas.List.{nil_from_length, append-nil}
use Rattle.raft_spec.specs.Log.{Entry, LogEnd}
use Rattle.wire_words.specs.declared.fault.WordFault.{WordFault}
use Rattle.wire_words.specs.declared.message.Message.{Message}
use Rattle.wire_words.specs.declared.value.Dialect.TheVariants.{Exact}
use Rattle.wire_words.specs.Items.{word, AreBytes}
use Rattle.wire_words.specs.Reading.{◌>>=◌, Unread, unread, word_at, blob_at}
use Rattle.wire_words.proofs.Choices.{one_of, none_of}
use Rattle.wire_words.proofs.ReadBack.{bind_ok, ok_is, passed}
use Rattle.raft_messages.specs.declared.fault.PeerFault.{PeerFault}
use Rattle.raft_messages.specs.declared.fault.PeerFault.TheVariants.{Kind, Range, Tail}
use Rattle.raft_messages.specs.declared.kind.MessageKind.{MessageKind}
use Rattle.raft_messages.specs.declared.kind.MessageKind.TheVariants as kinds
use Rattle.raft_messages.specs.declared.message.MessageBody.{MessageBody}
use Rattle.raft_messages.specs.declared.message.MessageBody.TheVariants.{AskVote, Vote, Append, Ack, Install, TimeoutNow}
use Rattle.raft_messages.specs.declared.message.RaftMessage.{RaftMessage}
use Rattle.raft_messages.specs.declared.items.UncheckedBody.{UncheckedBody}
use Rattle.raft_messages.specs.Entries.{heads_bytes, contents_bytes, heads_at, contents_at}
use Rattle.raft_messages.specs.Messages.{Field, Entries, flag, what_number, what_fields, message_fields, field_bytes, fields_bytes, body_bytes, what_mark}
use Rattle.raft_messages.specs.Messages.{message_schema, Holds, AllHold, numbers_fit, Reads}
use Rattle.raft_messages.specs.Reading.{in_message, message_kind, log_end_at, entries_at, ask_vote_at, vote_at, append_at, ack_at, install_at, said_at}
use Rattle.raft_messages.specs.Reading.{items_at, ended, may_mark, mark_in, body_in, message_in, peer_message_of, Gives}
use Rattle.wire_words.proofs.Passing.{Passed, passed_none, pass_none, passed_both, between, passed_first, passed_second, bytes_after, word_passed, word_stood, blob_passed, blob_stood}
use Rattle.raft_messages.proofs.EntryLaws.{read_heads, heads_passed, heads_stood, contents_passed, contents_stood, heads_of, heads_are, heads_fit, as_many}

-- ---- fields that a reader passed one after the other

abbrev pub AllPassed : List Field → Unread → Unread → Type 0
AllPassed [] old new = old ≡ new
AllPassed (f ∷ fs) old new = (next : Unread) × Holds f × Passed (field_bytes f) old next × AllPassed fs next new

fields_hold : (fs : List Field) (old new : Unread) → AllPassed fs old new → AllHold fs
fields_hold [] old new p = tt
fields_hold (f ∷ fs) old new p = (p.1, fields_hold fs p.0 new p.3)

fields_passed : (fs : List Field) (old new : Unread) → AllPassed fs old new → Passed (fields_bytes fs) old new
fields_passed [] old new p = subst (λ (x : Unread). Passed [] old x) p (pass_none old)
fields_passed (f ∷ fs) old new p = passed_both old p.0 new (field_bytes f) (fields_bytes fs) p.2 (fields_passed fs p.0 new p.3)

fields_stood : (fs : List Field) (old new : Unread) → AllHold fs → Passed (fields_bytes fs) old new → AllPassed fs old new
fields_stood [] old new h p = passed_none old new p
fields_stood (f ∷ fs) old new h p =
    let mid = between old (field_bytes f) (fields_bytes fs) new in
    (mid, h.0, passed_first old new (field_bytes f) (fields_bytes fs) p, fields_stood fs mid new h.1 (passed_second old new (field_bytes f) (fields_bytes fs) p))

-- ---- places and entries

record PassedEnd (end : LogEnd) (old new : Unread) : Type 0 where
  pub mid : Unread
  pub index_fits : end.index < 2 ^ 64
  pub index : Passed (word end.index) old mid
  pub term_fits : end.term < 2 ^ 64
  pub term : Passed (word end.term) mid new
  pub after : AreBytes new.bytes

log_end_passed : (old new : Unread) (end : LogEnd) → AreBytes old.bytes → log_end_at old ≡ Ok (end, new) → PassedEnd end old new
unfolding log_end_at
log_end_passed old new end fits e =
    let a = bind_ok (word_at old) (λ index. word_at index.1 >>= λ term. Ok (record { index = index.0; term = term.0 }, term.1)) (end, new) e in
    let b = bind_ok (word_at a.0.1) (λ term. Ok (record { index = a.0.0; term = term.0 }, term.1)) (end, new) a.2 in
    let made : LogEnd × Unread = (record { index = a.0.0; term = b.0.0 }, b.0.1) in
    let first = word_passed old a.0.1 a.0.0 fits a.1 in
    let fits1 = bytes_after (word a.0.0) old a.0.1 first.1 fits in
    let second = word_passed a.0.1 b.0.1 b.0.0 fits1 b.1 in
    subst (λ (x : LogEnd × Unread). PassedEnd x.0 old x.1) (ok_is made (end, new) b.2)
    (record { mid = a.0.1; index_fits = first.0; index = first.1; term_fits = second.0; term = second.1; after = bytes_after (word b.0.0) a.0.1 b.0.1 second.1 fits1 })

log_end_stood : (end : LogEnd) (old mid new : Unread) → end.index < 2 ^ 64 → Passed (word end.index) old mid → end.term < 2 ^ 64 → Passed (word end.term) mid new → log_end_at old ≡ Ok (end, new)
unfolding log_end_at
log_end_stood end old mid new fits index more term = rw (word_stood old mid end.index fits index, word_stood mid new end.term more term) refl

entries_passed : (old new : Unread) (es : List Entry) → AreBytes old.bytes → entries_at old ≡ Ok (es, new) → Holds (Entries es) × Passed (field_bytes (Entries es)) old new
unfolding entries_at
entries_passed old new es fits e =
    let a = bind_ok (word_at old) (λ count. heads_at count.0 count.1 >>= λ heads. contents_at heads.0 heads.1) (es, new) e in
    let b = bind_ok (heads_at a.0.0 a.0.1) (λ heads. contents_at heads.0 heads.1) (es, new) a.2 in
    let first = word_passed old a.0.1 a.0.0 fits a.1 in
    let heads = heads_passed a.0.0 a.0.1 b.0.1 b.0.0 (bytes_after (word a.0.0) old a.0.1 first.1 fits) b.1 in
    let contents = contents_passed b.0.0 b.0.1 new es b.2 in
    let count : a.0.0 ≡ length es = sym heads.many ∙ sym contents.many in
    let number : (length es < 2 ^ 64) × Passed (word (length es)) old a.0.1 = subst (λ (n : ℕ). (n < 2 ^ 64) × Passed (word n) old a.0.1) count first in
    let front : Passed (heads_bytes es) a.0.1 b.0.1 = subst (λ (x : List ℕ). Passed x a.0.1 b.0.1) contents.heads heads.passed in
    ((number.0, contents.fit heads.fit), passed_both old a.0.1 new (word (length es)) (heads_bytes es ++ contents_bytes es) number.1 (passed_both a.0.1 b.0.1 new (heads_bytes es) (contents_bytes es) front contents.passed))

entries_stood : (es : List Entry) (old new : Unread) → Holds (Entries es) → Passed (field_bytes (Entries es)) old new → entries_at old ≡ Ok (es, new)
unfolding entries_at
entries_stood es old new holds p =
    let rest = heads_bytes es ++ contents_bytes es in
    let mid = between old (word (length es)) rest new in
    let q = passed_second old new (word (length es)) rest p in
    let end = between mid (heads_bytes es) (contents_bytes es) new in
    let number = word_stood old mid (length es) holds.0 (passed_first old new (word (length es)) rest p) in
    let front : Passed (read_heads (heads_of es)) mid end = subst (λ (x : List ℕ). Passed x mid end) (sym (heads_are es)) (passed_first mid new (heads_bytes es) (contents_bytes es) q) in
    let heads : heads_at (length es) mid ≡ Ok (heads_of es, end) = subst (λ (n : ℕ). heads_at n mid ≡ Ok (heads_of es, end)) (as_many es) (heads_stood (heads_of es) mid end (heads_fit es holds.1) front) in
    let contents = contents_stood es end new (passed_second mid new (heads_bytes es) (contents_bytes es) q) in
    rw (number, heads) contents

-- ---- what a message says: each type has a case in the proofs below

abbrev pub kind_number : MessageKind → ℕ
kind_number kinds.AskVote = 1
kind_number kinds.Vote = 2
kind_number kinds.Append = 3
kind_number kinds.Ack = 4
kind_number kinds.Install = 5
kind_number kinds.TimeoutNow = 6

abbrev pub kind_from : MessageBody → MessageKind
kind_from (AskVote last transfer) = kinds.AskVote
kind_from (Vote granted) = kinds.Vote
kind_from (Append prev commit entries) = kinds.Append
kind_from (Ack good index) = kinds.Ack
kind_from (Install snapshot) = kinds.Install
kind_from TimeoutNow = kinds.TimeoutNow

-- what the mark adds to the receiver's id
abbrev mark_number : MessageKind → Bool → ℕ
mark_number kinds.AskVote true = 128
mark_number kinds.AskVote false = 0
mark_number kinds.Vote mark = 0
mark_number kinds.Append mark = 0
mark_number kinds.Ack mark = 0
mark_number kinds.Install mark = 0
mark_number kinds.TimeoutNow mark = 0

-- whether it has the mark
abbrev mark_from : MessageBody → Bool
mark_from (AskVote last transfer) = transfer
mark_from (Vote granted) = false
mark_from (Append prev commit entries) = false
mark_from (Ack good index) = false
mark_from (Install snapshot) = false
mark_from TimeoutNow = false

number_is : (n number : ℕ) (one kind : MessageKind) → (eqb n number ≡ true) × (one ≡ kind) → kind_number one ≡ number → n ≡ kind_number kind
number_is n number one kind e is = eqb-true n number e.0 ∙ sym is ∙ ap kind_number e.1

abbrev from_6 : ℕ → Option MessageKind
from_6 n = cond (eqb n 6) (Some kinds.TimeoutNow) None

abbrev from_5 : ℕ → Option MessageKind
from_5 n = cond (eqb n 5) (Some kinds.Install) (from_6 n)

abbrev from_4 : ℕ → Option MessageKind
from_4 n = cond (eqb n 4) (Some kinds.Ack) (from_5 n)

abbrev from_3 : ℕ → Option MessageKind
from_3 n = cond (eqb n 3) (Some kinds.Append) (from_4 n)

abbrev from_2 : ℕ → Option MessageKind
from_2 n = cond (eqb n 2) (Some kinds.Vote) (from_3 n)

known_number : (n : ℕ) (kind : MessageKind) → message_kind n ≡ Some kind → n ≡ kind_number kind
known_number n kind e =
    elim (one_of (eqb n 1) kinds.AskVote (from_2 n) kind e) [
      | inl is ↦ number_is n 1 kinds.AskVote kind is refl
      | inr e ↦ elim (one_of (eqb n 2) kinds.Vote (from_3 n) kind e) [
        | inl is ↦ number_is n 2 kinds.Vote kind is refl
        | inr e ↦ elim (one_of (eqb n 3) kinds.Append (from_4 n) kind e) [
          | inl is ↦ number_is n 3 kinds.Append kind is refl
          | inr e ↦ elim (one_of (eqb n 4) kinds.Ack (from_5 n) kind e) [
            | inl is ↦ number_is n 4 kinds.Ack kind is refl
            | inr e ↦ elim (one_of (eqb n 5) kinds.Install (from_6 n) kind e) [
              | inl is ↦ number_is n 5 kinds.Install kind is refl
              | inr e ↦ elim (one_of (eqb n 6) kinds.TimeoutNow None kind e) [
                | inl is ↦ number_is n 6 kinds.TimeoutNow kind is refl
                | inr e ↦ none_of kind (n ≡ kind_number kind) e
              ]
            ]
          ]
        ]
      ]
    ]

known_again : (what : MessageBody) → message_kind (what_number what) ≡ Some (kind_from what)
known_again (AskVote last transfer) = refl
known_again (Vote granted) = refl
known_again (Append prev commit entries) = refl
known_again (Ack good index) = refl
known_again (Install snapshot) = refl
known_again TimeoutNow = refl

-- a number that is 0 or 1 is that of a yes or a no
flag_is : (n : ℕ) → nat_le n 1 ≡ true → n ≡ flag (n == 1)
flag_is zero e = refl
flag_is (suc zero) e = refl
flag_is (suc (suc n)) e = let le : suc (suc n) ≤ 1 = leb-true (suc (suc n)) 1 e in absurd (omega (arith, le))

-- what a message of this type says was between two states of a reader
record PassedSaid (kind : MessageKind) (mark : Bool) (what : MessageBody) (old new : Unread) : Type 0 where
  pub number : kind_number kind ≡ what_number what
  pub marked : what_mark what ≡ mark_number kind mark
  pub fields : AllPassed (what_fields what) old new

abbrev said_of : MessageBody → Bool → UncheckedBody
said_of what flag_fits = record { what = what; flag_fits = flag_fits }

ask_marked : (last : LogEnd) (mark : Bool) → what_mark (AskVote last mark) ≡ mark_number kinds.AskVote mark
ask_marked last true = refl
ask_marked last false = refl

ask_vote_passed : (mark : Bool) (old new : Unread) (said : UncheckedBody) → AreBytes old.bytes → ask_vote_at mark old ≡ Ok (said, new)
    → PassedSaid kinds.AskVote mark said.what old new
unfolding ask_vote_at
ask_vote_passed mark old new said fits e =
    let a = bind_ok (log_end_at old) (λ last. Ok (said_of (AskVote last.0 mark) true, last.1)) (said, new) e in
    let made : UncheckedBody × Unread = (said_of (AskVote a.0.0 mark) true, a.0.1) in
    let p = log_end_passed old a.0.1 a.0.0 fits a.1 in
    subst (λ (x : UncheckedBody × Unread). PassedSaid kinds.AskVote mark x.0.what old x.1) (ok_is made (said, new) a.2)
    (record { number = refl; marked = ask_marked a.0.0 mark; fields = (p.mid, p.index_fits, p.index, (a.0.1, p.term_fits, p.term, refl)) })

vote_passed : (mark : Bool) (old new : Unread) (said : UncheckedBody) → AreBytes old.bytes → said.flag_fits ≡ true → vote_at old ≡ Ok (said, new)
    → PassedSaid kinds.Vote mark said.what old new
unfolding vote_at
vote_passed mark old new said fits in_range e =
    let a = bind_ok (word_at old) (λ granted. Ok (said_of (Vote (granted.0 == 1)) (nat_le granted.0 1), granted.1)) (said, new) e in
    let n = a.0.0 in
    let made : UncheckedBody × Unread = (said_of (Vote (n == 1)) (nat_le n 1), a.0.1) in
    let is : made ≡ (said, new) = ok_is made (said, new) a.2 in
    let low : nat_le n 1 ≡ true = ap (λ (x : UncheckedBody × Unread). x.0.flag_fits) is ∙ in_range in
    let first = subst (λ (m : ℕ). (m < 2 ^ 64) × Passed (word m) old a.0.1) (flag_is n low) (word_passed old a.0.1 n fits a.1) in
    subst (λ (x : UncheckedBody × Unread). PassedSaid kinds.Vote mark x.0.what old x.1) is
    (record { number = refl; marked = refl; fields = (a.0.1, first.0, first.1, refl) })

append_passed : (mark : Bool) (old new : Unread) (said : UncheckedBody) → AreBytes old.bytes → append_at old ≡ Ok (said, new)
    → PassedSaid kinds.Append mark said.what old new
unfolding append_at
append_passed mark old new said fits e =
    let a = bind_ok (log_end_at old) (λ prev. word_at prev.1 >>= λ commit. entries_at commit.1 >>= λ entries. Ok (said_of (Append prev.0 commit.0 entries.0) true, entries.1)) (said, new) e in
    let b = bind_ok (word_at a.0.1) (λ commit. entries_at commit.1 >>= λ entries. Ok (said_of (Append a.0.0 commit.0 entries.0) true, entries.1)) (said, new) a.2 in
    let d = bind_ok (entries_at b.0.1) (λ entries. Ok (said_of (Append a.0.0 b.0.0 entries.0) true, entries.1)) (said, new) b.2 in
    let made : UncheckedBody × Unread = (said_of (Append a.0.0 b.0.0 d.0.0) true, d.0.1) in
    let p = log_end_passed old a.0.1 a.0.0 fits a.1 in
    let q = word_passed a.0.1 b.0.1 b.0.0 p.after b.1 in
    let r = entries_passed b.0.1 d.0.1 d.0.0 (bytes_after (word b.0.0) a.0.1 b.0.1 q.1 p.after) d.1 in
    subst (λ (x : UncheckedBody × Unread). PassedSaid kinds.Append mark x.0.what old x.1) (ok_is made (said, new) d.2)
    (record { number = refl; marked = refl; fields = (p.mid, p.index_fits, p.index, (a.0.1, p.term_fits, p.term, (b.0.1, q.0, q.1, (d.0.1, r.0, r.1, refl)))) })

ack_passed : (mark : Bool) (old new : Unread) (said : UncheckedBody) → AreBytes old.bytes → said.flag_fits ≡ true → ack_at old ≡ Ok (said, new)
    → PassedSaid kinds.Ack mark said.what old new
unfolding ack_at
ack_passed mark old new said fits in_range e =
    let a = bind_ok (word_at old) (λ good. word_at good.1 >>= λ index. Ok (said_of (Ack (good.0 == 1) index.0) (nat_le good.0 1), index.1)) (said, new) e in
    let b = bind_ok (word_at a.0.1) (λ index. Ok (said_of (Ack (a.0.0 == 1) index.0) (nat_le a.0.0 1), index.1)) (said, new) a.2 in
    let n = a.0.0 in
    let made : UncheckedBody × Unread = (said_of (Ack (n == 1) b.0.0) (nat_le n 1), b.0.1) in
    let is : made ≡ (said, new) = ok_is made (said, new) b.2 in
    let low : nat_le n 1 ≡ true = ap (λ (x : UncheckedBody × Unread). x.0.flag_fits) is ∙ in_range in
    let read = word_passed old a.0.1 n fits a.1 in
    let first = subst (λ (m : ℕ). (m < 2 ^ 64) × Passed (word m) old a.0.1) (flag_is n low) read in
    let second = word_passed a.0.1 b.0.1 b.0.0 (bytes_after (word n) old a.0.1 read.1 fits) b.1 in
    subst (λ (x : UncheckedBody × Unread). PassedSaid kinds.Ack mark x.0.what old x.1) is
    (record { number = refl; marked = refl; fields = (a.0.1, first.0, first.1, (b.0.1, second.0, second.1, refl)) })

install_passed : (mark : Bool) (old new : Unread) (said : UncheckedBody) → AreBytes old.bytes → install_at old ≡ Ok (said, new)
    → PassedSaid kinds.Install mark said.what old new
unfolding install_at
install_passed mark old new said fits e =
    let a = bind_ok (log_end_at old) (λ last. blob_at Exact last.1 >>= λ bytes. Ok (said_of (Install (record { index = last.0.index; term = last.0.term; bytes = bytes.0 })) true, bytes.1)) (said, new) e in
    let b = bind_ok (blob_at Exact a.0.1) (λ bytes. Ok (said_of (Install (record { index = a.0.0.index; term = a.0.0.term; bytes = bytes.0 })) true, bytes.1)) (said, new) a.2 in
    let made : UncheckedBody × Unread = (said_of (Install (record { index = a.0.0.index; term = a.0.0.term; bytes = b.0.0 })) true, b.0.1) in
    let p = log_end_passed old a.0.1 a.0.0 fits a.1 in
    let q = blob_passed a.0.1 b.0.1 b.0.0 p.after b.1 in
    subst (λ (x : UncheckedBody × Unread). PassedSaid kinds.Install mark x.0.what old x.1) (ok_is made (said, new) b.2)
    (record { number = refl; marked = refl; fields = (p.mid, p.index_fits, p.index, (a.0.1, p.term_fits, p.term, (b.0.1, q.0, q.1, refl))) })

said_passed : (kind : MessageKind) (mark : Bool) (old new : Unread) (said : UncheckedBody) → AreBytes old.bytes → said.flag_fits ≡ true
    → said_at kind mark old ≡ Ok (said, new) → PassedSaid kind mark said.what old new
said_passed kinds.AskVote mark old new said fits in_range e = ask_vote_passed mark old new said fits e
said_passed kinds.Vote mark old new said fits in_range e = vote_passed mark old new said fits in_range e
said_passed kinds.Append mark old new said fits in_range e = append_passed mark old new said fits e
said_passed kinds.Ack mark old new said fits in_range e = ack_passed mark old new said fits in_range e
said_passed kinds.Install mark old new said fits in_range e = install_passed mark old new said fits e
said_passed kinds.TimeoutNow mark old new said fits in_range e =
    let made : UncheckedBody × Unread = (said_of TimeoutNow true, old) in
    subst (λ (x : UncheckedBody × Unread). PassedSaid kinds.TimeoutNow mark x.0.what old x.1) (ok_is made (said, new) e)
    (record { number = refl; marked = refl; fields = refl })

said_stood : (what : MessageBody) (old new : Unread) → AllPassed (what_fields what) old new
    → said_at (kind_from what) (mark_from what) old ≡ Ok (said_of what true, new)
unfolding ask_vote_at vote_at append_at ack_at install_at
said_stood (AskVote last transfer) old new p = let q = p.3 in rw (log_end_stood last old p.0 q.0 p.1 p.2 q.1 q.2, q.3) refl
said_stood (Vote true) old new p = rw (word_stood old p.0 1 p.1 p.2, p.3) refl
said_stood (Vote false) old new p = rw (word_stood old p.0 0 p.1 p.2, p.3) refl
said_stood (Append prev commit entries) old new p =
    let q = p.3 in
    let r = q.3 in
    let t = r.3 in
    rw (log_end_stood prev old p.0 q.0 p.1 p.2 q.1 q.2, word_stood q.0 r.0 commit r.1 r.2, entries_stood entries r.0 t.0 t.1 t.2, t.3) refl
said_stood (Ack true index) old new p = let q = p.3 in rw (word_stood old p.0 1 p.1 p.2, word_stood p.0 q.0 index q.1 q.2, q.3) refl
said_stood (Ack false index) old new p = let q = p.3 in rw (word_stood old p.0 0 p.1 p.2, word_stood p.0 q.0 index q.1 q.2, q.3) refl
said_stood (Install snapshot) old new p =
    let last : LogEnd = record { index = snapshot.index; term = snapshot.term } in
    let q = p.3 in
    let r = q.3 in
    rw (log_end_stood last old p.0 q.0 p.1 p.2 q.1 q.2, blob_stood q.0 r.0 snapshot.bytes r.1 r.2, r.3) refl
said_stood TimeoutNow old new p = ap (λ (left : Unread). Ok (said_of TimeoutNow true, left)) p

-- ---- the items of a message

abbrev items_of : ℕ → ℕ → ℕ → UncheckedBody → RaftMessage × Bool
items_of from to term said = (record { from = from; to = to; term = term; what = said.what }, said.flag_fits)

-- a message of this type to a node was between two states of a reader
record PassedItems (to : ℕ) (kind : MessageKind) (mark : Bool) (m : RaftMessage) (old new : Unread) : Type 0 where
  pub number : kind_number kind ≡ what_number m.what
  pub marked : what_mark m.what ≡ mark_number kind mark
  pub receiver : m.to ≡ to
  pub fields : AllPassed (message_fields m) old new

items_passed : (to : ℕ) (kind : MessageKind) (mark : Bool) (old new : Unread) (m : RaftMessage) (fits : Bool) → AreBytes old.bytes → fits ≡ true
    → items_at to kind mark old ≡ Ok ((m, fits), new) → PassedItems to kind mark m old new
unfolding items_at
items_passed to kind mark old new m flag_fits fits in_range e =
    let a = bind_ok (word_at old) (λ from. word_at from.1 >>= λ term. said_at kind mark term.1 >>= λ said. Ok (items_of from.0 to term.0 said.0, said.1)) ((m, flag_fits), new) e in
    let b = bind_ok (word_at a.0.1) (λ term. said_at kind mark term.1 >>= λ said. Ok (items_of a.0.0 to term.0 said.0, said.1)) ((m, flag_fits), new) a.2 in
    let d = bind_ok (said_at kind mark b.0.1) (λ said. Ok (items_of a.0.0 to b.0.0 said.0, said.1)) ((m, flag_fits), new) b.2 in
    let made : (RaftMessage × Bool) × Unread = (items_of a.0.0 to b.0.0 d.0.0, d.0.1) in
    let is : made ≡ ((m, flag_fits), new) = ok_is made ((m, flag_fits), new) d.2 in
    let flag_is : d.0.0.flag_fits ≡ true = ap (λ (x : (RaftMessage × Bool) × Unread). x.0.1) is ∙ in_range in
    let first = word_passed old a.0.1 a.0.0 fits a.1 in
    let fits1 = bytes_after (word a.0.0) old a.0.1 first.1 fits in
    let second = word_passed a.0.1 b.0.1 b.0.0 fits1 b.1 in
    let said = said_passed kind mark b.0.1 d.0.1 d.0.0 (bytes_after (word b.0.0) a.0.1 b.0.1 second.1 fits1) flag_is d.1 in
    subst (λ (x : (RaftMessage × Bool) × Unread). PassedItems to kind mark x.0.0 old x.1) is
    (record { number = said.number; marked = said.marked; receiver = refl; fields = (a.0.1, first.0, first.1, (b.0.1, second.0, second.1, said.fields)) })

items_stood : (m : RaftMessage) (old new : Unread) → AllPassed (message_fields m) old new
    → items_at m.to (kind_from m.what) (mark_from m.what) old ≡ Ok ((m, true), new)
unfolding items_at
items_stood m old new p = let q = p.3 in rw (word_stood old p.0 m.from p.1 p.2, word_stood p.0 q.0 m.term q.1 q.2, said_stood m.what q.0 new q.3) refl

-- ---- the whole

in_message_ok : {A : Type 0} (r : Result A WordFault) (y : A) → in_message r ≡ Ok y → r ≡ Ok y
in_message_ok (Ok x) y e = let same : x ≡ y = cc in rw same refl
in_message_ok (Err fault) y e = absurd cc

abbrev done_message : {A : Type 0} → A → Result A PeerFault
done_message x = Ok x

message_is : {A : Type 0} (x y : A) → done_message x ≡ done_message y → x ≡ y
message_is x y e = cc

both_true : (a b : Bool) → (a && b) ≡ true → (a ≡ true) × (b ≡ true)
both_true true b e = (refl, e)
both_true false b e = absurd cc

-- the body holds the fields and nothing else
fields_are : (fs : List Field) (body : List ℕ) (new : Unread) → AllPassed fs (unread body) new → new.bytes ≡ [] → body ≡ fields_bytes fs
fields_are fs body new p end =
    (fields_passed fs (unread body) new p).parts ∙ ap (λ (x : List ℕ). fields_bytes fs ++ x) end ∙ append-nil (fields_bytes fs)

-- what a schema byte names: this node, with the mark or without
record Named (to : ℕ) (kind : MessageKind) (schema : ℕ) (mark : Bool) : Type 0 where
  pub low : to ≤ 127
  pub names : schema ≡ to + mark_number kind mark

some_mark : (a b : Bool) → Some a ≡ Some b → a ≡ b
some_mark a b e = cc

may_be_marked : (kind : MessageKind) → may_mark kind ≡ true → mark_number kind true ≡ 128
may_be_marked kinds.AskVote e = refl
may_be_marked kinds.Vote e = absurd cc
may_be_marked kinds.Append e = absurd cc
may_be_marked kinds.Ack e = absurd cc
may_be_marked kinds.Install e = absurd cc
may_be_marked kinds.TimeoutNow e = absurd cc

unmarked : (kind : MessageKind) → mark_number kind false ≡ 0
unmarked kinds.AskVote = refl
unmarked kinds.Vote = refl
unmarked kinds.Append = refl
unmarked kinds.Ack = refl
unmarked kinds.Install = refl
unmarked kinds.TimeoutNow = refl

named_by : (to : ℕ) (kind : MessageKind) (schema : ℕ) (mark low same far may : Bool) → nat_le to 127 ≡ low → (schema == to) ≡ same
    → (schema == to + 128) ≡ far → may_mark kind ≡ may
    → cond low (cond same (Some false) (cond (far && may) (Some true) None)) None ≡ Some mark → Named to kind schema mark
named_by to kind schema mark false same far may l s f m e = absurd cc
named_by to kind schema mark true true far may l s f m e =
    let is : schema ≡ to = eqb-true schema to s in
    let low = leb-true to 127 l in
    let none = unmarked kind in
    subst (Named to kind schema) (some_mark false mark e) (record { low = low; names = omega (arith, is, none) })
named_by to kind schema mark true false true true l s f m e =
    let is : schema ≡ to + 128 = eqb-true schema (to + 128) f in
    let low = leb-true to 127 l in
    let some = may_be_marked kind m in
    subst (Named to kind schema) (some_mark true mark e) (record { low = low; names = omega (arith, is, some) })
named_by to kind schema mark true false true false l s f m e = absurd cc
named_by to kind schema mark true false false may l s f m e = absurd cc

named : (to : ℕ) (kind : MessageKind) (schema : ℕ) (mark : Bool) → mark_in to kind schema ≡ Some mark → Named to kind schema mark
named to kind schema mark e = named_by to kind schema mark (nat_le to 127) (schema == to) (schema == to + 128) (may_mark kind) refl refl refl refl e

found_as : (to : ℕ) (kind : MessageKind) (marked : Option Bool) (m : Message) (peer : RaftMessage) → AreBytes m.body → message_kind m.kind ≡ Some kind
    → mark_in to kind m.schema ≡ marked
    → body_in to kind marked m ≡ Ok peer → Reads m peer × (peer.to ≡ to)
found_as to kind None m peer fits is at e = absurd cc
found_as to kind (Some mark) m peer fits is at e =
    let name = named to kind m.schema mark at in
    let low = name.low in
    let names = name.names in
    let b = bind_ok (in_message (items_at to kind mark (unread m.body))) ended peer e in
    let x = b.0 in
    let c = passed (x.0.1 && numbers_fit x.0.0) Range (cond (eqb (length x.1.bytes) 0) (Ok x.0.0) (Err Tail)) peer b.2 in
    let d = passed (eqb (length x.1.bytes) 0) Tail (Ok x.0.0) peer c.1 in
    let both = both_true x.0.1 (numbers_fit x.0.0) c.0 in
    let end : x.1.bytes ≡ [] = nil_from_length x.1.bytes (eqb-true (length x.1.bytes) 0 d.0) in
    let p = items_passed to kind mark (unread m.body) x.1 x.0.0 x.0.1 fits both.0 (in_message_ok (items_at to kind mark (unread m.body)) x b.1) in
    let here : x.0.0.to ≡ to = p.receiver in
    let marks : what_mark x.0.0.what ≡ mark_number kind mark = p.marked in
    subst (λ (y : RaftMessage). Reads m y × (y.to ≡ to)) (message_is x.0.0 peer d.1) (
      record {
        kind = known_number m.kind kind is ∙ p.number;
        schema = omega (arith, names, here, marks);
        receiver = omega (arith, low, here);
        holds = fields_hold (message_fields x.0.0) (unread m.body) x.1 p.fields;
        body = fields_are (message_fields x.0.0) m.body x.1 p.fields end;
        in_range = both.1;
      },
      p.receiver,
    )

found_in : (to : ℕ) (known : Option MessageKind) (m : Message) (peer : RaftMessage) → AreBytes m.body → message_kind m.kind ≡ known
    → message_in to known m ≡ Ok peer → Reads m peer × (peer.to ≡ to)
found_in to None m peer fits is e = absurd cc
found_in to (Some kind) m peer fits is e = found_as to kind (mark_in to kind m.schema) m peer fits is refl e

pub message_found : (to : ℕ) (m : Message) (peer : RaftMessage) → AreBytes m.body → peer_message_of to m ≡ Ok peer → Reads m peer × (peer.to ≡ to)
unfolding peer_message_of
message_found to m peer fits e = found_in to (message_kind m.kind) m peer fits refl e

-- a body that holds the fields of a message, read to its end
abbrev at_end : List ℕ → Unread
at_end body = record { at = 0 + length body; bytes = [] }

body_read : (peer : RaftMessage) (body : List ℕ) → AllHold (message_fields peer) → body ≡ body_bytes peer
    → items_at peer.to (kind_from peer.what) (mark_from peer.what) (unread body) ≡ Ok ((peer, true), at_end body)
body_read peer body holds is =
    let p : Passed (fields_bytes (message_fields peer)) (unread body) (at_end body) = record { parts = is ∙ sym (append-nil (body_bytes peer)); place = ap (λ (x : List ℕ). 0 + length x) is } in
    items_stood peer (unread body) (at_end body) (fields_stood (message_fields peer) (unread body) (at_end body) holds p)

-- the schema byte of a message names its receiver
mark_again : (to schema : ℕ) (what : MessageBody) → to ≤ 127 → schema ≡ to + what_mark what → mark_in to (kind_from what) schema ≡ Some (mark_from what)
mark_again to schema what low is =
    ap (λ (b : Bool). cond b (cond (schema == to) (Some false) (cond ((schema == to + 128) && may_mark (kind_from what)) (Some true) None)) None)
    (le-leb to 127 low) ∙ by what is
  where
    plain : (kind : MessageKind) → schema ≡ to + 0
        → cond (schema == to) (Some false) (cond ((schema == to + 128) && may_mark kind) (Some true) None) ≡ Some false
    plain kind is = cond-true (schema == to) _ _ (eq-eqb schema to (omega (arith, is)))

    by : (w : MessageBody) → schema ≡ to + what_mark w
        → cond (schema == to) (Some false) (cond ((schema == to + 128) && may_mark (kind_from w)) (Some true) None) ≡ Some (mark_from w)
    by (AskVote last true) is =
        cond-false (schema == to) _ _ (ne_eqb schema to (λ same. omega (arith, is, same)))
        ∙ cond-true ((schema == to + 128) && true) (Some true) None (ap (λ (b : Bool). b && true) (eq-eqb schema (to + 128) is))
    by (AskVote last false) is = plain kinds.AskVote is
    by (Vote granted) is = plain kinds.Vote is
    by (Append prev commit entries) is = plain kinds.Append is
    by (Ack good index) is = plain kinds.Ack is
    by (Install snapshot) is = plain kinds.Install is
    by TimeoutNow is = plain kinds.TimeoutNow is

pub message_read : (m : Message) (peer : RaftMessage) → Reads m peer → peer_message_of peer.to m ≡ Ok peer
unfolding peer_message_of
message_read m peer r =
    let known : message_kind m.kind ≡ Some (kind_from peer.what) = ap message_kind r.kind ∙ known_again peer.what in
    let here = mark_again peer.to m.schema peer.what r.receiver r.schema in
    rw (known, here, body_read peer m.body r.holds r.body, r.in_range) refl

pub schema_is : (peer : RaftMessage) → peer.to ≤ 127 → message_schema peer ≡ peer.to + what_mark peer.what
schema_is peer low = cond-true (nat_le peer.to 127) _ _ (le-leb _ _ low)

pub message_refused : (peer : RaftMessage) → peer.to ≤ 127 → AllHold (message_fields peer) → numbers_fit peer ≡ false
    → peer_message_of peer.to (record { kind = what_number peer.what; schema = message_schema peer; body = body_bytes peer }) ≡ Err Range
unfolding peer_message_of
message_refused peer low holds out =
    let here = mark_again peer.to (message_schema peer) peer.what low (schema_is peer low) in
    rw (known_again peer.what, here, body_read peer (body_bytes peer) holds refl, out) refl

-- a message whose schema byte doesn't name this node is refused
not_here : (to : ℕ) (m : Message) → ((kind : MessageKind) → mark_in to kind m.schema ≡ None) → peer_message_of to m ≡ Err Kind
unfolding peer_message_of
not_here to m none = by (message_kind m.kind)
  where
    by : (known : Option MessageKind) → message_in to known m ≡ Err Kind
    by None = refl
    by (Some kind) = ap (λ (o : Option Bool). body_in to kind o m) (none kind)

pub far_refuse : (to : ℕ) (m : Message) → 127 < to → peer_message_of to m ≡ Err Kind
far_refuse to m far = not_here to m (λ kind. cond-false (nat_le to 127) _ None (lt-leb to 127 far))

-- a message has no mark, or that of a transfer
marks_are : (what : MessageBody) → (what_mark what ≡ 0) ⊎ (what_mark what ≡ 128)
marks_are (AskVote last true) = inr refl
marks_are (AskVote last false) = inl refl
marks_are (Vote granted) = inl refl
marks_are (Append prev commit entries) = inl refl
marks_are (Ack good index) = inl refl
marks_are (Install snapshot) = inl refl
marks_are TimeoutNow = inl refl

names_none : (to schema : ℕ) (kind : MessageKind) → (to ≤ 127 → (schema ≢ to) × (schema ≢ to + 128)) → mark_in to kind schema ≡ None
names_none to schema kind apart = cond_both (nat_le to 127) _ None (λ (o : Option Bool). o ≡ None)
    (λ l. let both = apart (leb-true to 127 l) in
    cond-false (schema == to) _ _ (ne_eqb schema to both.0) ∙ cond-false ((schema == to + 128) && may_mark kind) _ _ (ap (λ (b : Bool). b && may_mark kind) (ne_eqb schema (to + 128) both.1)))
    (λ l. refl)

pub others_refuse : (to : ℕ) (peer : RaftMessage) → 0 < to → to ≢ peer.to
    → peer_message_of to (record { kind = what_number peer.what; schema = message_schema peer; body = body_bytes peer }) ≡ Err Kind
others_refuse to peer pos other = not_here to _ (λ kind. names_none to (message_schema peer) kind (apart (nat_le peer.to 127) refl))
  where
    apart : (b : Bool) → nat_le peer.to 127 ≡ b → to ≤ 127 → (message_schema peer ≢ to) × (message_schema peer ≢ to + 128)
    apart true l low =
        let near = leb-true peer.to 127 l in
        let is : message_schema peer ≡ peer.to + what_mark peer.what = schema_is peer near in (
          λ same. other (elim (marks_are peer.what) [ inl none ↦ omega (arith, is, same, none, low, near) | inr some ↦ omega (arith, is, same, some, low, near) ]),
          λ same. other (elim (marks_are peer.what) [ inl none ↦ omega (arith, is, same, none, low, near) | inr some ↦ omega (arith, is, same, some, low, near) ]),
        )
    apart false l low =
        let is : message_schema peer ≡ 0 = cond-false (nat_le peer.to 127) _ _ l in
        (λ same. omega (arith, is, same, pos), λ same. omega (arith, is, same))

pub is_found : (to : ℕ) (m : Message) (result : Result RaftMessage PeerFault) → AreBytes m.body → Gives (peer_message_of to m) result → IfOk result (λ peer. Reads m peer × (peer.to ≡ to))
is_found to m (Ok peer) fits given = message_found to m peer fits given
is_found to m (Err fault) fits given = tt

pub is_only : (to : ℕ) (m : Message) (result : Result RaftMessage PeerFault) → Gives (peer_message_of to m) result → (peer : RaftMessage) → Reads m peer → peer.to ≡ to → Gives (Ok peer) result
is_only to m result given peer reads is =
    subst (λ (reading : Result RaftMessage PeerFault). Gives reading result) (ap (λ (n : ℕ). peer_message_of n m) (sym is) ∙ message_read m peer reads) given
