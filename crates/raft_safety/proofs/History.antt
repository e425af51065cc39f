-- A history beside the world, which only grows and which no rule reads, and what holds of it.
use Rattle.std.proofs.Common.{◌≡◌, ◌≢◌, ℕ, suc, ◌<◌, ◌≤◌, Bool, true, false, List, [], length, take}
use Rattle.std.specs.Prelude.{nat_le}
use Rattle.raft_spec.specs.Log.{Entry, LogEnd, is_up_to_date, log_end, term_at}
use Rattle.raft_spec.specs.Node.{Ack, Append, AskVote, Install, Message, Node, TimeoutNow, Vote, What, among, is_candidate, is_leader, majority}
use Rattle.raft_safety.specs.Members.{Setup, change_at, voters_after}
use Rattle.raft_safety.proofs.Confs.{Near}
use Rattle.raft_safety.proofs.Logs.{Agree, Piece}

pub record Hist : Type 0 where
  -- whom a node voted for in a term; 0 for none
  pub ballot : ℕ → ℕ → ℕ
  -- the voter's log at that ballot
  pub had : ℕ → ℕ → List Entry
  -- the leader of a term; 0 for none
  pub who : ℕ → ℕ
  -- whose ballots elected the leader of a term
  pub won : ℕ → ℕ → Bool
  -- the log of a term's leader, when it last led
  pub log_of : ℕ → List Entry
  -- up to where a node said, in a term, that its log agrees with that leader's
  pub acked : ℕ → ℕ → ℕ

-- the log with which the leader of a term was elected
abbrev pub elected : Hist → ℕ → List Entry
elected h u = h.had (h.who u) u

-- each entry of the log is its term's leader's, and the same holds for all before it
pub record Sound (h : Hist) (xs : List Entry) : Type 0 where
  pub at : (i : ℕ) → i ≤ length xs → Agree i xs (h.log_of (term_at xs i))

-- a leader elected after t and before the bound lacks the entry of term t at i
pub record Betrayed (h : Hist) (t i bound : ℕ) : Type 0 where
  pub voters_of : ℕ
  pub after : t < voters_of
  pub before : voters_of < bound
  pub leads : h.who voters_of ≢ 0
  pub lacks : term_at (elected h voters_of) i ≢ t

pub data Kept (h : Hist) (t i : ℕ) (xs : List Entry) (bound : ℕ) : Type 0 where
  holds : term_at xs i ≡ t → Kept h t i xs bound
  betrayed : Betrayed h t i bound → Kept h t i xs bound

-- a majority acked the entry of term t at i
pub record Decided (vs : Setup) (h : Hist) (t i : ℕ) : Type 0 where
  pub term : t ≢ 0
  pub entry : term_at (h.log_of t) i ≡ t
  -- the leader's log had this length at the decision, and gave the voters
  pub upto : ℕ
  pub covers : i ≤ upto
  pub in_log : upto ≤ length (h.log_of t)
  pub quorum : majority (voters_after vs (take upto (h.log_of t))) (λ n. nat_le i (h.acked n t)) ≡ true

-- a leader proposed a change at j: it had applied an entry of its term, and every change before
pub record ChangeOk (vs : Setup) (h : Hist) (t j : ℕ) : Type 0 where
  pub at : ℕ
  pub settled : Decided vs h t at
  pub early : settled.upto < j
  pub prior : (k : ℕ) → at < k → k < j → change_at vs (h.log_of t) k ≡ false
  pub near : Near (voters_after vs (take at (h.log_of t))) (voters_after vs (take j (h.log_of t)))

-- the log up to k is one that was decided in a term up to u
pub data Committed (vs : Setup) (h : Hist) (xs : List Entry) (u k : ℕ) : Type 0 where
  nothing : k ≡ 0 → Committed vs h xs u k
  decided : (t i : ℕ) → t ≤ u → Decided vs h t i → k ≤ i → Agree k xs (h.log_of t) → Committed vs h xs u k

pub record HistOk (vs : Setup) (h : Hist) : Type 0 where
  pub zero_term : h.who 0 ≡ 0
  pub none : (u : ℕ) → h.who u ≡ 0 → h.log_of u ≡ []
  pub sound : (u : ℕ) → Sound h (h.log_of u)
  pub below : (u i : ℕ) → term_at (h.log_of u) i ≤ u
  pub front : (u : ℕ) → h.who u ≢ 0 → Agree (length (elected h u)) (elected h u) (h.log_of u)
  pub older : (u i : ℕ) → h.who u ≢ 0 → term_at (elected h u) i < u
  pub quorum : (u : ℕ) → h.who u ≢ 0 → majority (voters_after vs (elected h u)) (h.won u) ≡ true
  pub changes : (t j : ℕ) → h.who t ≢ 0 → length (elected h t) < j → change_at vs (h.log_of t) j ≡ true → ChangeOk vs h t j
  pub won_ballot : (u n : ℕ) → h.who u ≢ 0 → h.won u n ≡ true → h.ballot n u ≡ h.who u
  pub own : (u : ℕ) → h.who u ≢ 0 → h.ballot (h.who u) u ≡ h.who u
  pub stood : (n u : ℕ) → h.ballot n u ≢ 0 → h.ballot (h.ballot n u) u ≡ h.ballot n u
  pub newer : (n u : ℕ) → h.ballot n u ≢ 0 → is_up_to_date (log_end (h.had (h.ballot n u) u)) (log_end (h.had n u)) ≡ true
  pub had_sound : (n u : ℕ) → h.ballot n u ≢ 0 → Sound h (h.had n u)
  pub acks_within : (n t : ℕ) → h.acked n t ≤ length (h.log_of t)
  pub weak : (n u t i : ℕ) → h.ballot n u ≢ 0 → t < u → t ≢ 0 → i ≤ h.acked n t → term_at (h.log_of t) i ≡ t → Kept h t i (h.had n u) (suc u)
  pub strict : (n u t i : ℕ) → h.who u ≢ 0 → h.won u n ≡ true → t < u → t ≢ 0 → i ≤ h.acked n t → term_at (h.log_of t) i ≡ t → Kept h t i (h.had n u) u

pub record CandidateOk (h : Hist) (n : ℕ) (s : Node) : Type 0 where
  pub id : n ≢ 0
  pub self : s.vote ≡ n
  pub had : h.had n s.term ≡ s.log
  pub not_yet : h.who s.term ≢ n
  pub older : (i : ℕ) → term_at s.log i < s.term
  pub grants : (g : ℕ) → among s.grants g ≡ true → h.ballot g s.term ≡ n

pub record LeaderOk (h : Hist) (n : ℕ) (s : Node) : Type 0 where
  pub id : n ≢ 0
  pub who : h.who s.term ≡ n
  pub log : h.log_of s.term ≡ s.log
  pub own : h.acked n s.term ≡ length s.log
  pub matched : (p : ℕ) → s.match_of p ≤ h.acked p s.term
  pub next : (p : ℕ) → s.next_of p ≤ suc (length s.log)

-- the kept snapshot is one of applied entries
pub record SnapOk (s : Node) : Type 0 where
  pub base : s.base ≤ s.snapshot.index
  pub applied : s.snapshot.index ≤ s.commit
  pub term : term_at s.log s.snapshot.index ≡ s.snapshot.term

pub record NodeOk (vs : Setup) (h : Hist) (n : ℕ) (s : Node) : Type 0 where
  pub sound : Sound h s.log
  pub below : (i : ℕ) → term_at s.log i ≤ s.term
  pub vote : h.ballot n s.term ≡ s.vote
  pub later : (u : ℕ) → s.term < u → h.ballot n u ≡ 0
  pub standing : is_candidate s.role ≡ true → CandidateOk h n s
  pub leading : is_leader s.role ≡ true → LeaderOk h n s
  pub acks_later : (t : ℕ) → s.term < t → h.acked n t ≡ 0
  pub acks : (t i : ℕ) → t ≢ 0 → i ≤ h.acked n t → term_at (h.log_of t) i ≡ t → Kept h t i s.log (suc s.term)
  pub commit : Committed vs h s.log s.term s.commit
  pub snaps : SnapOk s

pub record AppendOk (vs : Setup) (h : Hist) (u : ℕ) (prev : LogEnd) (commit : ℕ) (es : List Entry) : Type 0 where
  pub leads : h.who u ≢ 0
  pub piece : Piece prev.index es (h.log_of u)
  pub follows : term_at (h.log_of u) prev.index ≡ prev.term
  pub settled : Committed vs h (h.log_of u) u commit

-- a snapshot is an Append of a decided front
pub record InstallOk (vs : Setup) (h : Hist) (u : ℕ) (last : LogEnd) (front : List Entry) : Type 0 where
  pub leads : h.who u ≢ 0
  pub within : last.index ≤ length (h.log_of u)
  pub same : front ≡ take last.index (h.log_of u)
  pub term : term_at (h.log_of u) last.index ≡ last.term
  pub settled : Committed vs h (h.log_of u) u last.index

abbrev pub WhatOk : Setup → Hist → ℕ → ℕ → ℕ → What → Type 0
WhatOk vs h from to u (AskVote last transfer) = (from ≢ 0) × (h.ballot from u ≡ from) × (log_end (h.had from u) ≡ last)
WhatOk vs h from to u (Vote true) = (to ≢ 0) × (h.ballot from u ≡ to)
WhatOk vs h from to u (Vote false) = Unit {0}
WhatOk vs h from to u (Append prev commit es) = (h.who u ≢ to) × AppendOk vs h u prev commit es
WhatOk vs h from to u (Ack true index) = index ≤ h.acked from u
WhatOk vs h from to u (Ack false index) = Unit {0}
WhatOk vs h from to u (Install last front) = (h.who u ≢ to) × InstallOk vs h u last front
WhatOk vs h from to u TimeoutNow = Unit {0}

abbrev pub MessageOk : Setup → Hist → Message → Type 0
MessageOk vs h m = WhatOk vs h m.from m.to m.term m.what
