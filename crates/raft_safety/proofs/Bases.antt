-- What holds of the kept part of a node and its commit index, and how the steps keep it.
use Rattle.std.proofs.Common.{◌≡◌, ◌≢◌, ℕ, suc, ◌<◌, ◌≤◌, max, true, List, length, sym, ap, ◌∙◌, subst, ⊎_elim, arith}
use Rattle.std.proofs.lemmas.Bool.{cases_lt}
use Rattle.raft_spec.specs.Log.{Entry, term_at}
use Rattle.raft_spec.specs.Node.{Node, is_candidate, is_leader}
use Rattle.raft_safety.specs.Members.{Setup}
use Rattle.raft_safety.proofs.Logs.{Agree, agree_trans, agree_sym, agree_down, agree_term, term_at-within}
use Rattle.raft_safety.proofs.History.{Hist, Sound, Kept, holds, betrayed, Committed, nothing, decided, HistOk, CandidateOk, LeaderOk, SnapOk, NodeOk}
use Rattle.raft_safety.proofs.Growth.{Later, sound_later, term_later, kept_later, betrayed_more, committed_later}
use Rattle.raft_safety.proofs.Casts.{cast, CastOk, cast_grows, set2, set2_here, set2_term}
use Rattle.raft_safety.proofs.Extends.{acked_to, AckOk, acked_grows, acked_cases}

pub record BaseOk (vs : Setup) (h : Hist) (n term vote : ℕ) (log : List Entry) (commit : ℕ) : Type 0 where
  pub sound : Sound h log
  pub below : (i : ℕ) → term_at log i ≤ term
  pub voted : h.ballot n term ≡ vote
  pub later : (u : ℕ) → term < u → h.ballot n u ≡ 0
  pub acks_later : (t : ℕ) → term < t → h.acked n t ≡ 0
  pub acks : (t i : ℕ) → t ≢ 0 → i ≤ h.acked n t → term_at (h.log_of t) i ≡ t → Kept h t i log (suc term)
  pub settled : Committed vs h log term commit

pub base : {vs : Setup} {h : Hist} {n : ℕ} (s : Node) → NodeOk vs h n s → BaseOk vs h n s.term s.vote s.log s.commit
base s a = record { sound = a.sound; below = a.below; voted = a.vote; later = a.later; acks_later = a.acks_later; acks = a.acks; settled = a.commit }

pub with_base : {vs : Setup} {h : Hist} {n : ℕ} (s : Node) → BaseOk vs h n s.term s.vote s.log s.commit → SnapOk s → (is_candidate s.role ≡ true → CandidateOk h n s) → (is_leader s.role ≡ true → LeaderOk h n s) → NodeOk vs h n s
with_base s a p c l = record { sound = a.sound; below = a.below; vote = a.voted; later = a.later; standing = c; leading = l; acks_later = a.acks_later; acks = a.acks; commit = a.settled; snaps = p }

kept_more : {h : Hist} {t i b : ℕ} {xs : List Entry} (c : ℕ) → b ≤ c → Kept h t i xs b → Kept h t i xs c
kept_more c le (holds x) = holds x
kept_more c le (betrayed x) = betrayed (betrayed_more c le x)

pub committed_up : {vs : Setup} {h : Hist} {xs : List Entry} {u k : ℕ} (v : ℕ) → u ≤ v → Committed vs h xs u k → Committed vs h xs v k
committed_up v le (nothing e) = nothing e
committed_up v le (decided t i a d b c) = decided t i (omega arith) d b c

-- a greater term
pub base_term : {vs : Setup} {h : Hist} {n term vote : ℕ} {log : List Entry} {commit : ℕ} (t : ℕ) → term < t → BaseOk vs h n term vote log commit → BaseOk vs h n t 0 log commit
base_term t lt a = record {
  sound = a.sound;
  below = λ i. let b = a.below i in omega arith;
  voted = a.later t lt;
  later = λ u b. a.later u (omega arith);
  acks_later = λ u b. a.acks_later u (omega arith);
  acks = λ v i nz le x. kept_more (suc t) (omega arith) (a.acks v i nz le x);
  settled = committed_up t (omega arith) a.settled;
}

-- a history that grew elsewhere
pub base_later : {vs : Setup} {h g : Hist} {n term vote : ℕ} {log : List Entry} {commit : ℕ} → HistOk vs h → Later h g → ((u : ℕ) → g.ballot n u ≡ h.ballot n u) → ((t : ℕ) → g.acked n t ≡ h.acked n t) → BaseOk vs h n term vote log commit → BaseOk vs g n term vote log commit
base_later {vs} {h} {g} {n} {term} {vote} {log} {commit} ok l ballots acked a = record {
  sound = sound_later l a.sound;
  below = a.below;
  voted = ballots term ∙ a.voted;
  later = λ u b. ballots u ∙ a.later u b;
  acks_later = λ t b. acked t ∙ a.acks_later t b;
  acks = λ t i nz le x.
      let same = acked t in
      let within = ok.acks_within n t in
      let low : i ≤ length (h.log_of t) = omega arith in
      kept_later vs ok l (a.acks t i nz (omega arith) (sym (term_later t i l low) ∙ x));
  settled = committed_later vs l a.settled;
}

-- a ballot in the own term, for the first time
pub base_cast : {vs : Setup} {h : Hist} {n term : ℕ} {log : List Entry} {commit : ℕ} (c : ℕ) → HistOk vs h → CastOk h n term c log → BaseOk vs h n term 0 log commit → BaseOk vs (cast h n term c log) n term c log commit
unfolding cast
base_cast {vs} {h} {n} {term} {log} {commit} c ok cast_in a =
    let l : Later h (cast h n term c log) = (cast_grows h n term c log cast_in).later in record {
      sound = sound_later l a.sound;
      below = a.below;
      voted = set2_here h.ballot n term c;
      later = λ u b. set2_term h.ballot n term c n u (λ e. omega arith) ∙ a.later u b;
      acks_later = a.acks_later;
      acks = λ t i nz le x. kept_later vs ok l (a.acks t i nz le x);
      settled = committed_later vs l a.settled;
    }

-- an ack of what the log agrees with
pub base_ack : {vs : Setup} {h : Hist} {n term vote : ℕ} {log : List Entry} {commit : ℕ} (j : ℕ) → HistOk vs h → AckOk h n term j → Agree j log (h.log_of term) → BaseOk vs h n term vote log commit → BaseOk vs (acked_to h n term j) n term vote log commit
unfolding acked_to
base_ack {vs} {h} {n} {term} {vote} {log} {commit} j ok ack agree a =
    let l : Later h (acked_to h n term j) = (acked_grows h n term j ack).later in record {
      sound = sound_later l a.sound;
      below = a.below;
      voted = a.voted;
      later = a.later;
      acks_later = λ t b. set2_term h.acked n term j n t (λ e. omega arith) ∙ a.acks_later t b;
      acks = λ t i nz le x. ⊎_elim (λ (o : i ≤ h.acked n t). kept_later vs ok l (a.acks t i nz o x))
          (λ (p : (n ≡ n) × (t ≡ term)).
          let at = subst (λ t. i ≤ set2 h.acked n term j n t) p.1 le in
          let le' : i ≤ j = omega (arith, at, set2_here h.acked n term j) in
          holds (agree_term i le' agree ∙ sym (ap (λ t. term_at (h.log_of t) i) p.1) ∙ x))
          (acked_cases h n term j n t i le);
      settled = committed_later vs l a.settled;
    }

-- a longer log
pub base_longer : {vs : Setup} {h : Hist} {n term vote : ℕ} {log : List Entry} {commit : ℕ} (more : List Entry) → Agree (length log) log more → Sound h more → ((i : ℕ) → term_at more i ≤ term) → BaseOk vs h n term vote log commit → BaseOk vs h n term vote more commit
base_longer {vs} {h} {n} {term} {vote} {log} {commit} more agree sound below a = record {
  sound = sound;
  below = below;
  voted = a.voted;
  later = a.later;
  acks_later = a.acks_later;
  acks = λ t i nz le x. still t i nz (a.acks t i nz le x);
  settled = along a.settled;
}
  where
    still : (t i : ℕ) → t ≢ 0 → Kept h t i log (suc term) → Kept h t i more (suc term)
    still t i nz (holds x) = holds (sym (agree_term i (term_at-within log i t x nz) agree) ∙ x)
    still t i nz (betrayed b) = betrayed b

    along : Committed vs h log term commit → Committed vs h more term commit
    along (nothing e) = nothing e
    along (decided t i b d le x) = decided t i b d le (agree_trans (agree_sym (agree_down commit x.in_left agree)) x)

pub base_commit : {vs : Setup} {h : Hist} {n term vote : ℕ} {log : List Entry} {commit : ℕ} (k : ℕ) → Committed vs h log term k → BaseOk vs h n term vote log commit → BaseOk vs h n term vote log k
base_commit k c a = record { sound = a.sound; below = a.below; voted = a.voted; later = a.later; acks_later = a.acks_later; acks = a.acks; settled = c }

pub committed_max : {vs : Setup} {h : Hist} {xs : List Entry} {u : ℕ} (j k : ℕ) → Committed vs h xs u j → Committed vs h xs u k → Committed vs h xs u (max j k)
committed_max {vs} {h} {xs} {u} j k a b =
    ⊎_elim
    (λ (l : j < k). let e : k ≡ max j k = omega arith in subst (Committed vs h xs u) e b)
    (λ (l : k ≤ j). let e : j ≡ max j k = omega arith in subst (Committed vs h xs u) e a)
    (cases_lt j k)

-- what is committed is in the log
pub committed_within : {vs : Setup} {h : Hist} {xs : List Entry} {u k : ℕ} → Committed vs h xs u k → k ≤ length xs
committed_within (nothing e) = omega arith
committed_within (decided t i b d le a) = a.in_left

-- a smaller index of the same log
pub committed_down : {vs : Setup} {h : Hist} {xs : List Entry} {u k : ℕ} (j : ℕ) → j ≤ k → Committed vs h xs u k → Committed vs h xs u j
committed_down j le (nothing e) = nothing (omega arith)
committed_down j le (decided t i b d low a) = decided t i b d (omega arith) (agree_down j le a)
