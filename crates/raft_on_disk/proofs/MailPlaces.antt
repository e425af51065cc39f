-- A message at its place among those of other peers.
use Rattle.std.proofs.Common.{◌≡◌, ◌≢◌, ℕ, suc, ◌<◌, ◌≤◌, Bool, true, false, cond, List, [], ◌∷◌, ◌++◌, length, insert, refl, ap, arith}
use Rattle.std.specs.Prelude.{◌==◌, not, nat_le}
use Rattle.std.proofs.lemmas.Bool.{cond_both, not-true, eqb-false, leb-true, leb-false}
use Rattle.raft_messages.specs.declared.message.RaftMessage.{RaftMessage}
use Rattle.raft_on_disk.specs.Mails.{MailValue, sends_log, place_for, placed, not_to, posted, all_posted, no_mail, AllPast, Ascend, MailsAscend}

pub place_within : (to : ℕ) (ms : List RaftMessage) → place_for to ms ≤ length ms
place_within to [] = omega arith
place_within to (m ∷ ms) = elim (nat_le to m.to) as (λ (b : Bool). cond b 0 (suc (place_for to ms)) ≤ suc (length ms)) [
  | true ↦ omega arith
  | false ↦ let h : place_for to ms ≤ length ms = place_within to ms in omega arith
]

pub put_in_place : (new : RaftMessage) (ms : List RaftMessage) → insert ms (place_for new.to ms) new ≡ placed new ms
put_in_place new [] = refl
put_in_place new (m ∷ ms) = elim (nat_le new.to m.to) as (λ (b : Bool). insert (m ∷ ms) (cond b 0 (suc (place_for new.to ms))) new ≡ cond b (new ∷ m ∷ ms) (m ∷ placed new ms)) [
  | true ↦ refl
  | false ↦ ap (λ l. m ∷ l) (put_in_place new ms)
]

-- one message more after several
pub one_more : (mail : MailValue) (ms : List RaftMessage) (m : RaftMessage) → all_posted mail (ms ++ m ∷ []) ≡ posted (all_posted mail ms) m
one_more mail [] m = refl
one_more mail (x ∷ ms) m = one_more (posted mail x) ms m

-- ---- one a peer

-- none of these goes to this peer
abbrev NoneTo : ℕ → List RaftMessage → Type 0
NoneTo to [] = Unit {0}
NoneTo to (m ∷ ms) = (m.to ≢ to) × NoneTo to ms

lower : (a b : ℕ) (ms : List RaftMessage) → a < b → AllPast b ms → AllPast a ms
lower a b [] l p = tt
lower a b (m ∷ ms) l p = let q = p.0 in (omega arith, lower a b ms l p.1)

past_left : (to k : ℕ) (ms : List RaftMessage) → AllPast k ms → AllPast k (not_to to ms)
past_left to k [] p = tt
past_left to k (m ∷ ms) p = cond_both (not (m.to == to)) _ _ (AllPast k) (λ e. (p.0, past_left to k ms p.1)) (λ e. past_left to k ms p.1)

ascend_left : (to : ℕ) (ms : List RaftMessage) → Ascend ms → Ascend (not_to to ms)
ascend_left to [] a = tt
ascend_left to (m ∷ ms) a = cond_both (not (m.to == to)) _ _ Ascend (λ e. (past_left to m.to ms a.0, ascend_left to ms a.1)) (λ e. ascend_left to ms a.1)

none_left : (to : ℕ) (ms : List RaftMessage) → NoneTo to (not_to to ms)
none_left to [] = tt
none_left to (m ∷ ms) = cond_both (not (m.to == to)) _ _ (NoneTo to) (λ e. (eqb-false _ _ (not-true _ e), none_left to ms)) (λ e. none_left to ms)

past_placed : (k : ℕ) (new : RaftMessage) (ms : List RaftMessage) → k < new.to → AllPast k ms → AllPast k (placed new ms)
past_placed k new [] l p = (l, tt)
past_placed k new (m ∷ ms) l p = cond_both (nat_le new.to m.to) _ _ (AllPast k) (λ e. (l, p)) (λ e. (p.0, past_placed k new ms l p.1))

ascend_placed : (new : RaftMessage) (ms : List RaftMessage) → NoneTo new.to ms → Ascend ms → Ascend (placed new ms)
ascend_placed new [] n a = (tt, tt)
ascend_placed new (m ∷ ms) n a = cond_both (nat_le new.to m.to) _ _ Ascend
    (λ e. let le = leb-true _ _ e in let ne = n.0 in let lt : new.to < m.to = omega arith in ((lt, lower new.to m.to ms lt a.0), a))
    (λ e. let lt = leb-false _ _ e in (past_placed m.to new ms lt a.0, ascend_placed new ms n.1 a.1))

ascend_posted : (mail : MailValue) (m : RaftMessage) → Ascend mail.logs → Ascend (posted mail m).logs
ascend_posted mail m a = cond_both (sends_log m.what) _ _ (λ (x : MailValue). Ascend x.logs) (λ e. ascend_placed m (not_to m.to mail.logs) (none_left m.to mail.logs) (ascend_left m.to mail.logs a)) (λ e. a)

all_ascend : (mail : MailValue) (ms : List RaftMessage) → Ascend mail.logs → Ascend (all_posted mail ms).logs
all_ascend mail [] a = a
all_ascend mail (m ∷ ms) a = all_ascend (posted mail m) ms (ascend_posted mail m a)

pub mails_ascend : MailsAscend
mails_ascend messages = all_ascend no_mail messages tt
