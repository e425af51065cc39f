-- What a mail sends is among what was posted.
use Rattle.std.proofs.Common.{◌≡◌, ◌⊎◌, inl, inr, ⊎_elim, ℕ, zero, suc, Bool, true, false, List, [], ◌∷◌, ◌++◌, map, sym, ap}
use Rattle.std.specs.Prelude.{not, if◌then◌else◌, ◌==◌, nat_le, Some, slice_get}
use Rattle.std.specs.List.{filter}
use Rattle.raft_messages.specs.declared.message.RaftMessage.{RaftMessage}
use Rattle.raft_on_disk.specs.Mails.{MailValue, sends_log, placed, not_to, posted, all_posted, no_mail, sent}
use Rattle.node_core.specs.Account.{letter_of}

-- the message is one of these
abbrev In : RaftMessage → List RaftMessage → Type 0
In m [] = ⊥
In m (x ∷ xs) = (m ≡ x) ⊎ In m xs

in_parts : (m : RaftMessage) (xs ys : List RaftMessage) → In m (xs ++ ys) → In m xs ⊎ In m ys
in_parts m [] ys h = inr h
in_parts m (x ∷ xs) ys h = ⊎_elim (λ e. inl (inl e)) (λ r. ⊎_elim (λ a. inl (inr a)) (λ b. inr b) (in_parts m xs ys r)) h

in_front : (m : RaftMessage) (xs ys : List RaftMessage) → In m xs → In m (xs ++ ys)
in_front m [] ys h = absurd h
in_front m (x ∷ xs) ys h = ⊎_elim (λ e. inl e) (λ r. inr (in_front m xs ys r)) h

in_back : (m : RaftMessage) (xs ys : List RaftMessage) → In m ys → In m (xs ++ ys)
in_back m [] ys h = h
in_back m (x ∷ xs) ys h = inr (in_back m xs ys h)

in_kept : (m : RaftMessage) (p : RaftMessage → Bool) (xs : List RaftMessage) → In m (filter p xs) → In m xs
in_kept m p [] h = h
in_kept m p (x ∷ xs) h = by (in_kept m p xs) (p x) h
  where
    by : (In m (filter p xs) → In m xs) → (b : Bool) → In m (if b then x ∷ filter p xs else filter p xs) → In m (x ∷ xs)
    by rest true h = ⊎_elim (λ e. inl e) (λ r. inr (rest r)) h
    by rest false h = inr (rest h)

in_placed : (m new : RaftMessage) (xs : List RaftMessage) → In m (placed new xs) → (m ≡ new) ⊎ In m xs
in_placed m new [] h = ⊎_elim (λ e. inl e) (λ r. absurd r) h
in_placed m new (x ∷ xs) h = by (in_placed m new xs) (nat_le new.to x.to) h
  where
    by : (In m (placed new xs) → (m ≡ new) ⊎ In m xs) → (b : Bool) → In m (if b then new ∷ x ∷ xs else x ∷ placed new xs) → (m ≡ new) ⊎ In m (x ∷ xs)
    by rest true h = h
    by rest false h = ⊎_elim (λ e. inr (inl e)) (λ r. ⊎_elim (λ e. inl e) (λ q. inr (inr q)) (rest r)) h

in_posted : (m new : RaftMessage) (mail : MailValue) → In m (sent (posted mail new)) → In m (sent mail) ⊎ (m ≡ new)
in_posted m new mail h = by (sends_log new.what) h
  where
    by : (b : Bool) → In m (sent (if b then record mail { logs = placed new (not_to new.to mail.logs) } else record mail { others = mail.others ++ new ∷ [] })) → In m (sent mail) ⊎ (m ≡ new)
    by true h =
        ⊎_elim
        (λ a. inl (in_front m mail.others mail.logs a))
        (λ b. ⊎_elim (λ e. inr e) (λ r. inl (in_back m mail.others mail.logs (in_kept m (λ (x : RaftMessage). not (x.to == new.to)) mail.logs r))) (in_placed m new (not_to new.to mail.logs) b))
        (in_parts m mail.others (placed new (not_to new.to mail.logs)) h)
    by false h =
        ⊎_elim
        (λ a. ⊎_elim (λ r. inl (in_front m mail.others mail.logs r)) (λ e. ⊎_elim (λ q. inr q) (λ z. absurd z) e) (in_parts m mail.others (new ∷ []) a))
        (λ b. inl (in_back m mail.others mail.logs b))
        (in_parts m (mail.others ++ new ∷ []) mail.logs h)

in_all : (m : RaftMessage) (mail : MailValue) (ms : List RaftMessage) → In m (sent (all_posted mail ms)) → In m (sent mail) ⊎ In m ms
in_all m mail [] h = inl h
in_all m mail (x ∷ ms) h =
    ⊎_elim (λ a. ⊎_elim (λ r. inl r) (λ e. inr (inl e)) (in_posted m x mail a)) (λ b. inr (inr b)) (in_all m (posted mail x) ms h)

in_at : (xs : List RaftMessage) (k : ℕ) (m : RaftMessage) → slice_get xs k ≡ Some m → In m xs
in_at [] k m e = cc
in_at (x ∷ xs) zero m e = inl (some_is m x (sym e))
  where
    some_is : (a b : RaftMessage) → Some a ≡ Some b → a ≡ b
    some_is a b e = cc
in_at (x ∷ xs) (suc k) m e = inr (in_at xs k m e)

at_letter : (m : RaftMessage) (xs : List RaftMessage) → In m xs → (j : ℕ) × (slice_get (map letter_of xs) j ≡ Some (letter_of m))
at_letter m [] h = absurd h
at_letter m (x ∷ xs) h = ⊎_elim (λ e. (0, ap (λ (z : RaftMessage). Some (letter_of z)) (sym e))) (λ r. let a = at_letter m xs r in (suc a.0, a.1)) h

-- each message that is sent is among the peer messages of what was posted
pub sent_among : (posted : List RaftMessage) (k : ℕ) (m : RaftMessage) → slice_get (sent (all_posted no_mail posted)) k ≡ Some m → (j : ℕ) × (slice_get (map letter_of posted) j ≡ Some (letter_of m))
sent_among posted k m e = at_letter m posted (⊎_elim (λ a. absurd a) (λ b. b) (in_all m no_mail posted (in_at (sent (all_posted no_mail posted)) k m e)))
