-- What a node does with a message, as the code's node does it.
use Rattle.std.proofs.Common.{◌≡◌, ℕ, ◌-◌, ◌<◌, [], refl, sym, ap, subst, ◌∙◌}
use Rattle.std.specs.Prelude.{Bool, true, false, cond, ◌&&◌, nat_lt, nat_le}
use Rattle.std.proofs.lemmas.Bool.{cond-true, cond-false, and_parts, lt-ltb}
use Rattle.raft_spec.specs.Node.{Message, Outcome, Follower}
use Rattle.raft_spec.specs.Receiving.{fits_the_wire, what_in_range, in_range, on_older_term, on_own_term, on_message}
use Rattle.raft_spec.specs.NodeValues.{NodeValue, node_of}
use Rattle.raft_core.specs.declared.effects.Say.TheVariants as say
use Rattle.raft_core.specs.declared.effects.Effects.{Effects}
use Rattle.raft_core.specs.Effects.{Does}
use Rattle.raft_core.specs.Nodes.{told}
use Rattle.raft_core.specs.Steps.{Ends}
use Rattle.raft_core.proofs.VoteRules.{only_says, does_nothing}

-- ---- messages in range

pub in_range_is : (own : ℕ) (m : Message) → nat_le (m.term - own) 1000000 ≡ true → 0 < m.term → 0 < m.from
    → (fits_the_wire m.term && what_in_range m.what) ≡ in_range own m
unfolding in_range
in_range_is own m n t f = sym (
    ap (λ b. b && nat_lt 0 m.term && nat_lt 0 m.from && fits_the_wire m.term && what_in_range m.what) n
    ∙ ap (λ b. b && nat_lt 0 m.from && fits_the_wire m.term && what_in_range m.what) (lt-ltb 0 m.term t)
    ∙ ap (λ b. b && fits_the_wire m.term && what_in_range m.what) (lt-ltb 0 m.from f))

pub too_far : (own : ℕ) (m : Message) → nat_le (m.term - own) 1000000 ≡ false → false ≡ in_range own m
unfolding in_range
too_far own m e = sym (ap (λ b. b && nat_lt 0 m.term && nat_lt 0 m.from && fits_the_wire m.term && what_in_range m.what) e)

pub without_term : (own : ℕ) (m : Message) → m.term ≡ 0 → false ≡ in_range own m
unfolding in_range
without_term own m e =
    sym (ap (λ n. nat_le (m.term - own) 1000000 && nat_lt 0 n && nat_lt 0 m.from && fits_the_wire m.term && what_in_range m.what) e ∙ none (nat_le (m.term - own) 1000000))
  where
    none : (b : Bool) → (b && false && nat_lt 0 m.from && fits_the_wire m.term && what_in_range m.what) ≡ false
    none true = refl
    none false = refl

pub without_sender : (own : ℕ) (m : Message) → m.from ≡ 0 → false ≡ in_range own m
unfolding in_range
without_sender own m e =
    sym (ap (λ n. nat_le (m.term - own) 1000000 && nat_lt 0 m.term && nat_lt 0 n && fits_the_wire m.term && what_in_range m.what) e ∙ none (nat_le (m.term - own) 1000000 && nat_lt 0 m.term))
  where
    none : (b : Bool) → (b && false && fits_the_wire m.term && what_in_range m.what) ≡ false
    none true = refl
    none false = refl

pub what_fits : (own : ℕ) (m : Message) → in_range own m ≡ true → what_in_range m.what ≡ true
unfolding in_range
what_fits own m e = (and_parts _ _ e).1

-- ---- by their term

pub message_ignored : (h : NodeValue) (m : Message) → in_range h.term m ≡ false → Does h (on_message (told h) h.id (node_of h) m) h (only_says say.Nothing)
unfolding on_message
message_ignored h m e = does_nothing h _ (cond-false (in_range h.term m) _ _ e)

pub message_older : (h : NodeValue) (m : Message) (e : Effects) → in_range h.term m ≡ true → nat_lt m.term h.term ≡ true
    → Does h (on_older_term h.id (node_of h) m.from m.what) h e → Does h (on_message (told h) h.id (node_of h) m) h e
unfolding on_message
message_older h m e r old x = subst (λ (d : Outcome). Does h d h e) (sym (cond-true (in_range h.term m) _ _ r ∙ cond-true (nat_lt m.term h.term) _ _ old)) x

-- a node that has taken a greater term
abbrev heard : NodeValue → ℕ → NodeValue
heard h term = record h { term = term; vote = 0; role = Follower; leader = 0; grants = [] }

own_term : (h now : NodeValue) (m : Message) (d : Outcome) (e : Effects) → on_message (told h) h.id (node_of h) m ≡ d → Ends h d now e → Ends h (on_message (told h) h.id (node_of h) m) now e
own_term h now m d e is x = subst (λ (d : Outcome). Ends h d now e) (sym is) x

pub message_taken : (h mid now : NodeValue) (m : Message) (e : Effects) → in_range h.term m ≡ true → nat_lt m.term h.term ≡ false
    → mid ≡ cond (nat_lt h.term m.term) (record h { term = m.term; vote = 0; role = Follower; leader = 0; grants = [] }) h
    → Ends mid (on_own_term (told mid) mid.id (node_of mid) m.from m.what) now e → Ends h (on_message (told h) h.id (node_of h) m) now e
unfolding on_message
message_taken h mid now m e r old is x = at (nat_lt h.term m.term) refl
  where
    first : on_message (told h) h.id (node_of h) m ≡ cond (nat_lt h.term m.term) (on_own_term (told h) h.id (node_of (heard h m.term)) m.from m.what) (on_own_term (told h) h.id (node_of h) m.from m.what)
    first = cond-true (in_range h.term m) _ _ r ∙ cond-false (nat_lt m.term h.term) _ _ old

    newer : nat_lt h.term m.term ≡ true → Ends h (on_message (told h) h.id (node_of h) m) now e
    newer t =
        let same : mid ≡ heard h m.term = is ∙ cond-true (nat_lt h.term m.term) _ _ t in
        let y : Ends (heard h m.term) (on_own_term (told h) h.id (node_of (heard h m.term)) m.from m.what) now e = subst (λ (n : NodeValue). Ends n (on_own_term (told n) n.id (node_of n) m.from m.what) now e) same x in
        own_term h now m (on_own_term (told h) h.id (node_of (heard h m.term)) m.from m.what) e (first ∙ cond-true (nat_lt h.term m.term) _ _ t) (record { id = y.id; servers = y.servers; same = y.same })

    same_term : nat_lt h.term m.term ≡ false → Ends h (on_message (told h) h.id (node_of h) m) now e
    same_term t =
        let same : mid ≡ h = is ∙ cond-false (nat_lt h.term m.term) _ _ t in
        own_term h now m (on_own_term (told h) h.id (node_of h) m.from m.what) e (first ∙ cond-false (nat_lt h.term m.term) _ _ t) (subst (λ (n : NodeValue). Ends n (on_own_term (told n) n.id (node_of n) m.from m.what) now e) same x)

    at : (b : Bool) → nat_lt h.term m.term ≡ b → Ends h (on_message (told h) h.id (node_of h) m) now e
    at true t = newer t
    at false t = same_term t
