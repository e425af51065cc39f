-- The configurations of a whole log, as it grows, is compacted and is applied.
use Rattle.std.proofs.Common.{◌≡◌, ℕ, zero, suc, ◌+◌, ◌-◌, ◌<◌, ◌≤◌, Bool, true, false, cond, nat_lt, nat_le, List, [], ◌∷◌, ◌++◌, length, take, drop, get_or, refl, sym, ap, ◌∙◌, append-nil, arith, length-append, length-take, length-drop, append_assoc}
use Rattle.std.proofs.lemmas.Bool.{cond-true, cond-false, lt-ltb}
use Rattle.std.proofs.lemmas.List.{take-append-drop, take-append-le, drop-append-le, take-take, drop-take, drop-drop, drop_more, take_more, drop_all}
use Rattle.raft_spec.specs.Log.{Entry}
use Rattle.raft_spec.specs.Node.{Server, voters}
use Rattle.raft_safety.specs.Members.{Setup, changes, servers_read, configuration_from, configuration, voters_after}
use Rattle.raft_membership.specs.declared.members.Change.{Change}
use Rattle.raft_membership.specs.Members.{Configurations, last_from, servers_from, last_servers, with_change, below, cut_at, settled_servers, past, settled, changes_from, IsOf, OthersStay, ChangesAreWithin}

-- ---- tests of indexes

is_lt : (a b : ℕ) → a < b → nat_lt a b ≡ true
is_lt a b h = lt-ltb a b h

not_lt : (a b : ℕ) → b ≤ a → nat_lt a b ≡ false
not_lt a b h = grind arith

is_le : (a b : ℕ) → a ≤ b → nat_le a b ≡ true
is_le a b h = grind arith

not_le : (a b : ℕ) → b < a → nat_le a b ≡ false
not_le a b h = grind arith

-- ---- what a log with more entries gives

conf_append : (vs : Setup) (c : List Server) (xs ys : List Entry) → configuration_from vs c (xs ++ ys) ≡ configuration_from vs (configuration_from vs c xs) ys
conf_append vs c [] ys = refl
conf_append vs c (e ∷ xs) ys = conf_append vs _ xs ys

head_append : (b : Bool) (c : Change) (xs ys zs : List Change) → xs ≡ ys ++ zs → cond b (c ∷ xs) xs ≡ cond b (c ∷ ys) ys ++ zs
head_append true c xs ys zs e = ap (λ (l : List Change). c ∷ l) e
head_append false c xs ys zs e = e

changes_append : (vs : Setup) (k j : ℕ) (xs ys : List Entry) → j ≡ k + length xs → changes_from vs k (xs ++ ys) ≡ changes_from vs k xs ++ changes_from vs j ys
changes_append vs k j [] ys e = let same : k ≡ j = omega arith in ap (λ (n : ℕ). changes_from vs n ys) same
changes_append vs k j (e ∷ xs) ys h =
    head_append (changes vs e) (record { index = k; servers = servers_read (vs.read e.bytes) }) (changes_from vs (suc k) (xs ++ ys)) (changes_from vs (suc k) xs) (changes_from vs j ys)
    (changes_append vs (suc k) j xs ys (omega arith))

grown_later : (vs : Setup) (log : List Entry) (e : Entry) (m : Configurations) → IsOf vs log m →
    m.later ++ changes_from vs (suc (length log)) (e ∷ []) ≡ changes_from vs (suc m.at) (drop m.at (log ++ e ∷ []))
grown_later vs log e m h =
    let within : m.at ≤ length log = h.within in
    let size : length (drop m.at log) ≡ length log - m.at = length-drop m.at log in
    ap (λ (l : List Change). l ++ changes_from vs (suc (length log)) (e ∷ [])) h.later
    ∙ sym (changes_append vs (suc m.at) (suc (length log)) (drop m.at log) (e ∷ []) (omega arith))
    ∙ ap (changes_from vs (suc m.at)) (sym (drop-append-le m.at log (e ∷ []) within))

grown : (vs : Setup) (log : List Entry) (e : Entry) (m : Configurations) (later : List Change) → IsOf vs log m →
    later ≡ m.later ++ changes_from vs (suc (length log)) (e ∷ []) → IsOf vs (log ++ e ∷ []) (record m { later = later })
grown vs log e m later h is =
    let size : length (log ++ e ∷ []) ≡ length log + 1 = length-append log (e ∷ []) in
    let within : m.at ≤ length log = h.within in
    record {
      within = omega arith;
      servers = h.servers ∙ ap (configuration vs) (sym (take-append-le m.at log (e ∷ []) within));
      later = is ∙ grown_later vs log e m h;
    }

pub is_pushed : (vs : Setup) (log : List Entry) (e : Entry) (m : Configurations) (index : ℕ) (servers : List Server) → IsOf vs log m →
    index ≡ suc (length log) → changes vs e ≡ true → servers_read (vs.read e.bytes) ≡ servers → IsOf vs (log ++ e ∷ []) (with_change m index servers)
is_pushed vs log e m index servers h at is read =
    grown vs log e m (m.later ++ record { index = index; servers = servers } ∷ []) h
    (ap (λ (n : ℕ). m.later ++ record { index = n; servers = servers } ∷ []) at
    ∙ ap (λ (s : List Server). m.later ++ record { index = suc (length log); servers = s } ∷ []) (sym read)
    ∙ ap (λ (l : List Change). m.later ++ l) (sym (cond-true _ _ _ is)))

pub others_stay : OthersStay
others_stay vs log m e h is =
    grown vs log e m m.later h (sym (append-nil m.later) ∙ ap (λ (l : List Change). m.later ++ l) (sym (cond-false _ _ _ is)))

-- ---- the last one

head_servers : (b : Bool) (s : List Server) (c : Change) (rest : List Change) → servers_from (cond b c.servers s) rest ≡ servers_from s (cond b (c ∷ rest) rest)
head_servers true s c rest = refl
head_servers false s c rest = refl

last_is : (vs : Setup) (k : ℕ) (s : List Server) (es : List Entry) → configuration_from vs s es ≡ servers_from s (changes_from vs k es)
last_is vs k s [] = refl
last_is vs k s (e ∷ es) =
    last_is vs (suc k) (cond (changes vs e) (servers_read (vs.read e.bytes)) s) es
    ∙ head_servers (changes vs e) s (record { index = k; servers = servers_read (vs.read e.bytes) }) (changes_from vs (suc k) es)

pub is_current : (vs : Setup) (log : List Entry) (m : Configurations) → IsOf vs log m → last_servers m ≡ configuration vs log
unfolding configuration
is_current vs log m h =
    ap (λ (s : List Server). servers_from s m.later) h.servers
    ∙ ap (servers_from (configuration_from vs vs.opening (take m.at log))) h.later
    ∙ sym (last_is vs (suc m.at) (configuration_from vs vs.opening (take m.at log)) (drop m.at log))
    ∙ sym (conf_append vs vs.opening (take m.at log) (drop m.at log))
    ∙ ap (configuration_from vs vs.opening) (take-append-drop m.at log)

pub same_voters : (vs : Setup) (log : List Entry) (m : Configurations) (servers : List Server) → servers ≡ last_servers m → IsOf vs log m → voters servers ≡ voters_after vs log
unfolding voters_after
same_voters vs log m servers is h = ap voters (is ∙ is_current vs log m h)

head_last : (b : Bool) (at : ℕ) (c : Change) (n : ℕ) (rest : List Change) → last_from c.index rest < n → last_from at rest < n → last_from at (cond b (c ∷ rest) rest) < n
head_last true at c n rest h g = h
head_last false at c n rest h g = g

last_within : (vs : Setup) (at k n : ℕ) (es : List Entry) → at < k → n ≡ k + length es → last_from at (changes_from vs k es) < n
last_within vs at k n [] h e = omega arith
last_within vs at k n (x ∷ es) h e =
    head_last (changes vs x) at (record { index = k; servers = servers_read (vs.read x.bytes) }) n (changes_from vs (suc k) es)
    (last_within vs k (suc k) n es (omega arith) (omega arith)) (last_within vs at (suc k) n es (omega arith) (omega arith))

pub changes_are_within : ChangesAreWithin
changes_are_within vs log m h =
    let within : m.at ≤ length log = h.within in
    let size : length (drop m.at log) ≡ length log - m.at = length-drop m.at log in
    let last : last_from m.at (changes_from vs (suc m.at) (drop m.at log)) < suc (length log) = last_within vs m.at (suc m.at) (suc (length log)) (drop m.at log) (omega arith) (omega arith) in
    let same : last_from m.at m.later ≡ last_from m.at (changes_from vs (suc m.at) (drop m.at log)) = ap (last_from m.at) h.later in
    omega arith

-- ---- a log that is compacted

below_head : (i : ℕ) (c : Change) (rest : List Change) → i ≤ c.index → below i (c ∷ rest) ≡ []
below_head i c rest h = cond-false _ _ _ (not_lt c.index i h)

below_other : (i : ℕ) (c : Change) (rest : List Change) → c.index < i → below i (c ∷ rest) ≡ c ∷ below i rest
below_other i c rest h = cond-true _ _ _ (is_lt c.index i h)

none_below : (vs : Setup) (i k : ℕ) (es : List Entry) → i ≤ k → below i (changes_from vs k es) ≡ []
none_below vs i k [] h = refl
none_below vs i k (e ∷ es) h = by (changes vs e) (record { index = k; servers = servers_read (vs.read e.bytes) }) (changes_from vs (suc k) es) h (none_below vs i (suc k) es (omega arith))
  where
    by : (b : Bool) (c : Change) (rest : List Change) → i ≤ c.index → below i rest ≡ [] → below i (cond b (c ∷ rest) rest) ≡ []
    by true c rest h g = below_head i c rest h
    by false c rest h g = g

below_is : (vs : Setup) (i k n : ℕ) (es : List Entry) → i ≡ k + n → below i (changes_from vs k es) ≡ changes_from vs k (take n es)
below_is vs i k zero es h = none_below vs i k es (omega arith)
below_is vs i k (suc n) [] h = refl
below_is vs i k (suc n) (e ∷ es) h =
    by (changes vs e) (record { index = k; servers = servers_read (vs.read e.bytes) }) (changes_from vs (suc k) es) (changes_from vs (suc k) (take n es)) (omega arith) (below_is vs i (suc k) n es (omega arith))
  where
    by : (b : Bool) (c : Change) (rest front : List Change) → c.index < i → below i rest ≡ front → below i (cond b (c ∷ rest) rest) ≡ cond b (c ∷ front) front
    by true c rest front h g = below_other i c rest h ∙ ap (λ (l : List Change). c ∷ l) g
    by false c rest front h g = g

pub is_cut : (vs : Setup) (log : List Entry) (m : Configurations) (index : ℕ) → m.at < index → IsOf vs log m → IsOf vs (take (index - 1) log) (cut_at m index)
is_cut vs log m index past h =
    let within : m.at ≤ length log = h.within in
    let size : length (take (index - 1) log) ≡ _ = length-take (index - 1) log in
    let n : ℕ = index - 1 - m.at in
    let upto : m.at + (index - 1 - m.at) ≡ index - 1 = omega arith in
    record {
      within = omega arith;
      servers = h.servers ∙ ap (configuration vs) (sym (take-take m.at (index - 1) log (omega arith)));
      later = ap (below index) h.later ∙ below_is vs index (suc m.at) (index - 1 - m.at) (drop m.at log) (omega arith)
          ∙ ap (changes_from vs (suc m.at)) (sym (drop-take m.at (index - 1 - m.at) log) ∙ ap (λ (j : ℕ). drop m.at (take j log)) upto);
    }

-- ---- a log that is applied further

stays_head : (a : ℕ) (c : Change) (rest : List Change) → a < c.index → past a (c ∷ rest) ≡ c ∷ rest
stays_head a c rest h = cond-false _ _ _ (not_le c.index a h)

goes_head : (a : ℕ) (c : Change) (rest : List Change) → c.index ≤ a → past a (c ∷ rest) ≡ past a rest
goes_head a c rest h = cond-true _ _ _ (is_le c.index a h)

keeps_servers : (a : ℕ) (s : List Server) (c : Change) (rest : List Change) → a < c.index → settled_servers a s (c ∷ rest) ≡ s
keeps_servers a s c rest h = cond-false _ _ _ (not_le c.index a h)

takes_servers : (a : ℕ) (s : List Server) (c : Change) (rest : List Change) → c.index ≤ a → settled_servers a s (c ∷ rest) ≡ settled_servers a c.servers rest
takes_servers a s c rest h = cond-true _ _ _ (is_le c.index a h)

all_past : (vs : Setup) (a k : ℕ) (s : List Server) (es : List Entry) → a < k → (past a (changes_from vs k es) ≡ changes_from vs k es) × (settled_servers a s (changes_from vs k es) ≡ s)
all_past vs a k s [] h = (refl, refl)
all_past vs a k s (e ∷ es) h = by (changes vs e) (record { index = k; servers = servers_read (vs.read e.bytes) }) (changes_from vs (suc k) es) h (all_past vs a (suc k) s es (omega arith))
  where
    by : (b : Bool) (c : Change) (rest : List Change) → a < c.index → (past a rest ≡ rest) × (settled_servers a s rest ≡ s) →
        (past a (cond b (c ∷ rest) rest) ≡ cond b (c ∷ rest) rest) × (settled_servers a s (cond b (c ∷ rest) rest) ≡ s)
    by true c rest h g = (stays_head a c rest h, keeps_servers a s c rest h)
    by false c rest h g = g

past_is : (vs : Setup) (a k j n : ℕ) (es : List Entry) → suc a ≡ k + n → j ≡ k + n → past a (changes_from vs k es) ≡ changes_from vs j (drop n es)
past_is vs a k j zero es h e = let same : k ≡ j = omega arith in (all_past vs a k [] es (omega arith)).0 ∙ ap (λ (i : ℕ). changes_from vs i es) same
past_is vs a k j (suc n) [] h e = refl
past_is vs a k j (suc n) (x ∷ es) h e =
    by (changes vs x) (record { index = k; servers = servers_read (vs.read x.bytes) }) (changes_from vs (suc k) es) (changes_from vs j (drop n es)) (omega arith) (past_is vs a (suc k) j n es (omega arith) (omega arith))
  where
    by : (b : Bool) (c : Change) (rest left : List Change) → c.index ≤ a → past a rest ≡ left → past a (cond b (c ∷ rest) rest) ≡ left
    by true c rest left h g = goes_head a c rest h ∙ g
    by false c rest left h g = g

servers_are : (vs : Setup) (a k n : ℕ) (s : List Server) (es : List Entry) → suc a ≡ k + n → settled_servers a s (changes_from vs k es) ≡ configuration_from vs s (take n es)
servers_are vs a k zero s es h = (all_past vs a k s es (omega arith)).1
servers_are vs a k (suc n) s [] h = refl
servers_are vs a k (suc n) s (x ∷ es) h =
    by (changes vs x) s (record { index = k; servers = servers_read (vs.read x.bytes) }) (changes_from vs (suc k) es) (omega arith)
    ∙ servers_are vs a (suc k) n (cond (changes vs x) (servers_read (vs.read x.bytes)) s) es (omega arith)
  where
    by : (b : Bool) (s : List Server) (c : Change) (rest : List Change) → c.index ≤ a → settled_servers a s (cond b (c ∷ rest) rest) ≡ settled_servers a (cond b c.servers s) rest
    by true s c rest h = takes_servers a s c rest h
    by false s c rest h = refl

two_fronts : (log : List Entry) (a n : ℕ) → take a log ++ take n (drop a log) ≡ take (a + n) log
two_fronts log a n =
    ap (λ (l : List Entry). l ++ take n (drop a log)) (sym (take-take a (a + n) log (omega arith)))
    ∙ ap (λ (l : List Entry). take a (take (a + n) log) ++ l) (sym (drop-take a n log))
    ∙ take-append-drop a (take (a + n) log)

pub is_settled : (vs : Setup) (log : List Entry) (m : Configurations) (applied : ℕ) → m.at ≤ applied → IsOf vs log m → applied ≤ length log → IsOf vs log (settled m applied)
unfolding configuration
is_settled vs log m applied later h within =
    let upto : m.at + (applied - m.at) ≡ applied = omega arith in
    record {
      within = within;
      servers = ap (λ (s : List Server). settled_servers applied s m.later) h.servers
          ∙ ap (settled_servers applied (configuration_from vs vs.opening (take m.at log))) h.later
          ∙ servers_are vs applied (suc m.at) (applied - m.at) (configuration_from vs vs.opening (take m.at log)) (drop m.at log) (omega arith)
          ∙ sym (conf_append vs vs.opening (take m.at log) (take (applied - m.at) (drop m.at log)))
          ∙ ap (configuration_from vs vs.opening) (two_fronts log m.at (applied - m.at) ∙ ap (λ (j : ℕ). take j log) upto);
      later = ap (past applied) h.later
          ∙ past_is vs applied (suc m.at) (suc applied) (applied - m.at) (drop m.at log) (omega arith) (omega arith)
          ∙ ap (changes_from vs (suc applied)) (drop-drop (applied - m.at) m.at log ∙ ap (λ (j : ℕ). drop j log) upto);
    }

-- ---- counting those below an index

pub below_more : (i : ℕ) (cs : List Change) (n : ℕ) (c : Change) → n < length cs → get_or cs n c ≡ c → c.index < i →
    below i cs ≡ take n cs ++ below i (drop n cs) → below i cs ≡ take (n + 1) cs ++ below i (drop (n + 1) cs)
below_more i cs n c inside is lt so_far =
    so_far
    ∙ ap (λ (l : List Change). take n cs ++ below i l) (drop_more cs n c inside ∙ ap (λ (x : Change). x ∷ drop (n + 1) cs) is)
    ∙ ap (λ (l : List Change). take n cs ++ l) (below_other i c (drop (n + 1) cs) lt)
    ∙ sym (append_assoc (take n cs) (c ∷ []) (below i (drop (n + 1) cs)))
    ∙ ap (λ (l : List Change). l ++ below i (drop (n + 1) cs)) (ap (λ (x : Change). take n cs ++ x ∷ []) (sym is) ∙ sym (take_more cs n c inside))

pub below_here : (i : ℕ) (cs : List Change) (n : ℕ) (c : Change) → n < length cs → get_or cs n c ≡ c → i ≤ c.index →
    below i cs ≡ take n cs ++ below i (drop n cs) → take n cs ≡ below i cs
below_here i cs n c inside is le so_far =
    sym (so_far
    ∙ ap (λ (l : List Change). take n cs ++ below i l) (drop_more cs n c inside ∙ ap (λ (x : Change). x ∷ drop (n + 1) cs) is)
    ∙ ap (λ (l : List Change). take n cs ++ l) (below_head i c (drop (n + 1) cs) le)
    ∙ append-nil (take n cs))

pub below_all : (i : ℕ) (cs : List Change) (n : ℕ) → length cs ≤ n → below i cs ≡ take n cs ++ below i (drop n cs) → take n cs ≡ below i cs
below_all i cs n le so_far = sym (so_far ∙ ap (λ (l : List Change). take n cs ++ below i l) (drop_all n cs le) ∙ append-nil (take n cs))

-- ---- the last change

pub last_change : (s : List Server) (cs : List Change) (n : ℕ) (c : Change) → suc n ≡ length cs → get_or cs n c ≡ c → c.servers ≡ servers_from s cs
last_change s [] n c size is = absurd (omega arith)
last_change s (x ∷ []) zero c size is = sym (ap (λ (y : Change). y.servers) is)
last_change s (x ∷ []) (suc n) c size is = absurd (omega arith)
last_change s (x ∷ y ∷ cs) zero c size is = absurd (omega arith)
last_change s (x ∷ y ∷ cs) (suc n) c size is = last_change x.servers (y ∷ cs) n c (omega arith) is

pub last_place : (at : ℕ) (cs : List Change) (n : ℕ) (c : Change) → suc n ≡ length cs → get_or cs n c ≡ c → c.index ≡ last_from at cs
last_place at [] n c size is = absurd (omega arith)
last_place at (x ∷ []) zero c size is = sym (ap (λ (y : Change). y.index) is)
last_place at (x ∷ []) (suc n) c size is = absurd (omega arith)
last_place at (x ∷ y ∷ cs) zero c size is = absurd (omega arith)
last_place at (x ∷ y ∷ cs) (suc n) c size is = last_place x.index (y ∷ cs) n c (omega arith) is
