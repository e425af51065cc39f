-- Entries that join a log, and a log that is another one from an index on.
use Rattle.std.proofs.Common.{◌≡◌, ℕ, suc, ◌+◌, ◌<◌, ◌≤◌, Bool, true, false, cond, List, [], ◌∷◌, ◌++◌, length, take, refl, sym, ap, subst, ◌∙◌, arith, append_assoc, Option, Some, None}
use Rattle.std.specs.Prelude.{◌&&◌, ◌||◌, nat_lt, slice_index_or}
use Rattle.std.specs.List.{list_any}
use Rattle.std.proofs.lemmas.List.Folds.{list_any-append}
use Rattle.std.proofs.lemmas.Bool.{cond_both, ltb-true, ltb-false}
use Rattle.std.proofs.lemmas.List.{length-append, take_more}
use Rattle.raft_spec.specs.Log.{Entry}
use Rattle.raft_spec.specs.Node.{Server}
use Rattle.raft_messages.specs.Servers.{configuration_of}
use Rattle.raft_safety.specs.Members.{is_change, reads, changes}
use Rattle.raft_membership.specs.declared.members.Change.{Change}
use Rattle.raft_membership.specs.Members.{Configurations, AllStand, last_from, last_index, with_read, configuration_in, changed, all_changed, below, cut_at, read_setup, IsOf, Joined}

-- ---- the last change

last_of : (at : ℕ) (cs : List Change) (c : Change) → last_from at (cs ++ c ∷ []) ≡ c.index
last_of at [] c = refl
last_of at (d ∷ cs) c = last_of d.index cs c

read_low : (m : Configurations) (index : ℕ) (o : Option (List Server)) → last_index m < index → last_index (with_read m index o) ≤ index
read_low m index None l = omega arith
read_low m index (Some servers) l = let e = last_of m.at m.later (record { index = index; servers = servers }) in omega arith

read_at : (m : Configurations) (index : ℕ) (o : Option (List Server)) → (with_read m index o).at ≡ m.at
read_at m index None = refl
read_at m index (Some servers) = refl

changed_low : (m : Configurations) (index : ℕ) (e : Entry) → last_index m < index → last_index (changed m index e) ≤ index
changed_low m index e l = read_low m index (configuration_in e) l

unread : (m : Configurations) (index : ℕ) (b : Bool) (o : Option (List Server)) → (b && reads o) ≡ false → with_read m index (cond b o None) ≡ m
unread m index true None e = refl
unread m index true (Some servers) e = absurd cc
unread m index false o e = refl

unchanged : (m : Configurations) (index : ℕ) (e : Entry) → changes (read_setup []) e ≡ false → changed m index e ≡ m
unchanged m index e c = unread m index (is_change e.kind) (configuration_of e.bytes) c

below_low : (index at : ℕ) (cs : List Change) → at < index → last_from at (below index cs) < index
below_low index at [] l = l
below_low index at (c ∷ cs) l = cond_both (nat_lt c.index index) _ _ (λ (ds : List Change). last_from at ds < index) (λ e. below_low index c.index cs (ltb-true _ _ e)) (λ e. l)

pub cut_low : (m : Configurations) (index : ℕ) → m.at < index → last_index (cut_at m index) < index
cut_low m index l = below_low index m.at m.later l

below_all : (index : ℕ) (cs : List Change) → length cs ≤ length (below index cs) → below index cs ≡ cs
below_all index [] l = refl
below_all index (c ∷ cs) l = by (nat_lt c.index index) (below_all index cs) l
  where
    by : (b : Bool) → (length cs ≤ length (below index cs) → below index cs ≡ cs) → length (c ∷ cs) ≤ length (cond b (c ∷ below index cs) []) → cond b (c ∷ below index cs) [] ≡ c ∷ cs
    by true rest l = ap (λ ds. c ∷ ds) (rest (omega arith))
    by false rest l = absurd (omega arith)

pub cut_none : (m : Configurations) (index : ℕ) → nat_lt (length (cut_at m index).later) (length m.later) ≡ false → cut_at m index ≡ m
cut_none m index e = let l = ltb-false _ _ e in ap (λ cs. record m { later = cs }) (below_all index m.later (omega arith))

-- ---- entries that join

pub none_joined : (m : Configurations) (first : ℕ) → last_index m < first → Joined m m first [] false
none_joined m first l = record {
  is = λ opening log h e. subst (λ (es : List Entry). IsOf (read_setup opening) es m) (nil log) h;
  exact = refl;
  at = refl;
  low = omega arith;
  told_so = refl;
  stays = λ e. refl;
  stand = λ h. h;
}
  where
    nil : (log : List Entry) → log ≡ log ++ []
    nil [] = refl
    nil (x ∷ xs) = ap (λ l. x ∷ l) (nil xs)

or_false : (a b : Bool) → (a || b) ≡ false → (a ≡ false) × (b ≡ false)
or_false true b e = absurd cc
or_false false b e = (refl, e)

or_swapped : (a b : Bool) → (a || b) ≡ (b || (a || false))
or_swapped true true = refl
or_swapped true false = refl
or_swapped false true = refl
or_swapped false false = refl

one_at_end : (p : Entry → Bool) (entries : List Entry) (e : Entry) → (p e || list_any p entries) ≡ list_any p (entries ++ e ∷ [])
one_at_end p entries e = or_swapped (p e) (list_any p entries) ∙ sym (list_any-append p entries (e ∷ []))

all_and_one : (m : Configurations) (first : ℕ) (entries : List Entry) (e : Entry) (index : ℕ) → index ≡ first + length entries
    → all_changed m first (entries ++ e ∷ []) ≡ changed (all_changed m first entries) index e
all_and_one m first [] e index at = let n : first ≡ index = omega arith in ap (λ (k : ℕ). changed m k e) n
all_and_one m first (x ∷ xs) e index at = all_and_one (changed m first x) (suc first) xs e index (omega arith)

pub one_joined : (old m new : Configurations) (first index : ℕ) (entries : List Entry) (e : Entry) (told one : Bool) → Joined old m first entries told → index ≡ first + length entries → one ≡ changes (read_setup []) e → new ≡ changed m index e
    → ((opening : List Server) (log : List Entry) → IsOf (read_setup opening) log m → index ≡ suc (length log) → IsOf (read_setup opening) (log ++ e ∷ []) new)
    → (AllStand m → AllStand new)
    → Joined old new first (entries ++ e ∷ []) (one || told)
one_joined old m new first index entries e told one j at c n is stand =
    let more = length-append entries (e ∷ []) in
    let low = j.low in
    let lt : last_index m < index = omega arith in
    let last : last_index new ≤ index = subst (λ (x : Configurations). last_index x ≤ index) (sym n) (changed_low m index e lt) in
    record {
      is = λ opening log h f.
          let count : index ≡ suc (length (log ++ entries)) = let a = length-append log entries in omega arith in
          subst (λ (es : List Entry). IsOf (read_setup opening) es new) (append_assoc log entries (e ∷ [])) (is opening (log ++ entries) (j.is opening log h f) count);
      exact = n ∙ ap (λ (x : Configurations). changed x index e) j.exact ∙ sym (all_and_one old first entries e index at);
      at = ap (λ (x : Configurations). x.at) n ∙ read_at m index (configuration_in e) ∙ j.at;
      low = omega arith;
      told_so = (λ i. c i || j.told_so i) ∙ one_at_end (λ (x : Entry). changes (read_setup []) x) entries e;
      stays = λ f. let both = or_false one told f in n ∙ unchanged m index e (sym c ∙ both.0) ∙ j.stays both.1;
      stand = λ h. stand (j.stand h);
    }

pub one_more_taken : (all : List Entry) (i : ℕ) (e : Entry) → i < length all → e ≡ slice_index_or all i e → take (i + 1) all ≡ take i all ++ e ∷ []
one_more_taken all i e lt is = take_more all i e lt ∙ ap (λ x. take i all ++ x ∷ []) (sym is)
