-- Messages of a run represent those of Raft's world.
use Rattle.std.proofs.Common.{◌≡◌, ◌⊎◌, ℕ, zero, suc, ◌+◌, ◌<◌, Bool, true, false, List, [], ◌∷◌, ◌++◌, length, map, take, refl, sym, ap, ◌∙◌, subst, ⊎_elim, arith, append_assoc, length-append}
use Rattle.std.specs.Prelude.{cond, ◌==◌, Option, Some, None, slice_get}
use Rattle.raft_spec.specs.Log.{Entry, LogEnd}
use Rattle.raft_spec.specs.Node.{What, AskVote, Vote, Append, Ack, Install, TimeoutNow, Message, LocalEvent, Timeout, Beat, Yield, Input, Local, Receive}
use Rattle.raft_safety.specs.Members.{Setup}
use Rattle.raft_safety.specs.World.{Cause, Does, Takes, taken, inputs, one_of, picked}
use Rattle.raft_safety.specs.Cuts.{AlikeWhat, AlikeMessage, AlikeAll, AlikeInputs}
use Rattle.raft_safety.specs.Sources.{WhatFront}
use Rattle.store_laws.specs.Store.{Kept}
use Rattle.node_spec.specs.Nodes.{SnapshotOf}
use Rattle.node_spec.specs.Steps.{Letter, FrontIs, BytesAre, HasBytes, WhatSent, AllSent}
use Rattle.cluster_safety.specs.Runs.{Comes, Timeout as Late, Beat as Beats, Yield as Yields, Connect, Asks, Hangup, Gets, Reads, taken_letter, comes_in}
use Rattle.cluster_safety.specs.Runs.{bytes_of, bytes_in}
use Rattle.cluster_safety.specs.Acts.{LetterIs, LettersAre}

pub letters_join : (vs : Setup) (ms ns : List Message) (ls ks : List Letter) → LettersAre vs ms ls → LettersAre vs ns ks → LettersAre vs (ms ++ ns) (ls ++ ks)
letters_join vs [] ns ls ks a b = subst (λ (l : List Letter). LettersAre vs ns (l ++ ks)) (sym a) b
letters_join vs (m ∷ ms) ns ls ks a b = (a.0, a.1 ++ ks, ap (λ (l : List Letter). l ++ ks) a.2, a.3, letters_join vs ms ns a.1 ks a.4 b)

-- a message of the world at a number, and the one that represents it
abbrev pub Found : Setup → Option Message → Option Letter → Type 0
Found vs None o = o ≡ None
Found vs (Some m) o = (l : Letter) × (o ≡ Some l) × LetterIs vs m l

pub found : (vs : Setup) (ms : List Message) (ls : List Letter) (k : ℕ) → LettersAre vs ms ls → Found vs (slice_get ms k) (slice_get ls k)
found vs [] ls k a = ap (λ (l : List Letter). slice_get l k) a
found vs (m ∷ ms) ls zero a = (a.0, ap (λ (l : List Letter). slice_get l 0) a.2, a.3)
found vs (m ∷ ms) ls (suc k) a = subst (λ (l : List Letter). Found vs (slice_get ms k) (slice_get l (suc k))) (sym a.2) (found vs ms a.1 k a.4)

pub record Came (vs : Setup) (bytes : List ℕ) (is js : List Input) : Type 0 where
  pub alike : AlikeInputs is js
  pub front : BytesAre vs bytes is

came_join : (vs : Setup) (bytes : List ℕ) (is js more others : List Input) → Came vs bytes is js → Came vs bytes more others → Came vs bytes (is ++ more) (js ++ others)
came_join vs bytes [] js more others a b = subst (λ (l : List Input). Came vs bytes more (l ++ others)) (sym a.alike) b
came_join vs bytes (Local local ∷ is) js more others a b =
    let x = a.alike in
    let r = came_join vs bytes is x.1 more others (record { alike = x.4; front = a.front }) b in
    record { alike = (x.0, x.1 ++ others, ap (λ (l : List Input). l ++ others) x.2, x.3, r.alike); front = r.front }
came_join vs bytes (Receive m ∷ is) js more others a b =
    let x = a.alike in
    let r = came_join vs bytes is x.1 more others (record { alike = x.4; front = a.front.1 }) b in
    record { alike = (x.0, x.1 ++ others, ap (λ (l : List Input). l ++ others) x.2, x.3, r.alike); front = (a.front.0, r.front) }

-- what a node does of itself
came_added : (vs : Setup) (bytes : List ℕ) (n : ℕ) (ms : List Message) (added : List LocalEvent) → Came vs bytes (inputs n ms (map Does added)) (map Local added)
came_added vs bytes n ms [] = record { alike = refl; front = tt }
came_added vs bytes n ms (e ∷ added) =
    let r = came_added vs bytes n ms added in
    record { alike = (Local e, map Local added, refl, refl, r.alike); front = r.front }

same_message : (m k : Message) → AlikeMessage m k → k ≡ record { from = m.from; to = m.to; term = m.term; what = k.what }
same_message m k a =
    ap (λ x. record { from = x; to = k.to; term = k.term; what = k.what }) a.from ∙ ap (λ x. record { from = m.from; to = x; term = k.term; what = k.what }) a.to ∙ ap (λ x. record { from = m.from; to = m.to; term = x; what = k.what }) a.term

came_letter : (vs : Setup) (n : ℕ) (m : Message) (l : Letter) → LetterIs vs m l → Came vs l.bytes (taken n (Some m)) (taken_letter n (Some l))
came_letter vs n m l a =
    let e = a.alike.to in
    subst (λ (t : ℕ). Came vs l.bytes (cond (m.to == n) (Receive m ∷ []) []) (cond (t == n) (Receive l.message ∷ []) [])) (sym e) (by (m.to == n))
  where
    by : (b : Bool) → Came vs l.bytes (cond b (Receive m ∷ []) []) (cond b (Receive l.message ∷ []) [])
    by true = record { alike = (Receive l.message, [], refl, (l.message.what, ap Receive (same_message m l.message a.alike), a.alike.what), refl); front = (a.front, tt) }
    by false = record { alike = refl; front = tt }

came_found : (vs : Setup) (n : ℕ) (o : Option Message) (p : Option Letter) → Found vs o p → Came vs (bytes_of p) (taken n o) (taken_letter n p)
came_found vs n None p f = subst (λ (q : Option Letter). Came vs (bytes_of q) [] (taken_letter n q)) (sym f) (record { alike = refl; front = tt })
came_found vs n (Some m) p f = subst (λ (q : Option Letter). Came vs (bytes_of q) (taken n (Some m)) (taken_letter n q)) (sym f.1) (came_letter vs n m f.0 f.2)

-- the causes of what a node takes in
abbrev pub causes : Comes → List LocalEvent → List Cause
causes Late added = Does Timeout ∷ map Does added
causes Beats added = Does Beat ∷ map Does added
causes Yields added = Does Yield ∷ map Does added
causes (Connect conn) added = map Does added
causes (Asks conn requests) added = map Does added
causes (Hangup conn) added = map Does added
causes (Gets k) added = Takes k ∷ map Does added
causes (Reads conn reply) added = map Does added

pub came_in : (vs : Setup) (n : ℕ) (ms : List Message) (ls : List Letter) (came : Comes) (added : List LocalEvent) → LettersAre vs ms ls → Came vs (bytes_in ls came) (inputs n ms (causes came added)) (comes_in n ls came ++ map Local added)
came_in vs n ms ls Late added a = let r = came_added vs [] n ms added in record { alike = (Local Timeout, map Local added, refl, refl, r.alike); front = r.front }
came_in vs n ms ls Beats added a = let r = came_added vs [] n ms added in record { alike = (Local Beat, map Local added, refl, refl, r.alike); front = r.front }
came_in vs n ms ls Yields added a =
    let r = came_added vs [] n ms added in record { alike = (Local Yield, map Local added, refl, refl, r.alike); front = r.front }
came_in vs n ms ls (Connect conn) added a = came_added vs [] n ms added
came_in vs n ms ls (Asks conn requests) added a = came_added vs [] n ms added
came_in vs n ms ls (Hangup conn) added a = came_added vs [] n ms added
came_in vs n ms ls (Reads conn reply) added a = came_added vs [] n ms added
came_in vs n ms ls (Gets k) added a =
    came_join vs (bytes_of (slice_get ls k)) (taken n (slice_get ms k)) (taken_letter n (slice_get ls k)) (inputs n ms (map Does added)) (map Local added)
    (came_found vs n (slice_get ms k) (slice_get ls k) (found vs ms ls k a))
    (came_added vs (bytes_of (slice_get ls k)) n ms added)

-- ---- new messages

-- the kept bytes are those of a front of these entries
abbrev pub KeepsFront : Setup → List Entry → Kept → Type 0
KeepsFront vs c k = 0 < k.snap.index → SnapshotOf vs (take k.snap.index c) k.snap.bytes

sent_bytes : (vs : Setup) (c : List Entry) (k : Kept) (bytes : List ℕ) (last : LogEnd) (front : List Entry) → KeepsFront vs c k → WhatFront c (Install last front) → HasBytes k last bytes → FrontIs vs bytes (Install last front)
sent_bytes vs c k bytes last front f g b = λ pos.
    let low : 0 < k.snap.index = subst (λ (i : ℕ). 0 < i) b.0 pos in
    subst (λ (y : List ℕ). SnapshotOf vs front y) (sym b.1) (subst (λ (x : List Entry). SnapshotOf vs x k.snap.bytes) (sym (g.1 ∙ ap (λ (i : ℕ). take i c) b.0)) (f low))

what_sent : (vs : Setup) (c : List Entry) (old new : Kept) (bytes : List ℕ) (w v : What) → KeepsFront vs c old → KeepsFront vs c new → WhatFront c w → AlikeWhat w v → WhatSent old new bytes v → FrontIs vs bytes w
what_sent vs c old new bytes (AskVote last transfer) v f g h a b = tt
what_sent vs c old new bytes (Vote granted) v f g h a b = tt
what_sent vs c old new bytes (Append prev commit es) v f g h a b = tt
what_sent vs c old new bytes (Ack good index) v f g h a b = tt
what_sent vs c old new bytes (Install last front) v f g h a b =
    let x : HasBytes old last bytes ⊎ HasBytes new last bytes = subst (WhatSent old new bytes) a.1 b in
    ⊎_elim (λ (o : HasBytes old last bytes). sent_bytes vs c old bytes last front f h o) (λ (o : HasBytes new last bytes). sent_bytes vs c new bytes last front g h o) x
what_sent vs c old new bytes TimeoutNow v f g h a b = tt

no_letters : (ls : List Letter) → map (λ (l : Letter). l.message) ls ≡ [] → ls ≡ []
no_letters [] e = refl
no_letters (l ∷ ls) e = absurd (cc)

head_is : (a b : Message) (xs ys : List Message) → a ∷ xs ≡ b ∷ ys → (b ≡ a) × (ys ≡ xs)
head_is a b xs ys e = (cc, cc)

-- peer messages whose snapshots are kept ones
pub letters_sent : (vs : Setup) (c : List Entry) (old new : Kept) → KeepsFront vs c old → KeepsFront vs c new → (ms : List Message) (ls : List Letter) → AlikeAll ms (map (λ (l : Letter). l.message) ls) → AllSent old new ls → ((k : ℕ) (m : Message) → slice_get ms k ≡ Some m → WhatFront c m.what) → LettersAre vs ms ls
letters_sent vs c old new f g [] ls a b h = no_letters ls a
letters_sent vs c old new f g (m ∷ ms) [] a b h = absurd (no_more a.0 a.1 a.2)
  where
    no_more : (k : Message) (rest : List Message) → [] ≡ k ∷ rest → ⊥
    no_more k rest e = cc
letters_sent vs c old new f g (m ∷ ms) (l ∷ ls) a b h =
    let e = head_is l.message a.0 (map (λ (l : Letter). l.message) ls) a.1 a.2 in
    let alike : AlikeMessage m l.message = subst (AlikeMessage m) e.0 a.3 in
    let rest : AlikeAll ms (map (λ (l : Letter). l.message) ls) = subst (AlikeAll ms) e.1 a.4 in
    (l, ls, refl, record { alike = alike; front = what_sent vs c old new l.bytes m.what l.message.what f g (h 0 m refl) alike.what b.0 }, letters_sent vs c old new f g ms ls rest b.1 (λ k x q. h (suc k) x q))

-- ---- all places

abbrev pub places_from : ℕ → List Message → List ℕ
places_from k [] = []
places_from k (m ∷ ms) = k ∷ places_from (suc k) ms

get_at : (xs ys : List Message) (m : Message) → slice_get (xs ++ m ∷ ys) (length xs) ≡ Some m
get_at [] ys m = refl
get_at (x ∷ xs) ys m = get_at xs ys m

picked_from : (all xs ys : List Message) → all ≡ xs ++ ys → picked all (places_from (length xs) ys) ≡ ys
picked_from all xs [] e = refl
picked_from all xs (m ∷ ys) e =
    let at : slice_get all (length xs) ≡ Some m = ap (λ (l : List Message). slice_get l (length xs)) e ∙ get_at xs ys m in
    let n : length (xs ++ m ∷ []) ≡ suc (length xs) = length-append xs (m ∷ []) ∙ omega arith in
    ap (λ (o : Option Message). one_of o ++ picked all (places_from (suc (length xs)) ys)) at
    ∙ ap (λ (k : ℕ). m ∷ picked all (places_from k ys)) (sym n)
    ∙ ap (λ (l : List Message). m ∷ l) (picked_from all (xs ++ m ∷ []) ys (e ∙ sym (append_assoc xs (m ∷ []) ys)))

-- all of these messages
pub picked_all : (all : List Message) → picked all (places_from 0 all) ≡ all
picked_all all = picked_from all [] all refl

get_past : (xs ys : List Message) (k : ℕ) → slice_get (xs ++ ys) (length xs + k) ≡ slice_get ys k
get_past [] ys k = ap (slice_get ys) (omega arith)
get_past (x ∷ xs) ys k = let e : suc (length xs) + k ≡ suc (length xs + k) = omega arith in ap (slice_get (x ∷ xs ++ ys)) e ∙ get_past xs ys k

-- what holds of all holds of the later ones
pub later_ones : (P : Message → Type 0) (xs ys : List Message) → ((k : ℕ) (m : Message) → slice_get (xs ++ ys) k ≡ Some m → P m) → (k : ℕ) (m : Message) → slice_get ys k ≡ Some m → P m
later_ones P xs ys h k m e = h (length xs + k) m (get_past xs ys k ∙ e)
