-- What the log of a node between two kept steps of an event shares with the applied entries.
use Rattle.std.proofs.Common.{◌≡◌, ◌⊎◌, inl, inr, ℕ, zero, suc, ◌≤◌, true, false, List, [], ◌∷◌, ◌++◌, length, take, refl, sym, ap, ◌∙◌, subst, ⊎_elim, arith, append_assoc}
use Rattle.std.proofs.lemmas.Bool.{cond-true}
use Rattle.std.proofs.lemmas.List.{append-nil, length-take, take-take}
use Rattle.raft_spec.specs.Log.{Entry, term_at}
use Rattle.raft_spec.specs.Node.{Node}
use Rattle.raft_spec.specs.Account.{stored_of, enacted, steps, account, loaded, older}
use Rattle.raft_safety.specs.Members.{Setup, member_step}
use Rattle.raft_safety.specs.World.{World, Event, Acts, Stops, Crash, Start, inputs, put, picked, outs, after, stopped, happens, start, run_from, run}
use Rattle.raft_safety.specs.Laws.{log_at}
use Rattle.raft_safety.specs.Chosen.{actor, chosen}
use Rattle.raft_safety.specs.Sources.{midway}
use Rattle.raft_safety.specs.Midways.{Made}
use Rattle.raft_safety.proofs.Logs.{term_at-take}
use Rattle.raft_safety.proofs.History.{Hist, Sound}
use Rattle.raft_safety.proofs.Growth.{Later, later_refl, later_trans, sound_later}
use Rattle.raft_safety.proofs.Complete.{meet}
use Rattle.raft_safety.proofs.Reaches.{Reach, loaded_ok, older_ok, StoredOk}
use Rattle.raft_safety.proofs.Steps.{split_fine, stop_split}
use Rattle.raft_safety.proofs.Worlds.{WorldOk, put_world, all_picked, inputs_fine, happens_fine, Next, run_from_fine, moments, run_append}
use Rattle.raft_safety.proofs.Properties.{chosen_step}
use Rattle.append_safety.specs.Appending.{KeptAgrees}

-- ---- a kept step

-- the history at the step, one in which its node's log is sound, and that after the event
record Passed (vs : Setup) (w : World) (h : Hist) (s : Node) : Type 0 where
  mid : Hist
  grows : Later h mid
  sound : Sound mid s.log
  next : Next vs mid w

unmoved : (vs : Setup) (n : ℕ) (s : Node) (k : ℕ) → steps (member_step vs n) s (take k []) ≡ s
unmoved vs n s zero = refl
unmoved vs n s (suc k) = refl

passes : {vs : Setup} {h : Hist} (w : World) (e : Event) (k : ℕ) → WorldOk vs h w → (w.nodes (actor e)).up ≡ true → Made vs w e k → Passed vs
    (happens vs w e) h (midway vs w e k)
passes {vs} {h} w (Acts n cs places) k a up made =
    let x = split_fine n (inputs n w.messages cs) k h (w.nodes n) a.hist (a.nodes n) (inputs_fine vs h n w.messages cs a.messages) in
    let r : Reach vs h n (after vs w n cs) (picked (outs vs w n cs) places) = record {
      to = x.whole.to;
      grows = x.whole.grows;
      hist = x.whole.hist;
      node =
          x.whole.node;
      sent = all_picked vs x.whole.to (outs vs w n cs) places x.whole.sent;
    } in
    record {
      mid = x.mid.to;
      grows = x.mid.grows.later;
      sound = x.mid.node.sound;
      next = record {
        to = x.whole.to;
        later = x.later;
        world = subst (WorldOk vs x.whole.to)
            (sym (cond-true (w.nodes n).up (put w n (after vs w n cs) (picked (outs vs w n cs) places)) w up))
            (put_world w n (after vs w n cs) (picked (outs vs w n cs) places) a r);
      };
    }
passes {vs} {h} w (Stops n cs acts applied base) k a up made =
    let x = stop_split n (inputs n w.messages cs) k acts h (w.nodes n) made a.hist (a.nodes n) (inputs_fine vs h n w.messages cs a.messages) in
    let kept = enacted (stored_of (w.nodes n)) (take acts (account (member_step vs n) (w.nodes n) (inputs n w.messages cs))) in
    let fit : StoredOk vs x.stands.to n (stopped vs w n cs acts) = subst (StoredOk vs x.stands.to n)
    (sym (cond-true (w.nodes n).up kept (stored_of (w.nodes n)) up)) x.stands.fit in
    let down = loaded false [] (older base (stopped vs w n cs acts)) in
    let r : Reach vs h n down [] = record {
      to = x.stands.to;
      grows = x.stands.grows;
      hist = x.stands.hist;
      node = loaded_ok false []
          (older base (stopped vs w n cs acts)) (older_ok base (stopped vs w n cs acts) fit);
      sent = tt;
    } in
    record {
      mid = x.mid.to;
      grows = x.mid.grows.later;
      sound = x.mid.node.sound;
      next = record {
        to = x.stands.to;
        later = x.later;
        world =
            put_world w n down [] a r;
      };
    }
passes {vs} {h} w (Crash n) k a up made =
    let x = happens_fine w (Crash n) a in
    record {
      mid = h;
      grows = later_refl h;
      sound = subst (λ (s : Node). Sound h s.log) (sym (unmoved vs n (w.nodes n) k)) (a.nodes n).sound;
      next =
          record { to = x.to; later = x.later; world = x.world };
    }
passes {vs} {h} w (Start n servers) k a up made =
    let x = happens_fine w (Start n servers) a in
    record {
      mid = h;
      grows = later_refl h;
      sound = subst (λ (s : Node). Sound h s.log) (sym (unmoved vs n (w.nodes n) k)) (a.nodes n).sound;
      next =
          record { to = x.to; later = x.later; world = x.world };
    }

run_past : (vs : Setup) (es : List Event) (e : Event) (more : List Event) → run vs (es ++ e ∷ more) ≡ run_from vs (happens vs (run vs es) e) more
unfolding run
run_past vs es e more = run_append vs (start vs) es (e ∷ more)

-- ---- the step and a log between two events

-- before the event
meets_before : (vs : Setup) (ps more : List Event) (e : Event) (n k i : ℕ) → ((run vs (ps ++ more)).nodes (actor e)).up ≡ true → Made vs
    (run vs (ps ++ more)) e k →
    i ≤ length (midway vs (run vs (ps ++ more)) e k).log → i ≤ length (log_at vs ps n) → term_at (midway vs (run vs (ps ++ more)) e k).log i ≡ term_at
    (log_at vs ps n) i →
    take i (midway vs (run vs (ps ++ more)) e k).log ≡ take i (log_at vs ps n)
meets_before vs ps more e n k i up made in_mid in_log same =
    let m = moments vs ps more in
    let p = passes (run vs (ps ++ more)) e k m.world' up made in
    ((meet p.sound (sound_later (later_trans m.first m.second p.mid m.later p.grows) (m.world.nodes n).sound)).at i in_mid in_log same).same

-- after it
meets_after : (vs : Setup) (ps : List Event) (e : Event) (more : List Event) (n k i : ℕ) → ((run vs ps).nodes (actor e)).up ≡ true → Made vs (run vs ps) e k →
    i ≤ length (midway vs (run vs ps) e k).log → i ≤ length (log_at vs (ps ++ e ∷ more) n) → term_at (midway vs (run vs ps) e k).log i ≡ term_at
    (log_at vs (ps ++ e ∷ more) n) i →
    take i (midway vs (run vs ps) e k).log ≡ take i (log_at vs (ps ++ e ∷ more) n)
meets_after vs ps e more n k i up made in_mid in_log same =
    let m = moments vs ps [] in
    let p = passes (run vs ps) e k m.world up made in
    let rest = run_from_fine vs more p.next.to (happens vs (run vs ps) e) p.next.world in
    let world : WorldOk vs rest.to (run vs (ps ++ e ∷ more)) = subst (WorldOk vs rest.to) (sym (run_past vs ps e more)) rest.world in
    ((meet (sound_later (later_trans p.mid p.next.to rest.to p.next.later rest.later) p.sound) (world.nodes n).sound).at i in_mid in_log same).same

-- ---- the applied entries

-- they are the front of a log at some moment, or none
pub record Shown (vs : Setup) (es : List Event) : Type 0 where
  pub past : List Event
  pub rest : List Event
  pub split : es ≡ past ++ rest
  pub node : ℕ
  pub size : ℕ
  pub is : chosen vs es ≡ take size (log_at vs past node)

pub shown_from : (vs : Setup) (rest ps : List Event) → Shown vs ps → Shown vs (ps ++ rest)
shown_from vs [] ps x = subst (Shown vs) (sym (append-nil ps)) x
shown_from vs (e ∷ rest) ps x =
    let es = ps ++ e ∷ [] in
    subst (Shown vs) (append_assoc ps (e ∷ []) rest) (shown_from vs rest es (⊎_elim
    (λ (y : chosen vs es ≡ chosen vs ps). record {
      past = x.past;
      rest = x.rest ++ e ∷ [];
      split = ap (λ l. l ++ e ∷ []) x.split
          ∙ append_assoc x.past x.rest (e ∷ []);
      node = x.node;
      size = x.size;
      is = y ∙ x.is;
    })
    (λ (y : (k : ℕ) × (chosen vs es ≡ take k (log_at vs es (actor e)))). record {
      past = es;
      rest = [];
      split = sym (append-nil es);
      node = actor e;
      size =
          y.0;
      is = y.1;
    })
    (chosen_step vs ps e)))

pub shown_first : (vs : Setup) → Shown vs []
unfolding chosen
shown_first vs = record { past = []; rest = []; split = refl; node = 0; size = 0; is = refl }

-- one front of a list, and another
fronts : (xs us ys ts : List Event) → xs ++ us ≡ ys ++ ts → ((d : List Event) × (xs ≡ ys ++ d)) ⊎ ((x : Event) × (d : List Event) × (ys ≡ xs ++ x ∷ d) ×
    (us ≡ x ∷ (d ++ ts)))
fronts xs us [] ts e = inl (xs, refl)
fronts [] us (y ∷ ys) ts e = inr (y, ys, refl, e)
fronts (x ∷ xs) us (y ∷ ys) ts e =
    let head : x ≡ y = cc in
    let tail : xs ++ us ≡ ys ++ ts = cc in
    ⊎_elim
    (λ (r : (d : List Event) × (xs ≡ ys ++ d)). inl (r.0, ap (λ z. z ∷ xs) head ∙ ap (λ l. y ∷ l) r.1))
    (λ (r : (z : Event) × (d : List Event) × (ys ≡ xs ++ z ∷ d) × (us ≡ z ∷ (d ++ ts))). inr
    (r.0, r.1, ap (λ l. y ∷ l) r.2 ∙ ap (λ z. z ∷ (xs ++ r.0 ∷ r.1)) (sym head), r.3))
    (fronts xs us ys ts tail)

same_head : (x y : Event) (xs ys : List Event) → x ∷ xs ≡ y ∷ ys → x ≡ y
same_head x y xs ys e = cc

-- what holds of the step and a log, if both have one term there
abbrev Same : Setup → List Event → Event → ℕ → ℕ → List Entry → Type 0
Same vs ps e k i log = ((run vs ps).nodes (actor e)).up ≡ true → Made vs (run vs ps) e k → i ≤ length (midway vs (run vs ps) e k).log → i ≤ length log →
    term_at (midway vs (run vs ps) e k).log i ≡ term_at log i → take i (midway vs (run vs ps) e k).log ≡ take i log

before_so : (vs : Setup) (ps past d : List Event) → ps ≡ past ++ d → (e : Event) (n k i : ℕ) → Same vs ps e k i (log_at vs past n)
before_so vs ps past d is e n k i = subst (λ l. Same vs l e k i (log_at vs past n)) (sym is)
    (λ up made in_mid in_log same. meets_before vs past d e n k i up made in_mid in_log same)

after_so : (vs : Setup) (ps : List Event) (e : Event) (past d : List Event) → past ≡ ps ++ e ∷ d → (n k i : ℕ) → Same vs ps e k i (log_at vs past n)
after_so vs ps e past d is n k i = subst (λ l. Same vs ps e k i (log_at vs l n)) (sym is)
    (λ up made in_mid in_log same. meets_after vs ps e d n k i up made in_mid in_log same)

pub kept_agrees_holds : KeptAgrees
kept_agrees_holds vs ps e rest k i up made in_mid in_chosen same =
    let es = ps ++ e ∷ rest in
    let x = shown_from vs es [] (shown_first vs) in
    let log = log_at vs x.past x.node in
    let size = length-take x.size log in
    let long = ap length x.is in
    let less : i ≤ x.size = omega arith in
    let in_log : i ≤ length log = omega arith in
    let terms : term_at (midway vs (run vs ps) e k).log i ≡ term_at log i = same ∙ ap (λ l. term_at l i) x.is ∙ term_at-take x.size log i less in
    let front : take i log ≡ take i (chosen vs es) = sym (take-take i x.size log less) ∙ ap (take i) (sym x.is) in
    ⊎_elim
    (λ (r : (d : List Event) × (ps ≡ x.past ++ d)). before_so vs ps x.past r.0 r.1 e x.node k i up made in_mid in_log terms ∙ front)
    (λ (r : (z : Event) × (d : List Event) × (x.past ≡ ps ++ z ∷ d) × (e ∷ rest ≡ z ∷ (d ++ x.rest))).
    let whole = r.3 in
    let head : e ≡ r.0 = same_head e r.0 rest (r.1 ++ x.rest) whole in
    let past : x.past ≡ ps ++ e ∷ r.1 = r.2 ∙ ap (λ z. ps ++ z ∷ r.1) (sym head) in
    after_so vs ps e x.past r.1 past x.node k i up made in_mid in_log terms ∙ front)
    (fronts ps (e ∷ rest) x.past x.rest x.split)
