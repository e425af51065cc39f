-- A transaction's entries in the chosen entries are those that were proposed.
use Rattle.std.proofs.Common.{◌≡◌, ◌⊎◌, ℕ, zero, suc, ◌+◌, ◌-◌, ◌^◌, ◌<◌, ◌≤◌, Bool, true, false, List, [], ◌∷◌, ◌++◌, length, take, drop, refl, sym, ap, ◌∙◌, subst, ⊎_elim, arith, take-append-drop, length-drop}
use Rattle.std.specs.Prelude.{slice_get, Some}
use Rattle.std.proofs.lemmas.List.{take-append-le, length-map, take-take, length-take-le, length-take, take_at}
use Rattle.std.proofs.lemmas.Bool.{cases_lt, cases_order}
use Rattle.dq_base.specs.declared.pages.NumberedPage.{NumberedPage}
use Rattle.dq_base.specs.Changes.{changed}
use Rattle.log_commands.specs.Splitting.{split_from, before_last}
use Rattle.log_commands.specs.declared.command.Command.TheVariants.{Frames}
use Rattle.sql_engine.specs.Meanings.{Meaning}
use Rattle.session_spec.specs.Entries.{Content, Does, Entry as Line, entries_of, tx_of}
use Rattle.session_spec.specs.Machine.{image_at}
use Rattle.session_spec.specs.Seen.{log_seen}
use Rattle.session_safety.specs.Woven.{Bears, Woven}
use Rattle.session_safety.specs.Nodes.{Commit}
use Rattle.session_safety.specs.Replies.{CommitOk}
use Rattle.session_safety.proofs.Files.{contents_of, split_some}
use Rattle.session_safety.proofs.Invariant.{commit_along}
use Rattle.session_safety.proofs.Commits.{walk, one_commit, tx_same}
use Rattle.raft_spec.specs.Log.{term_at}
use Rattle.raft_safety.specs.Members.{Setup}
use Rattle.raft_safety.specs.World.{Event, start}
use Rattle.raft_safety.specs.Laws.{log_at}
use Rattle.raft_safety.specs.Chosen.{chosen}
use Rattle.raft_safety.specs.Properties.{EventsKeep}
use Rattle.raft_safety.proofs.Logs.{term_at-take}
use Rattle.raft_safety.proofs.Laws.{logs_agree_holds}
use Rattle.raft_safety.proofs.Properties.{keep_front}
use Rattle.cluster_model.specs.Weaving.{IsWoven}
use Rattle.cluster_model.specs.Laws.{ChosenWhole}
use Rattle.cluster_model.proofs.Lines.{size_of, seen_agree, get_front, bears_along, bears_term, bears_within}
use Rattle.cluster_model.proofs.Weavings.{logs_weave_hold, chosen_weaves_hold}
use Rattle.cluster_model.proofs.Ones.{chosen_is}

-- the last entry of a change of pages commits
split_last : (t : ℕ) (name : List ℕ) (tx more : ℕ) (pages : List NumberedPage) → (u : ℕ) × (ps : List NumberedPage) × (slice_get (entries_of t (contents_of (split_from more name tx pages))) (length (contents_of (split_from more name tx pages)) - 1) ≡ Some (record { term = t; content = Does (Frames name tx u true ps) }))
unfolding split_from
split_last t name tx zero pages = (_, pages, refl)
split_last t name tx (suc more) pages =
    let r = split_last t name tx more (drop 64 pages) in
    let some = split_some name tx more (drop 64 pages) in
    let e : suc (length (contents_of (split_from more name tx (drop 64 pages)))) - 1 ≡ suc (length (contents_of (split_from more name tx (drop 64 pages))) - 1) = omega arith in
    (r.0, r.1, ap (slice_get (entries_of t (contents_of (split_from (suc more) name tx pages)))) e ∙ r.2)

get_drop : (p : ℕ) (xs : List Line) (j : ℕ) → slice_get (drop p xs) j ≡ slice_get xs (p + j)
get_drop zero xs j = let e : j ≡ 0 + j = omega arith in ap (slice_get xs) e
get_drop (suc p) [] j = refl
get_drop (suc p) (x ∷ xs) j = let e : suc (p + j) ≡ suc p + j = omega arith in get_drop p xs j ∙ ap (slice_get (x ∷ xs)) e

-- a commit's last entry
commit_last : (mean : Meaning) (log : List Line) (k : Commit) → CommitOk mean log k → (ps : List NumberedPage) × Bears log k.last k.name (tx_of k.term k.first) true k.term ps
commit_last mean log k c =
    let set = changed (image_at log (k.first - 1) k.name) (image_at log k.last k.name) in
    let tx = tx_of k.term k.first in
    let cs = contents_of (split_from (before_last set) k.name tx set) in
    let r = split_last k.term k.name tx (before_last set) set in
    let some : 0 < length cs = split_some k.name tx (before_last set) set in
    let low = c.low in
    let order = c.order in
    let within = c.within in
    let one : length (entries_of k.term cs) ≡ length cs = length-map cs (λ (x : Content). record { term = k.term; content = x }) in
    let two = ap length c.entries in
    let three = length-take-le k.last log within in
    let four = length-drop (k.first - 1) (take k.last log) in
    let size : length cs ≡ k.last - (k.first - 1) = omega arith in
    let place : k.first - 1 + (length cs - 1) ≡ k.last - 1 = omega arith in
    (r.1, record { truncate = r.0; is = sym (get_front k.last log (k.last - 1) (omega arith)) ∙ ap (slice_get (take k.last log)) (sym place) ∙ sym (get_drop (k.first - 1) (take k.last log) (length cs - 1)) ∙ ap (λ l. slice_get l (length cs - 1)) c.entries ∙ r.2 })

-- two entries with one transaction have one term
tx_term : (t u f g : ℕ) → f < 2 ^ 32 → g < 2 ^ 32 → tx_of t f ≡ tx_of u g → t ≡ u
unfolding tx_of
tx_term t u f g a b e = omega arith

-- the one list and a node's log at an earlier moment agree where they have one term
chosen_agree : (vs : Setup) (es fs : List Event) (n e : ℕ) → e ≤ length (chosen vs (es ++ fs)) → e ≤ length (log_at vs es n) → term_at (chosen vs (es ++ fs)) e ≡ term_at (log_at vs es n) e → take e (chosen vs (es ++ fs)) ≡ take e (log_at vs es n)
chosen_agree vs es fs n e in_list in_log term =
    let all = es ++ fs in
    let h = chosen_is vs all in
    let F = take h.moment all in
    let theirs = log_at vs F h.node in
    let mine = log_at vs es n in
    let size = ap length h.is ∙ length-take h.upto theirs in
    let low : e ≤ h.upto = omega arith in
    let inside : e ≤ length theirs = omega arith in
    let front : take e (chosen vs all) ≡ take e theirs = ap (take e) h.is ∙ take-take e h.upto theirs low in
    let same : term_at theirs e ≡ term_at mine e = sym (term_at-take h.upto theirs e low) ∙ ap (λ l. term_at l e) (sym h.is) ∙ term in
    front ∙ ⊎_elim
    (λ (x : length es < h.moment).
    let early : take (length es) F ≡ es = take-take (length es) h.moment all (omega arith) ∙ take_at es fs (length es) refl in
    let split : es ++ drop (length es) F ≡ F = ap (λ l. l ++ drop (length es) F) (sym early) ∙ take-append-drop (length es) F in
    let P = λ (l : List Event). e ≤ length (log_at vs l h.node) in
    let r = logs_agree_holds vs es (drop (length es) F) n h.node e in_log (subst P (sym split) inside) (sym same ∙ ap (λ l. term_at (log_at vs l h.node) e) (sym split)) in
    ap (λ l. take e (log_at vs l h.node)) (sym split) ∙ sym r)
    (λ (x : h.moment ≤ length es).
    let early : F ≡ take h.moment es = take-append-le h.moment es fs x in
    let split : F ++ drop h.moment es ≡ es = ap (λ l. l ++ drop h.moment es) early ∙ take-append-drop h.moment es in
    let P = λ (l : List Event). e ≤ length (log_at vs l n) in
    let r = logs_agree_holds vs F (drop h.moment es) h.node n e inside (subst P (sym split) in_log) (same ∙ ap (λ l. term_at (log_at vs l n) e) (sym split)) in
    r ∙ ap (λ l. take e (log_at vs l n)) split)
    (cases_lt (length es) h.moment)

module _ (mean : Meaning) (vs : Setup) (es fs : List Event) (n : ℕ) (k : Commit) (weaves : EventsKeep IsWoven vs (start vs) (es ++ fs)) (whole : CommitOk mean (log_seen (log_at vs es n)) k) (i term : ℕ) (name : List ℕ) (pages : List NumberedPage) (pos : 0 < i) (there : Bears (log_seen (chosen vs (es ++ fs))) i name (tx_of k.term k.first) true term pages) where
  mine_woven : Woven (log_seen (log_at vs es n))
  mine_woven = logs_weave_hold vs es (keep_front IsWoven vs es fs (start vs) weaves) n

  list_woven : Woven (log_seen (chosen vs (es ++ fs)))
  list_woven = chosen_weaves_hold vs (es ++ fs) weaves

  last_pos : 0 < k.last
  last_pos = let a = whole.low in let b = whole.order in omega arith

  last_bears : Bears (log_seen (log_at vs es n)) k.last k.name (tx_of k.term k.first) true k.term (commit_last mean (log_seen (log_at vs es n)) k whole).0
  last_bears = (commit_last mean (log_seen (log_at vs es n)) k whole).1

  -- the list's entry has the proposal's term
  one_term : term ≡ k.term
  one_term =
      let f = list_woven.at i name (tx_of k.term k.first) term true pages pos there in
      let g = mine_woven.at k.last k.name (tx_of k.term k.first) k.term true (commit_last mean (log_seen (log_at vs es n)) k whole).0 last_pos last_bears in
      tx_term term k.term f.first g.first f.small g.small (sym f.is ∙ g.is)

  -- if both have an entry of the proposal's term they agree
  agrees : (e : ℕ) (a b : List ℕ) (x y : ℕ) (c d : Bool) (t u : ℕ) (ps qs : List NumberedPage) → 0 < e → t ≡ u → Bears (log_seen (chosen vs (es ++ fs))) e a x c t ps → Bears (log_seen (log_at vs es n)) e b y d u qs → take e (chosen vs (es ++ fs)) ≡ take e (log_at vs es n)
  agrees e a b x y c d t u ps qs p q l m =
      chosen_agree vs es fs n e (bears_within (chosen vs (es ++ fs)) e a x c t ps p l) (bears_within (log_at vs es n) e b y d u qs p m)
      (bears_term (chosen vs (es ++ fs)) e a x c t ps p l ∙ q ∙ sym (bears_term (log_at vs es n) e b y d u qs p m))

  not_before : i < k.last → ⊥
  not_before y =
      let f = list_woven.at i name (tx_of k.term k.first) term true pages pos there in
      let g = mine_woven.at k.last k.name (tx_of k.term k.first) k.term true (commit_last mean (log_seen (log_at vs es n)) k whole).0 last_pos last_bears in
      let same : f.first ≡ g.first = tx_same term k.term f.first g.first f.small g.small (sym f.is ∙ g.is) in
      let high = f.high in
      let far : k.last ≡ i + suc (k.last - i - 1) = omega arith in
      let here = walk (log_seen (log_at vs es n)) mine_woven (k.last - i - 1) i k.name (tx_of k.term k.first) g.first k.term true (commit_last mean (log_seen (log_at vs es n)) k whole).0 pos g.small (omega arith) g.is (subst (λ j. Bears (log_seen (log_at vs es n)) j k.name (tx_of k.term k.first) true k.term (commit_last mean (log_seen (log_at vs es n)) k whole).0) far last_bears) in
      let agree = agrees i name k.name (tx_of k.term k.first) (tx_of k.term k.first) true false term k.term pages here.0 pos one_term there here.1 in
      let moved = bears_along i i name (tx_of k.term k.first) true term pages (log_seen (chosen vs (es ++ fs))) (log_seen (log_at vs es n)) pos (omega arith) (seen_agree i (chosen vs (es ++ fs)) (log_at vs es n) agree) there in
      let bound = one_commit (log_seen (log_at vs es n)) mine_woven i k.last name k.name (tx_of k.term k.first) term k.term true pages (commit_last mean (log_seen (log_at vs es n)) k whole).0 pos moved last_bears in
      omega arith

  not_after : k.last < i → ⊥
  not_after y =
      let f = list_woven.at i name (tx_of k.term k.first) term true pages pos there in
      let g = mine_woven.at k.last k.name (tx_of k.term k.first) k.term true (commit_last mean (log_seen (log_at vs es n)) k whole).0 last_pos last_bears in
      let same : f.first ≡ g.first = tx_same term k.term f.first g.first f.small g.small (sym f.is ∙ g.is) in
      let high = g.high in
      let far : i ≡ k.last + suc (i - k.last - 1) = omega arith in
      let here = walk (log_seen (chosen vs (es ++ fs))) list_woven (i - k.last - 1) k.last name (tx_of k.term k.first) f.first term true pages last_pos f.small (omega arith) f.is (subst (λ j. Bears (log_seen (chosen vs (es ++ fs))) j name (tx_of k.term k.first) true term pages) far there) in
      let agree = agrees k.last name k.name (tx_of k.term k.first) (tx_of k.term k.first) false true term k.term here.0 (commit_last mean (log_seen (log_at vs es n)) k whole).0 last_pos one_term here.1 last_bears in
      let moved = bears_along k.last k.last k.name (tx_of k.term k.first) true k.term (commit_last mean (log_seen (log_at vs es n)) k whole).0 (log_seen (log_at vs es n)) (log_seen (chosen vs (es ++ fs))) last_pos (omega arith) (sym (seen_agree k.last (chosen vs (es ++ fs)) (log_at vs es n) agree)) last_bears in
      let bound = one_commit (log_seen (chosen vs (es ++ fs))) list_woven k.last i k.name name (tx_of k.term k.first) k.term term true (commit_last mean (log_seen (log_at vs es n)) k whole).0 pages last_pos moved there in
      omega arith

  same_place : i ≡ k.last
  same_place = ⊎_elim (λ (x : i ≡ k.last). x) (λ (x : (i < k.last) ⊎ (k.last < i)). ⊎_elim (λ (y : i < k.last). absurd (not_before y)) (λ (y : k.last < i). absurd (not_after y)) x) (cases_order i k.last)

  stands : CommitOk mean (log_seen (chosen vs (es ++ fs))) k
  stands =
      let here = subst (λ j. Bears (log_seen (chosen vs (es ++ fs))) j name (tx_of k.term k.first) true term pages) same_place there in
      let agree = agrees k.last name k.name (tx_of k.term k.first) (tx_of k.term k.first) true true term k.term pages (commit_last mean (log_seen (log_at vs es n)) k whole).0 last_pos one_term here last_bears in
      let within = bears_within (chosen vs (es ++ fs)) k.last name (tx_of k.term k.first) true term pages last_pos here in
      let size : length (log_seen (chosen vs (es ++ fs))) ≡ length (chosen vs (es ++ fs)) = size_of (chosen vs (es ++ fs)) in
      commit_along mean (log_seen (log_at vs es n)) (log_seen (chosen vs (es ++ fs))) k (record { right = omega arith; same = sym (seen_agree k.last (chosen vs (es ++ fs)) (log_at vs es n) agree) }) whole

pub chosen_whole_holds : (mean : Meaning) → ChosenWhole mean
chosen_whole_holds mean vs es fs n k weaves whole i term name pages pos there = (same_place mean vs es fs n k weaves whole i term name pages pos there, stands mean vs es fs n k weaves whole i term name pages pos there)
