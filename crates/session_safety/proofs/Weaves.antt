-- How logs stay woven.
use Rattle.std.proofs.Common.{◌≡◌, ℕ, zero, suc, ◌+◌, ◌-◌, ◌<◌, ◌≤◌, Bool, true, false, List, [], ◌∷◌, ◌++◌, length, take, drop, refl, sym, ap, ◌∙◌, subst, ⊎_elim, arith}
use Rattle.std.specs.Prelude.{slice_get, Option, Some}
use Rattle.std.proofs.lemmas.List.{length-take-le, take-append-drop}
use Rattle.std.proofs.lemmas.Bool.{cases_lt}
use Rattle.std.proofs.lemmas.Option.{slice_get_within}
use Rattle.dq_base.specs.declared.pages.NumberedPage.{NumberedPage}
use Rattle.log_commands.specs.declared.command.Command.TheVariants.{OpenDb, Frames, Undo, Checkpoint}
use Rattle.log_commands.specs.Splitting.{split_from, before_last, split}
use Rattle.session_spec.specs.Entries.{Content, Does, Configures, Other, Entry, tx_of, entries_of}
use Rattle.session_safety.specs.Woven.{Bears, Follows, Woven}
use Rattle.session_safety.specs.Life.{ArePlain}
use Rattle.session_safety.specs.Replies.{StandsAt}
use Rattle.session_safety.proofs.Files.{contents_of}

pub get_left : (xs ys : List Entry) (k : ℕ) → k < length xs → slice_get (xs ++ ys) k ≡ slice_get xs k
get_left [] ys k h = absurd (omega arith)
get_left (x ∷ xs) ys zero h = refl
get_left (x ∷ xs) ys (suc k) h = get_left xs ys k (omega arith)

pub get_right : (xs ys : List Entry) (k j : ℕ) → j ≡ length xs + k → slice_get (xs ++ ys) j ≡ slice_get ys k
get_right [] ys k j h = let e : j ≡ k = omega arith in ap (slice_get ys) e
get_right (x ∷ xs) ys k zero h = absurd (omega arith)
get_right (x ∷ xs) ys k (suc j) h = get_right xs ys k j (omega arith)

-- what is at an index is there in a longer list, and in a front that reaches it
pub stands_more : (log es : List Entry) (i t : ℕ) (c : Content) → StandsAt log i t c → StandsAt (log ++ es) i t c
stands_more log es i t c a = get_left log es (i - 1) (slice_get_within log (i - 1) _ a) ∙ a

pub stands_front : (log : List Entry) (p i t : ℕ) (c : Content) → 0 < i → i ≤ p → p ≤ length log → StandsAt log i t c → StandsAt (take p log) i t c
stands_front log p i t c low high h a =
    let long = length-take-le p log h in
    sym (get_left (take p log) (drop p log) (i - 1) (omega arith)) ∙ ap (λ l. slice_get l (i - 1)) (take-append-drop p log) ∙ a

content_at : (t : ℕ) (cs : List Content) (k : ℕ) → k < length cs → (c : Content) × (slice_get (entries_of t cs) k ≡ Some (record { term = t; content = c }))
content_at t [] k h = absurd (omega (arith, h))
content_at t (c ∷ cs) zero h = (c, refl)
content_at t (c ∷ cs) (suc k) h = content_at t cs k (omega (arith, h))

-- the last of entries after a log
pub last_stands : (log : List Entry) (t : ℕ) (cs : List Content) → 0 < length cs → (c : Content) × StandsAt (log ++ entries_of t cs) (length log + length cs) t c
last_stands log t cs h =
    let r = content_at t cs (length cs - 1) (omega arith) in
    (r.0, get_right log (entries_of t cs) (length cs - 1) (length log + length cs - 1) (omega arith) ∙ r.1)

bears_more : (log es : List Entry) (i : ℕ) (name : List ℕ) (tx : ℕ) (b : Bool) (term : ℕ) (pages : List NumberedPage) → Bears log i name tx b term pages → Bears (log ++ es) i name tx b term pages
bears_more log es i name tx b term pages a = record { truncate = a.truncate; is = get_left log es (i - 1) (slice_get_within log (i - 1) _ a.is) ∙ a.is }

bears_less : (log es : List Entry) (i : ℕ) (name : List ℕ) (tx : ℕ) (b : Bool) (term : ℕ) (pages : List NumberedPage) → i - 1 < length log → Bears (log ++ es) i name tx b term pages → Bears log i name tx b term pages
bears_less log es i name tx b term pages h a = record { truncate = a.truncate; is = sym (get_left log es (i - 1) h) ∙ a.is }

follows_more : (log es : List Entry) (i : ℕ) (name : List ℕ) (tx term : ℕ) → Follows log i name tx term → Follows (log ++ es) i name tx term
follows_more log es i name tx term a = record { first = a.first; is = a.is; small = a.small; low = a.low; high = a.high; before = λ h. let b = a.before h in (b.0, bears_more log es (i - 1) name tx false term b.0 b.1) }

pub woven_append : (log es : List Entry) → Woven log → ((k : ℕ) (name : List ℕ) (tx truncate term : ℕ) (b : Bool) (pages : List NumberedPage) → slice_get es k ≡ Some (record { term = term; content = Does (Frames name tx truncate b pages) }) → Follows (log ++ es) (suc (length log + k)) name tx term) → Woven (log ++ es)
woven_append log es w new = record {
  at = λ i name tx term b pages pos a.
      ⊎_elim
      (λ (h : i - 1 < length log). follows_more log es i name tx term (w.at i name tx term b pages pos (bears_less log es i name tx b term pages h a)))
      (λ (h : length log ≤ i - 1).
      let k = i - 1 - length log in
      let e : i - 1 ≡ length log + k = omega arith in
      let f : suc (length log + k) ≡ i = omega arith in
      subst (λ j. Follows (log ++ es) j name tx term) f (new k name tx a.truncate term b pages (sym (get_right log es k (i - 1) e) ∙ a.is)))
      (cases_lt (i - 1) (length log));
}

-- a front of a woven log is woven
pub woven_front : (log es : List Entry) → Woven (log ++ es) → Woven log
woven_front log es w = record {
  at = λ i name tx term b pages pos a.
      let f = w.at i name tx term b pages pos (bears_more log es i name tx b term pages a) in
      let h = slice_get_within log (i - 1) _ a.is in
      record { first = f.first; is = f.is; small = f.small; low = f.low; high = f.high; before = λ l. let x = f.before l in (x.0, bears_less log es (i - 1) name tx false term x.0 (omega arith) x.1) };
}

some_same : {A : Type 0} {x y : A} → Some x ≡ Some y → x ≡ y
some_same e = cc

not_frames : (t tx truncate term : ℕ) (name : List ℕ) (b : Bool) (pages : List NumberedPage) (c : Content) (o : Option Entry) → (Does (Frames name tx truncate b pages) ≡ c → ⊥) → o ≡ Some (record { term = t; content = c }) → o ≡ Some (record { term = term; content = Does (Frames name tx truncate b pages) }) → ⊥
not_frames t tx truncate term name b pages c o n e f = n (sym (ap (λ (y : Entry). y.content) (some_same (sym e ∙ f))))

plain_frames : (s : Bool) (t : ℕ) (cs : List Content) (k tx truncate term : ℕ) (name : List ℕ) (b : Bool) (pages : List NumberedPage) → ArePlain s cs → slice_get (entries_of t cs) k ≡ Some (record { term = term; content = Does (Frames name tx truncate b pages) }) → ⊥
plain_frames s t [] k tx truncate term name b pages a e = cc
plain_frames s t (Does (OpenDb n) ∷ cs) zero tx truncate term name b pages a e = not_frames t tx truncate term name b pages (Does (OpenDb n)) _ (λ q. cc) refl e
plain_frames s t (Does (OpenDb n) ∷ cs) (suc k) tx truncate term name b pages a e = plain_frames s t cs k tx truncate term name b pages a.1 e
plain_frames s t (Does (Frames n x u c ps) ∷ cs) k tx truncate term name b pages a e = a.0
plain_frames s t (Does (Undo n) ∷ cs) zero tx truncate term name b pages a e = not_frames t tx truncate term name b pages (Does (Undo n)) _ (λ q. cc) refl e
plain_frames s t (Does (Undo n) ∷ cs) (suc k) tx truncate term name b pages a e = plain_frames s t cs k tx truncate term name b pages a.1 e
plain_frames s t (Does (Checkpoint n) ∷ cs) zero tx truncate term name b pages a e =
    not_frames t tx truncate term name b pages (Does (Checkpoint n)) _ (λ q. cc) refl e
plain_frames s t (Does (Checkpoint n) ∷ cs) (suc k) tx truncate term name b pages a e = plain_frames s t cs k tx truncate term name b pages a.1 e
plain_frames s t (Configures servers ∷ cs) zero tx truncate term name b pages a e =
    not_frames t tx truncate term name b pages (Configures servers) _ (λ q. cc) refl e
plain_frames s t (Configures servers ∷ cs) (suc k) tx truncate term name b pages a e = plain_frames s t cs k tx truncate term name b pages a.1 e
plain_frames s t (Other ∷ cs) zero tx truncate term name b pages a e = not_frames t tx truncate term name b pages Other _ (λ q. cc) refl e
plain_frames s t (Other ∷ cs) (suc k) tx truncate term name b pages a e = plain_frames s t cs k tx truncate term name b pages a.1 e

pub woven_plain : (s : Bool) (t : ℕ) (log : List Entry) (cs : List Content) → ArePlain s cs → Woven log → Woven (log ++ entries_of t cs)
woven_plain s t log cs a w =
    woven_append log (entries_of t cs) w (λ k name tx truncate term b pages e. absurd (plain_frames s t cs k tx truncate term name b pages a e))

-- an entry of one change of pages, and the one before it
record InBlock (t : ℕ) (name : List ℕ) (tx k : ℕ) (es : List Entry) (e : Entry) : Type 0 where
  truncate : ℕ
  commit : Bool
  pages : List NumberedPage
  is : e ≡ record { term = t; content = Does (Frames name tx truncate commit pages) }
  before : (j : ℕ) → k ≡ suc j → (ps : List NumberedPage) × (slice_get es j ≡ Some (record { term = t; content = Does (Frames name tx 0 false ps) }))

block_at : (t : ℕ) (name : List ℕ) (tx more : ℕ) (rest : List NumberedPage) (k : ℕ) (e : Entry) → slice_get (entries_of t (contents_of (split_from more name tx rest))) k ≡ Some e → InBlock t name tx k (entries_of t (contents_of (split_from more name tx rest))) e
unfolding split_from
block_at t name tx zero rest zero e q = record { truncate = _; commit = true; pages = rest; is = sym (some_same q); before = λ j h. absurd (omega arith) }
block_at t name tx zero rest (suc k) e q = absurd cc
block_at t name tx (suc more) rest zero e q = record { truncate = 0; commit = false; pages = take 64 rest; is = sym (some_same q); before = λ j h. absurd (omega arith) }
block_at t name tx (suc more) rest (suc zero) e q = let r = block_at t name tx more (drop 64 rest) zero e q in record { truncate = r.truncate; commit = r.commit; pages = r.pages; is = r.is; before = λ j h. let z : j ≡ 0 = omega arith in (take 64 rest, ap (slice_get (entries_of t (contents_of (split_from (suc more) name tx rest)))) z) }
block_at t name tx (suc more) rest (suc (suc k)) e q = let r = block_at t name tx more (drop 64 rest) (suc k) e q in record { truncate = r.truncate; commit = r.commit; pages = r.pages; is = r.is; before = λ j h. let z : j ≡ suc k = omega arith in let x = r.before k refl in (x.0, ap (slice_get (entries_of t (contents_of (split_from (suc more) name tx rest)))) z ∙ x.1) }

pub woven_split : (t : ℕ) (name : List ℕ) (log : List Entry) (pages : List NumberedPage) → length log < 4294900000 → Woven log → Woven (log ++ entries_of t (contents_of (split name (record { tx = tx_of t (suc (length log)); pages = pages }))))
woven_split t name log pages small w =
    let tx = tx_of t (suc (length log)) in
    let es = entries_of t (contents_of (split_from (before_last pages) name tx pages)) in
    woven_append log es w (λ k n x u term b ps e.
    let r = block_at t name tx (before_last pages) pages k (record { term = term; content = Does (Frames n x u b ps) }) e in
    let same_term : term ≡ t = ap (λ (y : Entry). y.term) r.is in
    let same_content : Does (Frames n x u b ps) ≡ Does (Frames name tx r.truncate r.commit r.pages) = ap (λ (y : Entry). y.content) r.is in
    let same_name : n ≡ name = cc in
    let same_tx : x ≡ tx = cc in
    record {
      first = suc (length log);
      is = same_tx ∙ ap (λ y. tx_of y (suc (length log))) (sym same_term);
      small = omega arith;
      low = omega arith;
      high = omega arith;
      before = λ h.
          let pred : k ≡ suc (k - 1) = omega arith in
          let z = r.before (k - 1) pred in
          let i : suc (length log + k) - 1 - 1 ≡ length log + (k - 1) = omega arith in
          (z.0, record { truncate = 0; is = get_right log es (k - 1) (suc (length log + k) - 1 - 1) i ∙ z.1 ∙ cc });
    })
