-- Commits in a woven log.
use Rattle.std.proofs.Common.{◌≡◌, ◌⊎◌, inl, inr, ℕ, zero, suc, ◌+◌, ◌-◌, ◌^◌, ◌<◌, ◌≤◌, Bool, true, false, true≢false, cond, List, [], ◌∷◌, ◌++◌, length, take, drop, refl, sym, ap, ◌∙◌, subst, ⊎_elim, arith, append_assoc}
use Rattle.std.specs.Prelude.{◌==◌, bytes_eq, get_or, slice_get, Option, Some, None}
use Rattle.std.proofs.lemmas.List.{length-take-le, length-take, append-nil, drop-append-le, drop_all, take_all}
use Rattle.std.proofs.lemmas.Bool.{cond_both, cond-true, cases_lt, eqb-true, eq-eqb}
use Rattle.std.proofs.lemmas.Option.{slice_get_within, slice_get_cases}
use Rattle.dq_base.specs.declared.images.Image.{Image}
use Rattle.dq_base.specs.declared.pages.NumberedPage.{NumberedPage}
use Rattle.dq_base.specs.declared.pages.PageSet.{PageSet}
use Rattle.log_commands.specs.declared.command.Command.TheVariants.{OpenDb, Frames, Undo, Checkpoint}
use Rattle.database_state.specs.Files.{image_after, pending_of, pending_without}
use Rattle.session_spec.specs.Entries.{Content, Does, Configures, Other, Entry, tx_of}
use Rattle.session_spec.specs.Machine.{Base, Machine, framed, checked, act, done, files, base_at, image_at, part}
use Rattle.session_spec.proofs.Names.{name_is, same_name}
use Rattle.session_safety.specs.Woven.{Bears, Follows, Woven}
use Rattle.session_safety.specs.Logs.{OnlyCommits, OneCommit, CommitsApply, content_pages, pages_in}
use Rattle.session_safety.proofs.Files.{files_append, committed_image}

-- one transaction has one term and one first index
pub tx_same : (t u f g : ℕ) → f < 2 ^ 32 → g < 2 ^ 32 → tx_of t f ≡ tx_of u g → f ≡ g
unfolding tx_of
tx_same t u f g a b e = omega arith

some_same : {A : Type 0} {x y : A} → Some x ≡ Some y → x ≡ y
some_same e = cc

commit_same : (log : List Entry) (i : ℕ) (name other : List ℕ) (tx uv : ℕ) (b c : Bool) (t u : ℕ) (ps qs : List NumberedPage) → Bears log i name tx b t ps → Bears log i other uv c u qs → b ≡ c
commit_same log i name other tx uv b c t u ps qs x y =
    let e : Does (Frames name tx x.truncate b ps) ≡ Does (Frames other uv y.truncate c qs) = ap (λ (z : Entry). z.content) (some_same (sym x.is ∙ y.is)) in
    cc

module _ (log : List Entry) (w : Woven log) where
  -- from an entry of a transaction back to an earlier index, not before its first
  pub walk : (d i : ℕ) (name : List ℕ) (tx first term : ℕ) (b : Bool) (pages : List NumberedPage) → 0 < i → first < 2 ^ 32 → first ≤ i → tx ≡ tx_of term first → Bears log (i + suc d) name tx b term pages → (ps : List NumberedPage) × Bears log i name tx false term ps
  walk zero i name tx first term b pages pos small low is x =
      let f = w.at (i + 1) name tx term b pages (omega arith) x in
      let same : f.first ≡ first = tx_same term term f.first first f.small small (sym f.is ∙ is) in
      let y = f.before (omega arith) in
      let e : i + 1 - 1 ≡ i = omega arith in
      (y.0, subst (λ k. Bears log k name tx false term y.0) e y.1)
  walk (suc d) i name tx first term b pages pos small low is x =
      let f = w.at (i + suc (suc d)) name tx term b pages (omega arith) x in
      let same : f.first ≡ first = tx_same term term f.first first f.small small (sym f.is ∙ is) in
      let y = f.before (omega arith) in
      let e : i + suc (suc d) - 1 ≡ i + suc d = omega arith in
      walk d i name tx first term false y.0 pos small low is (subst (λ k. Bears log k name tx false term y.0) e y.1)

  no_later : (i j : ℕ) (name other : List ℕ) (tx term late : ℕ) (b : Bool) (pages more : List NumberedPage) → 0 < i → Bears log i name tx true term pages → Bears log j other tx b late more → i < j → ⊥
  no_later i j name other tx term late b pages more pos x y h =
      let f = w.at i name tx term true pages pos x in
      let g = w.at j other tx late b more (omega arith) y in
      let same : f.first ≡ g.first = tx_same term late f.first g.first f.small g.small (sym f.is ∙ g.is) in
      let e : j ≡ i + suc (j - i - 1) = omega arith in
      let high = f.high in
      let z = walk (j - i - 1) i other tx g.first late b more pos g.small (omega arith) g.is (subst (λ k. Bears log k other tx b late more) e y) in
      true≢false (commit_same log i name other tx tx true false term late pages z.0 x z.1)

  pub one_commit : (i j : ℕ) (name other : List ℕ) (tx term late : ℕ) (b : Bool) (pages more : List NumberedPage) → 0 < i → Bears log i name tx true term pages → Bears log j other tx b late more → j ≤ i
  one_commit i j name other tx term late b pages more pos x y =
      ⊎_elim (λ (h : i < j). absurd (no_later i j name other tx term late b pages more pos x y h)) (λ (h : j ≤ i). h) (cases_lt i j)

pub one_commit_holds : OneCommit
one_commit_holds log w i j name other tx term late b pages more pos x y = one_commit log w i j name other tx term late b pages more pos x y

-- one entry more

take_next : (xs : List Entry) (k : ℕ) (e : Entry) → slice_get xs k ≡ Some e → take (suc k) xs ≡ take k xs ++ e ∷ []
take_next [] k e q = absurd cc
take_next (x ∷ xs) zero e q = ap (λ y. y ∷ []) (some_same q)
take_next (x ∷ xs) (suc k) e q = ap (λ l. x ∷ l) (take_next xs k e q)

base_next : (log : List Entry) (k : ℕ) (n : List ℕ) (e : Entry) → slice_get log k ≡ Some e → base_at log (suc k) n ≡ (done (files (take k log)) e.content).base n
base_next log k n e q = ap (λ l. (files l).base n) (take_next log k e q) ∙ ap (λ (m : Machine). m.base n) (files_append (take k log) (e ∷ []))

pages_append : (xs ys : List Entry) → pages_in (xs ++ ys) ≡ pages_in xs ++ pages_in ys
pages_append [] ys = refl
pages_append (x ∷ xs) ys =
    ap (λ l. content_pages x.content ++ l) (pages_append xs ys) ∙ sym (append_assoc (content_pages x.content) (pages_in xs) (pages_in ys))

-- the pending pages of a transaction after an entry: none, as before, or its own
Pends : Machine → Content → List ℕ → ℕ → Type 0
Pends m c n tx = (pending_of tx ((done m c).base n).pending ≡ []) ⊎ ((pending_of tx ((done m c).base n).pending ≡ pending_of tx (m.base n).pending) ⊎ ((ps : List NumberedPage) × (u : ℕ) × (c ≡ Does (Frames n tx u false ps))))

same_pending : (b : Bool) (d e : Base) (tx : ℕ) → d.pending ≡ e.pending → pending_of tx (cond b d e).pending ≡ pending_of tx e.pending
same_pending true d e tx h = ap (pending_of tx) h
same_pending false d e tx h = refl

undone_for : (tx uv : ℕ) (o : Option PageSet) → (pending_of tx (pending_without uv o) ≡ []) ⊎ (pending_of tx (pending_without uv o) ≡ pending_of tx o)
undone_for tx uv None = inl refl
undone_for tx uv (Some p) =
    cond_both (p.tx == uv) None (Some p) (λ x. (pending_of tx x ≡ []) ⊎ (pending_of tx x ≡ pending_of tx (Some p))) (λ e. inl refl) (λ e. inr refl)

pends : (m : Machine) (c : Content) (n : List ℕ) (tx : ℕ) → Pends m c n tx
unfolding Pends act framed
pends m (Does (OpenDb name)) n tx = inr (inl refl)
pends m (Does (Frames name uv u true ps)) n tx =
    cond_both (bytes_eq n name) (framed uv true ps (m.base n)) (m.base n) (λ (d : Base). (pending_of tx d.pending ≡ []) ⊎ ((pending_of tx d.pending ≡ pending_of tx (m.base n).pending) ⊎ ((qs : List NumberedPage) × (v : ℕ) × (Does (Frames name uv u true ps) ≡ Does (Frames n tx v false qs))))) (λ e. inl refl) (λ e. inr (inl refl))
pends m (Does (Frames name uv u false ps)) n tx =
    cond_both (bytes_eq n name) (framed uv false ps (m.base n)) (m.base n) (λ (d : Base). (pending_of tx d.pending ≡ []) ⊎ ((pending_of tx d.pending ≡ pending_of tx (m.base n).pending) ⊎ ((qs : List NumberedPage) × (v : ℕ) × (Does (Frames name uv u false ps) ≡ Does (Frames n tx v false qs)))))
    (λ e. cond_both (uv == tx) (pending_of uv (m.base n).pending ++ ps) [] (λ l. (l ≡ []) ⊎ ((l ≡ pending_of tx (m.base n).pending) ⊎ ((qs : List NumberedPage) × (v : ℕ) × (Does (Frames name uv u false ps) ≡ Does (Frames n tx v false qs)))))
    (λ q. let one_name : n ≡ name = name_is n name e in let one_tx : uv ≡ tx = eqb-true uv tx q in inr (inr (ps, u, ap (λ k. Does (Frames k uv u false ps)) (sym one_name) ∙ ap (λ k. Does (Frames n k u false ps)) one_tx))) (λ q. inl refl))
    (λ e. inr (inl refl))
pends m (Does (Undo uv)) n tx = ⊎_elim (λ (x : pending_of tx (pending_without uv (m.base n).pending) ≡ []). inl x) (λ (x : pending_of tx (pending_without uv (m.base n).pending) ≡ pending_of tx (m.base n).pending). inr (inl x)) (undone_for tx uv (m.base n).pending)
pends m (Does (Checkpoint name)) n tx = inr (inl (same_pending (bytes_eq n name) (checked (m.base n)) (m.base n) tx refl))
pends m (Configures servers) n tx = inr (inl refl)
pends m Other n tx = inr (inl refl)

-- pages that are pending for a transaction came by one of its entries
record Came (log : List Entry) (k : ℕ) (n : List ℕ) (tx : ℕ) : Type 0 where
  index : ℕ
  term : ℕ
  pages : List NumberedPage
  pos : 0 < index
  low : index ≤ k
  bears : Bears log index n tx false term pages

came_later : (log : List Entry) (k : ℕ) (n : List ℕ) (tx : ℕ) → Came log k n tx → Came log (suc k) n tx
came_later log k n tx c = record { index = c.index; term = c.term; pages = c.pages; pos = c.pos; low = let l = c.low in omega arith; bears = c.bears }

pending_from : (log : List Entry) (k : ℕ) (n : List ℕ) (tx : ℕ) → (pending_of tx (base_at log k n).pending ≡ []) ⊎ Came log k n tx
unfolding files Pends
pending_from log zero n tx = inl refl
pending_from log (suc k) n tx =
    ⊎_elim
    (λ (p : (e : Entry) × (k < length log) × (slice_get log k ≡ Some e) × (get_or log k e ≡ e)).
    let e = p.0 in
    let next = base_next log k n e p.2 in
    let is = ap (λ (d : Base). pending_of tx d.pending) next in
    ⊎_elim
    (λ (x : pending_of tx ((done (files (take k log)) e.content).base n).pending ≡ []). inl (is ∙ x))
    (λ (x : (pending_of tx ((done (files (take k log)) e.content).base n).pending ≡ pending_of tx (base_at log k n).pending) ⊎ ((ps : List NumberedPage) × (u : ℕ) × (e.content ≡ Does (Frames n tx u false ps)))).
    ⊎_elim
    (λ (y : pending_of tx ((done (files (take k log)) e.content).base n).pending ≡ pending_of tx (base_at log k n).pending). ⊎_elim (λ (z : pending_of tx (base_at log k n).pending ≡ []). inl (is ∙ y ∙ z)) (λ (z : Came log k n tx). inr (came_later log k n tx z)) (pending_from log k n tx))
    (λ (y : (ps : List NumberedPage) × (u : ℕ) × (e.content ≡ Does (Frames n tx u false ps))).
    let ind : suc k - 1 ≡ k = omega arith in
    let entry : e ≡ record { term = e.term; content = Does (Frames n tx y.1 false y.0) } = λ i. record { term = e.term; content = y.2 i } in
    inr (record { index = suc k; term = e.term; pages = y.0; pos = omega arith; low = omega arith; bears = record { truncate = y.1; is = ap (slice_get log) ind ∙ p.2 ∙ ap (λ z. Some z) entry } }))
    x)
    (pends (files (take k log)) e.content n tx))
    (λ (p : (length log ≤ k) × (slice_get log k ≡ None)).
    let h = p.0 in
    let same : take (suc k) log ≡ take k log = take_all (suc k) log (omega arith) ∙ sym (take_all k log h) in
    ⊎_elim (λ (z : pending_of tx (base_at log k n).pending ≡ []). inl (ap (λ l. pending_of tx ((files l).base n).pending) same ∙ z)) (λ (z : Came log k n tx). inr (came_later log k n tx z)) (pending_from log k n tx))
    (slice_get_cases log k).1

module _ (log : List Entry) (w : Woven log) (i : ℕ) (name : List ℕ) (first term : ℕ) (pages : List NumberedPage) (pos : 0 < i) (small : first < 2 ^ 32) (last : Bears log i name (tx_of term first) true term pages) where
  tx : ℕ
  tx = tx_of term first

  fs : Follows log i name (tx_of term first) term
  fs = w.at i name (tx_of term first) term true pages pos last

  is_first : fs.first ≡ first
  is_first = tx_same term term fs.first first fs.small small (sym fs.is)

  pub from_first : first ≤ i
  from_first = let h = fs.high in let e = is_first in omega arith

  first_pos : 0 < first
  first_pos = let h = fs.low in let e = is_first in omega arith

  none_before : pending_of (tx_of term first) (base_at log (first - 1) name).pending ≡ []
  none_before = ⊎_elim (λ (z : pending_of (tx_of term first) (base_at log (first - 1) name).pending ≡ []). z)
      (λ (z : Came log (first - 1) name (tx_of term first)).
      let f = w.at z.index name (tx_of term first) z.term false z.pages z.pos z.bears in
      let same : f.first ≡ first = tx_same z.term term f.first first f.small small (sym f.is) in
      let a = f.high in
      let b = z.low in
      let c = first_pos in
      absurd (omega arith))
      (pending_from log (first - 1) name (tx_of term first))

  record Gathers (k : ℕ) : Type 0 where
    image : image_at log k name ≡ image_at log (first - 1) name
    mine : pending_of (tx_of term first) (base_at log k name).pending ≡ pages_in (part log first k)

  part_next : (k : ℕ) (e : Entry) → first - 1 ≤ k → slice_get log k ≡ Some e → pages_in (part log first (suc k)) ≡ pages_in (part log first k) ++ content_pages e.content
  part_next k e h q =
      let inside = slice_get_within log k e q in
      let long = length-take-le k log (omega arith) in
      ap (λ l. pages_in (drop (first - 1) l)) (take_next log k e q) ∙ ap pages_in (drop-append-le (first - 1) (take k log) (e ∷ []) (omega arith)) ∙ pages_append (drop (first - 1) (take k log)) (e ∷ []) ∙ ap (λ l. pages_in (part log first k) ++ l) (append-nil (content_pages e.content))

  -- what a frame of the transaction makes of its database
  framed_here : (k u : ℕ) (b : Bool) (ps : List NumberedPage) → slice_get log k ≡ Some (record { term = term; content = Does (Frames name (tx_of term first) u b ps) }) → base_at log (suc k) name ≡ framed (tx_of term first) b ps (base_at log k name)
  unfolding act
  framed_here k u b ps q = base_next log k name (record { term = term; content = Does (Frames name (tx_of term first) u b ps) }) q ∙ cond-true (bytes_eq name name) (framed (tx_of term first) b ps (base_at log k name)) (base_at log k name) (same_name name)

  start : Gathers (first - 1)
  start = record { image = refl; mine = none_before ∙ sym (ap pages_in (drop_all (first - 1) (take (first - 1) log) (omega (arith, length-take (first - 1) log)))) }

  gathers : (d : ℕ) → first - 1 + d < i → Gathers (first - 1 + d)
  unfolding framed
  gathers zero h = let e : first - 1 ≡ first - 1 + 0 = omega arith in subst Gathers e start
  gathers (suc d) h =
      let k = first - 1 + d in
      let up : suc k ≡ first - 1 + suc d = omega arith in
      let c = first_pos in
      let g = gathers d (omega arith) in
      let far : i ≡ suc k + suc (i - suc k - 1) = omega arith in
      let y = walk log w (i - suc k - 1) (suc k) name (tx_of term first) first term true pages (omega arith) small (omega arith) refl (subst (λ j. Bears log j name (tx_of term first) true term pages) far last) in
      let ind : suc k - 1 ≡ k = omega arith in
      let q : slice_get log k ≡ Some (record { term = term; content = Does (Frames name (tx_of term first) y.1.truncate false y.0) }) = ap (slice_get log) (sym ind) ∙ y.1.is in
      let next = framed_here k y.1.truncate false y.0 q in
      subst Gathers up (record {
        image = ap (λ (b : Base). b.image) next ∙ g.image;
        mine = ap (λ (b : Base). pending_of (tx_of term first) b.pending) next ∙ cond-true (tx_of term first == tx_of term first) (pending_of (tx_of term first) (base_at log k name).pending ++ y.0) [] (eq-eqb (tx_of term first) (tx_of term first) refl)
            ∙ ap (λ l. l ++ y.0) g.mine ∙ sym (part_next k (record { term = term; content = Does (Frames name (tx_of term first) y.1.truncate false y.0) }) (omega arith) q);
      })

  pub applies : image_at log i name ≡ image_after (image_at log (first - 1) name) (pages_in (part log first i))
  unfolding framed
  applies =
      let c = first_pos in
      let l = from_first in
      let k = i - 1 in
      let place : first - 1 + (i - first) ≡ k = omega arith in
      let g = subst Gathers place (gathers (i - first) (omega arith)) in
      let up : suc k ≡ i = omega arith in
      let next = framed_here k last.truncate true pages last.is in
      let all = part_next k (record { term = term; content = Does (Frames name (tx_of term first) last.truncate true pages) }) (omega arith) last.is in
      subst (λ j. image_at log j name ≡ image_after (image_at log (first - 1) name) (pages_in (part log first j))) up
      (ap (λ (b : Base). b.image) next ∙ committed_image (pending_of (tx_of term first) (base_at log k name).pending ++ pages) (base_at log k name) ∙ ap (λ (x : Image). image_after x (pending_of (tx_of term first) (base_at log k name).pending ++ pages)) g.image
      ∙ ap (λ x. image_after (image_at log (first - 1) name) (x ++ pages)) g.mine ∙ ap (image_after (image_at log (first - 1) name)) (sym all))

pub commits_apply_hold : CommitsApply
commits_apply_hold log w i first term name pages pos small x =
    (from_first log w i name first term pages pos small x, applies log w i name first term pages pos small x)

-- an entry and the image of a database
image_by : (m : Machine) (c : Content) (n : List ℕ) → (((done m c).base n).image ≡ (m.base n).image) ⊎ ((tx u : ℕ) × (pages : List NumberedPage) × (c ≡ Does (Frames n tx u true pages)))
unfolding act framed
image_by m (Does (OpenDb name)) n = inl refl
image_by m (Does (Frames name tx u true pages)) n = cond_both (bytes_eq n name) (framed tx true pages (m.base n)) (m.base n) (λ (d : Base). (d.image ≡ (m.base n).image) ⊎ ((uv v : ℕ) × (ps : List NumberedPage) × (Does (Frames name tx u true pages) ≡ Does (Frames n uv v true ps)))) (λ e. inr (tx, u, pages, ap (λ k. Does (Frames k tx u true pages)) (sym (name_is n name e)))) (λ e. inl refl)
image_by m (Does (Frames name tx u false pages)) n =
    inl (cond_both (bytes_eq n name) (framed tx false pages (m.base n)) (m.base n) (λ (d : Base). d.image ≡ (m.base n).image) (λ e. refl) (λ e. refl))
image_by m (Does (Undo uv)) n = inl refl
image_by m (Does (Checkpoint name)) n =
    inl (cond_both (bytes_eq n name) (checked (m.base n)) (m.base n) (λ (d : Base). d.image ≡ (m.base n).image) (λ e. refl) (λ e. refl))
image_by m (Configures servers) n = inl refl
image_by m Other n = inl refl

pub only_commits_hold : OnlyCommits
only_commits_hold log i n =
    ⊎_elim
    (λ (p : (e : Entry) × (i < length log) × (slice_get log i ≡ Some e) × (get_or log i e ≡ e)).
    let e = p.0 in
    let next = ap (λ (d : Base). d.image) (base_next log i n e p.2) in
    ⊎_elim
    (λ (x : ((done (files (take i log)) e.content).base n).image ≡ image_at log i n). inl (next ∙ x))
    (λ (x : (tx u : ℕ) × (pages : List NumberedPage) × (e.content ≡ Does (Frames n tx u true pages))).
    let ind : suc i - 1 ≡ i = omega arith in
    let entry : e ≡ record { term = e.term; content = Does (Frames n x.0 x.1 true x.2) } = λ k. record { term = e.term; content = x.3 k } in
    inr (x.0, e.term, x.2, record { truncate = x.1; is = ap (slice_get log) ind ∙ p.2 ∙ ap (λ z. Some z) entry }))
    (image_by (files (take i log)) e.content n))
    (λ (p : (length log ≤ i) × (slice_get log i ≡ None)).
    let h = p.0 in
    let same : take (suc i) log ≡ take i log = take_all (suc i) log (omega arith) ∙ sym (take_all i log h) in
    inl (ap (λ l. ((files l).base n).image) same))
    (slice_get_cases log i).1
