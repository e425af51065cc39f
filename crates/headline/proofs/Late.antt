-- Wrong histories of writes that come late, or in another order.
use Rattle.std.proofs.Common.{◌≡◌, ◌⊎◌, inl, inr, ⊎_elim, ℕ, ◌<◌, ◌≤◌, Bool, true, false, true≢false, List, [], ◌∷◌, ◌++◌, length, take, refl, sym, ap, ◌∙◌, subst, arith}
use Rattle.std.specs.Prelude.{◌==◌, map, Option, Some, slice_get, codes, if◌then◌else◌}
use Rattle.dq_base.specs.declared.images.Image.{Image}
use Rattle.wire_msgs.specs.declared.request.Request.{Request}
use Rattle.wire_msgs.specs.declared.response.Response.{Response}
use Rattle.wire_msgs.specs.declared.response.Response.TheVariants as responses
use Rattle.sql_scan.specs.declared.pieces.StatementSpan.{StatementSpan}
use Rattle.sql_scan.specs.declared.heading.WordKind.TheVariants as words
use Rattle.sql_engine.specs.Replies.{Statement, Reply}
use Rattle.sql_engine.specs.Meanings.{Meaning}
use Rattle.database_state.specs.Files.{Content, empty_image}
use Rattle.std.proofs.lemmas.Bool.{eqb-true}
use Rattle.headline.specs.Clients.{Idle, Begun, Purpose, Begins, Runs, purpose, waits_first, has_image, is_newest, after_result}
use Rattle.headline.specs.Headline.{NodeView, Observation, Asks, Answers, Shows, GoesDown, SeenOf, IsAt, IsReply, IsFinished, answered, down, client_at, purpose_at, Change, image_in, MakesChange, IsSentAs, HoldsOfAll}
use Rattle.headline.specs.Laws.{IsMarked, statement, MarksImages, MovesImages, KeepsUnmarked, leads, opens, opened, execs, done, fails, queries, d, starts, wrote, NoWriteLostLater, NoStaleBegin, NoDirtyRead, NoLateWrite, NoLateWriteOfDownNode, NoLateWriteAfterBarrier, NoSwappedWrites}
use Rattle.headline.proofs.Lists.{Have, all_have}
use Rattle.headline.proofs.Seen.{held, seen_all, each_ask, each_down}
use Rattle.headline.proofs.Stays.{NoCommit, Plain, stays_from}
use Rattle.headline.proofs.Knowing.{open_request, exec, query, result, knows, exec_is, query_is, write_none, begin_none, query_none}
use Rattle.headline.proofs.Results.{right_result, ran_outside, GaveMark, one_ran, committed, marked_after, marked_later, refused_none, query_refused_after}
use Rattle.headline.proofs.Refused.{makes_new, first_pair, first_committed, first_over, rests_image}

-- what a statement outside a transaction made
pub record RanThere (m : Meaning) (earlier : List Change) (s : Statement) (c : Change) : Type 0 where
  pub database : c.name ≡ codes "d"
  pub before : Image
  pub from : image_in earlier (codes "d") ≡ Some before
  pub reply : Reply
  pub runs : m.runs before s c.after reply

pub ran_there : (m : Meaning) (earlier : List Change) (rests : ℕ → ℕ) (work : ℕ → Image) (barriers rows : Bool) (w : Purpose) (s : Statement) (c : Change) →
    w ≡ Runs rows (s ∷ []) →
    MakesChange m earlier rests work (knows barriers Idle) w c → RanThere m earlier s c
ran_there m earlier rests work barriers rows w s c is makes =
    let a = subst (λ w. MakesChange m earlier rests work (knows barriers Idle) w c) is makes in
    let one = one_ran m a.2.1.0 c.after s a.2.0 a.2.1.2 in
    record { database = a.0; before = a.2.1.0; from = a.2.1.1; reply = one.0; runs = one.2 }

-- ---- a write that is over when another one comes, and comes after it

module _ (m : Meaning) (marked : Image → Bool) (sql other : List ℕ) (span another : StatementSpan) (many seen applied last : ℕ) (files : List Content)
    (image late : Image)
    (writes : MarksImages m marked sql span) (moves : MovesImages m other another) (keeps : KeepsUnmarked m marked other another)
    (without : marked image ≡ false) (with_mark : marked late ≡ true) where
  abbrev first_view : NodeView
  first_view = record { term = 2; leads = true; applied = applied; files = d image ∷ [] }

  abbrev last_view : NodeView
  last_view = record { term = 2; leads = true; applied = last; files = d late ∷ [] }

  abbrev tail : List Observation
  tail = leads 2 2 seen files ∷ opens 2 2 0 ∷ opened 2 2 ∷ execs 2 2 other ∷ done 2 2 many ∷ Shows 2 first_view ∷ Shows 2 last_view ∷ []

  pub late_refused : (text : List ℕ) → HoldsOfAll m (starts (execs 1 1 sql ∷ fails 1 1 10506 text ∷ tail)) → ⊥
  late_refused text y =
      let h = starts (execs 1 1 sql ∷ fails 1 1 10506 text ∷ tail) in
      let answers : IsReply h 2 2 8 9 (exec other) (result many) = record { home = 2; asks = refl; answers = refl; turn = refl } in
      let plain : Plain h = each_ask (λ place node conn request. NoCommit (purpose_at h conn place request)) h
      (tt, (write_none (knows false Idle) sql span writes.sole, (tt, (write_none (knows false Idle) other another moves.sole, tt)))) in
      let w = committed m h y 2 2 8 9 many other another false moves answers refl in
      let low = y.applied 2 2 8 9 10 first_view (exec other) (result many) answers refl (rests_image m h 2 8 other another moves.sole refl) refl (omega arith)
      (λ fall e after before. omega (arith, after, before)) in
      let count_is = w.count in
      let at = w.asked in
      let asks : (i : ℕ) (c : Change) → slice_get y.order i ≡ Some c → Have (λ i. marked i ≡ false) y.order i →
      ((c.place ≡ 3) × (c.name ≡ codes "d") × (marked c.after ≡ true)) ⊎ (marked c.after ≡ false) = λ i c is earlier.
      let comes = (y.comes i c is).0 in
      each_ask (λ place node conn request. c.place ≡ place → MakesChange m (take i y.order) y.rests y.work (client_at h conn place)
      (purpose_at h conn place request) c → ((c.place ≡ 3) × (c.name ≡ codes "d") × (marked c.after ≡ true)) ⊎ (marked c.after ≡ false)) h (
        (λ e makes. inr (ap marked (makes_new m (take i y.order) y.rests y.work (client_at h 1 1) 0 c makes) ∙ writes.new)),
        (
          (λ e makes. let ran = ran_there m (take i y.order) y.rests y.work false false (purpose (knows false Idle) (exec sql)) (statement sql span) c
              (exec_is (knows false Idle) sql span words.Write writes.sole) makes in
              inl (e, ran.database, writes.makes ran.before c.after ran.reply ran.runs)),
          (
            (λ e makes. inr (ap marked (makes_new m (take i y.order) y.rests y.work (client_at h 2 6) 0 c makes) ∙ writes.new)),
            (
              (λ e makes. let ran = ran_there m (take i y.order) y.rests y.work false false (purpose (knows false Idle) (exec other))
                  (statement other another) c (exec_is (knows false Idle) other another words.Write moves.sole) makes in
                  inr (keeps ran.before c.after ran.reply ran.runs (earlier (codes "d") ran.before ran.from))),
              tt,
            ),
          ),
        ),
      ) c.place comes.node comes.conn comes.request comes.asked refl comes.makes in
      let none : (i : ℕ) (c : Change) → slice_get y.order i ≡ Some c → (c.place ≡ 3) × (c.name ≡ codes "d") × (marked c.after ≡ true) → ⊥ = λ i c is known.
      let over : IsFinished h c.place 4 = subst (λ p. IsFinished h p 4) (sym known.0)
      (answered 1 1 (exec sql) (responses.Failure 10506 text ∷ []) (record { home = 1; asks = refl; answers = refl; turn = refl })) in
      let past = (y.comes w.number w.change w.found).1 i 4 c is over (omega (arith, at)) in
      let mark : GaveMark m h y 3 marked = record { number = i; change = c; found = is; asked = known.0; database = known.1; mark = known.2 } in
      true≢false (sym (marked_after m h y 3 (y.index applied) marked image writes.stays plain mark (omega (arith, past, low, count_is))
      (sym ((y.files 10 2 first_view refl).0 (codes "d")))) ∙ without) in
      true≢false (sym with_mark ∙ all_have (λ i. marked i ≡ false) y.order (λ i c is earlier. ⊎_elim (λ known. absurd (none i c is known)) (λ u. u)
      (asks i c is earlier)) (y.index last) (codes "d") late
      (sym ((y.files 11 2 last_view refl).0 (codes "d"))))

  pub late_down : HoldsOfAll m (starts (execs 1 1 sql ∷ GoesDown 1 ∷ tail)) → ⊥
  late_down y =
      let h = starts (execs 1 1 sql ∷ GoesDown 1 ∷ tail) in
      let answers : IsReply h 2 2 8 9 (exec other) (result many) = record { home = 2; asks = refl; answers = refl; turn = refl } in
      let plain : Plain h = each_ask (λ place node conn request. NoCommit (purpose_at h conn place request)) h
      (tt, (write_none (knows false Idle) sql span writes.sole, (tt, (write_none (knows false Idle) other another moves.sole, tt)))) in
      let w = committed m h y 2 2 8 9 many other another false moves answers refl in
      let low = y.applied 2 2 8 9 10 first_view (exec other) (result many) answers refl (rests_image m h 2 8 other another moves.sole refl) refl (omega arith)
      (λ fall e after before. omega (arith, after, before)) in
      let count_is = w.count in
      let at = w.asked in
      let asks : (i : ℕ) (c : Change) → slice_get y.order i ≡ Some c → Have (λ i. marked i ≡ false) y.order i →
      ((c.place ≡ 3) × (c.name ≡ codes "d") × (marked c.after ≡ true)) ⊎ (marked c.after ≡ false) = λ i c is earlier.
      let comes = (y.comes i c is).0 in
      each_ask (λ place node conn request. c.place ≡ place → MakesChange m (take i y.order) y.rests y.work (client_at h conn place)
      (purpose_at h conn place request) c → ((c.place ≡ 3) × (c.name ≡ codes "d") × (marked c.after ≡ true)) ⊎ (marked c.after ≡ false)) h (
        (λ e makes. inr (ap marked (makes_new m (take i y.order) y.rests y.work (client_at h 1 1) 0 c makes) ∙ writes.new)),
        (
          (λ e makes. let ran = ran_there m (take i y.order) y.rests y.work false false (purpose (knows false Idle) (exec sql)) (statement sql span) c
              (exec_is (knows false Idle) sql span words.Write writes.sole) makes in
              inl (e, ran.database, writes.makes ran.before c.after ran.reply ran.runs)),
          (
            (λ e makes. inr (ap marked (makes_new m (take i y.order) y.rests y.work (client_at h 2 6) 0 c makes) ∙ writes.new)),
            (
              (λ e makes. let ran = ran_there m (take i y.order) y.rests y.work false false (purpose (knows false Idle) (exec other))
                  (statement other another) c (exec_is (knows false Idle) other another words.Write moves.sole) makes in
                  inr (keeps ran.before c.after ran.reply ran.runs (earlier (codes "d") ran.before ran.from))),
              tt,
            ),
          ),
        ),
      ) c.place comes.node comes.conn comes.request comes.asked refl comes.makes in
      let none : (i : ℕ) (c : Change) → slice_get y.order i ≡ Some c → (c.place ≡ 3) × (c.name ≡ codes "d") × (marked c.after ≡ true) → ⊥ = λ i c is known.
      let over : IsFinished h c.place 4 = subst (λ p. IsFinished h p 4) (sym known.0) (down 1 1 (exec sql) refl refl (omega arith)) in
      let past = (y.comes w.number w.change w.found).1 i 4 c is over (omega (arith, at)) in
      let mark : GaveMark m h y 3 marked = record { number = i; change = c; found = is; asked = known.0; database = known.1; mark = known.2 } in
      true≢false (sym (marked_after m h y 3 (y.index applied) marked image writes.stays plain mark (omega (arith, past, low, count_is))
      (sym ((y.files 10 2 first_view refl).0 (codes "d")))) ∙ without) in
      true≢false (sym with_mark ∙ all_have (λ i. marked i ≡ false) y.order (λ i c is earlier. ⊎_elim (λ known. absurd (none i c is known)) (λ u. u)
      (asks i c is earlier)) (y.index last) (codes "d") late
      (sym ((y.files 11 2 last_view refl).0 (codes "d"))))

  pub late_hidden : (answer : List Response) → HoldsOfAll m (starts (execs 1 1 sql ∷ Answers 1 1 answer ∷ GoesDown 1 ∷ tail)) → ⊥
  late_hidden answer y =
      let h = starts (execs 1 1 sql ∷ Answers 1 1 answer ∷ GoesDown 1 ∷ tail) in
      let answers : IsReply h 2 2 9 10 (exec other) (result many) = record { home = 2; asks = refl; answers = refl; turn = refl } in
      let plain : Plain h = each_ask (λ place node conn request. NoCommit (purpose_at h conn place request)) h
      (tt, (write_none (knows false Idle) sql span writes.sole, (tt, (write_none (knows false Idle) other another moves.sole, tt)))) in
      let w = committed m h y 2 2 9 10 many other another false moves answers refl in
      let low = y.applied 2 2 9 10 11 first_view (exec other) (result many) answers refl (rests_image m h 2 9 other another moves.sole refl) refl
      (omega arith) (λ fall e after before. omega (arith, after, before)) in
      let count_is = w.count in
      let at = w.asked in
      let asks : (i : ℕ) (c : Change) → slice_get y.order i ≡ Some c → Have (λ i. marked i ≡ false) y.order i →
      ((c.place ≡ 3) × (c.name ≡ codes "d") × (marked c.after ≡ true)) ⊎ (marked c.after ≡ false) = λ i c is earlier.
      let comes = (y.comes i c is).0 in
      each_ask (λ place node conn request. c.place ≡ place → MakesChange m (take i y.order) y.rests y.work (client_at h conn place)
      (purpose_at h conn place request) c → ((c.place ≡ 3) × (c.name ≡ codes "d") × (marked c.after ≡ true)) ⊎ (marked c.after ≡ false)) h (
        (λ e makes. inr (ap marked (makes_new m (take i y.order) y.rests y.work (client_at h 1 1) 0 c makes) ∙ writes.new)),
        (
          (λ e makes. let ran = ran_there m (take i y.order) y.rests y.work false false (purpose (knows false Idle) (exec sql)) (statement sql span) c
              (exec_is (knows false Idle) sql span words.Write writes.sole) makes in
              inl (e, ran.database, writes.makes ran.before c.after ran.reply ran.runs)),
          (
            (λ e makes. inr (ap marked (makes_new m (take i y.order) y.rests y.work (client_at h 2 7) 0 c makes) ∙ writes.new)),
            (
              (λ e makes. let ran = ran_there m (take i y.order) y.rests y.work false false (purpose (knows false Idle) (exec other))
                  (statement other another) c (exec_is (knows false Idle) other another words.Write moves.sole) makes in
                  inr (keeps ran.before c.after ran.reply ran.runs (earlier (codes "d") ran.before ran.from))),
              tt,
            ),
          ),
        ),
      ) c.place comes.node comes.conn comes.request comes.asked refl comes.makes in
      let none : (i : ℕ) (c : Change) → slice_get y.order i ≡ Some c → (c.place ≡ 3) × (c.name ≡ codes "d") × (marked c.after ≡ true) → ⊥ = λ i c is known.
      let over : IsFinished h c.place 5 = subst (λ p. IsFinished h p 5) (sym known.0) (down 1 1 (exec sql) refl refl (omega arith)) in
      let past = (y.comes w.number w.change w.found).1 i 5 c is over (omega (arith, at)) in
      let mark : GaveMark m h y 3 marked = record { number = i; change = c; found = is; asked = known.0; database = known.1; mark = known.2 } in
      true≢false (sym (marked_after m h y 3 (y.index applied) marked image writes.stays plain mark (omega (arith, past, low, count_is))
      (sym ((y.files 11 2 first_view refl).0 (codes "d")))) ∙ without) in
      true≢false (sym with_mark ∙ all_have (λ i. marked i ≡ false) y.order (λ i c is earlier. ⊎_elim (λ known. absurd (none i c is known)) (λ u. u)
      (asks i c is earlier)) (y.index last) (codes "d") late
      (sym ((y.files 12 2 last_view refl).0 (codes "d"))))

  -- At most one answer was hidden, and it was the one to the write.
  one_asked : (b : Bool) (u : List Response) (p q : ℕ × Option Request) → length ((if b then u ∷ [] else []) ++ []) < length
      ((if b then p ∷ [] else []) ++ ((if b then q ∷ [] else []) ++ [])) → b ≡ true
  one_asked true u p q lt = refl
  one_asked false u p q lt = let l : 0 < 0 = lt in absurd (omega (arith, l))

  two_asked : (b : Bool) (u v : List Response) (p q : ℕ × Option Request) → length ((if b then u ∷ [] else []) ++ ((if b then v ∷ [] else []) ++ [])) < length
      ((if b then p ∷ [] else []) ++ ((if b then q ∷ [] else []) ++ [])) → ⊥
  two_asked true u v p q lt = let l : 2 < 2 = lt in omega (arith, l)
  two_asked false u v p q lt = let l : 0 < 0 = lt in omega (arith, l)

  late_by : (hidden : List (ℕ × List Response)) →
      HoldsOfAll m (starts (execs 1 1 sql ∷ (map (λ (a : ℕ × List Response). Answers 1 a.0 a.1) hidden ++ GoesDown 1 ∷ tail))) → ⊥
  late_by [] y = late_down y
  late_by (a ∷ []) y =
      let is : 1 ≡ a.0 = eqb-true 1 a.0 (one_asked (1 == a.0) (responses.Db 0 ∷ []) (1, open_request 0) (3, exec sql) (y.answered 4 1 a.0 a.1 refl)) in
      late_hidden a.1 (subst (λ c. HoldsOfAll m (starts (execs 1 1 sql ∷ Answers 1 c a.1 ∷ GoesDown 1 ∷ tail))) (sym is) y)
  late_by (a ∷ b ∷ more) y =
      let is : 1 ≡ a.0 = eqb-true 1 a.0 (one_asked (1 == a.0) (responses.Db 0 ∷ []) (1, open_request 0) (3, exec sql) (y.answered 4 1 a.0 a.1 refl)) in
      let rest = map (λ (a : ℕ × List Response). Answers 1 a.0 a.1) more ++ GoesDown 1 ∷ tail in
      let z = subst (λ c. HoldsOfAll m (starts (execs 1 1 sql ∷ Answers 1 c a.1 ∷ Answers 1 b.0 b.1 ∷ rest))) (sym is) y in
      two_asked (1 == b.0) (responses.Db 0 ∷ []) a.1 (1, open_request 0) (3, exec sql) (z.answered 5 1 b.0 b.1 refl)

  pub late_seen : (all : List Observation) → SeenOf (starts (execs 1 1 sql ∷ GoesDown 1 ∷ tail)) all → HoldsOfAll m all → ⊥
  late_seen all (r0, e0, (r1, e1, (r2, e2, (r3, e3, (hidden, rest, e4, seen_rest))))) y =
      let tail_is : rest ≡ tail = seen_all tail rest refl seen_rest in
      let is : all ≡ starts (execs 1 1 sql ∷ (map (λ (a : ℕ × List Response). Answers 1 a.0 a.1) hidden ++ GoesDown 1 ∷ tail)) =
      e0 ∙ ap (λ r. leads 1 1 0 [] ∷ r) (e1 ∙ ap (λ r. opens 1 1 0 ∷ r) (e2 ∙ ap (λ r. opened 1 1 ∷ r) (e3 ∙ ap (λ r. execs 1 1 sql ∷ r)
      (e4 ∙ ap (λ r. map (λ (a : ℕ × List Response). Answers 1 a.0 a.1) hidden ++ GoesDown 1 ∷ r) tail_is)))) in
      late_by hidden (subst (HoldsOfAll m) is y)

pub no_late_write : (m : Meaning) → NoLateWrite m
no_late_write m marked sql other span another many seen applied last text files image late writes moves keeps without with_mark x =
    let tail = leads 2 2 seen files ∷ opens 2 2 0 ∷ opened 2 2 ∷ execs 2 2 other ∷ done 2 2 many ∷ leads 2 2 applied (d image ∷ []) ∷ leads 2 2 last
    (d late ∷ []) ∷ [] in
    late_refused m marked sql other span another many seen applied last files image late writes moves keeps without with_mark text
    (held m (starts (execs 1 1 sql ∷ fails 1 1 10506 text ∷ tail)) refl x)

pub no_late_write_of_down_node : (m : Meaning) → NoLateWriteOfDownNode m
no_late_write_of_down_node m marked sql other span another many seen applied last files image late writes moves keeps without with_mark x =
    late_seen m marked sql other span another many seen applied last files image late writes moves keeps without with_mark x.all x.is_seen x.holds

pub no_late_write_after_barrier : (m : Meaning) → NoLateWriteAfterBarrier m
no_late_write_after_barrier m marked sql query_text span another seen last text files rows late writes keeps queries_so with_mark x =
    let last_view : NodeView = record { term = 2; leads = true; applied = last; files = d late ∷ [] } in
    let refusal : List Response = responses.Failure 10506 text ∷ [] in
    let h = starts (execs 1 1 sql ∷ Answers 1 1 refusal ∷ leads 2 2 seen files ∷ opens 2 2 4294967296 ∷ opened 2 2 ∷ queries 2 2 query_text ∷ Answers 2 2 rows
    ∷ Shows 2 last_view ∷ []) in
    let y = held m h refl x in
    let fine = refused_none rows queries_so.no_refusal in
    let refuses : IsReply h 1 1 3 4 (exec sql) refusal = record { home = 1; asks = refl; answers = refl; turn = refl } in
    let pair : IsReply h 2 2 8 9 (query query_text) rows = record { home = 2; asks = refl; answers = refl; turn = refl } in
    let plain : Plain h = each_ask (λ place node conn request. NoCommit (purpose_at h conn place request)) h
    (tt, (write_none (knows false Idle) sql span writes.sole, (tt, (query_none (knows true Idle) query_text another queries_so.sole, tt)))) in
    let wanted = query_is (knows true Idle) query_text another queries_so.sole in
    let ran = ran_outside m h y 2 2 8 9 (query query_text) rows true true (statement query_text another ∷ []) pair fine refl wanted in
    let fresh = y.fresh 2 2 8 9 (query query_text) rows pair fine (ap (waits_first (knows true Idle)) wanted) in
    let asks : (i : ℕ) (c : Change) → slice_get y.order i ≡ Some c → Have (λ i. marked i ≡ false) y.order i →
    ((c.place ≡ 3) × (c.name ≡ codes "d") × (marked c.after ≡ true)) ⊎ (marked c.after ≡ false) = λ i c is earlier.
    let comes = (y.comes i c is).0 in
    each_ask (λ place node conn request. c.place ≡ place → MakesChange m (take i y.order) y.rests y.work (client_at h conn place)
    (purpose_at h conn place request) c → ((c.place ≡ 3) × (c.name ≡ codes "d") × (marked c.after ≡ true)) ⊎ (marked c.after ≡ false)) h (
      (λ e makes. inr (ap marked (makes_new m (take i y.order) y.rests y.work (client_at h 1 1) 0 c makes) ∙ writes.new)),
      (
        (λ e makes. let ran = ran_there m (take i y.order) y.rests y.work false false (purpose (knows false Idle) (exec sql)) (statement sql span) c
            (exec_is (knows false Idle) sql span words.Write writes.sole) makes in
            inl (e, ran.database, writes.makes ran.before c.after ran.reply ran.runs)),
        (
          (λ e makes. inr (ap marked (makes_new m (take i y.order) y.rests y.work (client_at h 2 6) 4294967296 c makes) ∙ writes.new)),
          (
            (λ e makes. let ran = ran_there m (take i y.order) y.rests y.work true true (purpose (knows true Idle) (query query_text))
                (statement query_text another) c wanted makes in
                inr (keeps ran.before c.after ran.reply ran.runs (earlier (codes "d") ran.before ran.from))),
            tt,
          ),
        ),
      ),
    ) c.place comes.node comes.conn comes.request comes.asked refl comes.makes in
    let none : (i : ℕ) (c : Change) → slice_get y.order i ≡ Some c → (c.place ≡ 3) × (c.name ≡ codes "d") × (marked c.after ≡ true) → ⊥ = λ i c is known.
    let over : IsFinished h c.place 4 = subst (λ p. IsFinished h p 4) (sym known.0) (answered 1 1 (exec sql) refusal refuses) in
    let past = fresh i 4 c is over (omega arith) in
    let mark : GaveMark m h y 3 marked = record { number = i; change = c; found = is; asked = known.0; database = known.1; mark = known.2 } in
    query_refused_after m h y 3 8 query_text another marked rows ran.0 writes.stays queries_so plain mark (omega arith) past ran.1 ran.2 in
    true≢false (sym with_mark ∙ all_have (λ i. marked i ≡ false) y.order (λ i c is earlier. ⊎_elim (λ known. absurd (none i c is known)) (λ u. u)
    (asks i c is earlier)) (y.index last) (codes "d") late
    (sym ((y.files 10 2 last_view refl).0 (codes "d"))))

pub no_swapped_writes : (m : Meaning) → NoSwappedWrites m
no_swapped_writes m first second sql other span another count many applied image writes moves others without with_mark x =
    let view : NodeView = record { term = 1; leads = true; applied = applied; files = d image ∷ [] } in
    let h = starts (execs 1 1 sql ∷ execs 1 1 other ∷ Shows 1 view ∷ done 1 1 count ∷ done 1 1 many ∷ []) in
    let y = held m h refl x in
    let pair : IsReply h 1 1 3 6 (exec sql) (result count) = record { home = 1; asks = refl; answers = refl; turn = refl } in
    let four : client_at h 1 4 ≡ knows false Idle = ap (after_result (knows false Idle) 3 (result count))
    (exec_is (knows false Idle) sql span words.Write writes.sole) in
    let plain : Plain h = each_ask (λ place node conn request. NoCommit (purpose_at h conn place request)) h
    (tt, (write_none (knows false Idle) sql span writes.sole, (write_none (client_at h 1 4) other another others.sole, tt))) in
    let w = committed m h y 1 1 3 6 count sql span false moves pair refl in
    let at = w.asked in
    let none : second empty_image ≡ true → ⊥ = λ e. true≢false (sym e ∙ others.new) in
    let each : (i : ℕ) (c : Change) → slice_get y.order i ≡ Some c → Have (λ i. second i ≡ true → first i ≡ true) y.order i → second c.after ≡ true →
    first c.after ≡ true = λ i c is earlier.
    let comes = (y.comes i c is).0 in
    each_ask (λ place node conn request. c.place ≡ place → MakesChange m (take i y.order) y.rests y.work (client_at h conn place)
    (purpose_at h conn place request) c → second c.after ≡ true → first c.after ≡ true) h (
      (λ e makes q. absurd (none (subst (λ i. second i ≡ true) (makes_new m (take i y.order) y.rests y.work (client_at h 1 1) 0 c makes) q))),
      (
        (λ e makes q. let ran = ran_there m (take i y.order) y.rests y.work false false (purpose (knows false Idle) (exec sql)) (statement sql span) c
            (exec_is (knows false Idle) sql span words.Write writes.sole) makes in
            writes.makes ran.before c.after ran.reply ran.runs),
        (
          (λ e makes q. let there = subst (λ s. MakesChange m (take i y.order) y.rests y.work s (purpose s (exec other)) c) four makes in
              let ran = ran_there m (take i y.order) y.rests y.work false false (purpose (knows false Idle) (exec other)) (statement other another) c
              (exec_is (knows false Idle) other another words.Write others.sole) there in
              let asked : IsAt h c.place (Asks 1 1 (exec other)) = subst (λ p. IsAt h p (Asks 1 1 (exec other))) (sym e) refl in
              let asked_first : IsAt h w.change.place (Asks 1 1 (exec sql)) = subst (λ p. IsAt h p (Asks 1 1 (exec sql))) (sym at) refl in
              let past = y.own w.number i 1 1 1 w.change c (exec sql) (exec other) w.found is asked_first asked (omega (arith, at, e)) in
              let before = marked_later m h y 3 i sql span first ran.before writes plain w past ran.from in
              writes.stays ran.before c.after (statement other another) ran.reply ran.runs before),
          tt,
        ),
      ),
    ) c.place comes.node comes.conn comes.request comes.asked refl comes.makes in
    let has = all_have (λ i. second i ≡ true → first i ≡ true) y.order each (y.index applied) (codes "d") image (sym ((y.files 5 1 view refl).0 (codes "d")))
    with_mark in
    true≢false (sym has ∙ without)

pub no_stale_begin : (m : Meaning) → NoStaleBegin m
no_stale_begin m marked sql begin query_text span two another at_once count applied files rows writes moves begins queries_so x =
    let view : NodeView = record { term = 1; leads = true; applied = applied; files = files } in
    let more = Shows 1 view ∷ opens 1 2 0 ∷ opened 1 2 ∷ execs 1 2 begin ∷ done 1 2 0 ∷ queries 1 2 query_text ∷ Answers 1 2 rows ∷ [] in
    let h = wrote sql count more in
    let y = held m h refl x in
    let w = first_committed m sql span count more y moves in
    let plain : Plain h = each_ask (λ place node conn request. NoCommit (purpose_at h conn place request)) h (
      tt,
      (
        write_none (knows false Idle) sql span writes.sole,
        (tt, (begin_none (knows false Idle) begin two at_once begins, (query_none (client_at h 2 10) query_text another queries_so.sole, tt))),
      ),
    ) in
    let fine = refused_none rows queries_so.no_refusal in
    let begun : IsReply h 1 2 8 9 (exec begin) (result 0) = record { home = 1; asks = refl; answers = refl; turn = refl } in
    let pair : IsReply h 1 2 10 11 (query query_text) rows = record { home = 1; asks = refl; answers = refl; turn = refl } in
    let begin_is : purpose (knows false Idle) (exec begin) ≡ Begins = exec_is (knows false Idle) begin two (words.Begin at_once) begins in
    let ten : client_at h 2 10 ≡ knows false (Begun 8 8) = ap (after_result (knows false Idle) 8 (result 0)) begin_is in
    let start = right_result m h y 1 2 8 9 (exec begin) (result 0) (knows false Idle) Begins begun refl refl begin_is in
    let ran = right_result m h y 1 2 10 11 (query query_text) rows (knows false (Begun 8 8)) (Runs true (statement query_text another ∷ [])) pair fine ten
    (query_is (knows false (Begun 8 8)) query_text another queries_so.sole) in
    let low = y.applied 1 1 3 4 5 view (exec sql) (result count) (first_pair sql count more) refl (rests_image m h 1 3 sql span writes.sole refl) refl
    (omega arith) (λ fall e after before. omega (arith, after, before)) in
    let high = y.newest 1 2 8 9 5 view (exec begin) (result 0) begun refl (ap (is_newest (knows false Idle)) begin_is) refl (omega arith)
    (λ fall e after before. each_down (λ place node. 5 < place → place < 8 → ⊥) h tt fall 1 e after before) in
    let count_is = w.count in
    let has = marked_later m h y 3 (y.rests 8) sql span marked (y.work 8) writes plain w (omega (arith, low, high, count_is)) start.1 in
    let one = one_ran m (y.work 8) (y.work 10) (statement query_text another) ran.0 ran.2.2 in
    queries_so.differs (y.work 8) (y.work 10) one.0 one.2 has (subst (λ rs. IsSentAs true rs rows) one.1 ran.1)

true_by : (b : Bool) → (b ≡ false → ⊥) → b ≡ true
true_by true h = refl
true_by false h = absurd (h refl)

pub no_dirty_read : (m : Meaning) → NoDirtyRead m
no_dirty_read m marked unmarked sql query_text span another applied image rows writes turns queries_so without x =
    let view : NodeView = record { term = 1; leads = true; applied = applied; files = d image ∷ [] } in
    let h = starts (opens 1 2 0 ∷ opened 1 2 ∷ execs 1 2 sql ∷ queries 1 1 query_text ∷ Answers 1 1 rows ∷ Shows 1 view ∷ []) in
    let y = held m h refl x in
    let plain : Plain h = each_ask (λ place node conn request. NoCommit (purpose_at h conn place request)) h
    (tt, (tt, (write_none (knows false Idle) sql span writes.sole, (query_none (knows false Idle) query_text another queries_so.sole, tt)))) in
    let fine = refused_none rows queries_so.no_refusal in
    let pair : IsReply h 1 1 6 7 (query query_text) rows = record { home = 1; asks = refl; answers = refl; turn = refl } in
    let wanted = query_is (knows false Idle) query_text another queries_so.sole in
    let ran = ran_outside m h y 1 1 6 7 (query query_text) rows false true (statement query_text another ∷ []) pair fine refl wanted in
    let low = y.applied 1 1 6 7 8 view (query query_text) rows pair fine (ap has_image wanted) refl (omega arith)
    (λ fall e after before. omega (arith, after, before)) in
    let shows = (y.files 8 1 view refl).0 (codes "d") in
    let never : (k : ℕ) (i : Image) → k ≤ y.index applied → image_in (take k y.order) (codes "d") ≡ Some i → marked i ≡ true → ⊥ = λ k i le is mark.
    let has = stays_from m (IsMarked marked) h y (codes "d") k (y.index applied) writes.stays plain le (i, is, mark) in
    true≢false (sym (subst (IsMarked marked) (same image has.0 (shows ∙ has.1)) has.2) ∙ without) in
    ⊎_elim
    (λ (made, (before, from, all)). let one = one_ran m before made.change.after (statement query_text another) ran.0 all in
    let count_is = made.count in
    never made.number before (omega (arith, low, count_is)) from
    (true_by (marked before) (λ e. queries_so.differs before made.change.after one.0 one.2 (turns before e)
    (subst (λ rs. IsSentAs true rs rows) one.1 ran.1))))
    (λ (none, (i, is, all)). let one = one_ran m i i (statement query_text another) ran.0 all in
    never (y.rests 6) i low is (true_by (marked i) (λ e. queries_so.differs i i one.0 one.2 (turns i e) (subst (λ rs. IsSentAs true rs rows) one.1 ran.1))))
    ran.2
  where
    same : (a b : Image) → Some a ≡ Some b → b ≡ a
    same a b e = cc

-- ---- a later write at another node

module _ (m : Meaning) (marked : Image → Bool) (sql other : List ℕ) (span another : StatementSpan) (count many seen applied : ℕ) (old image : Image)
    (writes : MarksImages m marked sql span) (moves : MovesImages m sql span) (others : MovesImages m other another) (without : marked image ≡ false) where
  abbrev view : NodeView
  view = record { term = 2; leads = true; applied = applied; files = d image ∷ [] }

  abbrev later : List Observation
  later = leads 2 2 seen (d old ∷ []) ∷ opens 2 2 0 ∷ opened 2 2 ∷ execs 2 2 other ∷ done 2 2 many ∷ Shows 2 view ∷ []

  lost_later : HoldsOfAll m (wrote sql count (GoesDown 1 ∷ later)) → ⊥
  lost_later y =
      let more = GoesDown 1 ∷ later in
      let h = wrote sql count more in
      let w = first_committed m sql span count more y moves in
      let answers : IsReply h 2 2 9 10 (exec other) (result many) = record { home = 2; asks = refl; answers = refl; turn = refl } in
      let plain : Plain h = each_ask (λ place node conn request. NoCommit (purpose_at h conn place request)) h
      (tt, (write_none (knows false Idle) sql span writes.sole, (tt, (write_none (knows false Idle) other another others.sole, tt)))) in
      let v = committed m h y 2 2 9 10 many other another false others answers refl in
      let at = v.asked in
      let past = (y.comes v.number v.change v.found).1 w.number 4 w.change w.found (first_over m sql span count more y w) (omega (arith, at)) in
      let low = y.applied 2 2 9 10 11 view (exec other) (result many) answers refl (rests_image m h 2 9 other another others.sole refl) refl (omega arith)
      (λ fall e after before. omega (arith, after, before)) in
      let count_is = v.count in
      true≢false (sym (marked_later m h y 3 (y.index applied) sql span marked image writes plain w (omega (arith, past, low, count_is))
      (sym ((y.files 11 2 view refl).0 (codes "d")))) ∙ without)

  all_asked : (b : Bool) (u v : List Response) (p q : ℕ × Option Request) → length ((if b then u ∷ [] else []) ++ ((if b then v ∷ [] else []) ++ [])) < length
      ((if b then p ∷ [] else []) ++ ((if b then q ∷ [] else []) ++ [])) → ⊥
  all_asked true u v p q lt = let l : 2 < 2 = lt in omega (arith, l)
  all_asked false u v p q lt = let l : 0 < 0 = lt in omega (arith, l)

  lost_by : (hidden : List (ℕ × List Response)) →
      HoldsOfAll m (wrote sql count (map (λ (a : ℕ × List Response). Answers 1 a.0 a.1) hidden ++ GoesDown 1 ∷ later)) → ⊥
  lost_by [] y = lost_later y
  lost_by (a ∷ rest) y = all_asked (1 == a.0) (responses.Db 0 ∷ []) (result count) (1, open_request 0) (3, exec sql) (y.answered 5 1 a.0 a.1 refl)

  pub lost_seen : (all : List Observation) → SeenOf (wrote sql count (GoesDown 1 ∷ later)) all → HoldsOfAll m all → ⊥
  lost_seen all (r0, e0, (r1, e1, (r2, e2, (r3, e3, (r4, e4, (hidden, rest, e5, seen_rest)))))) y =
      let tail_is : rest ≡ later = seen_all later rest refl seen_rest in
      let is : all ≡ wrote sql count (map (λ (a : ℕ × List Response). Answers 1 a.0 a.1) hidden ++ GoesDown 1 ∷ later) =
      e0 ∙ ap (λ r. leads 1 1 0 [] ∷ r) (e1 ∙ ap (λ r. opens 1 1 0 ∷ r) (e2 ∙ ap (λ r. opened 1 1 ∷ r) (e3 ∙ ap (λ r. execs 1 1 sql ∷ r)
      (e4 ∙ ap (λ r. done 1 1 count ∷ r) (e5 ∙ ap (λ r. map (λ (a : ℕ × List Response). Answers 1 a.0 a.1) hidden ++ GoesDown 1 ∷ r) tail_is))))) in
      lost_by hidden (subst (HoldsOfAll m) is y)

pub no_write_lost_later : (m : Meaning) → NoWriteLostLater m
no_write_lost_later m marked sql other span another count many seen applied old image writes moves others without x =
    lost_seen m marked sql other span another count many seen applied old image writes moves others without x.all x.is_seen x.holds
