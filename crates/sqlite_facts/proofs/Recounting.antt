-- What a statement does with other counts.
use Rattle.std.proofs.Common.{◌≡◌, ◌⊎◌, ℕ, ℤ, Bool, true, false, List, [], length, Option, None, Some, is_some, Result, Ok, Err, unwrap_or, MatchBool, refl, sym, ap, subst, ◌∙◌, inl, inr}
use Rattle.sqlite_disk.specs.declared.Disk.{Ghosts}
use Rattle.sqlite_value.specs.Order.{Row}
use Rattle.sqlite_schema.specs.declared.command.Command.{Command}
use Rattle.sqlite_schema.specs.declared.command.Command.TheVariants.{Select, Insert, InsertOr, Update, Delete, CreateTable, CreateIndex, DropTable, DropIndex, Begin, Commit, Rollback, Savepoint, Release, RollbackTo, Nothing, CreateView, DropView, Rows}
use Rattle.sqlite_schema.specs.declared.command.Returning.{Returning}
use Rattle.sqlite_resolve.specs.declared.compiled.Compiled.{Compiled}
use Rattle.sqlite.specs.declared.error.Error.{Error}
use Rattle.sqlite.specs.declared.error.Error.TheVariants.{ExecuteReturnedResults}
use Rattle.sqlite.specs.Clock.{timed}
use Rattle.sqlite.specs.Effect.{Database}
use Rattle.sqlite.specs.Rows.{Task, Written}
use Rattle.sqlite.specs.Does.{Tally, Does, AtPlace, OnRows, Concludes}
use Rattle.sqlite.specs.declared.run.Mode.{Mode}
use Rattle.sqlite_schema.specs.declared.schema.Table.{Table}
use Rattle.sqlite.specs.Listing.{is_select, understood}
use Rattle.sqlite.specs.Files.{file_state}
use Rattle.sqlite.specs.State.{State, Shows, KeepsCounts, IsUnchanged, IsRolledBack, Fails, Writes, Runs, RunsCommand, RunsAlone, IsStatement, IsNotRun, ExecutesIn, Shown, ShowsRows, FailsToShow, FailsToQuery, shows_rows, text_of, mode_of}
use Rattle.sqlite_facts.specs.Counts.{counted, LooksOnly, Returns, ReadNoCounts}

abbrev outcome_rows : Result (Tally × Database) (Option Error) → Option ℕ
outcome_rows (Ok x) = x.0.rows
outcome_rows (Err e) = None

rows_of : (a b : Result (Tally × Database) (Option Error)) → a ≡ b → outcome_rows a ≡ outcome_rows b
rows_of a b e = ap outcome_rows e

-- a write that shows rows counts them
concludes_counts : (task : Task) (mode : Mode) (returning : Option Returning) (w : Written) (tally : Tally) (after : Database) → Concludes task mode returning w (Ok (tally, after)) → (n : ℕ) × (tally.rows ≡ Some n)
concludes_counts task mode returning w tally after (inl h) = let e = h.2 in absurd (cc)
concludes_counts task mode returning w tally after (inr h) = elim h.2 [
  | inl stops ↦ let e = stops.2 in absurd (cc)
  | inr gives ↦ (length w.rows, rows_of (Ok (tally, after)) _ gives.2)
]

rows_count : (limit : Option ℕ) (mode : Mode) (params : Row) (db : Database) (what : Returning) (command : Command) (tally : Tally) (after : Database) (table : Option Table) → AtPlace (λ t. OnRows (record { limit = limit; keys = mode.keys; schema = db.schema; table = t; params = params }) mode (Some what) command db.trees) table (Ok (tally, after)) → (n : ℕ) × (tally.rows ≡ Some n)
rows_count limit mode params db what command tally after None h = let e = h in absurd (cc)
rows_count limit mode params db what command tally after (Some table) (inl h) = let e = h.2 in absurd (cc)
rows_count limit mode params db what command tally after (Some table) (inr h) = concludes_counts (record { limit = limit; keys = mode.keys; schema = db.schema; table = table; params = params }) mode (Some what) h.0 tally after h.2

does_counts : (limit : Option ℕ) (mode : Mode) (params : Row) (db : Database) (text : List ℕ) (what : Returning) (command : Command) (tally : Tally) (after : Database) → Does limit mode params db text (Some what) command (Ok (tally, after)) → (n : ℕ) × (tally.rows ≡ Some n)
does_counts limit mode params db text what (Insert at from) tally after h = rows_count limit mode params db what (Insert at from) tally after _ h
does_counts limit mode params db text what (InsertOr at how from clauses) tally after h = rows_count limit mode params db what (InsertOr at how from clauses) tally after _ h
does_counts limit mode params db text what (Update at q) tally after h = rows_count limit mode params db what (Update at q) tally after _ h
does_counts limit mode params db text what (Delete at q) tally after h = rows_count limit mode params db what (Delete at q) tally after _ h
does_counts limit mode params db text what command tally after h = let e = h in absurd (cc)

select_writes_nothing : (limit : Option ℕ) (mode : Mode) (params : Row) (db : Database) (text : List ℕ) (what : Returning) (command : Command) (tally : Tally) (after : Database) → is_select command ≡ true
    → Does limit mode params db text (Some what) command (Ok (tally, after)) → ⊥
select_writes_nothing limit mode params db text what (Select q names) tally after query h = let e = h in absurd (cc)
select_writes_nothing limit mode params db text what command tally after query h = absurd (cc)

module _ (old new : State) (k : ℕ) (l : ℤ) where
  -- with some counts after it
  abbrev Recounted : (State → State → Type 0) → Type 0
  Recounted R = (k' : ℕ) × (l' : ℤ) × R (counted k l old) (counted k' l' new)

  shows_counted : (now committed : Database) (in_transaction : Bool) (k' : ℕ) (l' : ℤ) → Shows old new now committed in_transaction → Shows (counted k l old) (counted k' l' new) now committed in_transaction
  shows_counted now committed in_transaction k' l' h = record { was_open = h.was_open; is_open = h.is_open; now_is = h.now_is; committed_is = h.committed_is; mode = h.mode }

  keeps_counted : KeepsCounts (counted k l old) (counted k l new)
  keeps_counted = record { changes = refl; last_rowid = refl }

  same_counted : IsUnchanged old new → IsUnchanged (counted k l old) (counted k l new)
  same_counted h = (shows_counted _ _ _ k l h.0, keeps_counted, h.2)

  rolled_counted : IsRolledBack old new → IsRolledBack (counted k l old) (counted k l new)
  rolled_counted h = record { was_open = h.was_open; undone = h.undone; autocommit = h.autocommit; unmarked = h.unmarked; counts = keeps_counted }

  fails_counted : (too_big : Type 0) (e : Error) → Fails old new too_big e → Fails (counted k l old) (counted k l new) too_big e
  fails_counted too_big e h = (h.0, h.1, h.2, rolled_counted h.3, h.4)

  statement_counted : (sql : List ℕ) (params : Row) (c : Compiled) → IsStatement old sql params c → IsStatement (counted k l old) sql params c
  statement_counted sql params c it = record { is = it.is; whole = it.whole; given = it.given; now = it.now }

  writes_counted : (returning : Option Returning) (command : Command) (text : List ℕ) (params : Row) (count : ℕ) (w : Writes old new returning command text params count)
      → Writes (counted k l old) (counted (unwrap_or w.tally.rows k) (unwrap_or w.tally.last l) new) returning command text params count
  writes_counted returning command text params count w = record {
    tally = w.tally;
    changed = w.changed;
    frozen = w.frozen;
    sound = w.sound;
    shown = shows_counted _ _ _ _ _ w.shown;
    marks = w.marks;
    counted = w.counted;
    changes = refl;
    last_rowid = refl;
  }

  -- a write that shows rows counts its own
  counts_own : (what : Returning) (command : Command) (text : List ℕ) (params : Row) (count : ℕ) (w : Writes old new (Some what) command text params count) → unwrap_or w.tally.rows k ≡ new.changes
  counts_own what command text params count w =
      let some = does_counts old.step_limit (mode_of old) params old.now text what command w.tally new.now w.changed in
      ap (λ r. unwrap_or r k) some.1 ∙ sym (ap (λ r. unwrap_or r old.changes) some.1) ∙ sym w.changes

  rows_counted : (what : Returning) (command : Command) (text : List ℕ) (params : Row) (count : ℕ) (w : Writes old new (Some what) command text params count)
      → Writes (counted k l old) (counted new.changes (unwrap_or w.tally.last l) new) (Some what) command text params count
  rows_counted what command text params count w =
      record { tally = w.tally; changed = w.changed; frozen = w.frozen; sound = w.sound; shown = shows_counted _ _ _ _ _ w.shown; marks = w.marks; counted = w.counted; changes = sym (counts_own what command text params count w); last_rowid = refl }

  writes_so : (returning : Option Returning) (command : Command) (text : List ℕ) (params : Row) (count : ℕ) → Writes old new returning command text params count
      → Recounted (λ a b. Writes a b returning command text params count)
  writes_so returning command text params count w = (unwrap_or w.tally.rows k, unwrap_or w.tally.last l, writes_counted returning command text params count w)

  runs_so : (returning : Option Returning) (command : Command) (text : List ℕ) (params : Row) (count : ℕ) → Runs old new returning command text params count
      → Recounted (λ a b. Runs a b returning command text params count)
  runs_so returning (Select q names) text params count h = absurd h
  runs_so returning (Insert at from) text params count h = writes_so _ _ text params count h
  runs_so returning (InsertOr at how from clauses) text params count h = writes_so _ _ text params count h
  runs_so returning (Update at q) text params count h = writes_so _ _ text params count h
  runs_so returning (Delete at q) text params count h = writes_so _ _ text params count h
  runs_so returning CreateTable text params count h = writes_so _ _ text params count h
  runs_so returning (CreateIndex at) text params count h = writes_so _ _ text params count h
  runs_so returning (DropTable at) text params count h = writes_so _ _ text params count h
  runs_so returning (DropIndex at) text params count h = writes_so _ _ text params count h
  runs_so returning Begin text params count h = (k, l, (h.0, shows_counted _ _ _ k l h.1, keeps_counted, h.3, h.4))
  runs_so returning Commit text params count h = (k, l, (h.0, shows_counted _ _ _ k l h.1, keeps_counted, h.3, h.4))
  runs_so returning Rollback text params count h = (k, l, (h.0, rolled_counted h.1, h.2))
  runs_so returning (Savepoint name) text params count h = (k, l, ((shows_counted _ _ _ k l h.0.0, keeps_counted, h.0.2), h.1))
  runs_so returning (Release name) text params count h = (
    k,
    l,
    (
      h.0,
      h.1,
      elim h.2 [
        | inl commits ↦ inl (commits.0, (shows_counted _ _ _ k l commits.1.0, keeps_counted, commits.1.2))
        | inr drops ↦ inr (drops.0, (shows_counted _ _ _ k l drops.1.0, keeps_counted, drops.1.2))
      ],
      h.3,
    ),
  )
  runs_so returning (RollbackTo name) text params count h = (k, l, (h.0, h.1, (h.2.0, h.2.1, shows_counted _ _ _ k l h.2.2, keeps_counted, h.2.4), h.3))
  runs_so returning (Rows values width names) text params count h = (k, l, (same_counted h.0, h.1))
  runs_so returning Nothing text params count h = (k, l, (same_counted h.0, h.1))
  runs_so returning CreateView text params count h = writes_so _ _ text params count h
  runs_so returning (DropView at) text params count h = writes_so _ _ text params count h

  command_so : (sql : List ℕ) (c : Compiled) (params : Row) (r : Result ℕ Error) → RunsCommand old new sql c params r → Recounted (λ a b. RunsCommand a b sql c params r)
  command_so sql c params (Ok count) h = runs_so c.returning c.command (text_of sql c) params count h
  command_so sql c params (Err e) (inl h) = (k, l, inl (h.0, same_counted h.1))
  command_so sql c params (Err e) (inr h) = (k, l, inr (fails_counted _ e h))

  alone_so : (in_batch : Bool) (sql : List ℕ) (c : Compiled) (params : Row) (r : Result ℕ Error) → RunsAlone in_batch old new sql c params r → Recounted (λ a b. RunsAlone in_batch a b sql c params r)
  alone_so in_batch sql c params r h = go (shows_rows in_batch c) h
    where
      go : (b : Bool) → MatchBool b ((r ≡ Err ExecuteReturnedResults) × IsUnchanged old new) (RunsCommand old new sql c params r)
          → Recounted (λ a z. MatchBool b ((r ≡ Err ExecuteReturnedResults) × IsUnchanged a z) (RunsCommand a z sql c params r))
      go true h = (k, l, (h.0, same_counted h.1))
      go false h = command_so sql c params r h

  not_run_so : (sql : List ℕ) (params : Row) (e : Error) → IsNotRun old new sql params e → IsNotRun (counted k l old) (counted k l new) sql params e
  unfolding IsNotRun
  not_run_so sql params e (inl h) = inl (h.0, same_counted h.1)
  not_run_so sql params e (inr h) = inr (fails_counted _ e h)

  pub executes_so : (in_batch : Bool) (sql : List ℕ) (params : Row) (r : Result ℕ Error) → ExecutesIn in_batch sql params old new r → Recounted (λ a b. ExecutesIn in_batch sql params a b r)
  unfolding ExecutesIn statement_counted
  executes_so in_batch sql params (Ok count) h = let r = alone_so in_batch sql h.0 (timed params h.0.formats h.1.now) (Ok count) h.2 in (r.0, r.1, (h.0, statement_counted sql params h.0 h.1, r.2))
  executes_so in_batch sql params (Err e) (inl h) = (k, l, inl (not_run_so sql params e h))
  executes_so in_batch sql params (Err e) (inr h) = let r = alone_so in_batch sql h.0 (timed params h.0.formats h.1.now) (Err e) h.2 in (r.0, r.1, inr (h.0, statement_counted sql params h.0 h.1, r.2))

  shown_fails : (sql : List ℕ) (c : Compiled) (params : Row) (e : Error) (returning : Option Returning) → FailsToShow old new sql c params e returning → Recounted (λ a b. FailsToShow a b sql c params e returning)
  shown_fails sql c params e None h = (k, l, (h.0, h.1, h.2, same_counted h.3))
  shown_fails sql c params e (Some what) h = command_so sql c params (Err e) h

  pub query_fails_so : (sql : List ℕ) (params : Row) (e : Error) → FailsToQuery sql params old new e → Recounted (λ a b. FailsToQuery sql params a b e)
  unfolding FailsToQuery statement_counted
  query_fails_so sql params e (inl h) = (k, l, inl (not_run_so sql params e h))
  query_fails_so sql params e (inr h) = let r = shown_fails sql h.0 (timed params h.0.formats h.1.now) e h.0.returning h.2 in (r.0, r.1, inr (h.0, statement_counted sql params h.0 h.1, r.2))

  no_write : (what : Returning) (command : Command) (text : List ℕ) (params : Row) (count : ℕ) → Writes old new (Some what) command text params count → is_select command ≡ true → ⊥
  no_write what command text params count w query = select_writes_nothing old.step_limit (mode_of old) params old.now text what command w.tally new.now query w.changed

  pub looks_so : (sql : List ℕ) (params : Row) (rows : List Row) → LooksOnly (understood old.now.schema sql) → Shown sql params old new rows → IsUnchanged old new × Shown sql params (counted k l old) (counted k l new) rows
  unfolding Shown statement_counted
  looks_so sql params rows looks h =
      let r = go h.0.returning (subst LooksOnly h.1.is looks) h.2 in (r.0, (h.0, statement_counted sql params h.0 h.1, r.1))
    where
      go : (returning : Option Returning) → (returning ≡ None) ⊎ (is_select h.0.command ≡ true) → ShowsRows old new sql h.0 (timed params h.0.formats h.1.now) rows returning
          → IsUnchanged old new × ShowsRows (counted k l old) (counted k l new) sql h.0 (timed params h.0.formats h.1.now) rows returning
      go None looks h = (h.3, (h.0, h.1, h.2, same_counted h.3))
      go (Some what) (inl none) h = absurd (cc)
      go (Some what) (inr query) h = absurd (no_write what _ _ _ h.0 h.1 query)

  pub returns_so : (sql : List ℕ) (params : Row) (rows : List Row) → Returns (understood old.now.schema sql) → Shown sql params old new rows
      → (l' : ℤ) × Shown sql params (counted k l old) (counted new.changes l' new) rows
  unfolding Shown statement_counted rows_counted
  returns_so sql params rows returns h =
      let r = go h.0.returning (subst Returns h.1.is returns) h.2 in (r.0, (h.0, statement_counted sql params h.0 h.1, r.1))
    where
      go : (returning : Option Returning) → is_some returning ≡ true → ShowsRows old new sql h.0 (timed params h.0.formats h.1.now) rows returning
          → (l' : ℤ) × ShowsRows (counted k l old) (counted new.changes l' new) sql h.0 (timed params h.0.formats h.1.now) rows returning
      go None some h = absurd (cc)
      go (Some what) some h = (unwrap_or h.1.tally.last l, (h.0, rows_counted what _ _ _ h.0 h.1, h.2))

pub read_no_counts : {D : Type 0} {g : Ghosts D} → ReadNoCounts g
read_no_counts = record {
  executes = λ text params answer old new changes last h. executes_so (file_state old) (file_state new) changes last false text params answer h;
  fails = λ text params error old new changes last h. query_fails_so (file_state old) (file_state new) changes last text params error h;
  looks = λ text params rows old new changes last looks h. looks_so (file_state old) (file_state new) changes last text params rows looks h;
  returns = λ text params rows old new changes last returns h. returns_so (file_state old) (file_state new) changes last text params rows returns h;
}
