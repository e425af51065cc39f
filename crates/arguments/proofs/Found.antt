-- What is read of words.
use Rattle.std.proofs.Common.{◌≡◌, ◌≢◌, inl, inr, ◌≤◌, ◌&&◌, ℕ, Bool, true, false, not, cond, List, [], ◌∷◌, length, codes, Option, Some, None, Result, Ok, Err, IfOk, refl, sym, ap, subst, ◌∙◌, arith}
use Rattle.std.specs.Prelude.{nat_le, option_map, IfSome}
use Rattle.std.proofs.lemmas.Bool.{leb-true}
use Rattle.std.specs.declared.alloc.AllocError.{AllocError}
use Rattle.dq_base.specs.Names.{has_nul}
use Rattle.sql_engine.specs.declared.kind.EngineKind.{EngineKind}
use Rattle.clap.specs.Words.{App, Row, Text, HasMatchesOf, found_of, rows_of, is_simple_and_free, fault_of, kind_of, HasKind, IsAmong, Kinds, first_of, all_of, first_value, matched_of, raw_values}
use Rattle.clap.proofs.WalkLemmas.{first_value-rows, raw_values-rows}
use Rattle.clap.specs.declared.error.Error.{Error}
use Rattle.clap.specs.declared.error.kind.ErrorKind.{ErrorKind}
use Rattle.clap.specs.declared.error.kind.ErrorKind.TheVariants as kind
use Rattle.clap.specs.declared.parser.matches.ArgMatches.{ArgMatches}
use Rattle.arguments.specs.Commands.{script_app, statement_app, check_app, generate_app, serve_app, unless_refused, read_by}
use Rattle.arguments.specs.Values.{engine_named, is_set, number_in}
use Rattle.arguments.specs.Asking.{are_addresses, is_askable, statement_with, script_found, statement_found, check_found, generate_with, generate_found, asked_by, CanBeSent, IsAskable}
use Rattle.arguments.specs.declared.invocation.Invocation.{Invocation}
use Rattle.arguments.specs.declared.invocation.Serve.{Serve}
use Rattle.arguments.specs.Serving.{serve_found, IsServable}
use Rattle.arguments.proofs.Servable.{serve_fits}
use Rattle.arguments.specs.declared.invocation.Invocation.TheVariants as asks
use Rattle.arguments.specs.declared.reading.Line.{Line}
use Rattle.arguments.specs.declared.reading.Line.TheVariants as line

-- ---- clap's commands

pub script_simple : (app : App) → app ≡ script_app → is_simple_and_free app ≡ true
script_simple app e = subst (λ (a : App). is_simple_and_free a ≡ true) (sym e) refl

pub statement_simple : (app : App) → app ≡ statement_app → is_simple_and_free app ≡ true
statement_simple app e = subst (λ (a : App). is_simple_and_free a ≡ true) (sym e) refl

pub check_simple : (app : App) → app ≡ check_app → is_simple_and_free app ≡ true
check_simple app e = subst (λ (a : App). is_simple_and_free a ≡ true) (sym e) refl

pub serve_simple : (app : App) → app ≡ serve_app → is_simple_and_free app ≡ true
unfolding serve_app
serve_simple app e = subst (λ (a : App). is_simple_and_free a ≡ true) (sym e) refl

first_holds : (a b : Bool) → (a && b) ≡ true → a ≡ true
first_holds true b e = refl
first_holds false b e = e

second_holds : (a b : Bool) → (a && b) ≡ true → b ≡ true
second_holds true b e = e
second_holds false b e = absurd cc

-- what is found where the arguments aren't refused
pub found_some : (app : App) (words : List Text) (m : ArgMatches) → is_simple_and_free app ≡ true → fault_of app words ≡ [] → HasMatchesOf app words m
    → Some (rows_of (found_of m)) ≡ read_by app words
found_some app words m simple none has = rw none (ap (λ (rows : List Row). Some rows) (has (first_holds _ _ simple)).0)

refusing : (kinds : Kinds) (rows : List Row) (k : ErrorKind) → IsAmong k kinds → None ≡ unless_refused kinds rows
refusing [] rows k h = absurd h
refusing (x ∷ xs) rows k h = refl

-- nothing is, if they are
pub found_none : (app : App) (words : List Text) (e : Error) (r : Result (Option ArgMatches) AllocError) → HasKind (fault_of app words) e
    → IfOk r (λ (none : Option ArgMatches). none ≡ None) → IfOk r (λ (none : Option ArgMatches). kind_of e ≢ kind.OutOfMemory)
    → IfOk r (λ (matches : Option ArgMatches). option_map (λ (found : ArgMatches). rows_of (found_of found)) matches ≡ read_by app words)
found_none app words e (Err f) h none cause = tt
found_none app words e (Ok x) (inl memory) none cause = absurd (cause memory)
found_none app words e (Ok x) (inr among) none cause = ap (λ (m : Option ArgMatches). option_map (λ (found : ArgMatches). rows_of (found_of found)) m) none ∙ refusing (fault_of app words) _ (kind_of e) among

pub first_found : (m : ArgMatches) (id : Text) (o : Option Text) → o ≡ first_value (found_of m) id → o ≡ first_of id (rows_of (found_of m))
first_found m id o h = h ∙ first_value-rows (found_of m) id

pub all_found : (m : ArgMatches) (id : Text) (o : Option (List Text)) → o ≡ option_map raw_values (matched_of (found_of m) id) → o ≡ all_of id (rows_of (found_of m))
all_found m id o h = h ∙ raw_values-rows (found_of m) id

-- ---- statements

no_nul : (b : Bool) → not b ≡ true → b ≡ false
no_nul true e = absurd cc
no_nul false e = refl

can_be_sent : (query : Bool) (name sql : Text) (addresses : List Text) → is_askable name sql addresses ≡ true
    → CanBeSent (record { query = query; name = name; sql = sql; addresses = addresses })
can_be_sent query name sql addresses e =
    let rest = second_holds (not (has_nul name)) _ e in
    let many = second_holds (not (has_nul sql)) (are_addresses addresses) rest in
    let more = second_holds (nat_le 1 (length addresses)) _ many in
    let low : 1 ≤ length addresses = leb-true 1 (length addresses) (first_holds _ _ many) in
    record {
      some = omega arith;
      few = leb-true (length addresses) 9 (first_holds _ _ more);
      name = no_nul (has_nul name) (first_holds _ _ e);
      sql = no_nul (has_nul sql) (first_holds _ _ rest);
    }

with_fits : (query : Bool) (name sql : Option Text) (addresses : Option (List Text)) → IsAskable (statement_with query name sql addresses)
with_fits query None sql addresses = tt
with_fits query (Some name) None addresses = tt
with_fits query (Some name) (Some sql) None = tt
with_fits query (Some name) (Some sql) (Some addresses) = by (is_askable name sql addresses) refl
  where
    by : (b : Bool) → is_askable name sql addresses ≡ b
        → IsAskable (cond b (Some (asks.Statement (record { query = query; name = name; sql = sql; addresses = addresses }))) None)
    by true e = can_be_sent query name sql addresses e
    by false e = tt

statement_fits : (query : Bool) (o : Option (List Row)) → IsAskable (statement_found query o)
statement_fits query None = tt
statement_fits query (Some rows) = with_fits query (first_of (codes "NAME") rows) (first_of (codes "SQL") rows) (all_of (codes "ADDRESS") rows)

numbers_fit : (number count : Option ℕ) (run : Bool) → IsAskable (generate_with number count run)
numbers_fit None count run = tt
numbers_fit (Some number) None run = tt
numbers_fit (Some number) (Some count) run = tt

generate_fits : (o : Option (List Row)) → IsAskable (generate_found o)
generate_fits None = tt
generate_fits (Some rows) =
    numbers_fit (number_in 0 2147483647 (first_of (codes "NUMBER") rows)) (number_in 1 2000 (first_of (codes "COUNT") rows)) (is_set (first_of (codes "run") rows))

kind_fits : (o : Option EngineKind) → IsAskable (option_map (λ (kind : EngineKind). asks.Script kind) o)
kind_fits None = tt
kind_fits (Some kind) = tt

script_fits : (o : Option (List Row)) → IsAskable (script_found o)
script_fits None = tt
script_fits (Some rows) = kind_fits (engine_named (first_of (codes "engine") rows))

check_fits : (o : Option (List Row)) → IsAskable (check_found o)
check_fits None = tt
check_fits (Some rows) = tt

served_askable : (o : Option Serve) → IfSome o IsServable → IsAskable (option_map (λ (served : Serve). asks.Serve served) o)
served_askable None h = tt
served_askable (Some served) h = h

fits : (l : Option Line) (words : List Text) → IsAskable (asked_by l words)
fits None words = tt
fits (Some line.Script) words = script_fits (read_by script_app words)
fits (Some line.Exec) words = statement_fits false (read_by statement_app words)
fits (Some line.Query) words = statement_fits true (read_by statement_app words)
fits (Some line.Check) words = check_fits (read_by check_app words)
fits (Some line.Generate) words = generate_fits (read_by generate_app words)
fits (Some line.Serve) words = served_askable (serve_found (read_by serve_app words)) (serve_fits (read_by serve_app words))

pub askable : (l : Option Line) (words : List Text) (r : Result (Option Invocation) AllocError) → IfOk r (λ (asked : Option Invocation). asked ≡ asked_by l words) → IfOk r IsAskable
askable l words (Err f) h = tt
askable l words (Ok asked) h = subst IsAskable (sym h) (fits l words)
