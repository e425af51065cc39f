-- Requests: a line for each type, which says that it is read exactly where its line of the table stands.
use Rattle.std.proofs.Common.{◌≡◌, ℕ, Bool, true, false, cond, eqb, ltb, List, [], ◌∷◌, Option, Some, Ok, refl, sym, ap, subst, ◌∙◌, inl, inr}
use Rattle.std.proofs.lemmas.Bool.{eqb-true}
use Rattle.wire_words.specs.declared.value.Value.{Value}
use Rattle.wire_words.specs.declared.value.Dialect.{Dialect}
use Rattle.wire_words.specs.declared.value.Dialect.TheVariants as dialects
use Rattle.wire_words.specs.Items.{AreBytes}
use Rattle.wire_words.specs.Reading.{Unread, word_at, pair_at, text_at}
use Rattle.wire_words.proofs.Choices.{one_of, none_of}
use Rattle.wire_msgs.specs.declared.request.Request.{Request}
use Rattle.wire_msgs.specs.declared.request.Request.TheVariants.{Leader, Client, Open, Prepare, Exec, Query, Finalize, ExecSql, QuerySql, Interrupt, Connect, Add, Assign, Remove, Dump, Cluster, Transfer, Describe, Weight}
use Rattle.wire_msgs.specs.declared.request.RequestKind.{RequestKind}
use Rattle.wire_msgs.specs.declared.request.RequestKind.TheVariants as requests
use Rattle.wire_msgs.specs.Fields.{Word, Pair, Text, Params}
use Rattle.wire_msgs.specs.Requests.{request_line}
use Rattle.wire_msgs.specs.Kinds.{request_kind, request_top_schema}
use Rattle.wire_msgs.specs.Bodies.{Reading, made, both, two_words, word_text, params_at, pair_params, word_text_params, text_word_text, request_at}
use Rattle.wire_msgs.proofs.Fields.{AllTook}
use Rattle.wire_msgs.proofs.Readers.{ReadsFields, EndsFields, word_field, pair_field, text_field, params_end, both_fields, both_end, made_ok, any_took, any_again}
use Rattle.wire_msgs.proofs.Lists.{word_text_fields}
use Rattle.wire_msgs.proofs.Messages.{narrow, wide_is}

-- ---- what several types share

pub two_words_fields : (dialect : Dialect) → ReadsFields dialect (λ (x : ℕ × ℕ). Word x.0 ∷ Word x.1 ∷ []) two_words
two_words_fields dialect = both_fields dialect (λ (n : ℕ). Word n ∷ []) (λ (n : ℕ). Word n ∷ []) word_at word_at (word_field dialect) (word_field dialect)

text_word_text_fields : (dialect : Dialect) → ReadsFields dialect (λ (x : (List ℕ × ℕ) × List ℕ). Text x.0.0 ∷ Word x.0.1 ∷ Text x.1 ∷ []) text_word_text
text_word_text_fields dialect =
    both_fields dialect (λ (x : List ℕ × ℕ). Text x.0 ∷ Word x.1 ∷ []) (λ (t : List ℕ). Text t ∷ []) (both text_at word_at) text_at
    (both_fields dialect (λ (t : List ℕ). Text t ∷ []) (λ (n : ℕ). Word n ∷ []) text_at word_at (text_field dialect) (word_field dialect)) (text_field dialect)

pair_params_end : (wide : Bool) → EndsFields dialects.Client (λ (x : (ℕ × ℕ) × List Value). Pair x.0.0 x.0.1 ∷ Params wide x.1 ∷ []) (pair_params wide)
pair_params_end wide =
    both_end dialects.Client (λ (p : ℕ × ℕ). Pair p.0 p.1 ∷ []) (λ (vs : List Value). Params wide vs ∷ []) pair_at (params_at wide) (pair_field dialects.Client) (params_end wide)

word_text_params_end : (wide : Bool) → EndsFields dialects.Client (λ (x : (ℕ × List ℕ) × List Value). Word x.0.0 ∷ Text x.0.1 ∷ Params wide x.1 ∷ []) (word_text_params wide)
word_text_params_end wide =
    both_end dialects.Client (λ (x : ℕ × List ℕ). Word x.0 ∷ Text x.1 ∷ []) (λ (vs : List Value). Params wide vs ∷ []) word_text (params_at wide) (word_text_fields dialects.Client) (params_end wide)

-- ---- numbers

-- the number of a type
abbrev pub kind_number : RequestKind → ℕ
kind_number requests.Leader = 0
kind_number requests.Client = 1
kind_number requests.Open = 3
kind_number requests.Prepare = 4
kind_number requests.Exec = 5
kind_number requests.Query = 6
kind_number requests.Finalize = 7
kind_number requests.ExecSql = 8
kind_number requests.QuerySql = 9
kind_number requests.Interrupt = 10
kind_number requests.Connect = 11
kind_number requests.Add = 12
kind_number requests.Assign = 13
kind_number requests.Remove = 14
kind_number requests.Dump = 15
kind_number requests.Cluster = 16
kind_number requests.Transfer = 17
kind_number requests.Describe = 18
kind_number requests.Weight = 19

-- the number is that of this type, or it is that of one of the others
next : (n k : ℕ) (one kind : RequestKind) (others : Option RequestKind) → kind_number one ≡ k → cond (eqb n k) (Some one) others ≡ Some kind → (others ≡ Some kind → n ≡ kind_number kind) → n ≡ kind_number kind
next n k one kind others is e behind =
    elim (one_of (eqb n k) one others kind e) [
      | inl here ↦ eqb-true _ _ here.0 ∙ sym is ∙ ap kind_number here.1
      | inr there ↦ behind there
    ]

pub known_number : (n : ℕ) (kind : RequestKind) → request_kind n ≡ Some kind → n ≡ kind_number kind
known_number n kind e =
    next n 0 requests.Leader kind _ refl e (λ e.
    next n 1 requests.Client kind _ refl e (λ e.
    next n 3 requests.Open kind _ refl e (λ e.
    next n 4 requests.Prepare kind _ refl e (λ e.
    next n 5 requests.Exec kind _ refl e (λ e.
    next n 6 requests.Query kind _ refl e (λ e.
    next n 7 requests.Finalize kind _ refl e (λ e.
    next n 8 requests.ExecSql kind _ refl e (λ e.
    next n 9 requests.QuerySql kind _ refl e (λ e.
    next n 10 requests.Interrupt kind _ refl e (λ e.
    next n 11 requests.Connect kind _ refl e (λ e.
    next n 12 requests.Add kind _ refl e (λ e.
    next n 13 requests.Assign kind _ refl e (λ e.
    next n 14 requests.Remove kind _ refl e (λ e.
    next n 15 requests.Dump kind _ refl e (λ e.
    next n 16 requests.Cluster kind _ refl e (λ e.
    next n 17 requests.Transfer kind _ refl e (λ e.
    next n 18 requests.Describe kind _ refl e (λ e.
    next n 19 requests.Weight kind _ refl e (λ e.
    none_of kind _ e)))))))))))))))))))

-- ---- what is read is its line

-- the fields of a request of this type were between two states of a reader
pub record TookRequest (kind : RequestKind) (wide : Bool) (old new : Unread) (request : Request) : Type 0 where
  pub number : kind_number kind ≡ (request_line request).kind
  pub schema : (n : ℕ) → ltb (request_top_schema kind) n ≡ false → eqb n 1 ≡ wide → n ≡ (request_line request).schema
  pub fields : AllTook dialects.Client (request_line request).fields old new

from_made : {A : Type 0} (kind : RequestKind) (wide : Bool) (make : A → Request) (read : Unread → Reading A) (old new : Unread) (request : Request)
    → ((x : A) → read old ≡ Ok (x, new) → TookRequest kind wide old new (make x)) → made make (read old) ≡ Ok (request, new) → TookRequest kind wide old new request
from_made kind wide make read old new request took e =
    let m = made_ok make (read old) request new e in
    subst (λ (r : Request). TookRequest kind wide old new r) m.2 (took m.0 m.1)

pub request_took : (kind : RequestKind) (wide : Bool) (old new : Unread) (request : Request) → AreBytes old.bytes → request_at kind wide old ≡ Ok (request, new) → TookRequest kind wide old new request
unfolding request_at
request_took requests.Leader wide old new request fits e =
    from_made requests.Leader wide (λ (x : ℕ). Leader) word_at old new request (λ x is. record { number = refl; schema = narrow; fields = any_took old new x fits is }) e
request_took requests.Client wide old new request fits e =
    from_made requests.Client wide (λ (x : ℕ). Client x) word_at old new request (λ x is. record { number = refl; schema = narrow; fields = (word_field dialects.Client).took old new x fits is }) e
request_took requests.Open wide old new request fits e =
    from_made requests.Open wide (λ (x : (List ℕ × ℕ) × List ℕ). Open x.0.0 x.0.1 x.1) text_word_text old new request (λ x is. record { number = refl; schema = narrow; fields = (text_word_text_fields dialects.Client).took old new x fits is }) e
request_took requests.Prepare wide old new request fits e =
    from_made requests.Prepare wide (λ (x : ℕ × List ℕ). Prepare x.0 x.1 wide) word_text old new request (λ x is. record { number = refl; schema = (λ k below same. wide_is k wide below same); fields = (word_text_fields dialects.Client).took old new x fits is }) e
request_took requests.Exec wide old new request fits e =
    from_made requests.Exec wide (λ (x : (ℕ × ℕ) × List Value). Exec x.0.0 x.0.1 x.1 wide) (pair_params wide) old new request (λ x is. record { number = refl; schema = (λ k below same. wide_is k wide below same); fields = (pair_params_end wide).took old new x fits is }) e
request_took requests.Query wide old new request fits e =
    from_made requests.Query wide (λ (x : (ℕ × ℕ) × List Value). Query x.0.0 x.0.1 x.1 wide) (pair_params wide) old new request (λ x is. record { number = refl; schema = (λ k below same. wide_is k wide below same); fields = (pair_params_end wide).took old new x fits is }) e
request_took requests.Finalize wide old new request fits e =
    from_made requests.Finalize wide (λ (x : ℕ × ℕ). Finalize x.0 x.1) pair_at old new request (λ x is. record { number = refl; schema = narrow; fields = (pair_field dialects.Client).took old new x fits is }) e
request_took requests.ExecSql wide old new request fits e =
    from_made requests.ExecSql wide (λ (x : (ℕ × List ℕ) × List Value). ExecSql x.0.0 x.0.1 x.1 wide) (word_text_params wide) old new request (λ x is. record { number = refl; schema = (λ k below same. wide_is k wide below same); fields = (word_text_params_end wide).took old new x fits is }) e
request_took requests.QuerySql wide old new request fits e =
    from_made requests.QuerySql wide (λ (x : (ℕ × List ℕ) × List Value). QuerySql x.0.0 x.0.1 x.1 wide) (word_text_params wide) old new request (λ x is. record { number = refl; schema = (λ k below same. wide_is k wide below same); fields = (word_text_params_end wide).took old new x fits is }) e
request_took requests.Interrupt wide old new request fits e =
    from_made requests.Interrupt wide (λ (x : ℕ). Interrupt x) word_at old new request (λ x is. record { number = refl; schema = narrow; fields = (word_field dialects.Client).took old new x fits is }) e
request_took requests.Connect wide old new request fits e =
    from_made requests.Connect wide (λ (x : ℕ × List ℕ). Connect x.0 x.1) word_text old new request (λ x is. record { number = refl; schema = narrow; fields = (word_text_fields dialects.Client).took old new x fits is }) e
request_took requests.Add wide old new request fits e =
    from_made requests.Add wide (λ (x : ℕ × List ℕ). Add x.0 x.1) word_text old new request (λ x is. record { number = refl; schema = narrow; fields = (word_text_fields dialects.Client).took old new x fits is }) e
request_took requests.Assign wide old new request fits e =
    from_made requests.Assign wide (λ (x : ℕ × ℕ). Assign x.0 x.1) two_words old new request (λ x is. record { number = refl; schema = narrow; fields = (two_words_fields dialects.Client).took old new x fits is }) e
request_took requests.Remove wide old new request fits e =
    from_made requests.Remove wide (λ (x : ℕ). Remove x) word_at old new request (λ x is. record { number = refl; schema = narrow; fields = (word_field dialects.Client).took old new x fits is }) e
request_took requests.Dump wide old new request fits e =
    from_made requests.Dump wide (λ (x : List ℕ). Dump x) text_at old new request (λ x is. record { number = refl; schema = narrow; fields = (text_field dialects.Client).took old new x fits is }) e
request_took requests.Cluster wide old new request fits e =
    from_made requests.Cluster wide (λ (x : ℕ). Cluster x) word_at old new request (λ x is. record { number = refl; schema = narrow; fields = (word_field dialects.Client).took old new x fits is }) e
request_took requests.Transfer wide old new request fits e =
    from_made requests.Transfer wide (λ (x : ℕ). Transfer x) word_at old new request (λ x is. record { number = refl; schema = narrow; fields = (word_field dialects.Client).took old new x fits is }) e
request_took requests.Describe wide old new request fits e =
    from_made requests.Describe wide (λ (x : ℕ). Describe x) word_at old new request (λ x is. record { number = refl; schema = narrow; fields = (word_field dialects.Client).took old new x fits is }) e
request_took requests.Weight wide old new request fits e =
    from_made requests.Weight wide (λ (x : ℕ). Weight x) word_at old new request (λ x is. record { number = refl; schema = narrow; fields = (word_field dialects.Client).took old new x fits is }) e

-- ---- its line is read

-- how the message of a request is read
pub record IsRequest (request : Request) : Type 0 where
  pub kind : RequestKind
  pub is_known : request_kind (request_line request).kind ≡ Some kind
  pub within : ltb (request_top_schema kind) (request_line request).schema ≡ false
  pub again : (old new : Unread) → AllTook dialects.Client (request_line request).fields old new → new.bytes ≡ [] → request_at kind (eqb (request_line request).schema 1) old ≡ Ok (request, new)

pub is_request : (request : Request) → IsRequest request
unfolding request_at
is_request Leader = record { kind = requests.Leader; is_known = refl; within = refl; again = λ old new t end. ap (made (λ (x : ℕ). Leader)) (any_again old new t).1 }
is_request (Client n) = record { kind = requests.Client; is_known = refl; within = refl; again = λ old new q end. ap (made (λ (x : ℕ). Client x)) ((word_field dialects.Client).again old new n q) }
is_request (Open t n u) = record { kind = requests.Open; is_known = refl; within = refl; again = λ old new q end. ap (made (λ (x : (List ℕ × ℕ) × List ℕ). Open x.0.0 x.0.1 x.1)) ((text_word_text_fields dialects.Client).again old new ((t, n), u) q) }
is_request (Prepare n t false) = record { kind = requests.Prepare; is_known = refl; within = refl; again = λ old new q end. ap (made (λ (x : ℕ × List ℕ). Prepare x.0 x.1 false)) ((word_text_fields dialects.Client).again old new (n, t) q) }
is_request (Prepare n t true) = record { kind = requests.Prepare; is_known = refl; within = refl; again = λ old new q end. ap (made (λ (x : ℕ × List ℕ). Prepare x.0 x.1 true)) ((word_text_fields dialects.Client).again old new (n, t) q) }
is_request (Exec a b vs false) = record { kind = requests.Exec; is_known = refl; within = refl; again = λ old new q end. ap (made (λ (x : (ℕ × ℕ) × List Value). Exec x.0.0 x.0.1 x.1 false)) ((pair_params_end false).again old new ((a, b), vs) q end) }
is_request (Exec a b vs true) = record { kind = requests.Exec; is_known = refl; within = refl; again = λ old new q end. ap (made (λ (x : (ℕ × ℕ) × List Value). Exec x.0.0 x.0.1 x.1 true)) ((pair_params_end true).again old new ((a, b), vs) q end) }
is_request (Query a b vs false) = record { kind = requests.Query; is_known = refl; within = refl; again = λ old new q end. ap (made (λ (x : (ℕ × ℕ) × List Value). Query x.0.0 x.0.1 x.1 false)) ((pair_params_end false).again old new ((a, b), vs) q end) }
is_request (Query a b vs true) = record { kind = requests.Query; is_known = refl; within = refl; again = λ old new q end. ap (made (λ (x : (ℕ × ℕ) × List Value). Query x.0.0 x.0.1 x.1 true)) ((pair_params_end true).again old new ((a, b), vs) q end) }
is_request (Finalize a b) = record { kind = requests.Finalize; is_known = refl; within = refl; again = λ old new q end. ap (made (λ (x : ℕ × ℕ). Finalize x.0 x.1)) ((pair_field dialects.Client).again old new (a, b) q) }
is_request (ExecSql n t vs false) = record { kind = requests.ExecSql; is_known = refl; within = refl; again = λ old new q end. ap (made (λ (x : (ℕ × List ℕ) × List Value). ExecSql x.0.0 x.0.1 x.1 false)) ((word_text_params_end false).again old new ((n, t), vs) q end) }
is_request (ExecSql n t vs true) = record { kind = requests.ExecSql; is_known = refl; within = refl; again = λ old new q end. ap (made (λ (x : (ℕ × List ℕ) × List Value). ExecSql x.0.0 x.0.1 x.1 true)) ((word_text_params_end true).again old new ((n, t), vs) q end) }
is_request (QuerySql n t vs false) = record { kind = requests.QuerySql; is_known = refl; within = refl; again = λ old new q end. ap (made (λ (x : (ℕ × List ℕ) × List Value). QuerySql x.0.0 x.0.1 x.1 false)) ((word_text_params_end false).again old new ((n, t), vs) q end) }
is_request (QuerySql n t vs true) = record { kind = requests.QuerySql; is_known = refl; within = refl; again = λ old new q end. ap (made (λ (x : (ℕ × List ℕ) × List Value). QuerySql x.0.0 x.0.1 x.1 true)) ((word_text_params_end true).again old new ((n, t), vs) q end) }
is_request (Interrupt n) = record { kind = requests.Interrupt; is_known = refl; within = refl; again = λ old new q end. ap (made (λ (x : ℕ). Interrupt x)) ((word_field dialects.Client).again old new n q) }
is_request (Connect n t) = record { kind = requests.Connect; is_known = refl; within = refl; again = λ old new q end. ap (made (λ (x : ℕ × List ℕ). Connect x.0 x.1)) ((word_text_fields dialects.Client).again old new (n, t) q) }
is_request (Add n t) = record { kind = requests.Add; is_known = refl; within = refl; again = λ old new q end. ap (made (λ (x : ℕ × List ℕ). Add x.0 x.1)) ((word_text_fields dialects.Client).again old new (n, t) q) }
is_request (Assign a b) = record { kind = requests.Assign; is_known = refl; within = refl; again = λ old new q end. ap (made (λ (x : ℕ × ℕ). Assign x.0 x.1)) ((two_words_fields dialects.Client).again old new (a, b) q) }
is_request (Remove n) = record { kind = requests.Remove; is_known = refl; within = refl; again = λ old new q end. ap (made (λ (x : ℕ). Remove x)) ((word_field dialects.Client).again old new n q) }
is_request (Dump t) = record { kind = requests.Dump; is_known = refl; within = refl; again = λ old new q end. ap (made (λ (x : List ℕ). Dump x)) ((text_field dialects.Client).again old new t q) }
is_request (Cluster n) = record { kind = requests.Cluster; is_known = refl; within = refl; again = λ old new q end. ap (made (λ (x : ℕ). Cluster x)) ((word_field dialects.Client).again old new n q) }
is_request (Transfer n) = record { kind = requests.Transfer; is_known = refl; within = refl; again = λ old new q end. ap (made (λ (x : ℕ). Transfer x)) ((word_field dialects.Client).again old new n q) }
is_request (Describe n) = record { kind = requests.Describe; is_known = refl; within = refl; again = λ old new q end. ap (made (λ (x : ℕ). Describe x)) ((word_field dialects.Client).again old new n q) }
is_request (Weight n) = record { kind = requests.Weight; is_known = refl; within = refl; again = λ old new q end. ap (made (λ (x : ℕ). Weight x)) ((word_field dialects.Client).again old new n q) }
