-- Responses: a line for each type, which says that it is read exactly where its line of the table stands.
use Rattle.std.proofs.Common.{◌≡◌, ℕ, Bool, true, false, cond, eqb, ltb, List, [], ◌∷◌, Option, Some, None, Ok, refl, sym, ap, subst, ◌∙◌, inl, inr}
use Rattle.std.proofs.lemmas.Bool.{eqb-true}
use Rattle.wire_words.specs.declared.value.Dialect.TheVariants as dialects
use Rattle.wire_words.specs.Items.{AreBytes}
use Rattle.wire_words.specs.Reading.{◌>>=◌, Unread, word_at, pair_at}
use Rattle.wire_words.proofs.Choices.{one_of, none_of}
use Rattle.wire_words.proofs.ReadBack.{bind_ok, ok_is}
use Rattle.wire_msgs.specs.declared.response.NodeInfo.{NodeInfo}
use Rattle.wire_msgs.specs.declared.response.File.{File}
use Rattle.wire_msgs.specs.declared.response.Response.{Response}
use Rattle.wire_msgs.specs.declared.response.Response.TheVariants as made_of
use Rattle.wire_msgs.specs.declared.response.ResponseKind.{ResponseKind}
use Rattle.wire_msgs.specs.declared.response.ResponseKind.TheVariants as responses
use Rattle.wire_msgs.specs.Fields.{Field, Word, Pair}
use Rattle.wire_msgs.specs.Responses.{optional, is_there, server_fields, file_fields, response_line, HasRole, IsInFormat}
use Rattle.wire_msgs.specs.Kinds.{response_kind, response_top_schema}
use Rattle.wire_msgs.specs.Bodies.{Reading, made, both, two_words, word_text, half_at, zero_at, optional_at, counted_at, server_at, file_at, rest_at, response_at}
use Rattle.wire_msgs.proofs.Fields.{AllTook, took_append, took_split, all_bytes_after}
use Rattle.wire_msgs.proofs.Readers.{ReadsFields, word_field, pair_field, half_field, rest_end, both_fields, made_ok, zero_took, zero_again}
use Rattle.wire_msgs.proofs.Lists.{word_text_fields, optional_took, optional_again, counted_took, counted_again, server_items, file_items, all_let_in}
use Rattle.wire_msgs.proofs.Requests.{two_words_fields}
use Rattle.wire_msgs.proofs.Messages.{narrow, wide_is}

-- ---- numbers

-- the number of a type
abbrev pub kind_number : ResponseKind → ℕ
kind_number responses.Failure = 0
kind_number responses.Server = 1
kind_number responses.Welcome = 2
kind_number responses.Servers = 3
kind_number responses.Db = 4
kind_number responses.Stmt = 5
kind_number responses.Result = 6
kind_number responses.Rows = 7
kind_number responses.Empty = 8
kind_number responses.Files = 9
kind_number responses.Metadata = 10

-- the number is that of this type, or it is that of one of the others
next : (n k : ℕ) (one kind : ResponseKind) (others : Option ResponseKind) → kind_number one ≡ k → cond (eqb n k) (Some one) others ≡ Some kind → (others ≡ Some kind → n ≡ kind_number kind) → n ≡ kind_number kind
next n k one kind others is e behind =
    elim (one_of (eqb n k) one others kind e) [
      | inl here ↦ eqb-true _ _ here.0 ∙ sym is ∙ ap kind_number here.1
      | inr there ↦ behind there
    ]

pub known_number : (n : ℕ) (kind : ResponseKind) → response_kind n ≡ Some kind → n ≡ kind_number kind
known_number n kind e =
    next n 0 responses.Failure kind _ refl e (λ e.
    next n 1 responses.Server kind _ refl e (λ e.
    next n 2 responses.Welcome kind _ refl e (λ e.
    next n 3 responses.Servers kind _ refl e (λ e.
    next n 4 responses.Db kind _ refl e (λ e.
    next n 5 responses.Stmt kind _ refl e (λ e.
    next n 6 responses.Result kind _ refl e (λ e.
    next n 7 responses.Rows kind _ refl e (λ e.
    next n 8 responses.Empty kind _ refl e (λ e.
    next n 9 responses.Files kind _ refl e (λ e.
    next n 10 responses.Metadata kind _ refl e (λ e.
    none_of kind _ e)))))))))))

-- ---- what is read is its line

-- the fields of a response of this type were between two states of a reader, in this format
pub record TookResponse (kind : ResponseKind) (roles wide : Bool) (old new : Unread) (response : Response) : Type 0 where
  pub number : kind_number kind ≡ (response_line response).kind
  pub schema : (n : ℕ) → ltb (response_top_schema kind) n ≡ false → eqb n 1 ≡ wide → n ≡ (response_line response).schema
  pub fields : AllTook dialects.Exact (response_line response).fields old new
  pub in_format : IsInFormat roles response

from_made : {A : Type 0} (kind : ResponseKind) (roles wide : Bool) (make : A → Response) (read : Unread → Reading A) (old new : Unread) (response : Response)
    → ((x : A) → read old ≡ Ok (x, new) → TookResponse kind roles wide old new (make x)) → made make (read old) ≡ Ok (response, new) → TookResponse kind roles wide old new response
from_made kind roles wide make read old new response took e =
    let m = made_ok make (read old) response new e in
    subst (λ (r : Response). TookResponse kind roles wide old new r) m.2 (took m.0 m.1)

-- a number that is there exactly if it is to be
there_is : (wide : Bool) (n : Option ℕ) → HasRole wide n → wide ≡ is_there n
there_is false None has = refl
there_is false (Some n) has = absurd has
there_is true None has = absurd has
there_is true (Some n) has = refl

abbrev stmt_of : ((ℕ × ℕ) × ℕ) × Option ℕ → Response
stmt_of x = made_of.Stmt x.0.0.0 x.0.0.1 x.0.1 x.1

pair_word : ReadsFields dialects.Exact (λ (x : (ℕ × ℕ) × ℕ). Pair x.0.0 x.0.1 ∷ Word x.1 ∷ []) (both pair_at word_at)
pair_word = both_fields dialects.Exact (λ (p : ℕ × ℕ). Pair p.0 p.1 ∷ []) (λ (n : ℕ). Word n ∷ []) pair_at word_at (pair_field dialects.Exact) (word_field dialects.Exact)

stmt_took : (roles wide : Bool) (old new : Unread) (x : ((ℕ × ℕ) × ℕ) × Option ℕ) → AreBytes old.bytes → both (both pair_at word_at) (optional_at wide) old ≡ Ok (x, new) → TookResponse responses.Stmt roles wide old new (stmt_of x)
stmt_took roles wide old new x fits e =
    let s = bind_ok (both pair_at word_at old) (λ y. optional_at wide y.1 >>= λ z. Ok ((y.0, z.0), z.1)) (x, new) e in
    let t = bind_ok (optional_at wide s.0.1) (λ z. Ok ((s.0.0, z.0), z.1)) (x, new) s.2 in
    let is = ok_is ((s.0.0, t.0.0), t.0.1) (x, new) t.2 in
    let front : List Field = Pair s.0.0.0.0 s.0.0.0.1 ∷ Word s.0.0.1 ∷ [] in
    let head : AllTook dialects.Exact front old s.0.1 = pair_word.took old s.0.1 s.0.0 fits s.1 in
    let tail = optional_took wide s.0.1 t.0.1 t.0.0 (all_bytes_after dialects.Exact front old s.0.1 fits head) t.1 in
    let whole : TookResponse responses.Stmt roles wide old t.0.1 (stmt_of (s.0.0, t.0.0)) = record {
      number = refl;
      schema = λ n below same. wide_is n (is_there t.0.0) below (same ∙ there_is wide t.0.0 tail.0);
      fields = took_append dialects.Exact front (optional t.0.0) old s.0.1 t.0.1 head tail.1;
      in_format = tt;
    } in
    subst (λ (q : (((ℕ × ℕ) × ℕ) × Option ℕ) × Unread). TookResponse responses.Stmt roles wide old q.1 (stmt_of q.0)) is whole

pub response_took : (kind : ResponseKind) (roles wide : Bool) (old new : Unread) (response : Response) → AreBytes old.bytes → response_at kind roles wide old ≡ Ok (response, new) → TookResponse kind roles wide old new response
unfolding response_at
response_took responses.Failure roles wide old new response fits e =
    from_made responses.Failure roles wide (λ (x : ℕ × List ℕ). made_of.Failure x.0 x.1) word_text old new response (λ x is. record { number = refl; schema = narrow; fields = (word_text_fields dialects.Exact).took old new x fits is; in_format = tt }) e
response_took responses.Server roles wide old new response fits e =
    from_made responses.Server roles wide (λ (x : ℕ × List ℕ). made_of.Server x.0 x.1) word_text old new response (λ x is. record { number = refl; schema = narrow; fields = (word_text_fields dialects.Exact).took old new x fits is; in_format = tt }) e
response_took responses.Welcome roles wide old new response fits e =
    from_made responses.Welcome roles wide (λ (x : ℕ). made_of.Welcome x) word_at old new response (λ x is. record { number = refl; schema = narrow; fields = (word_field dialects.Exact).took old new x fits is; in_format = tt }) e
response_took responses.Servers roles wide old new response fits e =
    from_made responses.Servers roles wide (λ (x : List NodeInfo). made_of.Servers x) (counted_at (server_at roles)) old new response (λ x is.
    let c = counted_took (λ (server : NodeInfo). HasRole roles server.role) server_fields (server_at roles) (server_items roles) old new x fits is in
    record { number = refl; schema = narrow; fields = c.took; in_format = c.all }) e
response_took responses.Db roles wide old new response fits e =
    from_made responses.Db roles wide (λ (x : ℕ). made_of.Db x) half_at old new response (λ x is. record { number = refl; schema = narrow; fields = (half_field).took old new x fits is; in_format = tt }) e
response_took responses.Stmt roles wide old new response fits e =
    from_made responses.Stmt roles wide stmt_of (both (both pair_at word_at) (optional_at wide)) old new response (λ x is. stmt_took roles wide old new x fits is) e
response_took responses.Result roles wide old new response fits e =
    from_made responses.Result roles wide (λ (x : ℕ × ℕ). made_of.Result x.0 x.1) two_words old new response (λ x is. record { number = refl; schema = narrow; fields = (two_words_fields dialects.Exact).took old new x fits is; in_format = tt }) e
response_took responses.Rows roles wide old new response fits e =
    from_made responses.Rows roles wide (λ (x : List ℕ). made_of.Rows x) rest_at old new response (λ x is. record { number = refl; schema = narrow; fields = (rest_end).took old new x fits is; in_format = tt }) e
response_took responses.Empty roles wide old new response fits e =
    from_made responses.Empty roles wide (λ (x : ℕ). made_of.Empty) zero_at old new response (λ x is. record { number = refl; schema = narrow; fields = zero_took old new x fits is; in_format = tt }) e
response_took responses.Files roles wide old new response fits e =
    from_made responses.Files roles wide (λ (x : List File). made_of.Files x) (counted_at file_at) old new response (λ x is.
    let c = counted_took (λ (file : File). Unit {0}) file_fields file_at file_items old new x fits is in
    record { number = refl; schema = narrow; fields = c.took; in_format = tt }) e
response_took responses.Metadata roles wide old new response fits e =
    from_made responses.Metadata roles wide (λ (x : ℕ × ℕ). made_of.Metadata x.0 x.1) two_words old new response (λ x is. record { number = refl; schema = narrow; fields = (two_words_fields dialects.Exact).took old new x fits is; in_format = tt }) e

-- ---- its line is read

-- how the message of a response is read in a format
pub record IsResponse (roles : Bool) (response : Response) : Type 0 where
  pub kind : ResponseKind
  pub is_known : response_kind (response_line response).kind ≡ Some kind
  pub within : ltb (response_top_schema kind) (response_line response).schema ≡ false
  pub again : (old new : Unread) → AllTook dialects.Exact (response_line response).fields old new → new.bytes ≡ [] → response_at kind roles (eqb (response_line response).schema 1) old ≡ Ok (response, new)

has_it : (n : Option ℕ) → HasRole (is_there n) n
has_it None = tt
has_it (Some n) = tt

stmt_again : (old new : Unread) (db id params : ℕ) (tail : Option ℕ) → AllTook dialects.Exact (Pair db id ∷ Word params ∷ optional tail) old new → both (both pair_at word_at) (optional_at (is_there tail)) old ≡ Ok ((((db, id), params), tail), new)
stmt_again old new db id params tail took =
    let s = took_split dialects.Exact (Pair db id ∷ Word params ∷ []) (optional tail) old new took in
    rw (pair_word.again old s.0 ((db, id), params) s.1, optional_again (is_there tail) s.0 new tail (has_it tail) s.2) refl

pub is_response : (roles : Bool) (response : Response) → IsInFormat roles response → IsResponse roles response
unfolding response_at
is_response roles (made_of.Failure n t) in_format = record { kind = responses.Failure; is_known = refl; within = refl; again = λ old new q end. ap (made (λ (x : ℕ × List ℕ). made_of.Failure x.0 x.1)) ((word_text_fields dialects.Exact).again old new (n, t) q) }
is_response roles (made_of.Server n t) in_format = record { kind = responses.Server; is_known = refl; within = refl; again = λ old new q end. ap (made (λ (x : ℕ × List ℕ). made_of.Server x.0 x.1)) ((word_text_fields dialects.Exact).again old new (n, t) q) }
is_response roles (made_of.Welcome n) in_format = record { kind = responses.Welcome; is_known = refl; within = refl; again = λ old new q end. ap (made (λ (x : ℕ). made_of.Welcome x)) ((word_field dialects.Exact).again old new n q) }
is_response roles (made_of.Servers xs) in_format = record { kind = responses.Servers; is_known = refl; within = refl; again = λ old new q end. ap (made (λ (x : List NodeInfo). made_of.Servers x)) (counted_again (λ (server : NodeInfo). HasRole roles server.role) server_fields (server_at roles) (server_items roles) old new xs in_format q) }
is_response roles (made_of.Db n) in_format = record { kind = responses.Db; is_known = refl; within = refl; again = λ old new q end. ap (made (λ (x : ℕ). made_of.Db x)) ((half_field).again old new n q) }
is_response roles (made_of.Stmt a b n None) in_format = record { kind = responses.Stmt; is_known = refl; within = refl; again = λ old new q end. ap (made stmt_of) (stmt_again old new a b n None q) }
is_response roles (made_of.Stmt a b n (Some m)) in_format = record { kind = responses.Stmt; is_known = refl; within = refl; again = λ old new q end. ap (made stmt_of) (stmt_again old new a b n (Some m) q) }
is_response roles (made_of.Result a b) in_format = record { kind = responses.Result; is_known = refl; within = refl; again = λ old new q end. ap (made (λ (x : ℕ × ℕ). made_of.Result x.0 x.1)) ((two_words_fields dialects.Exact).again old new (a, b) q) }
is_response roles (made_of.Rows b) in_format = record { kind = responses.Rows; is_known = refl; within = refl; again = λ old new q end. ap (made (λ (x : List ℕ). made_of.Rows x)) ((rest_end).again old new b q end) }
is_response roles made_of.Empty in_format = record { kind = responses.Empty; is_known = refl; within = refl; again = λ old new q end. ap (made (λ (x : ℕ). made_of.Empty)) (zero_again old new q) }
is_response roles (made_of.Files xs) in_format = record { kind = responses.Files; is_known = refl; within = refl; again = λ old new q end. ap (made (λ (x : List File). made_of.Files x)) (counted_again (λ (file : File). Unit {0}) file_fields file_at file_items old new xs (all_let_in xs) q) }
is_response roles (made_of.Metadata a b) in_format = record { kind = responses.Metadata; is_known = refl; within = refl; again = λ old new q end. ap (made (λ (x : ℕ × ℕ). made_of.Metadata x.0 x.1)) ((two_words_fields dialects.Exact).again old new (a, b) q) }
