-- Values, tuples and rows are read exactly if the bytes are their encoding.
use Rattle.std.proofs.Common.{◌≡◌, ℕ, suc, false, cond, eqb, List, [], ◌∷◌, ◌++◌, length, Option, Some, None, Result, Ok, Err, refl, sym, ap, subst, ◌∙◌, arith, inl, inr}
use Rattle.std.specs.Int.{w64, cast_signed}
use Rattle.std.specs.List.{list_any}
use Rattle.std.proofs.lemmas.Bool.{eqb-true}
use Rattle.wire_words.specs.declared.fault.WordFault.{WordFault}
use Rattle.wire_words.specs.declared.fault.WordFault.TheVariants.{Pad, Float}
use Rattle.wire_words.specs.declared.value.Value.{Value}
use Rattle.wire_words.specs.declared.value.Value.TheVariants.{Integer, Text, Blob, Null}
use Rattle.wire_words.specs.declared.value.ValueType.{ValueType}
use Rattle.wire_words.specs.declared.value.ValueType.TheVariants as types
use Rattle.wire_words.specs.declared.value.Dialect.{Dialect}
use Rattle.wire_words.specs.declared.value.Dialect.TheVariants as dialects
use Rattle.wire_words.specs.Items.{AreBytes, IsWord, IsText}
use Rattle.wire_words.specs.Values.{code, codes, type_of, types_of, IsInteger, IsValue, AreValues}
use Rattle.wire_words.specs.Reading.{◌>>=◌, Unread, word_at, text_at, blob_at, each_at, Took}
use Rattle.wire_words.specs.ReadingValues.{client_type, type_with, known, all_types, is_float, no_float, types_at, integer_at, text_value_at, blob_value_at, null_at, value_at, values_at}
use Rattle.wire_words.proofs.Choices.{one_of, none_of}
use Rattle.wire_words.proofs.ReadBack.{refused_not, passed, ok_is, bind_ok, same_unread, word_took, word_again}
use Rattle.wire_words.proofs.Nul.{text_took, text_again}
use Rattle.wire_words.proofs.Parts.{took_both, took_parts, bytes_after, blob_took, blob_again}

-- an item of one kind is one of another
took_as : {P Q : List ℕ → Type 0} (old new : Unread) → ((item : List ℕ) → P item → Q item) → Took P old new → Took Q old new
took_as old new as_other t = record { item = t.item; spelled = as_other t.item t.spelled; parts = t.parts; place = t.place }

-- ---- one value

integer_took : (P : Value → List ℕ → Type 0) (old new : Unread) (v : Value) → ((n : ℕ) (item : List ℕ) → IsWord n item → P (Integer (cast_signed w64 n)) item)
    → AreBytes old.bytes → integer_at old ≡ Ok (v, new) → Took (P v) old new
integer_took P old new v so fits e =
    let a = bind_ok (word_at old) (λ n. Ok (Integer (cast_signed w64 n.0), n.1)) (v, new) e in
    let made : Value × Unread = (Integer (cast_signed w64 a.0.0), a.0.1) in
    subst (λ (x : Value × Unread). Took (P x.0) old x.1) (ok_is made (v, new) a.2) (took_as old a.0.1 (so a.0.0) (word_took old a.0.1 a.0.0 fits a.1))

text_value_took : (P : Value → List ℕ → Type 0) (old new : Unread) (v : Value) → ((t item : List ℕ) → IsText t item → P (Text t) item)
    → text_value_at old ≡ Ok (v, new) → Took (P v) old new
text_value_took P old new v so e =
    let a = bind_ok (text_at old) (λ t. Ok (Text t.0, t.1)) (v, new) e in
    let made : Value × Unread = (Text a.0.0, a.0.1) in
    subst (λ (x : Value × Unread). Took (P x.0) old x.1) (ok_is made (v, new) a.2) (took_as old a.0.1 (so a.0.0) (text_took old a.0.1 a.0.0 a.1))

blob_value_took : (dialect : Dialect) (old new : Unread) (v : Value) → AreBytes old.bytes → blob_value_at dialect old ≡ Ok (v, new) → Took (IsValue dialect types.Blob v) old new
blob_value_took dialect old new v fits e =
    let a = bind_ok (blob_at dialect old) (λ b. Ok (Blob b.0, b.1)) (v, new) e in
    let made : Value × Unread = (Blob a.0.0, a.0.1) in
    subst (λ (x : Value × Unread). Took (IsValue dialect types.Blob x.0) old x.1) (ok_is made (v, new) a.2) (blob_took dialect old a.0.1 a.0.0 fits a.1)

null_took : (dialect : Dialect) (old new : Unread) (v : Value) → AreBytes old.bytes → null_at old ≡ Ok (v, new) → Took (IsValue dialect types.Null v) old new
null_took dialect old new v fits e =
    let a = bind_ok (word_at old) (λ n. cond (eqb n.0 0) (Ok (Null, n.1)) (Err (Pad old.at))) (v, new) e in
    let g = passed (eqb a.0.0 0) (Pad old.at) (Ok (Null, a.0.1)) (v, new) a.2 in
    let made : Value × Unread = (Null, a.0.1) in
    let zero_word : Took (IsWord 0) old a.0.1 = subst (λ (n : ℕ). Took (IsWord n) old a.0.1) (eqb-true _ _ g.0) (word_took old a.0.1 a.0.0 fits a.1) in
    subst (λ (x : Value × Unread). Took (IsValue dialect types.Null x.0) old x.1) (ok_is made (v, new) g.1) zero_word

pub value_took : (dialect : Dialect) (t : ValueType) (old new : Unread) (v : Value) → AreBytes old.bytes → value_at dialect t old ≡ Ok (v, new) → Took (IsValue dialect t v) old new
unfolding value_at
value_took dialect types.Integer old new v fits e = integer_took (IsValue dialect types.Integer) old new v (λ n item s. record { number = n; spelled = s; read_so = refl }) fits e
value_took dialect types.Float old new v fits e = absurd cc
value_took dialect types.Text old new v fits e = text_value_took (IsValue dialect types.Text) old new v (λ t item s. s) e
value_took dialect types.Blob old new v fits e = blob_value_took dialect old new v fits e
value_took dialect types.Null old new v fits e = null_took dialect old new v fits e
value_took dialect types.UnixTime old new v fits e = integer_took (IsValue dialect types.UnixTime) old new v (λ n item s. record { number = n; spelled = s; read_so = refl }) fits e
value_took dialect types.Iso8601 old new v fits e = text_value_took (IsValue dialect types.Iso8601) old new v (λ t item s. s) e
value_took dialect types.Boolean old new v fits e = integer_took (IsValue dialect types.Boolean) old new v (λ n item s. record { number = n; spelled = s; read_so = refl }) fits e

integer_again : (old new : Unread) (n : _) → Took (IsInteger n) old new → integer_at old ≡ Ok (Integer n, new)
integer_again old new n t =
    let s = t.spelled in
    rw (word_again old new s.number (record { item = t.item; spelled = s.spelled; parts = t.parts; place = t.place }))
    (ap (λ z. Ok (Integer z, new)) (sym s.read_so))

text_value_again : (old new : Unread) (x : List ℕ) → Took (IsText x) old new → text_value_at old ≡ Ok (Text x, new)
text_value_again old new x t = rw (text_again old new x t) refl

pub value_again : (dialect : Dialect) (t : ValueType) (v : Value) (old new : Unread) → Took (IsValue dialect t v) old new → value_at dialect t old ≡ Ok (v, new)
unfolding value_at
value_again dialect types.Integer (Integer n) old new t = integer_again old new n t
value_again dialect types.UnixTime (Integer n) old new t = integer_again old new n t
value_again dialect types.Boolean (Integer n) old new t = integer_again old new n t
value_again dialect types.Text (Text x) old new t = text_value_again old new x t
value_again dialect types.Iso8601 (Text x) old new t = text_value_again old new x t
value_again dialect types.Blob (Blob b) old new t = rw (blob_again dialect old new b t) refl
value_again dialect types.Null Null old new t = rw (word_again old new 0 t) refl
value_again dialect _ _ old new t = absurd t.spelled

-- ---- several values

values_none : (old new : Unread) → Took (λ bytes. bytes ≡ []) old new → old ≡ new
values_none old new t =
    let bytes : old.bytes ≡ new.bytes = t.parts ∙ ap (λ (x : List ℕ). x ++ new.bytes) t.spelled in
    let place : old.at ≡ new.at = omega (arith, t.place, ap length t.spelled) in
    same_unread old new place bytes

pub values_took : (dialect : Dialect) (ts : List ValueType) (old new : Unread) (vs : List Value) → AreBytes old.bytes → values_at dialect ts old ≡ Ok (vs, new) → Took (AreValues dialect ts vs) old new
unfolding each_at
values_took dialect [] old new vs fits e =
    subst (λ (x : List Value × Unread). Took (AreValues dialect [] x.0) old x.1) (ok_is ([], old) (vs, new) e)
    (record { item = []; spelled = refl; parts = refl; place = omega arith })
values_took dialect (t ∷ ts) old new vs fits e =
    let a = bind_ok (value_at dialect t old) (λ first. values_at dialect ts first.1 >>= λ others. Ok (first.0 ∷ others.0, others.1)) (vs, new) e in
    let b = bind_ok (values_at dialect ts a.0.1) (λ others. Ok (a.0.0 ∷ others.0, others.1)) (vs, new) a.2 in
    let first = value_took dialect t old a.0.1 a.0.0 fits a.1 in
    let others = values_took dialect ts a.0.1 b.0.1 b.0.0 (bytes_after old a.0.1 fits first) b.1 in
    let made : List Value × Unread = (a.0.0 ∷ b.0.0, b.0.1) in
    subst (λ (x : List Value × Unread). Took (AreValues dialect (t ∷ ts) x.0) old x.1) (ok_is made (vs, new) b.2) (took_both old a.0.1 b.0.1 first others)

pub values_again : (dialect : Dialect) (ts : List ValueType) (vs : List Value) (old new : Unread) → Took (AreValues dialect ts vs) old new → values_at dialect ts old ≡ Ok (vs, new)
unfolding each_at
values_again dialect [] [] old new t = ap (λ (left : Unread). Ok ([], left)) (values_none old new t)
values_again dialect [] (v ∷ vs) old new t = absurd t.spelled
values_again dialect (t ∷ ts) [] old new s = absurd s.spelled
values_again dialect (t ∷ ts) (v ∷ vs) old new s =
    let p = took_parts old new s in
    rw (value_again dialect t v old p.0 p.1, values_again dialect ts vs p.0 new p.2) refl

pub values_length : (dialect : Dialect) (ts : List ValueType) (vs : List Value) (bytes : List ℕ) → AreValues dialect ts vs bytes → length ts ≡ length vs
values_length dialect [] [] bytes s = refl
values_length dialect [] (v ∷ vs) bytes s = absurd s
values_length dialect (t ∷ ts) [] bytes s = absurd s
values_length dialect (t ∷ ts) (v ∷ vs) bytes s = ap suc (values_length dialect ts vs s.second s.is_second)

-- ---- types by their codes

some_code : (n m : ℕ) (t other : ValueType) (others : Option ValueType) → code t ≡ m → (others ≡ Some other → code other ≡ n)
    → cond (eqb n m) (Some t) others ≡ Some other → code other ≡ n
some_code n m t other others is later e =
    elim (one_of (eqb n m) t others other e) [
      | inl p ↦ ap code (sym p.1) ∙ is ∙ sym (eqb-true n m p.0)
      | inr e' ↦ later e'
    ]

client_code : (dialect : Dialect) (n : ℕ) (t : ValueType) → client_type dialect n ≡ Some t → code t ≡ n
client_code dialects.Exact n t e = none_of t (code t ≡ n) e
client_code dialects.Client n t e =
    some_code n 9 types.UnixTime t _ refl (some_code n 10 types.Iso8601 t _ refl (some_code n 11 types.Boolean t None refl (none_of t (code t ≡ n)))) e

with_code : (dialect : Dialect) (n : ℕ) (t : ValueType) → type_with dialect n ≡ Some t → code t ≡ n
with_code dialect n t e =
    some_code n 1 types.Integer t _ refl (some_code n 2 types.Float t _ refl (some_code n 3 types.Text t _ refl (some_code n 4 types.Blob t _ refl (some_code n 5 types.Null t (client_type dialect n) refl (client_code dialect n t))))) e

pub known_ok : (at n : ℕ) (o : Option ValueType) (t : ValueType) → known at n o ≡ Ok t → o ≡ Some t
known_ok at n None t e = absurd cc
known_ok at n (Some x) t e = cc

all_codes : (dialect : Dialect) (at : ℕ) (ns : List ℕ) (ts : List ValueType) → all_types dialect at ns ≡ Ok ts → codes ts ≡ ns
all_codes dialect at [] ts e = ap codes (sym (ok_is [] ts e))
all_codes dialect at (n ∷ ns) ts e =
    let a = bind_ok (known at n (type_with dialect n)) (λ first. all_types dialect at ns >>= λ others. Ok (first ∷ others)) ts e in
    let b = bind_ok (all_types dialect at ns) (λ others. Ok (a.0 ∷ others)) ts a.2 in
    let first : code a.0 ≡ n = with_code dialect n a.0 (known_ok at n (type_with dialect n) a.0 a.1) in
    ap codes (sym (ok_is (a.0 ∷ b.0) ts b.2)) ∙ ap (λ (m : ℕ). m ∷ codes b.0) first ∙ ap (λ (ms : List ℕ). n ∷ ms) (all_codes dialect at ns b.0 b.1)

-- the codes of types that were read are those that were there
pub codes_read : (dialect : Dialect) (at : ℕ) (ns : List ℕ) (ts : List ValueType) → types_at dialect at ns ≡ Ok ts → codes ts ≡ ns
unfolding types_at
codes_read dialect at ns ts e =
    let a = bind_ok (all_types dialect at ns) (no_float at) ts e in
    let g = refused_not (list_any is_float a.0) (Float at) (Ok a.0) ts a.2 in
    ap codes (sym (ok_is a.0 ts g.1)) ∙ all_codes dialect at ns a.0 a.1

client_knows : (t : ValueType) → type_with dialects.Client (code t) ≡ Some t
client_knows types.Integer = refl
client_knows types.Float = refl
client_knows types.Text = refl
client_knows types.Blob = refl
client_knows types.Null = refl
client_knows types.UnixTime = refl
client_knows types.Iso8601 = refl
client_knows types.Boolean = refl

exact_knows : (v : Value) → type_with dialects.Exact (code (type_of v)) ≡ Some (type_of v)
exact_knows (Integer n) = refl
exact_knows (Text t) = refl
exact_knows (Blob b) = refl
exact_knows Null = refl

client_all : (at : ℕ) (ts : List ValueType) → all_types dialects.Client at (codes ts) ≡ Ok ts
client_all at [] = refl
client_all at (t ∷ ts) =
    ap (λ (o : Option ValueType). known at (code t) o >>= λ first. all_types dialects.Client at (codes ts) >>= λ others. Ok (first ∷ others)) (client_knows t)
    ∙ ap (λ (r : Result (List ValueType) WordFault). r >>= λ others. Ok (t ∷ others)) (client_all at ts)

exact_all : (at : ℕ) (vs : List Value) → all_types dialects.Exact at (codes (types_of vs)) ≡ Ok (types_of vs)
exact_all at [] = refl
exact_all at (v ∷ vs) =
    ap (λ (o : Option ValueType). known at (code (type_of v)) o >>= λ first. all_types dialects.Exact at (codes (types_of vs)) >>= λ others. Ok (first ∷ others)) (exact_knows v)
    ∙ ap (λ (r : Result (List ValueType) WordFault). r >>= λ others. Ok (type_of v ∷ others)) (exact_all at vs)

not_float : (dialect : Dialect) (t : ValueType) (v : Value) (bytes : List ℕ) → IsValue dialect t v bytes → is_float t ≡ false
not_float dialect types.Float (Integer n) bytes s = absurd s
not_float dialect types.Float (Text t) bytes s = absurd s
not_float dialect types.Float (Blob b) bytes s = absurd s
not_float dialect types.Float Null bytes s = absurd s
not_float dialect types.Integer v bytes s = refl
not_float dialect types.Text v bytes s = refl
not_float dialect types.Blob v bytes s = refl
not_float dialect types.Null v bytes s = refl
not_float dialect types.UnixTime v bytes s = refl
not_float dialect types.Iso8601 v bytes s = refl
not_float dialect types.Boolean v bytes s = refl

no_floats : (dialect : Dialect) (ts : List ValueType) (vs : List Value) (bytes : List ℕ) → AreValues dialect ts vs bytes → list_any is_float ts ≡ false
no_floats dialect [] vs bytes s = refl
no_floats dialect (t ∷ ts) [] bytes s = absurd s
no_floats dialect (t ∷ ts) (v ∷ vs) bytes s = rw (not_float dialect t v s.first s.is_first) (no_floats dialect ts vs s.second s.is_second)

pub client_types : (at : ℕ) (ts : List ValueType) (vs : List Value) (bytes : List ℕ) → AreValues dialects.Client ts vs bytes → types_at dialects.Client at (codes ts) ≡ Ok ts
unfolding types_at
client_types at ts vs bytes s = rw (client_all at ts, no_floats dialects.Client ts vs bytes s) refl

pub exact_types : (at : ℕ) (vs : List Value) (bytes : List ℕ) → AreValues dialects.Exact (types_of vs) vs bytes → types_at dialects.Exact at (codes (types_of vs)) ≡ Ok (types_of vs)
unfolding types_at
exact_types at vs bytes s = rw (exact_all at vs, no_floats dialects.Exact (types_of vs) vs bytes s) refl

pub codes_length : (ts : List ValueType) → length (codes ts) ≡ length ts
codes_length [] = refl
codes_length (t ∷ ts) = ap suc (codes_length ts)

pub types_length : (vs : List Value) → length (types_of vs) ≡ length vs
types_length [] = refl
types_length (v ∷ vs) = ap suc (types_length vs)
