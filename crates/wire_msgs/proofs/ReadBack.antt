-- Requests and responses are read exactly if messages represent them.
use Rattle.std.proofs.Common.{◌≡◌, ℕ, false, eqb, ltb, Option, Some, None, Result, Ok, Err, refl, ap, subst, ◌∙◌}
use Rattle.std.specs.Prelude.{IfOk}
use Rattle.wire_words.specs.declared.message.Message.{Message}
use Rattle.wire_words.specs.declared.value.Dialect.TheVariants as dialects
use Rattle.wire_words.specs.Items.{AreBytes}
use Rattle.wire_words.specs.Reading.{unread}
use Rattle.wire_msgs.specs.declared.fault.MsgFault.{MsgFault}
use Rattle.wire_msgs.specs.declared.request.Request.{Request}
use Rattle.wire_msgs.specs.declared.request.RequestKind.{RequestKind}
use Rattle.wire_msgs.specs.declared.response.Response.{Response}
use Rattle.wire_msgs.specs.declared.response.ResponseKind.{ResponseKind}
use Rattle.wire_msgs.specs.Requests.{request_line, Reads}
use Rattle.wire_msgs.specs.Responses.{response_line, ReadsResponse}
use Rattle.wire_msgs.specs.Kinds.{request_kind, request_top_schema, response_kind, response_top_schema}
use Rattle.wire_msgs.specs.Bodies.{request_at, response_at}
use Rattle.wire_msgs.specs.Reading.{Gives, request_in, request_of, response_in, response_of}
use Rattle.wire_msgs.proofs.Fields.{fields_took, fields_stand}
use Rattle.wire_msgs.proofs.Messages.{was_read, read_again}
use Rattle.wire_msgs.proofs.Requests.{request_took, is_request, known_number as request_number}
use Rattle.wire_msgs.proofs.Responses.{response_took, is_response, known_number as response_number}

-- ---- requests

found_in : (known : Option RequestKind) (m : Message) (request : Request) → ((kind : RequestKind) → known ≡ Some kind → request_kind m.kind ≡ Some kind) → AreBytes m.body → request_in known m ≡ Ok request → Reads m request
found_in None m request is fits e = absurd cc
found_in (Some kind) m request is fits e =
    let w = was_read (request_top_schema kind) (request_at kind) m request e in
    let t = request_took kind (eqb m.schema 1) (unread m.body) w.left request fits w.body in
    record {
      kind = request_number m.kind kind (is kind refl) ∙ t.number;
      schema = t.schema m.schema w.schema refl;
      fields = fields_took dialects.Client (request_line request).fields (unread m.body) w.left t.fields w.end;
    }

pub request_found : (m : Message) (request : Request) → AreBytes m.body → request_of m ≡ Ok request → Reads m request
unfolding request_of
request_found m request fits e = found_in (request_kind m.kind) m request (λ kind is. is) fits e

pub request_read : (m : Message) (request : Request) → Reads m request → request_of m ≡ Ok request
unfolding request_of
request_read m request r =
    let is = is_request request in
    let stood = fields_stand dialects.Client (request_line request).fields (unread m.body) r.fields in
    let within : ltb (request_top_schema is.kind) m.schema ≡ false = ap (ltb (request_top_schema is.kind)) r.schema ∙ is.within in
    let fields : request_at is.kind (eqb m.schema 1) (unread m.body) ≡ Ok (request, stood.0) =
    ap (λ (n : ℕ). request_at is.kind (eqb n 1) (unread m.body)) r.schema ∙ is.again (unread m.body) stood.0 stood.1 stood.2 in
    let known : request_kind m.kind ≡ Some is.kind = ap request_kind r.kind ∙ is.is_known in
    ap (λ (k : Option RequestKind). request_in k m) known ∙ read_again (request_top_schema is.kind) (request_at is.kind) m request (record { schema = within; left = stood.0; body = fields; end = stood.2 })

pub is_found : (m : Message) (result : Result Request MsgFault) → AreBytes m.body → Gives (request_of m) result → IfOk result (Reads m)
is_found m (Ok request) fits given = request_found m request fits given
is_found m (Err fault) fits given = tt

pub is_only : (m : Message) (result : Result Request MsgFault) → Gives (request_of m) result → (request : Request) → Reads m request → Gives (Ok request) result
is_only m result given request reads = subst (λ (reading : Result Request MsgFault). Gives reading result) (request_read m request reads) given

-- ---- responses

response_found_in : (known : Option ResponseKind) (format : ℕ) (m : Message) (response : Response) → ((kind : ResponseKind) → known ≡ Some kind → response_kind m.kind ≡ Some kind) → AreBytes m.body → response_in known (eqb format 1) m ≡ Ok response
    → ReadsResponse format m response
response_found_in None format m response is fits e = absurd cc
response_found_in (Some kind) format m response is fits e =
    let w = was_read (response_top_schema kind) (response_at kind (eqb format 1)) m response e in
    let t = response_took kind (eqb format 1) (eqb m.schema 1) (unread m.body) w.left response fits w.body in
    record {
      stands = record {
        kind = response_number m.kind kind (is kind refl) ∙ t.number;
        schema = t.schema m.schema w.schema refl;
        fields = fields_took dialects.Exact (response_line response).fields (unread m.body) w.left t.fields w.end;
      };
      in_format = t.in_format;
    }

pub response_found : (format : ℕ) (m : Message) (response : Response) → AreBytes m.body → response_of format m ≡ Ok response → ReadsResponse format m response
unfolding response_of
response_found format m response fits e = response_found_in (response_kind m.kind) format m response (λ kind is. is) fits e

pub response_read : (format : ℕ) (m : Message) (response : Response) → ReadsResponse format m response → response_of format m ≡ Ok response
unfolding response_of
response_read format m response reads =
    let r = reads.stands in
    let is = is_response (eqb format 1) response reads.in_format in
    let stood = fields_stand dialects.Exact (response_line response).fields (unread m.body) r.fields in
    let within : ltb (response_top_schema is.kind) m.schema ≡ false = ap (ltb (response_top_schema is.kind)) r.schema ∙ is.within in
    let fields : response_at is.kind (eqb format 1) (eqb m.schema 1) (unread m.body) ≡ Ok (response, stood.0) =
    ap (λ (n : ℕ). response_at is.kind (eqb format 1) (eqb n 1) (unread m.body)) r.schema ∙ is.again (unread m.body) stood.0 stood.1 stood.2 in
    let known : response_kind m.kind ≡ Some is.kind = ap response_kind r.kind ∙ is.is_known in
    ap (λ (k : Option ResponseKind). response_in k (eqb format 1) m) known ∙ read_again (response_top_schema is.kind) (response_at is.kind (eqb format 1)) m response (record { schema = within; left = stood.0; body = fields; end = stood.2 })

pub response_is_found : (format : ℕ) (m : Message) (result : Result Response MsgFault) → AreBytes m.body → Gives (response_of format m) result → IfOk result (ReadsResponse format m)
response_is_found format m (Ok response) fits given = response_found format m response fits given
response_is_found format m (Err fault) fits given = tt

pub response_is_only : (format : ℕ) (m : Message) (result : Result Response MsgFault) → Gives (response_of format m) result → (response : Response) → ReadsResponse format m response → Gives (Ok response) result
response_is_only format m result given response reads = subst (λ (reading : Result Response MsgFault). Gives reading result) (response_read format m response reads) given
