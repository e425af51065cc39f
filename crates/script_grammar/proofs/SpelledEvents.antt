-- An event is read exactly if its bytes encode it.
use Rattle.std.proofs.Common.{◌≡◌, ℕ, ◌<◌, ◌^◌, inl, inr, List, ◌++◌, length, codes, Some, None, option_map, refl, ap, subst, ◌∙◌}
use Rattle.std.specs.Fmt.{decimal}
use Rattle.dq_base.specs.Texts.{halves, behind}
use Rattle.dq_base.proofs.Choices.{some_is, mapped, bound, chosen}
use Rattle.dq_base.proofs.Numbers.{number_is}
use Rattle.dq_base.proofs.Halves.{halves_cut, halves_of}
use Rattle.script_grammar.specs.declared.events.Event.{Event}
use Rattle.script_grammar.specs.declared.events.Event.TheVariants.{Timeout, Beat, Connect, Bytes, Hangup, Deliver, Settle, Crash, Start, Put, Take}
use Rattle.script_grammar.specs.Events.{number, hex_bytes, ◌>>=◌, number_within, one_or_two, connect_of, bytes_of, other_event, event_of}
use Rattle.script_grammar.specs.Spelling.{AreHex, IsNumbered, IsPaired, IsEvent}
use Rattle.script_grammar.proofs.HexWords.{hex_spelled, hex_read}
use Rattle.script_grammar.proofs.LineNumbers.{behind_is, numbered_is, counted_is, paired_is, again, no_space, within_again, one_again, two_again}

-- ---- what is read is encoded so

-- a word with a number after it
numbered : (word line text : List ℕ) (make : ℕ → Event) (said : Event) → ((n : ℕ) → IsNumbered word n line → IsEvent (make n) line)
    → behind word line ≡ Some text
    → option_map make (number text) ≡ Some said → IsEvent said line
numbered word line text make said texts at e =
    let a = mapped make (number text) said e in
    subst (λ (s : Event). IsEvent s line) a.2 (texts a.0 (numbered_is word line text a.0 (behind_is word line text at) a.1))

settle_is : (line text : List ℕ) (said : Event) → behind (codes "settle ") line ≡ Some text → option_map Settle (number_within 1 10000 text) ≡ Some said
    → IsEvent said line
settle_is line text said at e =
    let a = mapped Settle (number_within 1 10000 text) said e in
    subst (λ (s : Event). IsEvent s line) a.2 (counted_is 1 10000 (codes "settle ") line text a.0 (behind_is (codes "settle ") line text at) a.1)

crash_is : (line text : List ℕ) (said : Event) → behind (codes "crash ") line ≡ Some text
    → option_map (λ (both : ℕ × ℕ). Crash both.0 both.1) (one_or_two text) ≡ Some said → IsEvent said line
crash_is line text said at e =
    let a = mapped (λ (both : ℕ × ℕ). Crash both.0 both.1) (one_or_two text) said e in
    subst (λ (s : Event). IsEvent s line) a.2 (paired_is (codes "crash ") line text a.0 (behind_is (codes "crash ") line text at) a.1)

connect_is : (line text : List ℕ) (said : Event) → behind (codes "connect ") line ≡ Some text → connect_of text ≡ Some said → IsEvent said line
unfolding connect_of
connect_is line text said at e =
    let a = bound (halves text) (λ both. number both.0 >>= λ node. number both.1 >>= λ connection. Some (Connect node connection)) said e in
    let b = bound (number a.0.0) (λ node. number a.0.1 >>= λ connection. Some (Connect node connection)) said a.2 in
    let c = bound (number a.0.1) (λ connection. Some (Connect b.0 connection)) said b.2 in
    let node = number_is (2 ^ 32) a.0.0 b.0 b.1 in
    let connection = number_is (2 ^ 32) a.0.1 c.0 c.1 in
    let front : List ℕ → List ℕ → List ℕ = λ x y. codes "connect " ++ (x ++ (codes " " ++ y)) in
    subst (λ (s : Event). IsEvent s line) (some_is (Connect b.0 c.0) said c.2) (record {
      node_in_range = node.small;
      connection_in_range = connection.small;
      parts = behind_is (codes "connect ") line text at ∙ ap (λ (x : List ℕ). codes "connect " ++ x) (halves_cut text a.0 a.1)
          ∙ ap (λ (x : List ℕ). front x a.0.1) node.written ∙ ap (front (decimal b.0)) connection.written;
    })

bytes_are : (line text : List ℕ) (said : Event) → behind (codes "bytes ") line ≡ Some text → bytes_of text ≡ Some said → IsEvent said line
unfolding bytes_of
bytes_are line text said at e =
    let a = bound (halves text) (λ both. number both.0 >>= λ connection. hex_bytes both.1 >>= λ bytes. Some (Bytes connection bytes)) said e in
    let b = bound (number a.0.0) (λ connection. hex_bytes a.0.1 >>= λ bytes. Some (Bytes connection bytes)) said a.2 in
    let c = bound (hex_bytes a.0.1) (λ bytes. Some (Bytes b.0 bytes)) said b.2 in
    let connection = number_is (2 ^ 32) a.0.0 b.0 b.1 in
    let hex = hex_spelled a.0.1 c.0 c.1 in
    subst (λ (s : Event). IsEvent s line) (some_is (Bytes b.0 c.0) said c.2) (record {
      digits = a.0.1;
      in_range = connection.small;
      some = hex.1;
      hex = hex.0;
      parts = behind_is (codes "bytes ") line text at ∙ ap (λ (x : List ℕ). codes "bytes " ++ x) (halves_cut text a.0 a.1)
          ∙ ap (λ (x : List ℕ). codes "bytes " ++ (x ++ (codes " " ++ a.0.1))) connection.written;
    })

put_is : (line text : List ℕ) (said : Event) → behind (codes "put ") line ≡ Some text → option_map Put (hex_bytes text) ≡ Some said → IsEvent said line
put_is line text said at e =
    let a = mapped Put (hex_bytes text) said e in
    let hex = hex_spelled text a.0 a.1 in
    subst (λ (s : Event). IsEvent s line) a.2 (record { digits = text; some = hex.1; hex = hex.0; parts = behind_is (codes "put ") line text at })

none_is : {P : Type 0} (said : Event) → None ≡ Some said → P
none_is said e = absurd cc

other_is : (line : List ℕ) (said : Event) → other_event line ≡ Some said → IsEvent said line
unfolding other_event
other_is line said e =
    elim (chosen (behind (codes "connect ") line) connect_of _ said e) [
      | inl a ↦ connect_is line a.0 said a.1 a.2
      | inr e ↦ elim (chosen (behind (codes "settle ") line) (λ text. option_map Settle (number_within 1 10000 text)) _ said e) [
        | inl a ↦ settle_is line a.0 said a.1 a.2
        | inr e ↦ elim (chosen (behind (codes "crash ") line) (λ text. option_map (λ (both : ℕ × ℕ). Crash both.0 both.1) (one_or_two text)) _ said e) [
          | inl a ↦ crash_is line a.0 said a.1 a.2
          | inr e ↦ elim (chosen (behind (codes "put ") line) (λ text. option_map Put (hex_bytes text)) _ said e) [
            | inl a ↦ put_is line a.0 said a.1 a.2
            | inr e ↦ elim (chosen (behind (codes "take ") line) (λ text. option_map Take (number text)) None said e) [
              | inl a ↦ numbered (codes "take ") line a.0 Take said (λ n h. h) a.1 a.2
              | inr e ↦ none_is said e
            ]
          ]
        ]
      ]
    ]

pub event_is : (line : List ℕ) (said : Event) → event_of line ≡ Some said → IsEvent said line
unfolding event_of
event_is line said e =
    elim (chosen (behind (codes "timeout ") line) (λ text. option_map Timeout (number text)) _ said e) [
      | inl a ↦ numbered (codes "timeout ") line a.0 Timeout said (λ n h. h) a.1 a.2
      | inr e ↦ elim (chosen (behind (codes "beat ") line) (λ text. option_map Beat (number text)) _ said e) [
        | inl a ↦ numbered (codes "beat ") line a.0 Beat said (λ n h. h) a.1 a.2
        | inr e ↦ elim (chosen (behind (codes "bytes ") line) bytes_of _ said e) [
          | inl a ↦ bytes_are line a.0 said a.1 a.2
          | inr e ↦ elim (chosen (behind (codes "hangup ") line) (λ text. option_map Hangup (number text)) _ said e) [
            | inl a ↦ numbered (codes "hangup ") line a.0 Hangup said (λ n h. h) a.1 a.2
            | inr e ↦ elim (chosen (behind (codes "deliver ") line) (λ text. option_map Deliver (number text)) _ said e) [
              | inl a ↦ numbered (codes "deliver ") line a.0 Deliver said (λ n h. h) a.1 a.2
              | inr e ↦ elim (chosen (behind (codes "start ") line) (λ text. option_map Start (number text)) (other_event line) said e) [
                | inl a ↦ numbered (codes "start ") line a.0 Start said (λ n h. h) a.1 a.2
                | inr e ↦ other_is line said e
              ]
            ]
          ]
        ]
      ]
    ]

-- ---- what is encoded so is read

read_number : (make : ℕ → Event) (n : ℕ) → n < 2 ^ 32 → option_map make (number (decimal n)) ≡ Some (make n)
read_number make n small = rw (again n small) refl

timeout_read : (text : List ℕ) → event_of (codes "timeout " ++ text) ≡ option_map Timeout (number text)
unfolding event_of
timeout_read text = refl

beat_read : (text : List ℕ) → event_of (codes "beat " ++ text) ≡ option_map Beat (number text)
unfolding event_of
beat_read text = refl

bytes_read : (text : List ℕ) → event_of (codes "bytes " ++ text) ≡ bytes_of text
unfolding event_of
bytes_read text = refl

hangup_read : (text : List ℕ) → event_of (codes "hangup " ++ text) ≡ option_map Hangup (number text)
unfolding event_of
hangup_read text = refl

deliver_read : (text : List ℕ) → event_of (codes "deliver " ++ text) ≡ option_map Deliver (number text)
unfolding event_of
deliver_read text = refl

start_read : (text : List ℕ) → event_of (codes "start " ++ text) ≡ option_map Start (number text)
unfolding event_of
start_read text = refl

connect_read : (text : List ℕ) → event_of (codes "connect " ++ text) ≡ connect_of text
unfolding event_of other_event
connect_read text = refl

settle_read : (text : List ℕ) → event_of (codes "settle " ++ text) ≡ option_map Settle (number_within 1 10000 text)
unfolding event_of other_event
settle_read text = refl

crash_read : (text : List ℕ) → event_of (codes "crash " ++ text) ≡ option_map (λ (both : ℕ × ℕ). Crash both.0 both.1) (one_or_two text)
unfolding event_of other_event
crash_read text = refl

put_read : (text : List ℕ) → event_of (codes "put " ++ text) ≡ option_map Put (hex_bytes text)
unfolding event_of other_event
put_read text = refl

take_read : (text : List ℕ) → event_of (codes "take " ++ text) ≡ option_map Take (number text)
unfolding event_of other_event
take_read text = refl

connect_again : (node connection : ℕ) → node < 2 ^ 32 → connection < 2 ^ 32
    → connect_of (decimal node ++ (codes " " ++ decimal connection)) ≡ Some (Connect node connection)
unfolding connect_of
connect_again node connection node_small connection_small =
    rw (halves_of (decimal node) (decimal connection) (no_space node node_small), again node node_small, again connection connection_small) refl

bytes_again : (connection : ℕ) (digits bytes : List ℕ) → connection < 2 ^ 32 → AreHex digits bytes → 0 < length bytes
    → bytes_of (decimal connection ++ (codes " " ++ digits)) ≡ Some (Bytes connection bytes)
unfolding bytes_of
bytes_again connection digits bytes small hex some =
    rw (halves_of (decimal connection) digits (no_space connection small), again connection small, hex_read digits bytes hex some) refl

crash_again : (node pick : ℕ) (line : List ℕ) → IsPaired (codes "crash ") node pick line → event_of line ≡ Some (Crash node pick)
crash_again node pick line h = elim h.parts [
  | inl p ↦ ap event_of p.1 ∙ crash_read (decimal node) ∙ ap (option_map (λ (both : ℕ × ℕ). Crash both.0 both.1)) (one_again node h.first_in_range)
      ∙ rw p.0 refl
  | inr p ↦ ap event_of p ∙ crash_read (decimal node ++ (codes " " ++ decimal pick))
      ∙ ap (option_map (λ (both : ℕ × ℕ). Crash both.0 both.1)) (two_again node pick h.first_in_range h.second_in_range)
]

pub event_read : (event : Event) (line : List ℕ) → IsEvent event line → event_of line ≡ Some event
event_read (Timeout node) line h = ap event_of h.parts ∙ timeout_read (decimal node) ∙ read_number Timeout node h.in_range
event_read (Beat node) line h = ap event_of h.parts ∙ beat_read (decimal node) ∙ read_number Beat node h.in_range
event_read (Connect node connection) line h =
    ap event_of h.parts ∙ connect_read (decimal node ++ (codes " " ++ decimal connection)) ∙ connect_again node connection h.node_in_range h.connection_in_range
event_read (Bytes connection bytes) line h =
    ap event_of h.parts ∙ bytes_read (decimal connection ++ (codes " " ++ h.digits)) ∙ bytes_again connection h.digits bytes h.in_range h.hex h.some
event_read (Hangup connection) line h = ap event_of h.parts ∙ hangup_read (decimal connection) ∙ read_number Hangup connection h.in_range
event_read (Deliver message) line h = ap event_of h.parts ∙ deliver_read (decimal message) ∙ read_number Deliver message h.in_range
event_read (Settle count) line h =
    ap event_of h.numbered.parts ∙ settle_read (decimal count) ∙ ap (option_map Settle) (within_again 1 10000 count h.numbered.in_range h.at_least h.at_most)
event_read (Crash node pick) line h = crash_again node pick line h
event_read (Start node) line h = ap event_of h.parts ∙ start_read (decimal node) ∙ read_number Start node h.in_range
event_read (Put bytes) line h = ap event_of h.parts ∙ put_read h.digits ∙ ap (option_map Put) (hex_read h.digits bytes h.hex h.some)
event_read (Take machine) line h = ap event_of h.parts ∙ take_read (decimal machine) ∙ read_number Take machine h.in_range
