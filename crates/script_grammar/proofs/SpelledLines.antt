-- A line is read exactly if its bytes encode it.
use Rattle.std.proofs.Common.{◌≡◌, ℕ, ◌<◌, ◌≤◌, ◌+◌, ◌^◌, Bool, true, false, cond, ltb, leb, ◌&&◌, inl, inr, List, [], ◌∷◌, length, ◌++◌, codes, Option, Some}
use Rattle.std.proofs.Common.{None, option_map, refl, ap, subst, ◌∙◌, arith}
use Rattle.std.specs.List.{AllByRecursion, list_all}
use Rattle.std.specs.Fmt.{decimal}
use Rattle.std.proofs.lemmas.Bool.{and_parts, and_from, ltb-true, lt-ltb, leb-true, le-leb, eqb-true}
use Rattle.script_grammar.specs.ScriptSize.{line_limit}
use Rattle.script_grammar.specs.declared.events.Event.{Event}
use Rattle.script_grammar.specs.declared.events.Event.TheVariants.{Timeout, Beat, Connect, Bytes, Hangup, Deliver, Settle, Crash, Start, Put, Take}
use Rattle.script_grammar.specs.declared.grammar.FaultTarget.{FaultTarget}
use Rattle.script_grammar.specs.declared.grammar.FaultTarget.TheVariants.{Nothing, Stop, Fail}
use Rattle.script_grammar.specs.declared.grammar.ScriptLine.{ScriptLine}
use Rattle.script_grammar.specs.declared.grammar.ScriptLine.TheVariants as says
use Rattle.dq_base.specs.Texts.{halves, behind}
use Rattle.dq_base.proofs.Choices.{some_is, passed, mapped, bound, chosen}
use Rattle.dq_base.proofs.Numbers.{number_is}
use Rattle.dq_base.proofs.Halves.{halves_cut, halves_of}
use Rattle.script_grammar.specs.Events.{number, ◌>>=◌, number_within, one_or_two, event_of, may_be_aimed}
use Rattle.script_grammar.specs.Grammar.{is_cluster, nodes_of, call_of, stop_of, fail_of, under, aimed_of, words_line, is_fit, is_blank, line_of}
use Rattle.script_grammar.specs.Spelling.{IsPaired, IsEvent, IsAimed, IsNodes, IsNothing, IsLineText, Spells}
use Rattle.script_grammar.proofs.LineNumbers.{behind_is, numbered_is, counted_is, paired_is, within_is, again, no_space, within_again, one_again, two_again}
use Rattle.script_grammar.proofs.SpelledEvents.{event_is, event_read}

-- ---- ASCII

ascii_so : (bytes : List ℕ) → list_all (λ b. ltb b 128) bytes ≡ true → AllByRecursion (λ b. b < 128) bytes
ascii_so [] e = tt
ascii_so (b ∷ bytes) e =
    let parts = and_parts (ltb b 128) (list_all (λ b. ltb b 128) bytes) e in
    (ltb-true b 128 parts.0, ascii_so bytes parts.1)

ascii_test : (bytes : List ℕ) → AllByRecursion (λ b. b < 128) bytes → list_all (λ b. ltb b 128) bytes ≡ true
ascii_test [] h = refl
ascii_test (b ∷ bytes) h = and_from (ltb b 128) (list_all (λ b. ltb b 128) bytes) (lt-ltb b 128 h.0) (ascii_test bytes h.1)

-- ---- what is read is encoded so

nodes_are : (line text : List ℕ) (said : ScriptLine) → behind (codes "nodes ") line ≡ Some text → nodes_of text ≡ Some said → IsLineText said line
unfolding nodes_of
nodes_are line text said at e =
    let a = bound (one_or_two text) (λ both. cond (is_cluster both.0 both.1) (Some (says.Nodes both.0 both.1)) None) said e in
    let b = passed (is_cluster a.0.0 a.0.1) (Some (says.Nodes a.0.0 a.0.1)) said a.2 in
    let all = and_parts (leb 1 a.0.0 && leb a.0.0 7) (leb (a.0.0 + a.0.1) 9) b.0 in
    let voters = and_parts (leb 1 a.0.0) (leb a.0.0 7) all.0 in
    subst (λ (s : ScriptLine). IsLineText s line) (some_is (says.Nodes a.0.0 a.0.1) said b.1) (record {
      some = leb-true 1 a.0.0 voters.0;
      few = leb-true a.0.0 7 voters.1;
      all = leb-true (a.0.0 + a.0.1) 9 all.1;
      paired = paired_is (codes "nodes ") line text a.0 (behind_is (codes "nodes ") line text at) a.1;
    })

pages_are : (line text : List ℕ) (said : ScriptLine) → behind (codes "pages ") line ≡ Some text
    → option_map says.Pages (number_within 1 9 text) ≡ Some said → IsLineText said line
pages_are line text said at e =
    let a = mapped says.Pages (number_within 1 9 text) said e in
    subst (λ (s : ScriptLine). IsLineText s line) a.2 (counted_is 1 9 (codes "pages ") line text a.0 (behind_is (codes "pages ") line text at) a.1)

show_is : (line text : List ℕ) (said : ScriptLine) → behind (codes "show ") line ≡ Some text → option_map says.Show (number text) ≡ Some said
    → IsLineText said line
show_is line text said at e =
    let a = mapped says.Show (number text) said e in
    subst (λ (s : ScriptLine). IsLineText s line) a.2 (numbered_is (codes "show ") line text a.0 (behind_is (codes "show ") line text at) a.1)

-- an aim and the event after it
aimed_is : (front : Option (FaultTarget × List ℕ)) (line : List ℕ) (said : ScriptLine)
    → ((aim : FaultTarget) (rest : List ℕ) (event : Event) → front ≡ Some (aim, rest) → may_be_aimed event ≡ true → IsEvent event rest → IsAimed aim event line)
    → aimed_of front ≡ Some said → IsLineText said line
unfolding aimed_of
aimed_is front line said texts e =
    let a = bound front (λ both. event_of both.1 >>= λ event. under both.0 event) said e in
    let b = bound (event_of a.0.1) (λ event. under a.0.0 event) said a.2 in
    let c = passed (may_be_aimed b.0) (Some (says.Event b.0 a.0.0)) said b.2 in
    subst (λ (s : ScriptLine). IsLineText s line) (some_is (says.Event b.0 a.0.0) said c.1) (texts a.0.0 a.0.1 b.0 a.1 c.0 (event_is a.0.1 b.0 b.1))

aim_is : (event : Event) (line : List ℕ) (one : FaultTarget × List ℕ) (aim : FaultTarget) (rest : List ℕ) → Some one ≡ Some (aim, rest) → IsAimed one.0 event line
    → IsAimed aim event line
aim_is event line one aim rest e h = subst (λ (p : FaultTarget × List ℕ). IsAimed p.0 event line) (some_is one (aim, rest) e) h

rest_is : (event : Event) (one : FaultTarget × List ℕ) (aim : FaultTarget) (rest : List ℕ) → Some one ≡ Some (aim, rest) → IsEvent event rest → IsEvent event one.1
rest_is event one aim rest e h = let same : one ≡ (aim, rest) = some_is one (aim, rest) e in rw same h

stop_is : (line text : List ℕ) → behind (codes "stop ") line ≡ Some text → (aim : FaultTarget) (rest : List ℕ) (event : Event) → stop_of text ≡ Some (aim, rest)
    → may_be_aimed event ≡ true → IsEvent event rest → IsAimed aim event line
unfolding stop_of
stop_is line text at aim rest event e may is =
    let a = bound (halves text) (λ both. call_of both.0 >>= λ call. halves both.1 >>= λ pair. number pair.0 >>= λ pick. Some (Stop call pick, pair.1)) (aim, rest) e in
    let b = bound (call_of a.0.0) (λ call. halves a.0.1 >>= λ pair. number pair.0 >>= λ pick. Some (Stop call pick, pair.1)) (aim, rest) a.2 in
    let c = bound (halves a.0.1) (λ pair. number pair.0 >>= λ pick. Some (Stop b.0 pick, pair.1)) (aim, rest) b.2 in
    let d = bound (number c.0.0) (λ pick. Some (Stop b.0 pick, c.0.1)) (aim, rest) c.2 in
    let within = within_is 1 4294967295 a.0.0 b.0 b.1 in
    let call = number_is (2 ^ 32) a.0.0 b.0 within.2 in
    let pick = number_is (2 ^ 32) c.0.0 d.0 d.1 in
    let front : List ℕ → List ℕ = λ x. codes "stop " ++ x in
    let spelled : List ℕ → List ℕ → List ℕ = λ x y. codes "stop " ++ (x ++ (codes " " ++ (y ++ (codes " " ++ c.0.1)))) in
    aim_is event line (Stop b.0 d.0, c.0.1) aim rest d.2 (record {
      rest = c.0.1;
      first = within.0;
      call_in_range = call.small;
      pick_in_range = pick.small;
      may = may;
      spelled = rest_is event (Stop b.0 d.0, c.0.1) aim rest d.2 is;
      parts = behind_is (codes "stop ") line text at ∙ ap front (halves_cut text a.0 a.1)
          ∙ ap (λ (x : List ℕ). front (a.0.0 ++ (codes " " ++ x))) (halves_cut a.0.1 c.0 c.1) ∙ ap (λ (x : List ℕ). spelled x c.0.0) call.written
          ∙ ap (spelled (decimal b.0)) pick.written;
    })

fail_is : (line text : List ℕ) → behind (codes "fail ") line ≡ Some text → (aim : FaultTarget) (rest : List ℕ) (event : Event) → fail_of text ≡ Some (aim, rest)
    → may_be_aimed event ≡ true → IsEvent event rest → IsAimed aim event line
unfolding fail_of
fail_is line text at aim rest event e may is =
    let a = bound (halves text) (λ both. call_of both.0 >>= λ call. Some (Fail call, both.1)) (aim, rest) e in
    let b = bound (call_of a.0.0) (λ call. Some (Fail call, a.0.1)) (aim, rest) a.2 in
    let within = within_is 1 4294967295 a.0.0 b.0 b.1 in
    let call = number_is (2 ^ 32) a.0.0 b.0 within.2 in
    aim_is event line (Fail b.0, a.0.1) aim rest b.2 (record {
      rest = a.0.1;
      first = within.0;
      call_in_range = call.small;
      may = may;
      spelled = rest_is event (Fail b.0, a.0.1) aim rest b.2 is;
      parts = behind_is (codes "fail ") line text at ∙ ap (λ (x : List ℕ). codes "fail " ++ x) (halves_cut text a.0 a.1)
          ∙ ap (λ (x : List ℕ). codes "fail " ++ (x ++ (codes " " ++ a.0.1))) call.written;
    })

plain_is : (line : List ℕ) (said : ScriptLine) → option_map (λ event. says.Event event Nothing) (event_of line) ≡ Some said → IsLineText said line
plain_is line said e =
    let a = mapped (λ event. says.Event event Nothing) (event_of line) said e in
    subst (λ (s : ScriptLine). IsLineText s line) a.2 (event_is line a.0 a.1)

words_are : (line : List ℕ) (said : ScriptLine) → words_line line ≡ Some said → IsLineText said line
unfolding words_line
words_are line said e =
    elim (chosen (behind (codes "nodes ") line) nodes_of _ said e) [
      | inl a ↦ nodes_are line a.0 said a.1 a.2
      | inr e ↦ elim (chosen (behind (codes "pages ") line) (λ text. option_map says.Pages (number_within 1 9 text)) _ said e) [
        | inl a ↦ pages_are line a.0 said a.1 a.2
        | inr e ↦ elim (chosen (behind (codes "show ") line) (λ text. option_map says.Show (number text)) _ said e) [
          | inl a ↦ show_is line a.0 said a.1 a.2
          | inr e ↦ elim (chosen (behind (codes "stop ") line) (λ text. aimed_of (stop_of text)) _ said e) [
            | inl a ↦ aimed_is (stop_of a.0) line said (stop_is line a.0 a.1) a.2
            | inr e ↦ elim (chosen (behind (codes "fail ") line) (λ text. aimed_of (fail_of text)) (option_map (λ event. says.Event event Nothing) (event_of line)) said e) [
              | inl a ↦ aimed_is (fail_of a.0) line said (fail_is line a.0 a.1) a.2
              | inr e ↦ plain_is line said e
            ]
          ]
        ]
      ]
    ]

nothing_is : (line : List ℕ) → is_blank line ≡ true → IsNothing line
nothing_is [] e = inl refl
nothing_is (b ∷ line) e = inr (line, ap (λ (c : ℕ). c ∷ line) (eqb-true b 35 e))

text_is : (line : List ℕ) (blank : Bool) (said : ScriptLine) → is_blank line ≡ blank → cond blank (Some says.Blank) (words_line line) ≡ Some said
    → IsLineText said line
text_is line true said is e = subst (λ (s : ScriptLine). IsLineText s line) (some_is says.Blank said e) (nothing_is line is)
text_is line false said is e = words_are line said e

pub line_spelled : (said : ScriptLine) (line : List ℕ) → line_of line ≡ Some said → Spells said line
unfolding line_of
line_spelled said line e =
    let a = passed (is_fit line) (cond (is_blank line) (Some says.Blank) (words_line line)) said e in
    let fit = and_parts (leb (length line) line_limit) (list_all (λ b. ltb b 128) line) a.0 in
    record { short = leb-true (length line) line_limit fit.0; ascii = ascii_so line fit.1; text = text_is line (is_blank line) said refl a.1 }

-- ---- what is encoded so is read

-- what a line of this text says
abbrev said_by : List ℕ → Option ScriptLine
said_by line = cond (is_blank line) (Some says.Blank) (words_line line)

-- an event over a disk that nothing happens to
abbrev plain : Event → ScriptLine
plain event = says.Event event Nothing

-- the line is read as an event
abbrev IsPlain : List ℕ → Type 0
IsPlain line = said_by line ≡ option_map plain (event_of line)

nodes_read : (text : List ℕ) → said_by (codes "nodes " ++ text) ≡ nodes_of text
unfolding words_line
nodes_read text = refl

pages_read : (text : List ℕ) → said_by (codes "pages " ++ text) ≡ option_map says.Pages (number_within 1 9 text)
unfolding words_line
pages_read text = refl

show_read : (text : List ℕ) → said_by (codes "show " ++ text) ≡ option_map says.Show (number text)
unfolding words_line
show_read text = refl

stop_read : (text : List ℕ) → said_by (codes "stop " ++ text) ≡ aimed_of (stop_of text)
unfolding words_line
stop_read text = refl

fail_read : (text : List ℕ) → said_by (codes "fail " ++ text) ≡ aimed_of (fail_of text)
unfolding words_line
fail_read text = refl

timeout_plain : (text : List ℕ) → IsPlain (codes "timeout " ++ text)
unfolding words_line
timeout_plain text = refl

beat_plain : (text : List ℕ) → IsPlain (codes "beat " ++ text)
unfolding words_line
beat_plain text = refl

connect_plain : (text : List ℕ) → IsPlain (codes "connect " ++ text)
unfolding words_line
connect_plain text = refl

bytes_plain : (text : List ℕ) → IsPlain (codes "bytes " ++ text)
unfolding words_line
bytes_plain text = refl

hangup_plain : (text : List ℕ) → IsPlain (codes "hangup " ++ text)
unfolding words_line
hangup_plain text = refl

deliver_plain : (text : List ℕ) → IsPlain (codes "deliver " ++ text)
unfolding words_line
deliver_plain text = refl

settle_plain : (text : List ℕ) → IsPlain (codes "settle " ++ text)
unfolding words_line
settle_plain text = refl

crash_plain : (text : List ℕ) → IsPlain (codes "crash " ++ text)
unfolding words_line
crash_plain text = refl

start_plain : (text : List ℕ) → IsPlain (codes "start " ++ text)
unfolding words_line
start_plain text = refl

put_plain : (text : List ℕ) → IsPlain (codes "put " ++ text)
unfolding words_line
put_plain text = refl

take_plain : (text : List ℕ) → IsPlain (codes "take " ++ text)
unfolding words_line
take_plain text = refl

plain_so : (line text : List ℕ) → line ≡ text → IsPlain text → IsPlain line
plain_so line text e h = rw e h

crash_so : (node pick : ℕ) (line : List ℕ) → IsPaired (codes "crash ") node pick line → IsPlain line
crash_so node pick line h = elim h.parts [
  | inl p ↦ plain_so line (codes "crash " ++ decimal node) p.1 (crash_plain (decimal node))
  | inr p ↦ plain_so line (codes "crash " ++ (decimal node ++ (codes " " ++ decimal pick))) p (crash_plain (decimal node ++ (codes " " ++ decimal pick)))
]

-- the text of an event is read as one
event_plain : (event : Event) (line : List ℕ) → IsEvent event line → IsPlain line
event_plain (Timeout node) line h = plain_so line (codes "timeout " ++ decimal node) h.parts (timeout_plain (decimal node))
event_plain (Beat node) line h = plain_so line (codes "beat " ++ decimal node) h.parts (beat_plain (decimal node))
event_plain (Connect node connection) line h = plain_so line (codes "connect " ++ (decimal node ++ (codes " " ++ decimal connection))) h.parts (connect_plain (decimal node ++ (codes " " ++ decimal connection)))
event_plain (Bytes connection bytes) line h = plain_so line (codes "bytes " ++ (decimal connection ++ (codes " " ++ h.digits))) h.parts (bytes_plain (decimal connection ++ (codes " " ++ h.digits)))
event_plain (Hangup connection) line h = plain_so line (codes "hangup " ++ decimal connection) h.parts (hangup_plain (decimal connection))
event_plain (Deliver message) line h = plain_so line (codes "deliver " ++ decimal message) h.parts (deliver_plain (decimal message))
event_plain (Settle count) line h = plain_so line (codes "settle " ++ decimal count) h.numbered.parts (settle_plain (decimal count))
event_plain (Crash node pick) line h = crash_so node pick line h
event_plain (Start node) line h = plain_so line (codes "start " ++ decimal node) h.parts (start_plain (decimal node))
event_plain (Put bytes) line h = plain_so line (codes "put " ++ h.digits) h.parts (put_plain h.digits)
event_plain (Take machine) line h = plain_so line (codes "take " ++ decimal machine) h.parts (take_plain (decimal machine))

nodes_again : (voters spare : ℕ) (text : List ℕ) → one_or_two text ≡ Some (voters, spare) → 1 ≤ voters → voters ≤ 7 → voters + spare ≤ 9
    → nodes_of text ≡ Some (says.Nodes voters spare)
unfolding nodes_of
nodes_again voters spare text e some few all = rw (e, le-leb 1 voters some, le-leb voters 7 few, le-leb (voters + spare) 9 all) refl

nodes_are_read : (voters spare : ℕ) (line : List ℕ) → IsNodes voters spare line → said_by line ≡ Some (says.Nodes voters spare)
nodes_are_read voters spare line h = elim h.paired.parts [
  | inl p ↦
      let two : one_or_two (decimal voters) ≡ Some (voters, spare) = rw p.0 (one_again voters h.paired.first_in_range) in
      ap said_by p.1 ∙ nodes_read (decimal voters) ∙ nodes_again voters spare (decimal voters) two h.some h.few h.all
  | inr p ↦
      let text = decimal voters ++ (codes " " ++ decimal spare) in
      ap said_by p ∙ nodes_read text ∙ nodes_again voters spare text (two_again voters spare h.paired.first_in_range h.paired.second_in_range) h.some h.few h.all
]

call_again : (call : ℕ) → 1 ≤ call → call < 2 ^ 32 → call_of (decimal call) ≡ Some call
call_again call first small = within_again 1 4294967295 call small first (omega arith)

stop_again : (call pick : ℕ) (rest : List ℕ) → 1 ≤ call → call < 2 ^ 32 → pick < 2 ^ 32
    → stop_of (decimal call ++ (codes " " ++ (decimal pick ++ (codes " " ++ rest)))) ≡ Some (Stop call pick, rest)
unfolding stop_of
stop_again call pick rest first small small' =
    rw (halves_of (decimal call) (decimal pick ++ (codes " " ++ rest)) (no_space call small), call_again call first small, halves_of (decimal pick) rest (no_space pick small'), again pick small') refl

fail_again : (call : ℕ) (rest : List ℕ) → 1 ≤ call → call < 2 ^ 32 → fail_of (decimal call ++ (codes " " ++ rest)) ≡ Some (Fail call, rest)
unfolding fail_of
fail_again call rest first small = rw (halves_of (decimal call) rest (no_space call small), call_again call first small) refl

aimed_again : (aim : FaultTarget) (event : Event) (rest : List ℕ) → event_of rest ≡ Some event → may_be_aimed event ≡ true
    → aimed_of (Some (aim, rest)) ≡ Some (says.Event event aim)
unfolding aimed_of
aimed_again aim event rest e may = rw (e, may) refl

aimed_read : (aim : FaultTarget) (event : Event) (line : List ℕ) → IsAimed aim event line → said_by line ≡ Some (says.Event event aim)
aimed_read Nothing event line h = event_plain event line h ∙ ap (option_map plain) (event_read event line h)
aimed_read (Stop call pick) event line h =
    let text = decimal call ++ (codes " " ++ (decimal pick ++ (codes " " ++ h.rest))) in
    ap said_by h.parts ∙ stop_read text ∙ ap aimed_of (stop_again call pick h.rest h.first h.call_in_range h.pick_in_range)
    ∙ aimed_again (Stop call pick) event h.rest (event_read event h.rest h.spelled) h.may
aimed_read (Fail call) event line h =
    let text = decimal call ++ (codes " " ++ h.rest) in
    ap said_by h.parts ∙ fail_read text ∙ ap aimed_of (fail_again call h.rest h.first h.call_in_range)
    ∙ aimed_again (Fail call) event h.rest (event_read event h.rest h.spelled) h.may

text_read : (said : ScriptLine) (line : List ℕ) → IsLineText said line → said_by line ≡ Some said
text_read says.Blank line (inl e) = ap said_by e
text_read says.Blank line (inr (comment, e)) = ap said_by e
text_read (says.Nodes voters spare) line h = nodes_are_read voters spare line h
text_read (says.Pages machines) line h =
    ap said_by h.numbered.parts ∙ pages_read (decimal machines)
    ∙ ap (option_map says.Pages) (within_again 1 9 machines h.numbered.in_range h.at_least h.at_most)
text_read (says.Show number) line h = ap said_by h.parts ∙ show_read (decimal number) ∙ rw (again number h.in_range) refl
text_read (says.Event event aim) line h = aimed_read aim event line h

pub line_read : (said : ScriptLine) (line : List ℕ) → Spells said line → line_of line ≡ Some said
unfolding line_of
line_read said line s =
    let fit : is_fit line ≡ true = and_from (leb (length line) line_limit) (list_all (λ b. ltb b 128) line) (le-leb (length line) line_limit s.short) (ascii_test line s.ascii) in
    rw fit (text_read said line s.text)
