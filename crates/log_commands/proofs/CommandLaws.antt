-- A command is read exactly if the bytes represent it, and commands are prefix-free.
use Rattle.std.proofs.Common.{◌≡◌, ℕ, ◌+◌, ◌<◌, ◌^◌, Bool, true, cond, eqb, leb, inl, inr, List, [], ◌∷◌, ◌++◌, length, Option, Some, None, Result, Ok, Err, refl, sym, ap, subst, ◌∙◌, append_assoc, arith}
use Rattle.std.specs.Prelude.{IfOk}
use Rattle.std.proofs.lemmas.Bool.{eqb-true, leb-true, le-leb}
use Rattle.std.proofs.lemmas.List.{append-nil, nil_from_length}
use Rattle.wire_words.specs.declared.fault.WordFault.TheVariants as word_faults
use Rattle.std.specs.List.{position}
use Rattle.wire_words.specs.Items.{word, text, raw, zeros_after, is_zero, AreBytes}
use Rattle.wire_words.specs.Reading.{◌>>=◌, Unread, unread, word_at, raw_at, text_at}
use Rattle.wire_words.proofs.Choices.{one_of, none_of}
use Rattle.wire_words.proofs.ReadBack.{bind_ok, passed}
use Rattle.log_commands.specs.declared.command.Command.{Command}
use Rattle.log_commands.specs.declared.command.Command.TheVariants.{OpenDb, Frames, Undo, Checkpoint}
use Rattle.log_commands.specs.declared.kind.CommandKind.{CommandKind}
use Rattle.log_commands.specs.declared.kind.CommandKind.TheVariants as kinds
use Rattle.log_commands.specs.declared.fault.CommandFault.{CommandFault}
use Rattle.log_commands.specs.declared.fault.CommandFault.TheVariants.{Format, Tail}
use Rattle.log_commands.specs.Numbers.{frames_fit, numbers_fit}
use Rattle.log_commands.specs.Spelling.{head, frames_bytes, command_bytes, IsTextName, IsInRange, Writes}
use Rattle.dq_base.specs.declared.pages.NumberedPage.{NumberedPage}
use Rattle.log_commands.specs.Reading.{in_command, command_kind, known, kind_of, kind_at, may_be_name, name_at, frames_at, named_frames_at, named_at, undo_at, command_after, command_at, ended, command_of, Gives}
use Rattle.log_commands.proofs.ItemFacts.{in_command_ok, command_is, both_true, is_short, text_ends}
use Rattle.wire_words.proofs.Passing.{Passed, passed_both, between, passed_first, passed_second, bytes_after, word_passed, word_stood, raw_passed, raw_stood, text_passed, text_stood}
use Rattle.log_commands.proofs.FrameLaws.{frames_passed, frames_stood}
use Rattle.log_commands.proofs.Ranges.{few_pages}

-- ---- the head: each type has a case in the proofs below

-- the number of a type
abbrev pub kind_number : CommandKind → ℕ
kind_number kinds.OpenDb = 1
kind_number kinds.Frames = 2
kind_number kinds.Undo = 3
kind_number kinds.Checkpoint = 4

number_is : (n number : ℕ) (one kind : CommandKind) → (eqb n number ≡ true) × (one ≡ kind) → kind_number one ≡ number → n ≡ kind_number kind
number_is n number one kind e is = eqb-true n number e.0 ∙ sym is ∙ ap kind_number e.1

known_number : (n : ℕ) (kind : CommandKind) → command_kind n ≡ Some kind → n ≡ kind_number kind
known_number n kind e =
    elim (one_of (eqb n 1) kinds.OpenDb (cond (eqb n 2) (Some kinds.Frames) (cond (eqb n 3) (Some kinds.Undo) (cond (eqb n 4) (Some kinds.Checkpoint) None))) kind e) [
      | inl is ↦ number_is n 1 kinds.OpenDb kind is refl
      | inr e ↦ elim (one_of (eqb n 2) kinds.Frames (cond (eqb n 3) (Some kinds.Undo) (cond (eqb n 4) (Some kinds.Checkpoint) None)) kind e) [
        | inl is ↦ number_is n 2 kinds.Frames kind is refl
        | inr e ↦ elim (one_of (eqb n 3) kinds.Undo (cond (eqb n 4) (Some kinds.Checkpoint) None) kind e) [
          | inl is ↦ number_is n 3 kinds.Undo kind is refl
          | inr e ↦ elim (one_of (eqb n 4) kinds.Checkpoint None kind e) [
            | inl is ↦ number_is n 4 kinds.Checkpoint kind is refl
            | inr e ↦ none_of kind (n ≡ kind_number kind) e
          ]
        ]
      ]
    ]

known_ok : (known_kind : Option CommandKind) (kind : CommandKind) → known known_kind ≡ Ok kind → known_kind ≡ Some kind
known_ok None kind e = absurd cc
known_ok (Some one) kind e = ap (λ (k : CommandKind). Some k) (command_is one kind e)

-- the first two bytes of a command
head_bytes : (item rest : List ℕ) (kind : CommandKind) → length item ≡ 2 → kind_of (item ++ rest) ≡ Ok kind → item ≡ 1 ∷ kind_number kind ∷ []
head_bytes [] rest kind len e = absurd cc
head_bytes (format ∷ []) rest kind len e = absurd cc
head_bytes (format ∷ number ∷ []) rest kind len e =
    let a = passed (eqb format 1) Format (known (command_kind number)) kind e in
    rw (eqb-true format 1 a.0, known_number number kind (known_ok (command_kind number) kind a.1)) refl
head_bytes (format ∷ number ∷ other ∷ others) rest kind len e = absurd (omega arith)

head_passed : (kind : CommandKind) (old new : Unread) → kind_at old ≡ Ok (kind, new) → Passed (head (kind_number kind)) old new
unfolding kind_at
head_passed kind old new e =
    let a = bind_ok (kind_of old.bytes) (λ k. in_command (raw_at 2 old) >>= λ item. Ok (k, item.1)) (kind, new) e in
    let b = bind_ok (in_command (raw_at 2 old)) (λ item. Ok (a.0, item.1)) (kind, new) a.2 in
    let made : CommandKind × Unread = (a.0, b.0.1) in
    let item = b.0.0 in
    let p = raw_passed 2 old b.0.1 item (in_command_ok (raw_at 2 old) b.0 b.1) in
    let begins : old.bytes ≡ item ++ (zeros_after (length item) ++ b.0.1.bytes) = p.1.parts ∙ append_assoc item (zeros_after (length item)) b.0.1.bytes in
    let bytes : item ≡ 1 ∷ kind_number a.0 ∷ [] = head_bytes item (zeros_after (length item) ++ b.0.1.bytes) a.0 p.0 (sym (ap kind_of begins) ∙ a.1) in
    subst (λ (x : CommandKind × Unread). Passed (head (kind_number x.0)) old x.1) (command_is made (kind, new) b.2) (subst (λ (x : List ℕ). Passed (raw x) old b.0.1) bytes p.1)

head_stood : (kind : CommandKind) (old new : Unread) → Passed (head (kind_number kind)) old new → kind_at old ≡ Ok (kind, new)
unfolding kind_at
head_stood kinds.OpenDb old new p = rw (ap kind_of p.parts, raw_stood 2 old new (1 ∷ 1 ∷ []) refl p) refl
head_stood kinds.Frames old new p = rw (ap kind_of p.parts, raw_stood 2 old new (1 ∷ 2 ∷ []) refl p) refl
head_stood kinds.Undo old new p = rw (ap kind_of p.parts, raw_stood 2 old new (1 ∷ 3 ∷ []) refl p) refl
head_stood kinds.Checkpoint old new p = rw (ap kind_of p.parts, raw_stood 2 old new (1 ∷ 4 ∷ []) refl p) refl

-- ---- the name

name_passed : (old new : Unread) (t : List ℕ) → name_at old ≡ Ok (t, new) → IsTextName t × Passed (text t) old new
unfolding name_at
name_passed old new t e =
    let a = passed (may_be_name (position is_zero old.bytes)) (word_faults.Short old.at) (text_at old) (t, new) e in
    let short : is_short t ≡ true = subst (λ (place : Option ℕ). may_be_name place ≡ true) (text_ends old new t a.1) a.0 in
    let both = both_true (leb 1 (length t)) (leb (length t) 255) short in
    let read = text_passed old new t a.1 in
    ((record { not_empty = omega (arith, leb-true 1 (length t) both.0); short = leb-true (length t) 255 both.1; no_nul = read.1 }, read.0), read.2)

name_stood : (old new : Unread) (t : List ℕ) → IsTextName t → Passed (text t) old new → name_at old ≡ Ok (t, new)
unfolding name_at
name_stood old new t name p =
    let e = text_stood old new t name.1 name.0.no_nul p in
    rw (text_ends old new t e, le-leb 1 (length t) (omega (arith, name.0.not_empty)), le-leb (length t) 255 name.0.short) e

-- ---- the rest: each type of command has a case in the proofs below

abbrev kind_from : Command → CommandKind
kind_from (OpenDb name) = kinds.OpenDb
kind_from (Frames name tx truncate commit pages) = kinds.Frames
kind_from (Undo tx) = kinds.Undo
kind_from (Checkpoint name) = kinds.Checkpoint

-- what follows the head
abbrev rest_bytes : Command → List ℕ
rest_bytes (OpenDb name) = text name
rest_bytes (Frames name tx truncate commit pages) = text name ++ frames_bytes tx truncate commit pages
rest_bytes (Undo tx) = word tx
rest_bytes (Checkpoint name) = text name

two_parts : (command : Command) → head (kind_number (kind_from command)) ++ rest_bytes command ≡ command_bytes command
two_parts (OpenDb name) = refl
two_parts (Frames name tx truncate commit pages) = refl
two_parts (Undo tx) = refl
two_parts (Checkpoint name) = refl

record PassedRest (kind : CommandKind) (command : Command) (old new : Unread) : Type 0 where
  pub is_kind : kind ≡ kind_from command
  pub range : IsInRange command
  pub fits : numbers_fit command ≡ true
  pub stood : Passed (rest_bytes command) old new

-- a command that has a name alone
record PassedNamed (make : List ℕ → Command) (command : Command) (old new : Unread) : Type 0 where
  pub name : List ℕ
  pub is : make name ≡ command
  pub fits : IsTextName name
  pub stood : Passed (text name) old new

named_passed : (make : List ℕ → Command) (old new : Unread) (command : Command) → named_at make old ≡ Ok (command, new) → PassedNamed make command old new
unfolding named_at
named_passed make old new command e =
    let a = bind_ok (in_command (name_at old)) (λ name. Ok (make name.0, name.1)) (command, new) e in
    let p = name_passed old a.0.1 a.0.0 (in_command_ok (name_at old) a.0 a.1) in
    let made : Command × Unread = (make a.0.0, a.0.1) in
    subst (λ (x : Command × Unread). PassedNamed make x.0 old x.1) (command_is made (command, new) a.2)
    (record { name = a.0.0; is = refl; fits = p.0; stood = p.1 })

named_stood : (make : List ℕ → Command) (name : List ℕ) (old new : Unread) → IsTextName name → Passed (text name) old new → named_at make old ≡ Ok (make name, new)
unfolding named_at
named_stood make name old new fits p = rw (name_stood old new name fits p) refl

named_frames_passed : (old new : Unread) (command : Command) → AreBytes old.bytes → named_frames_at old ≡ Ok (command, new) → PassedRest kinds.Frames command old new
unfolding named_frames_at
named_frames_passed old new command fits e =
    let a = bind_ok (in_command (name_at old)) (λ name. frames_at name.0 name.1) (command, new) e in
    let name = name_passed old a.0.1 a.0.0 (in_command_ok (name_at old) a.0 a.1) in
    let p = frames_passed a.0.0 a.0.1 new command (bytes_after (text a.0.0) old a.0.1 name.1 fits) a.2 in
    let stood = passed_both old a.0.1 new (text a.0.0) (frames_bytes p.tx p.truncate p.commit p.pages) name.1 p.stood in
    subst (λ (c : Command). PassedRest kinds.Frames c old new) p.is
    (record { is_kind = refl; range = (name.0, p.tx_fits, p.truncate_fits, p.numbers, p.sizes); fits = p.fits; stood = stood })

named_frames_stood : (name : List ℕ) (tx truncate : ℕ) (commit : Bool) (pages : List NumberedPage) (old new : Unread) → IsInRange (Frames name tx truncate commit pages) → frames_fit truncate commit pages ≡ true
    → Passed (text name ++ frames_bytes tx truncate commit pages) old new → named_frames_at old ≡ Ok (Frames name tx truncate commit pages, new)
unfolding named_frames_at
named_frames_stood name tx truncate commit pages old new range fits p =
    let rest = frames_bytes tx truncate commit pages in
    let mid = between old (text name) rest new in
    let name_read = name_stood old mid name range.0 (passed_first old new (text name) rest p) in
    rw name_read (frames_stood name tx truncate commit pages mid new range.1 range.2 (few_pages truncate commit pages fits) range.3 range.4 fits (passed_second old new (text name) rest p))

undo_passed : (old new : Unread) (command : Command) → AreBytes old.bytes → undo_at old ≡ Ok (command, new) → PassedRest kinds.Undo command old new
unfolding undo_at
undo_passed old new command fits e =
    let a = bind_ok (in_command (word_at old)) (λ tx. Ok (Undo tx.0, tx.1)) (command, new) e in
    let p = word_passed old a.0.1 a.0.0 fits (in_command_ok (word_at old) a.0 a.1) in
    let made : Command × Unread = (Undo a.0.0, a.0.1) in
    subst (λ (x : Command × Unread). PassedRest kinds.Undo x.0 old x.1) (command_is made (command, new) a.2)
    (record { is_kind = refl; range = p.0; fits = refl; stood = p.1 })

undo_stood : (tx : ℕ) (old new : Unread) → tx < 2 ^ 64 → Passed (word tx) old new → undo_at old ≡ Ok (Undo tx, new)
unfolding undo_at
undo_stood tx old new fits p = rw (word_stood old new tx fits p) refl

rest_passed : (kind : CommandKind) (old new : Unread) (command : Command) → AreBytes old.bytes → command_after kind old ≡ Ok (command, new) → PassedRest kind command old new
rest_passed kinds.OpenDb old new command fits e =
    let p = named_passed (λ name. OpenDb name) old new command e in
    subst (λ (c : Command). PassedRest kinds.OpenDb c old new) p.is (record { is_kind = refl; range = p.fits; fits = refl; stood = p.stood })
rest_passed kinds.Frames old new command fits e = named_frames_passed old new command fits e
rest_passed kinds.Undo old new command fits e = undo_passed old new command fits e
rest_passed kinds.Checkpoint old new command fits e =
    let p = named_passed (λ name. Checkpoint name) old new command e in
    subst (λ (c : Command). PassedRest kinds.Checkpoint c old new) p.is (record { is_kind = refl; range = p.fits; fits = refl; stood = p.stood })

rest_stood : (command : Command) (old new : Unread) → IsInRange command → numbers_fit command ≡ true → Passed (rest_bytes command) old new
    → command_after (kind_from command) old ≡ Ok (command, new)
rest_stood (OpenDb name) old new range fits p = named_stood (λ name. OpenDb name) name old new range p
rest_stood (Frames name tx truncate commit pages) old new range fits p = named_frames_stood name tx truncate commit pages old new range fits p
rest_stood (Undo tx) old new range fits p = undo_stood tx old new range p
rest_stood (Checkpoint name) old new range fits p = named_stood (λ name. Checkpoint name) name old new range p

-- ---- a command

-- a command was between two states of a reader
pub record PassedCommand (command : Command) (old new : Unread) : Type 0 where
  pub range : IsInRange command
  pub fits : numbers_fit command ≡ true
  pub stood : Passed (command_bytes command) old new

pub command_passed : (command : Command) (old new : Unread) → AreBytes old.bytes → command_at old ≡ Ok (command, new) → PassedCommand command old new
unfolding command_at
command_passed command old new fits e =
    let a = bind_ok (kind_at old) (λ kind. command_after kind.0 kind.1) (command, new) e in
    let head_part = head_passed a.0.0 old a.0.1 a.1 in
    let rest = rest_passed a.0.0 a.0.1 new command (bytes_after (head (kind_number a.0.0)) old a.0.1 head_part fits) a.2 in
    let whole = passed_both old a.0.1 new (head (kind_number a.0.0)) (rest_bytes command) head_part rest.stood in
    let spelled : head (kind_number a.0.0) ++ rest_bytes command ≡ command_bytes command =
    ap (λ (k : CommandKind). head (kind_number k) ++ rest_bytes command) rest.is_kind ∙ two_parts command in
    record { range = rest.range; fits = rest.fits; stood = subst (λ (x : List ℕ). Passed x old new) spelled whole }

pub command_stood : (command : Command) (old new : Unread) → PassedCommand command old new → command_at old ≡ Ok (command, new)
unfolding command_at
command_stood command old new c =
    let front = head (kind_number (kind_from command)) in
    let rest = rest_bytes command in
    let p : Passed (front ++ rest) old new = subst (λ (x : List ℕ). Passed x old new) (sym (two_parts command)) c.stood in
    let mid = between old front rest new in
    let kind_read = head_stood (kind_from command) old mid (passed_first old new front rest p) in
    rw kind_read (rest_stood command mid new c.range c.fits (passed_second old new front rest p))

-- ---- all of the bytes

pub command_found : (command : Command) (bytes : List ℕ) → AreBytes bytes → command_of bytes ≡ Ok command → Writes command bytes
unfolding command_of
command_found command bytes fits e =
    let a = bind_ok (command_at (unread bytes)) ended command e in
    let b = passed (eqb (length a.0.1.bytes) 0) Tail (Ok a.0.0) command a.2 in
    let end : a.0.1.bytes ≡ [] = nil_from_length a.0.1.bytes (eqb-true (length a.0.1.bytes) 0 b.0) in
    let c = command_passed a.0.0 (unread bytes) a.0.1 fits a.1 in
    let parts : bytes ≡ command_bytes a.0.0 = c.stood.parts ∙ ap (λ (x : List ℕ). command_bytes a.0.0 ++ x) end ∙ append-nil (command_bytes a.0.0) in
    subst (λ (x : Command). Writes x bytes) (command_is a.0.0 command b.1) (record { in_range = c.range; fits = c.fits; parts = parts })

-- what is left after a command
abbrev behind : List ℕ → List ℕ → Unread
behind bytes rest = record { at = 0 + length bytes; bytes = rest }

read_before : (command : Command) (bytes rest : List ℕ) → Writes command bytes → command_at (unread (bytes ++ rest)) ≡ Ok (command, behind bytes rest)
read_before command bytes rest w =
    command_stood command (unread (bytes ++ rest)) (behind bytes rest) (record {
      range = w.in_range;
      fits = w.fits;
      stood = record { parts = ap (λ (x : List ℕ). x ++ rest) w.parts; place = ap (λ (x : List ℕ). 0 + length x) w.parts };
    })

pub command_read : (command : Command) (bytes : List ℕ) → Writes command bytes → command_of bytes ≡ Ok command
unfolding command_of
command_read command bytes w =
    let read : command_at (unread bytes) ≡ Ok (command, behind bytes []) = ap (λ (x : List ℕ). command_at (unread x)) (sym (append-nil bytes)) ∙ read_before command bytes [] w in
    rw read refl

pub is_found : (bytes : List ℕ) (result : Result Command CommandFault) → AreBytes bytes → Gives (command_of bytes) result → IfOk result (λ command. Writes command bytes)
is_found bytes (Ok command) fits given = command_found command bytes fits given
is_found bytes (Err fault) fits given = tt

pub is_only : (bytes : List ℕ) (result : Result Command CommandFault) → Gives (command_of bytes) result → (command : Command) → Writes command bytes → Gives (Ok command) result
is_only bytes result given command w = subst (λ (reading : Result Command CommandFault). Gives reading result) (command_read command bytes w) given

-- ---- two commands at the front of the same bytes

pub stand_apart : (command other : Command) (bytes other_bytes rest other_rest : List ℕ) → Writes command bytes → Writes other other_bytes → bytes ++ rest ≡ other_bytes ++ other_rest → (command ≡ other) × (rest ≡ other_rest)
stand_apart command other bytes other_bytes rest other_rest w v e =
    let one = read_before command bytes rest w in
    let two = read_before other other_bytes other_rest v in
    let first : Command × Unread = (command, behind bytes rest) in
    let second : Command × Unread = (other, behind other_bytes other_rest) in
    let same : first ≡ second = command_is first second (sym one ∙ ap (λ (x : List ℕ). command_at (unread x)) e ∙ two) in
    (ap (λ (x : Command × Unread). x.0) same, ap (λ (x : Command × Unread). x.1.bytes) same)

pub no_prefix : (command other : Command) (bytes other_bytes rest : List ℕ) → Writes command bytes → Writes other other_bytes → bytes ++ rest ≡ other_bytes → rest ≡ []
no_prefix command other bytes other_bytes rest w v e =
    (stand_apart command other bytes other_bytes rest [] w v (e ∙ sym (append-nil other_bytes))).1
