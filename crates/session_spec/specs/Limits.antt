-- What one session's open work means for the others: who has the write lock, and what counts toward the limits.
use Rattle.std.specs.Prelude.{ℕ, ◌+◌, Bool, true, false, not, ◌&&◌, ◌||◌, ◌==◌, nat_lt, nat_le, max, List, [], ◌∷◌, length, map, sum_by, bytes_eq, Option, Some, None, if◌then◌else◌}
use Rattle.std.specs.List.{list_any, flat_map}
use Rattle.dq_base.specs.declared.images.Image.{Image}
use Rattle.dq_base.specs.declared.pages.NumberedPage.{NumberedPage}
use Rattle.dq_base.specs.Images.{page_count}
use Rattle.session_spec.specs.Causes.{Cause, Locked, OutOfDate, DatabaseFull}
use Rattle.session_spec.specs.Machine.{Machine, is_named, with_name}
use Rattle.session_spec.specs.Engines.{takes}
use Rattle.session_spec.specs.Sessions.{Kind, Opening, Configuring, Writing, Committing, Querying, Flight, Transaction, Session, Gateway, View}

-- ---- the write lock

-- the proposal changes the pages of its database
abbrev pub is_write : Kind → Bool
is_write Opening = false
is_write (Configuring short) = false
is_write (Writing reply) = true
is_write Committing = true
is_write (Querying statement) = false

abbrev pub writes_to : Option Flight → List ℕ → Bool
writes_to None name = false
writes_to (Some f) name = is_write f.kind && bytes_eq f.name name

abbrev pub holds_write_lock : Option Transaction → List ℕ → Bool
holds_write_lock None name = false
holds_write_lock (Some x) name = x.turn && bytes_eq x.name name

-- The session has the write lock of the database: by a proposal, or by its transaction.
unfoldable pub holds : Session → List ℕ → Bool
holds s name = writes_to s.flight name || holds_write_lock s.tx name

-- another session has it
unfoldable pub other_holds : Gateway → ℕ → List ℕ → Bool
other_holds g conn name = list_any (λ (other : ℕ). not (other == conn) && holds (g.session other) name) g.conns

-- ---- changes of the cluster

abbrev pub configures : Kind → Bool
configures Opening = false
configures (Configuring short) = true
configures (Writing reply) = false
configures Committing = false
configures (Querying statement) = false

abbrev pub is_configuring : Option Flight → Bool
is_configuring None = false
is_configuring (Some f) = configures f.kind

-- some session's change of the cluster is pending
unfoldable pub change_in_flight : Gateway → Bool
change_in_flight g = list_any (λ (conn : ℕ). is_configuring (g.session conn).flight) g.conns

-- ---- databases

abbrev pub opens : Kind → List ℕ → List (List ℕ)
opens Opening name = name ∷ []
opens (Configuring short) name = []
opens (Writing reply) name = []
opens Committing name = []
opens (Querying statement) name = []

-- the new database of a proposal
abbrev pub opened_by : Option Flight → List (List ℕ)
opened_by None = []
opened_by (Some f) = opens f.kind f.name

abbrev pub with_names : List (List ℕ) → List (List ℕ) → List (List ℕ)
with_names names [] = names
with_names names (new ∷ others) = with_names (with_name new names) others

-- the databases that there are, with those that are proposed
unfoldable pub all_names : Machine → Gateway → List (List ℕ)
all_names m g = with_names m.names (flat_map (λ (conn : ℕ). opened_by (g.session conn).flight) g.conns)

-- with this one there would be more than 16
unfoldable pub one_too_many : Machine → Gateway → List ℕ → Bool
one_too_many m g name = not (is_named (all_names m g) name) && nat_le 16 (length (all_names m g))

-- ---- pages and the log

-- how many pages a proposal gives a database
abbrev pub flown_by : Option Flight → List ℕ → ℕ
flown_by None name = 0
flown_by (Some f) name = if writes_to (Some f) name then f.pages else 0

abbrev pub most : List ℕ → ℕ
most [] = 0
most (n ∷ ns) = max n (most ns)

-- the most pages that a pending proposal gives a database
unfoldable pub pending_pages : Gateway → List ℕ → ℕ
pending_pages g name = most (map (λ (conn : ℕ). flown_by (g.session conn).flight name) g.conns)

-- the pages of a database: of its newest image, or of its pending proposal, whichever has more
abbrev pub held_pages : Machine → Gateway → List ℕ → ℕ
held_pages m g name = max (page_count (m.base name).image) (pending_pages g name)

-- the pages of all databases, also of those that are proposed, if this one has this many
unfoldable pub pages_with : Machine → Gateway → List ℕ → ℕ → ℕ
pages_with m g name pages = max (held_pages m g name) pages + sum_by (λ (other : List ℕ). if bytes_eq other name then 0 else held_pages m g other) (all_names m g)

-- with this image all databases would have more than 16,384 pages together
abbrev pub pages_full : Machine → Gateway → List ℕ → Image → Bool
pages_full m g name to = nat_lt 16384 (pages_with m g name (page_count to))

-- the same for a change of pages, or the pages can't be applied
unfoldable pub too_full : Machine → Gateway → List ℕ → List NumberedPage → Image → Bool
too_full m g name pages to = not (takes pages) || pages_full m g name to

-- nothing more is appended to a log of this length
abbrev pub log_full : View → Bool
log_full v = nat_le 4294900000 v.last

-- ---- what hinders a change of pages

-- the first cause that holds
abbrev pub first_cause : Bool → Cause → Option Cause → Option Cause
first_cause holds cause others = if holds then Some cause else others

-- What hinders a change of pages of a database: another session has the write lock; there were commits since the image was
-- pinned, when there were this many; or there would be too many pages.
unfoldable pub change_refusal : Machine → Gateway → ℕ → List ℕ → ℕ → List NumberedPage → Image → Option Cause
change_refusal m g conn name mark pages to = first_cause (other_holds g conn name) Locked (first_cause (not ((m.base name).newest == mark)) OutOfDate (first_cause (too_full m g name pages to) DatabaseFull None))

-- the same before a statement ran, whose pages aren't known yet: outside a transaction no image is pinned
abbrev pub hinders_in : Machine → Gateway → ℕ → Session → Option Transaction → Option Cause
hinders_in m g conn s None = first_cause (other_holds g conn s.database) Locked None
hinders_in m g conn s (Some x) = first_cause (other_holds g conn x.name) Locked (first_cause (not ((m.base x.name).newest == x.mark)) OutOfDate None)

-- What hinders a session's write before an engine runs it: its changes would be refused for the write lock, or for an old image.
unfoldable pub write_hindrance : Machine → Gateway → ℕ → Session → Option Cause
write_hindrance m g conn s = hinders_in m g conn s s.tx
