-- What is seen if no node goes down is all that happens; and what is asked, answered and shown in a history.
use Rattle.std.proofs.Common.{◌≡◌, ℕ, zero, suc, Bool, true, false, true≢false, List, [], ◌∷◌, sym, ap, ◌∙◌, subst}
use Rattle.std.specs.Prelude.{Option, Some, slice_get}
use Rattle.wire_msgs.specs.declared.request.Request.{Request}
use Rattle.wire_msgs.specs.declared.response.Response.{Response}
use Rattle.sql_engine.specs.Meanings.{Meaning}
use Rattle.headline.specs.Headline.{NodeView, Observation, Asks, Answers, Shows, Closes, GoesDown, SeenOf, HoldsOfAll, HeadlineHolds}

-- no node goes down
abbrev pub quiet : List Observation → Bool
quiet [] = true
quiet (Asks node conn request ∷ h) = quiet h
quiet (Answers node conn answer ∷ h) = quiet h
quiet (Shows node view ∷ h) = quiet h
quiet (Closes conn ∷ h) = quiet h
quiet (GoesDown node ∷ h) = false

pub seen_all : (h all : List Observation) → quiet h ≡ true → SeenOf h all → all ≡ h
seen_all [] all q e = e
seen_all (Asks node conn request ∷ h) all q (rest, is, more) = is ∙ ap (λ r. Asks node conn request ∷ r) (seen_all h rest q more)
seen_all (Answers node conn answer ∷ h) all q (rest, is, more) = is ∙ ap (λ r. Answers node conn answer ∷ r) (seen_all h rest q more)
seen_all (Shows node view ∷ h) all q (rest, is, more) = is ∙ ap (λ r. Shows node view ∷ r) (seen_all h rest q more)
seen_all (Closes conn ∷ h) all q (rest, is, more) = is ∙ ap (λ r. Closes conn ∷ r) (seen_all h rest q more)
seen_all (GoesDown node ∷ h) all q s = absurd (true≢false (sym q))

pub held : (m : Meaning) (h : List Observation) → quiet h ≡ true → HeadlineHolds m h → HoldsOfAll m h
held m h q x = subst (HoldsOfAll m) (seen_all h x.all q x.is_seen) x.holds

-- a fact of each message, with its place
abbrev pub AllAsks : (ℕ → ℕ → ℕ → Option Request → Type 0) → List Observation → Type 0
AllAsks P [] = Unit {0}
AllAsks P (Asks node conn request ∷ h) = P zero node conn request × AllAsks (λ place. P (suc place)) h
AllAsks P (Answers node conn answer ∷ h) = AllAsks (λ place. P (suc place)) h
AllAsks P (Shows node view ∷ h) = AllAsks (λ place. P (suc place)) h
AllAsks P (Closes conn ∷ h) = AllAsks (λ place. P (suc place)) h
AllAsks P (GoesDown node ∷ h) = AllAsks (λ place. P (suc place)) h

pub each_ask : (P : ℕ → ℕ → ℕ → Option Request → Type 0) (h : List Observation) → AllAsks P h → (place node conn : ℕ) (request : Option Request) →
    slice_get h place ≡ Some (Asks node conn request) → P place node conn request
each_ask P [] all place node conn request e = absurd cc
each_ask P (Asks n c r ∷ h) (first, all) zero node conn request e =
    let u : n ≡ node = cc in let v : c ≡ conn = cc in let w : r ≡ request = cc in
    subst (λ x. P zero x conn request) u (subst (λ x. P zero n x request) v (subst (λ x. P zero n c x) w first))
each_ask P (Asks n c r ∷ h) (first, all) (suc place) node conn request e = each_ask (λ p. P (suc p)) h all place node conn request e
each_ask P (Answers n c a ∷ h) all zero node conn request e = absurd cc
each_ask P (Answers n c a ∷ h) all (suc place) node conn request e = each_ask (λ p. P (suc p)) h all place node conn request e
each_ask P (Shows n v ∷ h) all zero node conn request e = absurd cc
each_ask P (Shows n v ∷ h) all (suc place) node conn request e = each_ask (λ p. P (suc p)) h all place node conn request e
each_ask P (Closes c ∷ h) all zero node conn request e = absurd cc
each_ask P (Closes c ∷ h) all (suc place) node conn request e = each_ask (λ p. P (suc p)) h all place node conn request e
each_ask P (GoesDown n ∷ h) all zero node conn request e = absurd cc
each_ask P (GoesDown n ∷ h) all (suc place) node conn request e = each_ask (λ p. P (suc p)) h all place node conn request e

-- a fact of each answer, with its place
abbrev pub AllAnswers : (ℕ → ℕ → ℕ → List Response → Type 0) → List Observation → Type 0
AllAnswers P [] = Unit {0}
AllAnswers P (Asks node conn request ∷ h) = AllAnswers (λ place. P (suc place)) h
AllAnswers P (Answers node conn answer ∷ h) = P zero node conn answer × AllAnswers (λ place. P (suc place)) h
AllAnswers P (Shows node view ∷ h) = AllAnswers (λ place. P (suc place)) h
AllAnswers P (Closes conn ∷ h) = AllAnswers (λ place. P (suc place)) h
AllAnswers P (GoesDown node ∷ h) = AllAnswers (λ place. P (suc place)) h

pub each_answer : (P : ℕ → ℕ → ℕ → List Response → Type 0) (h : List Observation) → AllAnswers P h → (place node conn : ℕ) (answer : List Response) →
    slice_get h place ≡ Some (Answers node conn answer) → P place node conn answer
each_answer P [] all place node conn answer e = absurd cc
each_answer P (Answers n c a ∷ h) (first, all) zero node conn answer e =
    let u : n ≡ node = cc in let v : c ≡ conn = cc in let w : a ≡ answer = cc in
    subst (λ x. P zero x conn answer) u (subst (λ x. P zero n x answer) v (subst (λ x. P zero n c x) w first))
each_answer P (Answers n c a ∷ h) (first, all) (suc place) node conn answer e = each_answer (λ p. P (suc p)) h all place node conn answer e
each_answer P (Asks n c r ∷ h) all zero node conn answer e = absurd cc
each_answer P (Asks n c r ∷ h) all (suc place) node conn answer e = each_answer (λ p. P (suc p)) h all place node conn answer e
each_answer P (Shows n v ∷ h) all zero node conn answer e = absurd cc
each_answer P (Shows n v ∷ h) all (suc place) node conn answer e = each_answer (λ p. P (suc p)) h all place node conn answer e
each_answer P (Closes c ∷ h) all zero node conn answer e = absurd cc
each_answer P (Closes c ∷ h) all (suc place) node conn answer e = each_answer (λ p. P (suc p)) h all place node conn answer e
each_answer P (GoesDown n ∷ h) all zero node conn answer e = absurd cc
each_answer P (GoesDown n ∷ h) all (suc place) node conn answer e = each_answer (λ p. P (suc p)) h all place node conn answer e

-- a fact of each state that a node shows, with its place
abbrev pub AllShows : (ℕ → ℕ → NodeView → Type 0) → List Observation → Type 0
AllShows P [] = Unit {0}
AllShows P (Asks node conn request ∷ h) = AllShows (λ place. P (suc place)) h
AllShows P (Answers node conn answer ∷ h) = AllShows (λ place. P (suc place)) h
AllShows P (Shows node view ∷ h) = P zero node view × AllShows (λ place. P (suc place)) h
AllShows P (Closes conn ∷ h) = AllShows (λ place. P (suc place)) h
AllShows P (GoesDown node ∷ h) = AllShows (λ place. P (suc place)) h

pub each_show : (P : ℕ → ℕ → NodeView → Type 0) (h : List Observation) → AllShows P h → (place node : ℕ) (view : NodeView) →
    slice_get h place ≡ Some (Shows node view) → P place node view
each_show P [] all place node view e = absurd cc
each_show P (Shows n v ∷ h) (first, all) zero node view e =
    let u : n ≡ node = cc in let w : v ≡ view = cc in subst (λ x. P zero x view) u (subst (λ x. P zero n x) w first)
each_show P (Shows n v ∷ h) (first, all) (suc place) node view e = each_show (λ p. P (suc p)) h all place node view e
each_show P (Asks n c r ∷ h) all zero node view e = absurd cc
each_show P (Asks n c r ∷ h) all (suc place) node view e = each_show (λ p. P (suc p)) h all place node view e
each_show P (Answers n c a ∷ h) all zero node view e = absurd cc
each_show P (Answers n c a ∷ h) all (suc place) node view e = each_show (λ p. P (suc p)) h all place node view e
each_show P (Closes c ∷ h) all zero node view e = absurd cc
each_show P (Closes c ∷ h) all (suc place) node view e = each_show (λ p. P (suc p)) h all place node view e
each_show P (GoesDown n ∷ h) all zero node view e = absurd cc
each_show P (GoesDown n ∷ h) all (suc place) node view e = each_show (λ p. P (suc p)) h all place node view e

-- a fact of each place at which a node goes down
abbrev pub AllDown : (ℕ → ℕ → Type 0) → List Observation → Type 0
AllDown P [] = Unit {0}
AllDown P (Asks node conn request ∷ h) = AllDown (λ place. P (suc place)) h
AllDown P (Answers node conn answer ∷ h) = AllDown (λ place. P (suc place)) h
AllDown P (Shows node view ∷ h) = AllDown (λ place. P (suc place)) h
AllDown P (Closes conn ∷ h) = AllDown (λ place. P (suc place)) h
AllDown P (GoesDown node ∷ h) = P zero node × AllDown (λ place. P (suc place)) h

pub each_down : (P : ℕ → ℕ → Type 0) (h : List Observation) → AllDown P h → (place node : ℕ) → slice_get h place ≡ Some (GoesDown node) → P place node
each_down P [] all place node e = absurd cc
each_down P (GoesDown n ∷ h) (first, all) zero node e = let u : n ≡ node = cc in subst (λ x. P zero x) u first
each_down P (GoesDown n ∷ h) (first, all) (suc place) node e = each_down (λ p. P (suc p)) h all place node e
each_down P (Shows n v ∷ h) all zero node e = absurd cc
each_down P (Shows n v ∷ h) all (suc place) node e = each_down (λ p. P (suc p)) h all place node e
each_down P (Asks n c r ∷ h) all zero node e = absurd cc
each_down P (Asks n c r ∷ h) all (suc place) node e = each_down (λ p. P (suc p)) h all place node e
each_down P (Answers n c a ∷ h) all zero node e = absurd cc
each_down P (Answers n c a ∷ h) all (suc place) node e = each_down (λ p. P (suc p)) h all place node e
each_down P (Closes c ∷ h) all zero node e = absurd cc
each_down P (Closes c ∷ h) all (suc place) node e = each_down (λ p. P (suc p)) h all place node e

-- no connection is closed
abbrev pub AllCloses : (ℕ → ℕ → Type 0) → List Observation → Type 0
AllCloses P [] = Unit {0}
AllCloses P (Asks node conn request ∷ h) = AllCloses (λ place. P (suc place)) h
AllCloses P (Answers node conn answer ∷ h) = AllCloses (λ place. P (suc place)) h
AllCloses P (Shows node view ∷ h) = AllCloses (λ place. P (suc place)) h
AllCloses P (Closes conn ∷ h) = P zero conn × AllCloses (λ place. P (suc place)) h
AllCloses P (GoesDown node ∷ h) = AllCloses (λ place. P (suc place)) h

pub each_close : (P : ℕ → ℕ → Type 0) (h : List Observation) → AllCloses P h → (place conn : ℕ) → slice_get h place ≡ Some (Closes conn) → P place conn
each_close P [] all place conn e = absurd cc
each_close P (Closes c ∷ h) (first, all) zero conn e = let u : c ≡ conn = cc in subst (λ x. P zero x) u first
each_close P (Closes c ∷ h) (first, all) (suc place) conn e = each_close (λ p. P (suc p)) h all place conn e
each_close P (Shows n v ∷ h) all zero conn e = absurd cc
each_close P (Shows n v ∷ h) all (suc place) conn e = each_close (λ p. P (suc p)) h all place conn e
each_close P (Asks n c r ∷ h) all zero conn e = absurd cc
each_close P (Asks n c r ∷ h) all (suc place) conn e = each_close (λ p. P (suc p)) h all place conn e
each_close P (Answers n c a ∷ h) all zero conn e = absurd cc
each_close P (Answers n c a ∷ h) all (suc place) conn e = each_close (λ p. P (suc p)) h all place conn e
each_close P (GoesDown n ∷ h) all zero conn e = absurd cc
each_close P (GoesDown n ∷ h) all (suc place) conn e = each_close (λ p. P (suc p)) h all place conn e
