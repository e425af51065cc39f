use Rattle.std.proofs.Common.{sym, ap, ◌∙◌, arith, List, ℕ, ◌≡◌, ◌<◌, ◌≤◌, ◌++◌, ◌-◌, ◌+◌, take, drop, get_or, length}
use Rattle.script_grammar.specs.Lines.{Cursor}
use Rattle.script_grammar.proofs.Pieces.{range_split, range_byte, range_at, length_range}
use Rattle.script_grammar.proofs.lines.LineReader.take_ahead.Goals as goal

pub returns-then-len-gt-MAX_LINE_LENGTH-clause-too_long :
    goal.returns-then-len-gt-MAX_LINE_LENGTH-clause-too_long
returns-then-len-gt-MAX_LINE_LENGTH-clause-too_long c = λ e.
    let i = c.self.inside in
    let n = c.before_feed-count.result in
    let part = take n (take (i.end - i.start) (drop i.start i.piece.items)) in
    let same = c.deref.ensures.value in
    let within = rw same at c.before_feed-count.ensures.within in
    let range : n ≤ i.end - i.start = omega (arith, length_range i.piece.items i.start i.end) in (
      part,
      record {
        longer = (rw same at c.in_ok-extend_from_slice.ensures.items) ∙ ap (λ (v : Cursor). v.line ++ part) c.self.view_is;
        taken = ap (λ (v : Cursor). v.ahead) (sym c.self.view_is) ∙ range_split i.piece.items i.start i.end n (omega (arith, c.self.invariant.0));
        no_feed = rw same at c.before_feed-count.ensures.before;
      },
      omega (arith, c.extend_from_slice.new.self.ok.0),
    )

pub returns-clause-feed : goal.returns-clause-feed
returns-clause-feed c = λ e.
    let i = c.self.inside in
    let n = c.before_feed-count.result in
    let part = take n (take (i.end - i.start) (drop i.start i.piece.items)) in
    let same = c.deref.ensures.value in
    let within = rw same at c.if-not-found.false in
    let range : n < i.end - i.start = omega (arith, length_range i.piece.items i.start i.end) in
    let behind : i.start + n < i.end = omega arith in
    let fits : i.end ≤ length i.piece.items = omega (arith, c.self.invariant.1, i.piece.ok.0) in
    let feed : get_or (take (i.end - i.start) (drop i.start i.piece.items)) n 0 ≡ 10 = (rw same at c.before_feed-count.ensures.at) within in
    let byte : get_or i.piece.items (i.start + n) 0 ≡ 10 = sym (range_at i.piece.items i.start i.end n range) ∙ feed in (
      part,
      record {
        longer = (rw same at c.in_ok-extend_from_slice.ensures.items) ∙ ap (λ (v : Cursor). v.line ++ part) c.self.view_is;
        taken = ap (λ (v : Cursor). v.ahead) (sym c.self.view_is) ∙ (range_split i.piece.items i.start i.end n (omega arith)
            ∙ ap (λ (bytes : List ℕ). part ++ bytes) (range_byte i.piece.items (i.start + n) i.end 10 behind fits byte));
        no_feed = rw same at c.before_feed-count.ensures.before;
      },
      omega (arith, c.extend_from_slice.new.self.ok.0),
    )
