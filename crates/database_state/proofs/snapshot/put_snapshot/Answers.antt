use Rattle.std.proofs.Common.{◌≡◌, ℕ, ◌++◌, length, sym, ap, ◌∙◌}
use Rattle.std.proofs.lemmas.List.{length-map}
use Rattle.wire_words.specs.Items.{word}
use Rattle.database_state.specs.Databases.{content_of, contents_of}
use Rattle.database_state.specs.Snapshot.{contents_text}
use Rattle.database_state.proofs.WrittenLogs.{behind_three}
use Rattle.database_state.proofs.snapshot.put_snapshot.Goals as goal

pub returns-clause-bytes : goal.returns-clause-bytes
returns-clause-bytes c =
    let contents = contents_of c.args.databases.now in
    let as_many : length c.args.databases.now ≡ length contents = sym (length-map c.args.databases.now content_of) in
    behind_three c.put_databases.result c.args.out.now.items c.put_word.new.out.items c.put_word-2.new.out.items c.put_databases.new.out.items (word 1) (word (length contents)) (contents_text contents)
    c.in_ok-put_word.ensures.bytes (c.in_ok-put_word-2.ensures.bytes ∙ ap (λ (n : ℕ). c.put_word.new.out.items ++ word n) as_many) c.put_databases.ensures.bytes
