-- The example lives, computed.
use Rattle.std.proofs.Common.{◌≡◌, ℕ, List, [], ◌∷◌, length, refl, sym, ap, arith}
use Rattle.dq_base.specs.declared.images.Image.{Image}
use Rattle.database_state.specs.Files.{empty_image}
use Rattle.sql_engine.specs.Meanings.{IsShort}
use Rattle.sql_engine.specs.Meanings.{Answers as MayAnswer}
use Rattle.sql_engine.specs.Cells.{cells, cell_rows}
use Rattle.sql_engine.specs.Replies.{plain_rows}
use Rattle.sql_scan.specs.Bytes.{is_space, is_digit, is_letter, is_word_start, is_word_part, is_sigil, is_quote, is_in_line}
use Rattle.sql_scan.specs.Grammar.{has_end}
use Rattle.sql_scan.specs.Kinds.{kind_of}
use Rattle.sql_scan.specs.Lengths.{quoted, starred}
use Rattle.sql_scan.specs.Statements.{decimal, in_range, parameter, solid, extended, finished, statements_from, scan_of}
use Rattle.sql_scan.specs.Tokens.{sigil_token, dash_token, slash_token, sign_token, token_of, tokens_past}
use Rattle.sql_scan.specs.Words.{is_write, is_left_out, keyword_of, followed_by, kind_so_far}
use Rattle.wire_rows.specs.Answering.{parts_of}
use Rattle.wire_rows.specs.Cut.{first_count, cut}
use Rattle.wire_rows.specs.Nuls.{first_nul}
use Rattle.dq_base.specs.Images.{zeros, resized, page_from, sizes_page, page_at}
use Rattle.dq_base.specs.Applying.{stated_main, stated_side, replaced, put_pages, applied, is_sizes, order_fault, length_fault, fault_before}
use Rattle.dq_base.specs.Changes.{changed_from, changed}
use Rattle.database_state.specs.ByName.{at_name, change_first}
use Rattle.log_commands.specs.Splitting.{split_from}
use Rattle.session_spec.specs.Asking.{asked_unless_lost, asked_by}
use Rattle.session_spec.specs.Engines.{takes, runs}
use Rattle.session_spec.specs.Entries.{tx_of}
use Rattle.session_spec.specs.Events.{tidy, on_applied, told_applied, on_lost, told_lost, on_hangup, connects, connected}
use Rattle.session_spec.specs.Limits.{holds, other_holds, change_in_flight, all_names, one_too_many, pending_pages, pages_with, too_full, change_refusal}
use Rattle.session_spec.specs.Machine.{with_commit, framed, act, files}
use Rattle.session_spec.specs.Requests.{row_cause, outside_write, outside, inside, committed, does, job_reply, on_request, on_later, handed, with_session}
use Rattle.session_spec.specs.Sessions.{may_ask}
use Rattle.session_safety.specs.Life.{happens}
use Rattle.dq_base.specs.Decimal.{number_below}
use Rattle.dq_base.specs.Texts.{halves}
use Rattle.sql_engine.specs.CellTexts.{statement_of}
use Rattle.sql_engine.specs.Replies.{fault_in}
use Rattle.sql_engine.specs.Cells.{cell_page, with_page, with_cell, wiped, outcome_of}
use Rattle.std.specs.Prelude.{codes, Option, Some, None, Ok}
use Rattle.std.specs.Fmt.{digits}
use Rattle.std.specs.List.{AllByRecursion}
use Rattle.session_safety.specs.Examples.{two_open, after, transaction, one, set_text, set_on, got_on, TransactionFits, WriteWaits, OldImages, TurnEnds, ProposalStays, LeadershipGoes, BarrierWaits, ReadersTell}

pub write_waits_holds : WriteWaits
unfolding is_space is_digit is_letter is_word_start is_word_part is_sigil is_quote is_in_line has_end kind_of quoted starred decimal in_range parameter solid extended finished statements_from scan_of sigil_token dash_token slash_token sign_token token_of tokens_past is_write is_left_out keyword_of followed_by kind_so_far parts_of first_count cut first_nul zeros resized page_from sizes_page page_at stated_main stated_side replaced put_pages applied is_sizes order_fault length_fault fault_before changed_from changed at_name change_first split_from asked_by asked_unless_lost takes runs tx_of tidy on_applied told_applied on_lost told_lost on_hangup connects connected holds other_holds change_in_flight all_names one_too_many pending_pages pages_with too_full change_refusal with_commit framed act files row_cause outside_write outside inside committed does on_request handed with_session may_ask happens cell_page with_page with_cell wiped outcome_of two_open after transaction
write_waits_holds = record { waits = refl; done = refl; image = refl }

pub old_images_hold : OldImages
unfolding is_space is_digit is_letter is_word_start is_word_part is_sigil is_quote is_in_line has_end kind_of quoted starred decimal in_range parameter solid extended finished statements_from scan_of sigil_token dash_token slash_token sign_token token_of tokens_past is_write is_left_out keyword_of followed_by kind_so_far parts_of first_count cut first_nul zeros resized page_from sizes_page page_at stated_main stated_side replaced put_pages applied is_sizes order_fault length_fault fault_before changed_from changed at_name change_first split_from asked_by asked_unless_lost takes runs tx_of tidy on_applied told_applied on_lost told_lost on_hangup connects connected holds other_holds change_in_flight all_names one_too_many pending_pages pages_with too_full change_refusal with_commit framed act files row_cause outside_write outside inside committed does on_request handed with_session may_ask happens cell_page with_page with_cell wiped outcome_of two_open after transaction
old_images_hold = refl

pub turn_ends_holds : TurnEnds
unfolding is_space is_digit is_letter is_word_start is_word_part is_sigil is_quote is_in_line has_end kind_of quoted starred decimal in_range parameter solid extended finished statements_from scan_of sigil_token dash_token slash_token sign_token token_of tokens_past is_write is_left_out keyword_of followed_by kind_so_far parts_of first_count cut first_nul zeros resized page_from sizes_page page_at stated_main stated_side replaced put_pages applied is_sizes order_fault length_fault fault_before changed_from changed at_name change_first split_from asked_by asked_unless_lost takes runs tx_of tidy on_applied told_applied on_lost told_lost on_hangup connects connected holds other_holds change_in_flight all_names one_too_many pending_pages pages_with too_full change_refusal with_commit framed act files row_cause outside_write outside inside committed does on_request handed with_session may_ask happens cell_page with_page with_cell wiped outcome_of two_open after transaction
turn_ends_holds = refl

pub proposal_stays_holds : ProposalStays
unfolding is_space is_digit is_letter is_word_start is_word_part is_sigil is_quote is_in_line has_end kind_of quoted starred decimal in_range parameter solid extended finished statements_from scan_of sigil_token dash_token slash_token sign_token token_of tokens_past is_write is_left_out keyword_of followed_by kind_so_far parts_of first_count cut first_nul zeros resized page_from sizes_page page_at stated_main stated_side replaced put_pages applied is_sizes order_fault length_fault fault_before changed_from changed at_name change_first split_from asked_by asked_unless_lost takes runs tx_of tidy on_applied told_applied on_lost told_lost on_hangup connects connected holds other_holds change_in_flight all_names one_too_many pending_pages pages_with too_full change_refusal with_commit framed act files row_cause outside_write outside inside committed does on_request handed with_session may_ask happens cell_page with_page with_cell wiped outcome_of two_open after transaction
proposal_stays_holds = refl

pub leadership_goes_holds : LeadershipGoes
unfolding is_space is_digit is_letter is_word_start is_word_part is_sigil is_quote is_in_line has_end kind_of quoted starred decimal in_range parameter solid extended finished statements_from scan_of sigil_token dash_token slash_token sign_token token_of tokens_past is_write is_left_out keyword_of followed_by kind_so_far parts_of first_count cut first_nul zeros resized page_from sizes_page page_at stated_main stated_side replaced put_pages applied is_sizes order_fault length_fault fault_before changed_from changed at_name change_first split_from asked_by asked_unless_lost takes runs tx_of tidy on_applied told_applied on_lost told_lost on_hangup connects connected holds other_holds change_in_flight all_names one_too_many pending_pages pages_with too_full change_refusal with_commit framed act files row_cause outside_write outside inside committed does on_request handed with_session may_ask happens cell_page with_page with_cell wiped outcome_of two_open after transaction
leadership_goes_holds = record { told = refl; image = refl }

pub barrier_waits_holds : BarrierWaits
unfolding is_space is_digit is_letter is_word_start is_word_part is_sigil is_quote is_in_line has_end kind_of quoted starred decimal in_range parameter solid extended finished statements_from scan_of sigil_token dash_token slash_token sign_token token_of tokens_past is_write is_left_out keyword_of followed_by kind_so_far parts_of first_count cut first_nul zeros resized page_from sizes_page page_at stated_main stated_side replaced put_pages applied is_sizes order_fault length_fault fault_before changed_from changed at_name change_first split_from asked_by asked_unless_lost takes runs tx_of tidy on_applied told_applied on_lost told_lost on_hangup connects connected holds other_holds change_in_flight all_names one_too_many pending_pages pages_with too_full change_refusal with_commit framed act files row_cause outside_write outside inside committed does on_request on_later handed with_session may_ask happens cell_page with_page with_cell wiped outcome_of two_open after transaction
barrier_waits_holds = record { waits = refl; reads = refl; lost = refl }

pub readers_tell_holds : ReadersTell
unfolding is_space is_digit is_letter is_word_start is_word_part is_sigil is_quote is_in_line has_end kind_of quoted starred decimal in_range parameter solid extended finished statements_from scan_of sigil_token dash_token slash_token sign_token token_of tokens_past is_write is_left_out keyword_of followed_by kind_so_far parts_of first_count cut first_nul zeros resized page_from sizes_page page_at stated_main stated_side replaced put_pages applied is_sizes order_fault length_fault fault_before changed_from changed at_name change_first split_from asked_by asked_unless_lost takes runs tx_of tidy on_applied told_applied on_lost told_lost on_hangup connects connected holds other_holds change_in_flight all_names one_too_many pending_pages pages_with too_full change_refusal with_commit framed act files row_cause outside_write outside inside committed does on_request on_later job_reply handed with_session may_ask happens cell_page with_page with_cell wiped outcome_of two_open after transaction
readers_tell_holds = record { lent = refl; given_back = refl; refused = refl }

-- the engine may answer so

one_short : IsShort (one 7)
unfolding is_space is_digit is_letter is_word_start is_word_part is_sigil is_quote is_in_line has_end kind_of quoted starred decimal in_range parameter solid extended finished statements_from scan_of sigil_token dash_token slash_token sign_token token_of tokens_past is_write is_left_out keyword_of followed_by kind_so_far parts_of first_count cut first_nul zeros resized page_from sizes_page page_at stated_main stated_side replaced put_pages applied is_sizes order_fault length_fault fault_before changed_from changed at_name change_first split_from asked_by asked_unless_lost takes runs tx_of tidy on_applied told_applied on_lost told_lost on_hangup connects connected holds other_holds change_in_flight all_names one_too_many pending_pages pages_with too_full change_refusal with_commit framed act files row_cause outside_write outside inside committed does on_request handed with_session may_ask happens cell_page with_page with_cell wiped outcome_of two_open after transaction number_below halves statement_of fault_in
one_short = record {
  main = let e : length (one 7).main ≡ 4096 = refl in omega arith;
  side = let e : length (one 7).side ≡ 4096 = refl in omega arith;
}

set_runs : (image : Image) → outcome_of image (record { text = set_text 7; params = [] }) ≡ Ok (record { after = with_cell image 1 7; reply = record { affected = 1; columns = []; rows = [] } })
unfolding outcome_of statement_of number_below halves digits
set_runs image = refl

pub may_set : MayAnswer cells empty_image (record { text = set_text 7; params = [] }) 0 (set_on empty_image 7)
unfolding fault_in
may_set = record {
  after = one 7;
  short = one_short;
  runs = set_runs empty_image;
  pages = refl;
  readable = refl;
  table = record { named = tt; wide = tt; empty = λ e. refl };
}

get_runs : (image : Image) → outcome_of image (record { text = codes "GET 1"; params = [] }) ≡ Ok (record { after = image; reply = record { affected = 0; columns = codes "v" ∷ []; rows = plain_rows (cell_rows (page_at image 2)) } })
unfolding outcome_of statement_of number_below halves digits
get_runs image = refl

get_pages : changed (one 7) (one 7) ≡ []
unfolding is_space is_digit is_letter is_word_start is_word_part is_sigil is_quote is_in_line has_end kind_of quoted starred decimal in_range parameter solid extended finished statements_from scan_of sigil_token dash_token slash_token sign_token token_of tokens_past is_write is_left_out keyword_of followed_by kind_so_far parts_of first_count cut first_nul zeros resized page_from sizes_page page_at stated_main stated_side replaced put_pages applied is_sizes order_fault length_fault fault_before changed_from changed at_name change_first split_from asked_by asked_unless_lost takes runs tx_of tidy on_applied told_applied on_lost told_lost on_hangup connects connected holds other_holds change_in_flight all_names one_too_many pending_pages pages_with too_full change_refusal with_commit framed act files row_cause outside_write outside inside committed does on_request handed with_session may_ask happens cell_page with_page with_cell wiped outcome_of two_open after transaction number_below halves statement_of fault_in
get_pages = refl

get_readable : fault_in (plain_rows (cell_rows (page_at (one 7) 2))) ≡ None
unfolding is_space is_digit is_letter is_word_start is_word_part is_sigil is_quote is_in_line has_end kind_of quoted starred decimal in_range parameter solid extended finished statements_from scan_of sigil_token dash_token slash_token sign_token token_of tokens_past is_write is_left_out keyword_of followed_by kind_so_far parts_of first_count cut first_nul zeros resized page_from sizes_page page_at stated_main stated_side replaced put_pages applied is_sizes order_fault length_fault fault_before changed_from changed at_name change_first split_from asked_by asked_unless_lost takes runs tx_of tidy on_applied told_applied on_lost told_lost on_hangup connects connected holds other_holds change_in_flight all_names one_too_many pending_pages pages_with too_full change_refusal with_commit framed act files row_cause outside_write outside inside committed does on_request handed with_session may_ask happens cell_page with_page with_cell wiped outcome_of two_open after transaction number_below halves statement_of fault_in
get_readable = refl

one_wide : (image : Image) (o : Option (List ℕ)) → AllByRecursion (λ row. length row ≡ 1) (cell_rows o)
one_wide image None = tt
one_wide image (Some page) = (refl, tt)

pub may_get : MayAnswer cells (one 7) (record { text = codes "GET 1"; params = [] }) 0 (got_on (one 7))
may_get = record {
  after = one 7;
  short = one_short;
  runs = get_runs (one 7);
  pages = ap (λ pages. record { tx = 0; pages = pages }) (sym get_pages);
  readable = get_readable;
  table = record { named = (refl, tt); wide = one_wide (one 7) (page_at (one 7) 2); empty = λ e. absurd cc };
}

pub transaction_fits : TransactionFits
unfolding is_space is_digit is_letter is_word_start is_word_part is_sigil is_quote is_in_line has_end kind_of quoted starred decimal in_range parameter solid extended finished statements_from scan_of sigil_token dash_token slash_token sign_token token_of tokens_past is_write is_left_out keyword_of followed_by kind_so_far parts_of first_count cut first_nul zeros resized page_from sizes_page page_at stated_main stated_side replaced put_pages applied is_sizes order_fault length_fault fault_before changed_from changed at_name change_first split_from asked_by asked_unless_lost takes runs tx_of tidy on_applied told_applied on_lost told_lost on_hangup connects connected holds other_holds change_in_flight all_names one_too_many pending_pages pages_with too_full change_refusal with_commit framed act files row_cause outside_write outside inside committed does on_request handed with_session may_ask happens cell_page with_page with_cell wiped outcome_of two_open after transaction number_below halves statement_of fault_in
transaction_fits = ((refl, omega arith), ((refl, (tt, tt)), (omega arith, ((refl, refl, λ n. refl), (tt, (tt, ((λ h. tt), (omega arith, ((λ h. tt), ((λ h. tt), ((λ h. ((0, may_set), tt)), ((λ h. tt), (omega arith, ((λ h. ((0, may_get), tt)), tt))))))))))))))
