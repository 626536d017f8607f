use Rattle.std.proofs.Common.{◌≡◌, ◌∙◌, List, ℕ, [], ◌++◌, ap, length, count_by}
use Rattle.std.specs.List.{flat_map}
use Rattle.std.proofs.lemmas.List.{append-nil}
use Rattle.std.proofs.lemmas.Result.{err_from_is_err_and}
use Rattle.input_log.specs.Kinds.{is_input}
use Rattle.mugshot_cli.specs.Listing.{item_line, list_text, records_line}
use Rattle.mugshot_cli.proofs.PrintedLines.{prints_all, prints_failed, puts_failed, puts_same, puts_then}
use Rattle.mugshot_cli.proofs.printing.print_items.Goals as goal

pub returns-in_err-put_items : goal.returns-in_err-put_items
returns-in_err-put_items g c =
    let p = err_from_is_err_and c.from_residual.result c.from_residual.ensures.1 in
    rw (p.1, p.2) (prints_failed _ c.new-lines.ensures (puts_failed (flat_map item_line c.args.items.now) (records_line (length c.args.items.now) (count_by is_input c.args.items.now)) [] c.in_err-put_items.ensures))

pub returns-in_err-put : goal.returns-in_err-put
returns-in_err-put g c =
    let p = err_from_is_err_and c.from_residual-in_err-put.result c.from_residual-in_err-put.ensures.1 in
    let first = c.in_ok-put_items.ensures in
    let last : c.as_slice.result.now ≡ records_line (length c.args.items.now) (count_by is_input c.args.items.now) = c.as_slice.ensures ∙ c.records-last.ensures ∙ ap (records_line (length c.args.items.now)) c.count_inputs.ensures in
    rw (p.1, p.2) (prints_failed _ c.new-lines.ensures (puts_then _ (flat_map item_line c.args.items.now) (records_line (length c.args.items.now) (count_by is_input c.args.items.now)) first.ok first.later (puts_same _ _ last c.in_err-put.ensures)))

pub returns : goal.returns
returns g c =
    let first = c.in_ok-put_items.ensures in
    let second = c.in_ok-put.ensures in
    let last : c.as_slice.result.now ≡ records_line (length c.args.items.now) (count_by is_input c.args.items.now) = c.as_slice.ensures ∙ c.records-last.ensures ∙ ap (records_line (length c.args.items.now)) c.count_inputs.ensures in
    let flushed = puts_then c.flush.result c.as_slice.result.now [] second.ok second.later c.flush.ensures.puts in
    let all = puts_then c.flush.result (flat_map item_line c.args.items.now) (c.as_slice.result.now ++ []) first.ok first.later flushed in
    prints_all c.flush.result (list_text c.args.items.now) c.new-lines.ensures
    (puts_same _ _ (ap (λ (l : List ℕ). flat_map item_line c.args.items.now ++ l) (append-nil c.as_slice.result.now ∙ last)) all) c.flush.ensures.none
