use Rattle.std.proofs.Common.{◌≡◌, ◌+◌, true, drop, length, map, ap, sym, ◌∙◌}
use Rattle.js_heap.specs.Puts.{put}
use Rattle.js_reference.specs.Functions.{is_array_at}
use Rattle.js_operations.specs.Literals.{with_entries}
use Rattle.js_operations.proofs.Filled.{array_stays, behind_there, entry_put, put_length}
use Rattle.js_operations.proofs.literals.put_entries.Goals as goal

pub loop-entry-preserved : goal.loop-entry-preserved
loop-entry-preserved c =
    let kept = c.loop-entry.invariant in
    let w = c.loop-entry.heap in
    let o = c.args.object in
    let e = c.entry-item.result in
    let es = c.args.entries.now in
    let i = c.loop-entry.entry-index in
    let v = c.in-Some.value.now in
    let vs = c.in-Some.behind.now in
    let split = c.in-Some.ensures.cases.0 in
    let now : c.put_entry.new.heap ≡ put w o e.key v true = c.in_ok-put_entry.ensures in
    let same = ap (λ u. length u.objects) now ∙ put_length w o e.key v true in
    record {
      objects = same ∙ kept.objects;
      scopes = ap (λ u. u.scopes) now ∙ kept.scopes;
      plain = ap (λ u. is_array_at u o) now ∙ array_stays w o e.key v true ∙ kept.plain;
      values = behind_there w c.put_entry.new.heap v vs c.loop-entry.values.now same split
          kept.values;
      put =
          ap (λ u. with_entries u o (map (λ x. x.key) (drop (i + 1) es)) vs) now
          ∙ sym (entry_put w o i es e v vs c.loop-entry-test.true (sym c.entry-item.is))
          ∙ ap (λ us. with_entries w o (map (λ x. x.key) (drop i es)) us) (sym split)
          ∙ kept.put;
    }
