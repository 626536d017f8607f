use Rattle.std.proofs.Common.{◌≡◌, ◌<◌, ◌+◌, true, not, None, decimal, drop, get_or}
use Rattle.std.proofs.Common.{is_some, length, map, ap, arith, rules, sym, ◌∙◌}
use Rattle.js_heap.specs.Puts.{put}
use Rattle.js_reference.specs.Callables.{class_at}
use Rattle.js_operations.specs.Literals.{with_elements}
use Rattle.js_operations.proofs.Filled.{behind_there, element_put, put_class, put_length}
use Rattle.js_operations.proofs.literals.put_elements.Goals as goal

pub loop-index-preserved : goal.loop-index-preserved
loop-index-preserved c =
    let kept = c.loop-index.invariant in
    let w = c.loop-index.heap in
    let a = c.args.array in
    let es = c.args.elements.now in
    let i = c.loop-index.index in
    let v = c.in-Some.value.now in
    let vs = c.in-Some.behind.now in
    let split = c.in-Some.ensures.cases.0 in
    let now : c.put_at.new.self ≡ put w a (decimal i) v true =
    c.in_ok-put_at.ensures.ok ∙ ap (λ u. put w a (decimal i) u true) c.in_ok-copy.ensures in
    let same = ap (λ u. length u.objects) now ∙ put_length w a (decimal i) v true in
    record {
      within = omega (arith, c.loop-index-test.true);
      objects = same ∙ kept.objects;
      scopes = ap (λ u. u.scopes) now ∙ kept.scopes;
      array = ap (λ u. class_at u a) now ∙ put_class w a (decimal i) v true ∙ kept.array;
      values = behind_there w c.put_at.new.self v vs c.loop-index.values.now same split
          kept.values;
      put =
          let inside : i < length es = first_of (omega arith, search rules, grind arith) in
          let there : is_some (get_or es i None) ≡ true =
          c.is_none.ensures ∙ ap not c.if-is_none.false in
          ap (λ u. with_elements u a (i + 1) (map is_some (drop (i + 1) es)) vs) now
          ∙ sym (element_put w a i es v vs inside there)
          ∙ ap (λ us. with_elements w a i (map is_some (drop i es)) us) (sym split)
          ∙ kept.put;
    }
