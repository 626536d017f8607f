use Rattle.std.proofs.Common.{◌≡◌, ◌+◌, ◌-◌, length, take, drop, get_or, sym, ◌∙◌, ap, arith}
use Rattle.std.specs.Prelude.{not}
use Rattle.std.specs.List.{list_all}
use Rattle.std.proofs.lemmas.List.{take_rest}
use Rattle.std.proofs.lemmas.Option.{get_or_from_slice_get}
use Rattle.js_tokens.specs.Units.{opens}
use Rattle.js_tokens.specs.Words.{spelling}
use Rattle.js_tokens.specs.Tokens.{is_name}
use Rattle.js_tokens.specs.declared.word.TheConstants.{PUNCTUATORS}
use Rattle.js_tokens.proofs.Marks.{mark_none, mark_longest, mark_parts}
use Rattle.js_tokens.proofs.lexer.mark_at.Goals as goal

pub returns-in-None : goal.returns-in-None
returns-in-None c =
    let e = take_rest c.as_slice.result.now c.args.at ∙ ap (drop c.args.at) c.as_slice.ensures in
    mark_none (drop c.args.at c.args.text.now) c.requires.no_name c.requires.no_number c.requires.no_string
    (ap (λ z. list_all (λ w. not (opens z (spelling w))) PUNCTUATORS) (sym e) ∙ c.in-None.ensures)

pub returns : goal.returns
returns c =
    let us = drop c.args.at c.args.text.now in
    let word = c.in-Some.word in
    let e = take_rest c.as_slice.result.now c.args.at ∙ ap (drop c.args.at) c.as_slice.ensures in
    let (k, l, at_k, h, o) = c.in-Some.ensures in
    let is : get_or PUNCTUATORS k word ≡ word = get_or_from_slice_get PUNCTUATORS k word word at_k in
    let len : length c.spelling-len.result.now ≡ length (spelling word) = ap length c.spelling-len.ensures in
    let (within, not_name, not_none, same) = mark_parts us k word c.requires.no_name l at_k (ap (λ z. opens z (spelling word)) (sym e) ∙ o) in
    let size : (c.args.at + length c.spelling-len.result.now) - c.args.at ≡ length c.spelling-len.result.now = omega arith in (
      (
        omega (arith, within, len),
        (ap (λ n. is_name (take n us)) len ∙ not_name, (λ z. not_none (sym (ap (λ n. take n us) len) ∙ z)), ap (λ n. take n us) len ∙ same, c.in_ok-mark.ensures ∙ ap (λ n. take n us) size),
      ),
      λ j w n x. omega (arith, len, ap (λ z. length (spelling z)) is, mark_longest us k word c.requires.no_name c.requires.no_number c.requires.no_string l (ap (λ z. list_all (λ v. not (opens z (spelling v))) (take k PUNCTUATORS)) (sym e) ∙ h) j w n x),
    )
