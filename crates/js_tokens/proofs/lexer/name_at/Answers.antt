use Rattle.std.proofs.Common.{◌≡◌, ◌+◌, ◌-◌, length, take, drop, refl, sym, ◌∙◌, ap, arith}
use Rattle.std.specs.Prelude.{not}
use Rattle.std.specs.List.{list_all, take_while}
use Rattle.std.proofs.lemmas.List.{take_rest}
use Rattle.js_tokens.specs.Units.{is_part}
use Rattle.js_tokens.specs.Words.{spelling, is_word}
use Rattle.js_tokens.specs.Tokens.{is_name}
use Rattle.js_tokens.specs.declared.word.TheConstants.{RESERVED}
use Rattle.js_tokens.proofs.Fronts.{name_longest, run_name}
use Rattle.js_tokens.proofs.Table.{no_reserved}
use Rattle.js_tokens.proofs.lexer.name_at.Goals as goal

pub returns-in-Some : goal.returns-in-Some
returns-in-Some c =
    let us = drop c.args.at c.args.text.now in
    let e = take_rest c.as_slice.result.now c.args.at ∙ ap (drop c.args.at) c.as_slice.ensures in
    let run : c.run_at-len.result ≡ length (take_while is_part us) = c.run_at-len.ensures.is ∙ ap (λ z. length (take_while is_part z)) e in
    let size : (c.args.at + c.run_at-len.result) - c.args.at ≡ c.run_at-len.result = omega arith in
    let piece : c.in_ok-name.name ≡ take c.run_at-len.result us = c.in_ok-name.ensures ∙ ap (λ k. take k us) size in (
      (
        omega (arith, c.run_at-len.ensures.within, ap length e),
        (ap (λ k. is_name (take k us)) run ∙ run_name us c.requires.starts, sym piece ∙ sym c.as_slice-2.ensures ∙ c.in-Some.ensures, piece),
      ),
      λ k w n x. omega (arith, name_longest us c.requires.starts k w n x, run),
    )

pub returns-in-None : goal.returns-in-None
returns-in-None c =
    let us = drop c.args.at c.args.text.now in
    let e = take_rest c.as_slice.result.now c.args.at ∙ ap (drop c.args.at) c.as_slice.ensures in
    let run : c.run_at-len.result ≡ length (take_while is_part us) = c.run_at-len.ensures.is ∙ ap (λ z. length (take_while is_part z)) e in
    let size : (c.args.at + c.run_at-len.result) - c.args.at ≡ c.run_at-len.result = omega arith in
    let piece : c.in_ok-name.name ≡ take c.run_at-len.result us = c.in_ok-name.ensures ∙ ap (λ k. take k us) size in
    let name = ap (λ k. is_name (take k us)) run ∙ run_name us c.requires.starts in (
      (
        omega (arith, c.run_at-len.ensures.within, ap length e),
        (
          name,
          no_reserved (take c.run_at-len.result us) name (ap (λ z. list_all (λ w. not (is_word z (spelling w))) RESERVED) (sym (c.as_slice-2.ensures ∙ piece)) ∙ c.in-None.ensures),
          refl,
          piece,
        ),
      ),
      λ k w n x. omega (arith, name_longest us c.requires.starts k w n x, run),
    )
