use Rattle.std.proofs.Common.{◌≡◌, ◌+◌, ◌-◌, ◌<◌, [], ◌∷◌, ◌++◌, length, drop, refl, sym, ◌∙◌, ap, subst, arith, append-nil, append_assoc}
use Rattle.std.proofs.lemmas.List.{take_rest, length-drop}
use Rattle.js_tokens.specs.Gaps.{Gap, star_slash}
use Rattle.js_tokens.specs.Tokens.{TokensFrom, ends, next, here, later, IsNext, Longest, NoneStands}
use Rattle.js_tokens.specs.declared.token.Token.{Token}
use Rattle.js_tokens.proofs.Comments.{drop_drop, dry_later}
use Rattle.js_tokens.proofs.Fronts.{some_case, none_case, stands_pos}
use Rattle.js_tokens.proofs.reading.tokens.Goals as goal

pub returns-then-from-len-clause-found : goal.returns-then-from-len-clause-found
returns-then-from-len-clause-found c =
    let e = take_rest c.as_slice.result.now c.tokens.at ∙ ap (drop c.tokens.at) c.as_slice.ensures in
    let gap = subst (λ z. Gap z c.gap_at-gap.result.len c.gap_at-gap.result.line) e c.gap_at-gap.ensures.gap in
    subst (TokensFrom c.args.text.now 0) (append-nil c.tokens.items.items ∙ sym c.of.ensures) (c.tokens.invariant.on [] (ends gap (c.if-from-len.true ∙ c.len.ensures)))

pub returns-in-None-clause-refused : goal.returns-in-None-clause-refused
returns-in-None-clause-refused c =
    let e = take_rest c.as_slice.result.now c.tokens.at ∙ ap (drop c.tokens.at) c.as_slice.ensures in
    let gap = subst (λ z. Gap z c.gap_at-gap.result.len c.gap_at-gap.result.line) e c.gap_at-gap.ensures.gap in
    let inside : c.tokens.at + c.gap_at-gap.result.len < length c.args.text.now = omega (arith, c.gap_at-gap.ensures.within, ap length e, length-drop c.tokens.at c.args.text.now, c.tokens.invariant.high, c.if-from-len.false, c.len.ensures) in
    c.tokens.invariant.refused _ (here gap inside (none_case (NoneStands (drop (c.tokens.at + c.gap_at-gap.result.len) c.args.text.now)) (λ f. Longest f.kind f.word (drop (c.tokens.at + c.gap_at-gap.result.len) c.args.text.now) f.len) c.in_ok-token_at.field-0 c.in-None.is c.in_ok-token_at.ensures))

pub tokens-smaller : goal.tokens-smaller
tokens-smaller c =
    let longest = some_case (NoneStands (drop (c.tokens.at + c.gap_at-gap.result.len) c.args.text.now)) (λ f. Longest f.kind f.word (drop (c.tokens.at + c.gap_at-gap.result.len) c.args.text.now) f.len) c.in_ok-token_at.field-0 c.in-Some.found c.in-Some.is c.in_ok-token_at.ensures in
    let from = c.tokens.at + c.gap_at-gap.result.len in
    omega (arith, stands_pos c.in-Some.found.kind c.in-Some.found.word (drop from c.args.text.now) c.in-Some.found.len longest.0, longest.0.0, length-drop from c.args.text.now)

pub tokens-preserved : goal.tokens-preserved
tokens-preserved c =
    let text = c.args.text.now in
    let found = c.in-Some.found in
    let gap-len = c.gap_at-gap.result.len in
    let from = c.tokens.at + gap-len in
    let e = take_rest c.as_slice.result.now c.tokens.at ∙ ap (drop c.tokens.at) c.as_slice.ensures in
    let gap = subst (λ z. Gap z gap-len c.gap_at-gap.result.line) e c.gap_at-gap.ensures.gap in
    let longest = some_case (NoneStands (drop (c.tokens.at + c.gap_at-gap.result.len) c.args.text.now)) (λ f. Longest f.kind f.word (drop (c.tokens.at + c.gap_at-gap.result.len) c.args.text.now) f.len) c.in_ok-token_at.field-0 found c.in-Some.is c.in_ok-token_at.ensures in
    let pos = stands_pos found.kind found.word (drop from text) found.len longest.0 in
    let size : found.len ≡ (from + found.len) - from = omega arith in
    let t : Token = record { kind = found.kind; word = found.word; from = from; to = from + found.len; line_before = c.gap_at-gap.result.line } in
    let is : IsNext text c.tokens.at t = (gap-len, gap, refl, omega (arith, pos), subst (Longest found.kind found.word (drop from text)) size longest) in
    record {
      high = omega (arith, longest.0.0, length-drop from text, pos);
      dry = λ h. dry_later text from found.len (ap (λ z. star_slash (drop 2 z)) (sym (drop_drop c.tokens.at gap-len text) ∙ ap (drop gap-len) (sym e)) ∙ c.gap_at-gap.ensures.dry h);
      on = λ ts h. subst (TokensFrom text 0) (sym (append_assoc c.tokens.items.items (t ∷ []) ts) ∙ ap (λ z. z ++ ts) (sym c.in_ok-push-in-Some.ensures.items)) (c.tokens.invariant.on (t ∷ ts) (next is h));
      refused = λ p h. c.tokens.invariant.refused p (later t is h);
    }
