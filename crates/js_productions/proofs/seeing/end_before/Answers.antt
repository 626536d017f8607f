use Rattle.std.proofs.Common.{◌≡◌, ℕ, zero, suc, ◌-◌, ◌<◌, List, [], ◌∷◌, length, slice_index_or, refl, ap, ◌∙◌, arith}
use Rattle.js_tokens.specs.declared.token.Token.{Token}
use Rattle.js_grammar.specs.Sights.{end_before}
use Rattle.js_productions.proofs.seeing.end_before.Goals as goal

ends : (ts : List Token) (i : ℕ) (d : Token) → i < length ts → (slice_index_or ts i d).to ≡ end_before ts (suc i)
ends [] i d h = absurd (omega arith)
ends (t ∷ ts) zero d h = refl
ends (t ∷ ts) (suc i) d h = ends ts i d (omega arith)

pub returns-else-place-eq0 : goal.returns-else-place-eq0
returns-else-place-eq0 c =
    let e : suc (c.args.place - 1) ≡ c.args.place = omega arith in
    ends c.args.tokens.now (c.args.place - 1) _ (omega arith) ∙ ap (end_before c.args.tokens.now) e
