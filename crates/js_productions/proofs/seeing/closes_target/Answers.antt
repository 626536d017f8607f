use Rattle.std.proofs.Common.{◌≡◌, ℕ, suc, ◌-◌, Bool, true, false, List, ◌∷◌, sym, ap, ◌∙◌, arith}
use Rattle.std.specs.Prelude.{◌&&◌}
use Rattle.js_tokens.specs.declared.token.Token.{Token}
use Rattle.js_grammar.specs.Sights.{closes_target, is_close}
use Rattle.js_productions.proofs.seeing.closes_target.Goals as goal

-- one token is passed
step : (n m : ℕ) (rest : List Token) (t : Token) (ts : List Token) (b : Bool) → n ≡ suc m → rest ≡ t ∷ ts → is_close t.word ≡ b → closes_target n rest ≡ (b && closes_target m ts)
step n m rest t ts b e r h = ap (λ k. closes_target k rest) e ∙ ap (closes_target (suc m)) r ∙ ap (λ z. z && closes_target m ts) h

pub returns-then-not-is_close : goal.returns-then-not-is_close
returns-then-not-is_close c =
    sym (c.closed.invariant ∙ step c.closed.left (c.closed.left - 1) _ c.in-Some.token.now c.in-Some.behind.now false (omega arith) c.in-Some.ensures.cases.0 (sym c.is_close.ensures ∙ c.if-not-is_close.true))

pub closed-preserved : goal.closed-preserved
closed-preserved c =
    c.closed.invariant ∙ step c.closed.left (c.closed.left - 1) _ c.in-Some.token.now c.in-Some.behind.now true (omega arith) c.in-Some.ensures.cases.0 (sym c.is_close.ensures ∙ c.if-not-is_close.false)
