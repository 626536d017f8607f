-- The answer of a text of units is one.
use Rattle.std.proofs.Common.{◌≡◌, ℕ, List, sym, ◌∙◌, ap, subst, inl, inr}
use Rattle.js_tokens.specs.Laws.{OneList}
use Rattle.js_tokens.specs.declared.token.Token.{Token}
use Rattle.js_tokens.specs.declared.token.Tokens.{Tokens}
use Rattle.js_grammar.specs.declared.sight.Names.{Names}
use Rattle.js_grammar.specs.declared.symbol.Start.{Start}
use Rattle.js_grammar.specs.Answers.{Text, Outcome, Answer}
use Rattle.js_grammar.specs.Programs.{UnexpectedAt, verdict, OneVerdict}
use Rattle.js_grammar.proofs.One.{one_answer}

abbrev text_of : Names → Start → Tokens → Text
text_of names start tokens = record { tokens = tokens; names = names; start = start }

abbrev tokens_of : List Token → ℕ → Tokens
tokens_of ts n = record { items = ts; end = n }

same_text : (names : Names) (start : Start) (a b : Tokens) (o o' : Outcome) → a ≡ b → Answer (text_of names start a) o → Answer (text_of names start b) o' → verdict (text_of names start a) o ≡ verdict (text_of names start b) o'
same_text names start a b o o' e x y =
    let y' : Answer (text_of names start a) o' = subst (λ z. Answer (text_of names start z) o') (sym e) y in
    ap (verdict (text_of names start a)) (one_answer (text_of names start a) o o' x y') ∙ ap (λ z. verdict (text_of names start z) o') e

same_tokens : (a b : Tokens) → a.items ≡ b.items → a.end ≡ b.end → a ≡ b
same_tokens a b e f = ap (λ z. tokens_of z a.end) e ∙ ap (λ z. tokens_of b.items z) f

pub one_verdict : OneList → OneVerdict
one_verdict one names start units v v' r r' =
    elim r [
      | inl p ↦ elim r' [
        | inl q ↦ p.2 ∙ ap UnexpectedAt (one.one_place units p.0 q.0 p.1 q.1) ∙ sym q.2
        | inr q ↦ absurd (one.never_both units q.tokens.items p.0 q.are p.1)
      ]
      | inr p ↦ elim r' [
        | inl q ↦ absurd (one.never_both units p.tokens.items q.0 p.are q.1)
        | inr q ↦ p.is ∙ same_text names start p.tokens q.tokens p.outcome q.outcome (same_tokens p.tokens q.tokens (one.one_list units p.tokens.items q.tokens.items p.are q.are) (p.units_end ∙ sym q.units_end)) p.answer q.answer ∙ sym q.is
      ]
    ]
