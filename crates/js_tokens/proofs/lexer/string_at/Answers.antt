use Rattle.std.proofs.Common.{◌≡◌, ℕ, ◌-◌, ◌<◌, take, ◌++◌, List, length, drop, refl, sym, ◌∙◌, ap, subst, arith}
use Rattle.std.proofs.lemmas.List.{take_rest, length-drop}
use Rattle.js_tokens.specs.Strings.{Inside}
use Rattle.js_tokens.proofs.Fronts.{some_case, none_case, text_length, text_none}
use Rattle.js_tokens.proofs.lexer.string_at.Goals as goal

abbrev Absent : ℕ → List ℕ → Type 0
Absent q us = (n : ℕ) (v : List ℕ) → Inside q (take (length us - 1) (drop 1 us)) n v → ⊥

abbrev Present : ℕ → List ℕ → List ℕ → List ℕ → ℕ → Type 0
Present q us old now n = (n < length (take (length us - 1) (drop 1 us))) × ((v : List ℕ) × Inside q (take (length us - 1) (drop 1 us)) n v × (now ≡ old ++ v))

pub returns-in-Some : goal.returns-in-Some
returns-in-Some c =
    let us = c.args.units.now in
    let e = take_rest us 1 in
    let (less, (v, g, made)) = some_case (Absent c.args.quote us) (Present c.args.quote us c.new-value.result.items c.inside_at.new.out.items) c.in_ok-len.field-0 c.in-Some.len c.in-Some.is c.in_ok-len.ensures in
    let text : c.in_ok-from_units-in-Some.field-0 ≡ v = c.in_ok-from_units-in-Some.ensures ∙ c.deref.ensures.value ∙ made ∙ ap (λ z. z ++ v) c.new-value.ensures.items in
    let inside : Inside c.args.quote (drop 1 us) c.in-Some.len v = subst (λ z. Inside c.args.quote z c.in-Some.len v) e g in (
      (
        omega (arith, less, ap length e, length-drop 1 us),
        (c.args.quote, c.in-Some.len, c.requires.is_quote, c.requires.starts, subst (λ z. Inside c.args.quote (drop 1 us) c.in-Some.len z) (sym text) inside, refl, refl),
      ),
      λ k w n x. omega (arith, text_length us c.args.quote c.requires.starts c.requires.is_quote c.in-Some.len v inside k w n x),
    )

pub returns : goal.returns
returns c =
    let us = c.args.units.now in
    let none = none_case (Absent c.args.quote us) (Present c.args.quote us c.new-value.result.items c.inside_at.new.out.items) c.in_ok-len.field-0 c.in-None.is c.in_ok-len.ensures in
    text_none us c.args.quote c.requires.starts c.requires.is_quote (λ m v g. none m v (subst (λ z. Inside c.args.quote z m v) (sym (take_rest us 1)) g))
