use Rattle.std.proofs.Common.{◌≤◌, List, [], ◌∷◌, length, reverse, arith}
use Rattle.std.proofs.lemmas.List.{length-reverse}
use Rattle.js_grammar.specs.declared.symbol.Open.TheVariants.{Function}
use Rattle.js_grammar.specs.declared.symbol.Symbol.{Symbol}
use Rattle.js_grammar.specs.declared.symbol.Symbol.TheVariants.{Leave}
use Rattle.js_grammar.specs.Parts.{nesting}
use Rattle.js_productions.proofs.stack.Stack.push.Goals as goal

-- no more parts are open than symbols are left
within : (s : List Symbol) → nesting s ≤ length s
within [] = omega arith
within (Leave Function ∷ s) = omega (arith, within s)
within (Leave _ ∷ s) = omega (arith, within s)
within (_ ∷ s) = omega (arith, within s)

pub overflow_add-self : goal.overflow_add-self
overflow_add-self c =
    let symbols = c.self.inside.symbols in
    omega (arith, within (reverse symbols.items), length-reverse symbols.items, symbols.ok.0, symbols.ok.1, symbols.small, c.self.invariant, c.depth.ensures.small)
