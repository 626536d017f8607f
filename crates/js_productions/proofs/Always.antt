-- Productions that hold for every stack, sight and trees.
use Rattle.std.proofs.Common.{◌≡◌, List, ◌++◌, Result, Ok, Err, OnOk, Option, sym, ◌∙◌, ap}
use Rattle.mug_text.specs.declared.memory.NoMemory.{NoMemory}
use Rattle.js_tree.specs.declared.production.Production.{Production}
use Rattle.js_tree.specs.Trees.{Tree}
use Rattle.js_grammar.specs.declared.sight.Sight.{Sight}
use Rattle.js_grammar.specs.declared.symbol.Nonterminal.{Nonterminal}
use Rattle.js_grammar.specs.declared.symbol.Symbol.{Symbol}
use Rattle.js_productions.specs.Targets.{target_of}
use Rattle.js_grammar.specs.Grammar.{produce}

weaker : {V : Type 0} (r : Result V NoMemory) (P Q : Type 0) → (P → Q) → OnOk r P → OnOk r Q
weaker (Ok v) P Q f h = f h
weaker (Err e) P Q f h = tt

-- what is pushed for every stack, sight and trees is pushed for these
pub always : (r : Result (Unit {0}) NoMemory) (p q : Nonterminal) (s new : List Symbol) (u : Sight) (o : Option Production) → p ≡ q →
    OnOk r ((s' : List Symbol) (u' : Sight) (vs : List Tree) → new ≡ produce q s' u' vs ++ s) → OnOk r ((vs : List Tree) → target_of vs ≡ o → new ≡ produce p s u vs ++ s)
always r p q s new u o e h = weaker r _ _ (λ f vs t. f s u vs ∙ ap (λ z. produce z s u vs ++ s) (sym e)) h

pub with_top : (r : Result (Unit {0}) NoMemory) (p q : Nonterminal) (s new : List Symbol) (u : Sight) (o : Option Production) → p ≡ q →
    OnOk r ((s' : List Symbol) (u' : Sight) (vs : List Tree) → target_of vs ≡ o → new ≡ produce q s' u' vs ++ s) → OnOk r ((vs : List Tree) → target_of vs ≡ o → new ≡ produce p s u vs ++ s)
with_top r p q s new u o e h = weaker r _ _ (λ f vs t. f s u vs t ∙ ap (λ z. produce z s u vs ++ s) (sym e)) h
