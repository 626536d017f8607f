-- The trees of a reading have the sorts that what is to be read asks for.
use Rattle.std.proofs.Common.{◌≡◌, ℕ, zero, suc, Bool, true, false, List, [], ◌∷◌, ◌++◌, ◌||◌, ◌&&◌, ◌⊎◌, length, Option, Some, None, refl, sym, ap, subst, ◌∙◌, inl, inr}
use Rattle.std.specs.Prelude.{nat_eq}
use Rattle.std.proofs.lemmas.Bool.{and_parts, and_from}
use Rattle.js_tree.specs.declared.production.Production.{Production}
use Rattle.js_tree.specs.Trees.{Tree}
use Rattle.js_grammar.specs.declared.sight.Sight.{Sight}
use Rattle.js_grammar.specs.declared.symbol.Build.{Build}
use Rattle.js_grammar.specs.declared.symbol.Build.TheVariants as build
use Rattle.js_grammar.specs.declared.symbol.Nonterminal.{Nonterminal}
use Rattle.js_grammar.specs.declared.symbol.Nonterminal.TheVariants as n
use Rattle.js_grammar.specs.declared.symbol.Start.{Start}
use Rattle.js_grammar.specs.declared.symbol.Start.TheVariants.{Program, Handler}
use Rattle.js_grammar.specs.declared.symbol.Symbol.{Symbol}
use Rattle.js_grammar.specs.declared.symbol.Symbol.TheVariants.{Word as T, End, Semicolon, FreeSemicolon, Never, Part, Build as Makes, Leave}
use Rattle.js_grammar.specs.Grammar.{produce}
use Rattle.js_grammar.specs.Derivations.{beginning}
use Rattle.js_grammar.specs.inner.Ranks.{stops}
use Rattle.js_grammar.specs.inner.Sorts.{Sort, Node, Text, Gap, Maybe_node, Maybe_text, Empty, Nodes, Maybe_nodes, Elements, Words, Entry, Entries, Declarator, Declarators, Case, Cases, Catch, Maybe_catch, Body, Root, is_of, are_of, parts_of, sort_of, onto, without, added, paired, in_front, before, chosen, grouped, made, takes, gives, leads, IsSorted}
use Rattle.js_grammar.specs.inner.Sorts as sorts
use Rattle.js_grammar.proofs.Sound.{sound}

pub of_itself : (c : Sort) → is_of c c ≡ true
of_itself Node = refl
of_itself _ = refl

pub are_themselves : (cs : List Sort) → are_of cs cs ≡ true
are_themselves [] = refl
are_themselves (c ∷ cs) = and_from (is_of c c) (are_of cs cs) (of_itself c) (are_themselves cs)

-- a choice that comes to something was made
chosen_true : (b : Bool) (o : Option (List Sort)) (ds : List Sort) → chosen b o ≡ Some ds → (b ≡ true) × (o ≡ Some ds)
chosen_true true o ds e = (refl, e)
chosen_true false o ds e = absurd (cc)

chosen_more : (b : Bool) (o p : Option (List Sort)) (ds es : List Sort) → chosen b o ≡ Some ds → (o ≡ Some ds → p ≡ Some es) → chosen b p ≡ Some es
chosen_more true o p ds es e f = f e
chosen_more false o p ds es e f = absurd (cc)

-- what is taken leaves the sorts that stand before it
pub without_more : (ds cs rest more : List Sort) → without ds cs ≡ Some rest → without ds (cs ++ more) ≡ Some (rest ++ more)
without_more [] cs rest more e = ap (λ o. with_more o more) e
  where
    with_more : Option (List Sort) → List Sort → Option (List Sort)
    with_more None more = None
    with_more (Some cs) more = Some (cs ++ more)
without_more (d ∷ ds) [] rest more e = absurd (cc)
without_more (d ∷ ds) (c ∷ cs) rest more e = chosen_more (is_of c d) (without ds cs) (without ds (cs ++ more)) rest (rest ++ more) e (without_more ds cs rest more)

pub without_are : (ds cs rest : List Sort) → without ds cs ≡ Some rest → are_of cs (ds ++ rest) ≡ true
without_are [] cs rest e = subst (λ r. are_of cs r ≡ true) (same e) (are_themselves cs)
  where
    same : {a b : List Sort} → Some a ≡ Some b → a ≡ b
    same e = cc
without_are (d ∷ ds) [] rest e = absurd (cc)
without_are (d ∷ ds) (c ∷ cs) rest e = let both = chosen_true (is_of c d) (without ds cs) rest e in and_from (is_of c d) (are_of cs (ds ++ rest)) both.0 (without_are ds cs rest both.1)

before_more : (c : Sort) (o p : Option (List Sort)) (ds more : List Sort) → before c o ≡ Some ds → ((rest : List Sort) → o ≡ Some rest → p ≡ Some (rest ++ more)) → before c p ≡ Some (ds ++ more)
before_more c None p ds more e f = absurd (cc)
before_more c (Some rest) p ds more e f = ap (before c) (f rest refl) ∙ ap (λ o. tail_more o) e
  where
    tail_more : Option (List Sort) → Option (List Sort)
    tail_more None = None
    tail_more (Some cs) = Some (cs ++ more)

in_front_more : (o : Option Sort) (cs ds more : List Sort) → in_front o cs ≡ Some ds → in_front o (cs ++ more) ≡ Some (ds ++ more)
in_front_more None cs ds more e = absurd (cc)
in_front_more (Some c) cs ds more e = ap (λ o. tail_more o) e
  where
    tail_more : Option (List Sort) → Option (List Sort)
    tail_more None = None
    tail_more (Some cs) = Some (cs ++ more)

grouped_more : (k : ℕ) (cs ds more : List Sort) → grouped k cs ≡ Some ds → grouped k (cs ++ more) ≡ Some (ds ++ more)
grouped_more zero cs ds more e = in_front_more (Some Empty) cs ds more e
grouped_more (suc zero) cs ds more e = absurd (cc)
grouped_more (suc (suc zero)) [] ds more e = absurd (cc)
grouped_more (suc (suc zero)) (d ∷ []) ds more e = absurd (cc)
grouped_more (suc (suc zero)) (d ∷ c ∷ cs) ds more e = in_front_more (paired c d) cs ds more e
grouped_more (suc (suc (suc k))) cs ds more e = absurd (cc)

made_more : (b : Build) (cs ds more : List Sort) → made b cs ≡ Some ds → made b (cs ++ more) ≡ Some (ds ++ more)
made_more (build.Node q from count) cs ds more e =
    chosen_more (nat_eq count (length (parts_of q))) (before (sort_of q) (without (onto (parts_of q) []) cs)) (before (sort_of q) (without (onto (parts_of q) []) (cs ++ more))) ds (ds ++ more) e
    (λ f. before_more (sort_of q) (without (onto (parts_of q) []) cs) (without (onto (parts_of q) []) (cs ++ more)) ds more f (λ rest. without_more (onto (parts_of q) []) cs rest more))
made_more (build.Root q) cs ds more e = before_more Root (without (Nodes ∷ []) cs) (without (Nodes ∷ []) (cs ++ more)) ds more e (λ rest. without_more (Nodes ∷ []) cs rest more)
made_more (build.Group count) cs ds more e = grouped_more count cs ds more e
made_more build.Add [] ds more e = absurd (cc)
made_more build.Add (d ∷ []) ds more e = absurd (cc)
made_more build.Add (d ∷ c ∷ cs) ds more e = in_front_more (added c d) cs ds more e
made_more build.Missing cs ds more e = in_front_more (Some Gap) cs ds more e
made_more (build.Text t) cs ds more e = in_front_more (Some Text) cs ds more e

or_parts : (a b : Bool) → (a || b) ≡ true → (a ≡ true) ⊎ (b ≡ true)
or_parts true b e = inl refl
or_parts false b e = inr e

no_lead : (s : List Symbol) (d : Sort) → leads s None d ≡ true → ⊥
no_lead [] d e = cc
no_lead (x ∷ s) d e = cc

-- what leads on comes to something
led : (o : Option (List Sort)) (p : List Symbol) (d : Sort) → leads p o d ≡ true → (G : Type 0) → ((ds : List Sort) → o ≡ Some ds → leads p (Some ds) d ≡ true → G) → G
led None p d e G f = absurd (no_lead p d e)
led (Some ds) p d e G f = f ds refl e

led_before : (c : Sort) (o : Option (List Sort)) (p : List Symbol) (d : Sort) → leads p (before c o) d ≡ true → (G : Type 0) → ((ds : List Sort) → o ≡ Some ds → leads p (Some (c ∷ ds)) d ≡ true → G) → G
led_before c None p d e G f = absurd (no_lead p d e)
led_before c (Some ds) p d e G f = f ds refl e

-- symbols in front of what is to be read
joined : (p s : List Symbol) (cs more : List Sort) (d : Sort) → leads p (Some cs) d ≡ true → IsSorted s (d ∷ more) → IsSorted (p ++ s) (cs ++ more)
joined [] s [] more d e h = absurd (cc)
joined [] s (c ∷ []) more d e h = sorts.widens (c ∷ more) (d ∷ more) (and_from (is_of c d) (are_of more more) e (are_themselves more)) h
joined [] s (c ∷ b ∷ cs) more d e h = absurd (cc)
joined (Makes b ∷ p) s cs more d e h =
    led (made b cs) p d e (IsSorted (Makes b ∷ (p ++ s)) (cs ++ more)) (λ ds f g. sorts.makes (ds ++ more) (made_more b cs ds more f) (joined p s ds more d g h))
joined (Part x ∷ p) s cs more d e h = elim (or_parts (stops x) (leads p (before (gives x) (without (takes x) cs)) d) e) [
  | inl stop ↦ sorts.stopped stop
  | inr goes ↦ led_before (gives x) (without (takes x) cs) p d goes (IsSorted (Part x ∷ (p ++ s)) (cs ++ more))
      (λ ds f g. sorts.part (ds ++ more) (without_more (takes x) cs ds more f) (joined p s (gives x ∷ ds) more d g h))
]
joined (Never ∷ p) s cs more d e h = sorts.never
joined (End ∷ p) s cs more d e h = absurd (cc)
joined (T v ∷ p) s cs more d e h = sorts.word (joined p s cs more d e h)
joined (Semicolon ∷ p) s cs more d e h = sorts.semicolon (joined p s cs more d e h)
joined (FreeSemicolon ∷ p) s cs more d e h = sorts.free_semicolon (joined p s cs more d e h)
joined (Leave o ∷ p) s cs more d e h = sorts.leaves (joined p s cs more d e h)

stopped_here : (x : Nonterminal) (s : List Symbol) (u : Sight) (vs : List Tree) (cs : List Sort) → stops x ≡ true → IsSorted (produce x s u vs ++ s) cs
stopped_here n.Accessed s u vs cs e = sorts.word (sorts.makes (Empty ∷ cs) refl (sorts.part cs refl (sorts.leaves sorts.never)))
stopped_here x s u vs cs e = absurd (cc)

-- what is read in the place of a part
pub opened_sorts : (x : Nonterminal) (s : List Symbol) (u : Sight) (vs : List Tree) (cs : List Sort) → IsSorted (Part x ∷ s) cs → IsSorted (produce x s u vs ++ s) cs
opened_sorts x s u vs cs (sorts.widens _ ds e h) = sorts.widens cs ds e (opened_sorts x s u vs ds h)
opened_sorts x s u vs cs (sorts.stopped e) = stopped_here x s u vs cs e
opened_sorts x s u vs cs (sorts.part ds e h) = sorts.widens cs (takes x ++ ds) (without_are (takes x) cs ds e) (joined (produce x s u vs) s (takes x) ds (gives x) (sound x s u vs).sorted h)

-- how a reading begins
pub sorted_beginning : (start : Start) → IsSorted (beginning start) []
sorted_beginning Program = sorts.makes (Empty ∷ []) refl (sorts.part [] refl (sorts.makes (Root ∷ []) refl sorts.ends))
sorted_beginning Handler = sorts.makes (Empty ∷ []) refl (sorts.part [] refl (sorts.leaves (sorts.makes (Root ∷ []) refl sorts.ends)))

-- What is asked for of the trees at a making: some sorts that they have too, and what is made of them.
pub record AtMaking (b : Build) (s : List Symbol) (cs : List Sort) : Type 0 where
  pub wide : List Sort
  pub are : are_of cs wide ≡ true
  pub made_of : List Sort
  pub is : made b wide ≡ Some made_of
  pub rest : IsSorted s made_of
