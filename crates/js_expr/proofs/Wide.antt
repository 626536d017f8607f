-- What fits a sort fits each sort that it is of.
use Rattle.std.proofs.Common.{◌≡◌, ◌⊎◌, inl, inr, ℕ, zero, suc, Bool, true, false, ◌&&◌, List, [], ◌∷◌, length, Option, Some, None, refl, sym, ap, subst}
use Rattle.std.specs.Prelude.{nat_eq}
use Rattle.std.proofs.lemmas.Bool.{and_parts, and_from}
use Rattle.js_grammar.specs.declared.symbol.Build.{Build}
use Rattle.js_grammar.specs.declared.symbol.Build.TheVariants as build
use Rattle.js_grammar.specs.declared.symbol.Symbol.{Symbol}
use Rattle.js_grammar.specs.declared.symbol.Symbol.TheVariants.{Word as T, Semicolon, FreeSemicolon, Build as Makes, Leave}
use Rattle.js_grammar.specs.declared.symbol.Open.{Open}
use Rattle.js_tokens.specs.declared.word.Word.{Word}
use Rattle.js_grammar.specs.inner.Sorts.{Sort, Node, Text, Gap, Maybe_node, Maybe_text, Empty, Nodes, Maybe_nodes, Elements, Words, Entry, Entries, Declarator, Declarators, Case, Cases, Catch, Maybe_catch, Body, Root}
use Rattle.js_grammar.specs.inner.Sorts.{is_of, are_of, parts_of, sort_of, onto, without, chosen, before, added, paired, in_front, grouped, made, IsSorted}
use Rattle.js_grammar.specs.inner.Sorts as sorts
use Rattle.js_grammar.proofs.Sorting.{of_itself}

-- Tests over all sorts --------------------------------------------------------------------------

abbrev pub all_sorts : List Sort
all_sorts = Node ∷ Text ∷ Gap ∷ Maybe_node ∷ Maybe_text ∷ Empty ∷ Nodes ∷ Maybe_nodes ∷ Elements ∷ Words ∷ Entry ∷ Entries ∷ Declarator ∷ Declarators ∷ Case ∷ Cases ∷ Catch ∷ Maybe_catch ∷ Body ∷ Root ∷ []

abbrev pub every : List Sort → (Sort → Bool) → Bool
every [] f = true
every (c ∷ cs) f = f c && every cs f

abbrev pub when : Bool → (Bool → Bool) → Bool
when true f = f true
when false f = true

abbrev pub IsAmong : Sort → List Sort → Type 0
IsAmong c [] = ⊥
IsAmong c (d ∷ ds) = (d ≡ c) ⊎ IsAmong c ds

at_member : (f : Sort → Bool) (c : Sort) (cs : List Sort) → IsAmong c cs → every cs f ≡ true → f c ≡ true
at_member f c [] m e = absurd m
at_member f c (d ∷ ds) (inl h) e = subst (λ z. f z ≡ true) h (and_parts (f d) (every ds f) e).0
at_member f c (d ∷ ds) (inr m) e = at_member f c ds m (and_parts (f d) (every ds f) e).1

member : (c : Sort) → IsAmong c all_sorts
member Node = inl refl
member Text = inr (inl refl)
member Gap = inr (inr (inl refl))
member Maybe_node = inr (inr (inr (inl refl)))
member Maybe_text = inr (inr (inr (inr (inl refl))))
member Empty = inr (inr (inr (inr (inr (inl refl)))))
member Nodes = inr (inr (inr (inr (inr (inr (inl refl))))))
member Maybe_nodes = inr (inr (inr (inr (inr (inr (inr (inl refl)))))))
member Elements = inr (inr (inr (inr (inr (inr (inr (inr (inl refl))))))))
member Words = inr (inr (inr (inr (inr (inr (inr (inr (inr (inl refl)))))))))
member Entry = inr (inr (inr (inr (inr (inr (inr (inr (inr (inr (inl refl))))))))))
member Entries = inr (inr (inr (inr (inr (inr (inr (inr (inr (inr (inr (inl refl)))))))))))
member Declarator = inr (inr (inr (inr (inr (inr (inr (inr (inr (inr (inr (inr (inl refl))))))))))))
member Declarators = inr (inr (inr (inr (inr (inr (inr (inr (inr (inr (inr (inr (inr (inl refl)))))))))))))
member Case = inr (inr (inr (inr (inr (inr (inr (inr (inr (inr (inr (inr (inr (inr (inl refl))))))))))))))
member Cases = inr (inr (inr (inr (inr (inr (inr (inr (inr (inr (inr (inr (inr (inr (inr (inl refl)))))))))))))))
member Catch = inr (inr (inr (inr (inr (inr (inr (inr (inr (inr (inr (inr (inr (inr (inr (inr (inl refl))))))))))))))))
member Maybe_catch = inr (inr (inr (inr (inr (inr (inr (inr (inr (inr (inr (inr (inr (inr (inr (inr (inr (inl refl)))))))))))))))))
member Body = inr (inr (inr (inr (inr (inr (inr (inr (inr (inr (inr (inr (inr (inr (inr (inr (inr (inr (inl refl))))))))))))))))))
member Root = inr (inr (inr (inr (inr (inr (inr (inr (inr (inr (inr (inr (inr (inr (inr (inr (inr (inr (inr (inl refl)))))))))))))))))))

at_each : (f : Sort → Bool) (c : Sort) → every all_sorts f ≡ true → f c ≡ true
at_each f c e = at_member f c all_sorts (member c) e

when_so : (b : Bool) (f : Bool → Bool) → when b f ≡ true → b ≡ true → f true ≡ true
when_so true f e h = e
when_so false f e h = cc

some_is : {A : Type 0} {a b : A} → Some a ≡ Some b → a ≡ b
some_is e = cc

-- What is of what -------------------------------------------------------------------------------

abbrev both_of : Sort → Sort → Sort → Bool
both_of a b c = when (is_of b c) (λ z. is_of a c)

both_table : every all_sorts (λ a. every all_sorts (λ b. when (is_of a b) (λ z. every all_sorts (both_of a b)))) ≡ true
both_table = refl

pub is_of_both : (a b c : Sort) → is_of a b ≡ true → is_of b c ≡ true → is_of a c ≡ true
is_of_both a b c e f =
    let all_b = at_each (λ a. every all_sorts (λ b. when (is_of a b) (λ z. every all_sorts (both_of a b)))) a both_table in
    let all_c = when_so (is_of a b) (λ z. every all_sorts (both_of a b)) (at_each (λ b. when (is_of a b) (λ z. every all_sorts (both_of a b))) b all_b) e in
    when_so (is_of b c) (λ z. is_of a c) (at_each (both_of a b) c all_c) f

pub are_of_both : (xs ys zs : List Sort) → are_of xs ys ≡ true → are_of ys zs ≡ true → are_of xs zs ≡ true
are_of_both [] [] zs e f = f
are_of_both [] (b ∷ ys) zs e f = cc
are_of_both (a ∷ xs) [] zs e f = cc
are_of_both (a ∷ xs) (b ∷ ys) [] e f = cc
are_of_both (a ∷ xs) (b ∷ ys) (c ∷ zs) e f =
    let (h, hs) = and_parts (is_of a b) (are_of xs ys) e in
    let (g, gs) = and_parts (is_of b c) (are_of ys zs) f in
    and_from (is_of a c) (are_of xs zs) (is_of_both a b c h g) (are_of_both xs ys zs hs gs)

-- Two that become one ---------------------------------------------------------------------------

abbrev pub fits : Option Sort → Option Sort → Bool
fits None p = true
fits (Some e) None = false
fits (Some e) (Some f) = is_of f e

by_fits : (o p : Option Sort) (e : Sort) → fits o p ≡ true → o ≡ Some e → (f : Sort) × (p ≡ Some f) × (is_of f e ≡ true)
by_fits None p e h i = cc
by_fits (Some d) None e h i = cc
by_fits (Some d) (Some f) e h i = (f, refl, subst (λ z. is_of f z ≡ true) (some_is i) h)

abbrev one_row : (Sort → Sort → Option Sort) → Sort → Sort → Sort → Sort → Bool
one_row op a b c d = when (is_of c d) (λ z. fits (op b d) (op a c))

abbrev two_rows : (Sort → Sort → Option Sort) → Sort → Sort → Bool
two_rows op a b = when (is_of a b) (λ z. every all_sorts (λ c. every all_sorts (λ d. one_row op a b c d)))

abbrev pub is_wide : (Sort → Sort → Option Sort) → Bool
is_wide op = every all_sorts (λ a. every all_sorts (λ b. two_rows op a b))

wide : (op : Sort → Sort → Option Sort) → is_wide op ≡ true → (a b c d e : Sort) → is_of a b ≡ true → is_of c d ≡ true → op b d ≡ Some e → (f : Sort) × (op a c ≡ Some f) × (is_of f e ≡ true)
wide op table a b c d e h g is =
    let all_b = at_each (λ a. every all_sorts (λ b. two_rows op a b)) a table in
    let all_c = when_so (is_of a b) (λ z. every all_sorts (λ c. every all_sorts (λ d. one_row op a b c d))) (at_each (λ b. two_rows op a b) b all_b) h in
    let all_d = at_each (λ c. every all_sorts (λ d. one_row op a b c d)) c all_c in
    by_fits (op b d) (op a c) e (when_so (is_of c d) (λ z. fits (op b d) (op a c)) (at_each (λ d. one_row op a b c d) d all_d) g) is

added_table : is_wide added ≡ true
added_table = refl

paired_table : is_wide paired ≡ true
paired_table = refl

-- A making --------------------------------------------------------------------------------------

pub chosen_is : (b : Bool) (o : Option (List Sort)) (ds : List Sort) → chosen b o ≡ Some ds → (b ≡ true) × (o ≡ Some ds)
chosen_is true o ds e = (refl, e)
chosen_is false o ds e = cc

chosen_as : (b : Bool) (o : Option (List Sort)) (ds : List Sort) → b ≡ true → o ≡ Some ds → chosen b o ≡ Some ds
chosen_as b o ds e h = subst (λ z. chosen z o ≡ Some ds) (sym e) h

-- what fits and is made of narrower sorts is narrower
abbrev pub Narrower : Option (List Sort) → List Sort → Type 0
Narrower o ds = (es : List Sort) × (o ≡ Some es) × (are_of es ds ≡ true)

without_wide : (ds cs wide rest : List Sort) → are_of cs wide ≡ true → without ds wide ≡ Some rest → Narrower (without ds cs) rest
without_wide [] cs wide rest a e = (cs, refl, subst (λ z. are_of cs z ≡ true) (some_is e) a)
without_wide (d ∷ ds) cs [] rest a e = cc
without_wide (d ∷ ds) [] (w ∷ wide) rest a e = cc
without_wide (d ∷ ds) (c ∷ cs) (w ∷ wide) rest a e =
    let (h, hs) = and_parts (is_of c w) (are_of cs wide) a in
    let (g, gs) = chosen_is (is_of w d) (without ds wide) rest e in
    let (less, is, more) = without_wide ds cs wide rest hs gs in
    (less, chosen_as (is_of c d) (without ds cs) less (is_of_both c w d h g) is, more)

before_wide : (c : Sort) (o p : Option (List Sort)) (ds : List Sort) → ((rest : List Sort) → o ≡ Some rest → Narrower p rest) → before c o ≡ Some ds → Narrower (before c p) ds
before_wide c None p ds f e = cc
before_wide c (Some rest) p ds f e =
    let (es, is, less) = f rest refl in
    (c ∷ es, ap (before c) is, subst (λ z. are_of (c ∷ es) z ≡ true) (some_is e) (and_from (is_of c c) (are_of es rest) (of_itself c) less))

front_wide : (o p : Option Sort) (cs wide ds : List Sort) → ((e : Sort) → o ≡ Some e → (f : Sort) × (p ≡ Some f) × (is_of f e ≡ true)) → are_of cs wide ≡ true →
    in_front o wide ≡ Some ds → Narrower (in_front p cs) ds
front_wide None p cs wide ds f a e = cc
front_wide (Some c) p cs wide ds f a e =
    let (d, is, less) = f c refl in
    (d ∷ cs, ap (λ z. in_front z cs) is, subst (λ z. are_of (d ∷ cs) z ≡ true) (some_is e) (and_from (is_of d c) (are_of cs wide) less a))

same_front : (c : Sort) (e : Sort) → Some c ≡ Some e → (f : Sort) × (Some c ≡ Some f) × (is_of f e ≡ true)
same_front c e h = (c, refl, subst (λ z. is_of c z ≡ true) (some_is h) (of_itself c))

two_wide : (op : Sort → Sort → Option Sort) → is_wide op ≡ true → (d c : Sort) (cs wide ds : List Sort) (x y : Sort) → is_of x d ≡ true → is_of y c ≡ true → are_of cs wide ≡ true →
    in_front (op c d) wide ≡ Some ds → Narrower (in_front (op y x) cs) ds
two_wide op table d c cs w ds x y h g a e = front_wide (op c d) (op y x) cs w ds (λ z is. wide op table y c x d z g h is) a e

grouped_wide : (count : ℕ) (cs wide ds : List Sort) → are_of cs wide ≡ true → grouped count wide ≡ Some ds → Narrower (grouped count cs) ds
grouped_wide zero cs w ds a e = front_wide (Some Empty) (Some Empty) cs w ds (same_front Empty) a e
grouped_wide (suc zero) cs w ds a e = cc
grouped_wide (suc (suc zero)) cs [] ds a e = cc
grouped_wide (suc (suc zero)) cs (d ∷ []) ds a e = cc
grouped_wide (suc (suc zero)) [] (d ∷ c ∷ w) ds a e = cc
grouped_wide (suc (suc zero)) (x ∷ []) (d ∷ c ∷ w) ds a e = no_more (and_parts (is_of x d) false a).1
  where
    no_more : {A : Type 0} → false ≡ true → A
    no_more h = cc
grouped_wide (suc (suc zero)) (x ∷ y ∷ cs) (d ∷ c ∷ w) ds a e =
    let (h, hs) = and_parts (is_of x d) (is_of y c && are_of cs w) a in
    let (g, gs) = and_parts (is_of y c) (are_of cs w) hs in
    two_wide paired paired_table d c cs w ds x y h g gs e
grouped_wide (suc (suc (suc n))) cs w ds a e = cc

made_wide : (b : Build) (cs wide ds : List Sort) → are_of cs wide ≡ true → made b wide ≡ Some ds → Narrower (made b cs) ds
made_wide (build.Node q from count) cs w ds a e =
    let (fit, is) = chosen_is (nat_eq count (length (parts_of q))) (before (sort_of q) (without (onto (parts_of q) []) w)) ds e in
    let (es, of_cs, less) = before_wide (sort_of q) (without (onto (parts_of q) []) w) (without (onto (parts_of q) []) cs) ds
    (λ rest h. without_wide (onto (parts_of q) []) cs w rest a h) is in
    (es, chosen_as (nat_eq count (length (parts_of q))) (before (sort_of q) (without (onto (parts_of q) []) cs)) es fit of_cs, less)
made_wide (build.Root q) cs w ds a e = before_wide Root (without (Nodes ∷ []) w) (without (Nodes ∷ []) cs) ds (λ rest h. without_wide (Nodes ∷ []) cs w rest a h) e
made_wide (build.Group count) cs w ds a e = grouped_wide count cs w ds a e
made_wide build.Add cs [] ds a e = cc
made_wide build.Add cs (d ∷ []) ds a e = cc
made_wide build.Add [] (d ∷ c ∷ w) ds a e = cc
made_wide build.Add (x ∷ []) (d ∷ c ∷ w) ds a e = no_more (and_parts (is_of x d) false a).1
  where
    no_more : {A : Type 0} → false ≡ true → A
    no_more h = cc
made_wide build.Add (x ∷ y ∷ cs) (d ∷ c ∷ w) ds a e =
    let (h, hs) = and_parts (is_of x d) (is_of y c && are_of cs w) a in
    let (g, gs) = and_parts (is_of y c) (are_of cs w) hs in
    two_wide added added_table d c cs w ds x y h g gs e
made_wide build.Missing cs w ds a e = front_wide (Some Gap) (Some Gap) cs w ds (same_front Gap) a e
made_wide (build.Text t) cs w ds a e = front_wide (Some Text) (Some Text) cs w ds (same_front Text) a e

-- What is to be read ----------------------------------------------------------------------------

-- the sorts of a reading fit the making that comes next, and what is behind it
pub at_making : (b : Build) (s : List Symbol) (cs : List Sort) → IsSorted (Makes b ∷ s) cs → (es : List Sort) × (made b cs ≡ Some es) × IsSorted s es
at_making b s cs (sorts.widens _ ds e h) =
    let (fs, is, rest) = at_making b s ds h in
    let (es, of_cs, less) = made_wide b cs ds fs e is in
    (es, of_cs, sorts.widens es fs less rest)
at_making b s cs (sorts.makes ds e h) = (ds, e, h)

pub behind_word : (v : Word) (s : List Symbol) (cs : List Sort) → IsSorted (T v ∷ s) cs → IsSorted s cs
behind_word v s cs (sorts.widens _ ds e h) = sorts.widens cs ds e (behind_word v s ds h)
behind_word v s cs (sorts.word h) = h

pub behind_semicolon : (s : List Symbol) (cs : List Sort) → IsSorted (Semicolon ∷ s) cs → IsSorted s cs
behind_semicolon s cs (sorts.widens _ ds e h) = sorts.widens cs ds e (behind_semicolon s ds h)
behind_semicolon s cs (sorts.semicolon h) = h

pub behind_free : (s : List Symbol) (cs : List Sort) → IsSorted (FreeSemicolon ∷ s) cs → IsSorted s cs
behind_free s cs (sorts.widens _ ds e h) = sorts.widens cs ds e (behind_free s ds h)
behind_free s cs (sorts.free_semicolon h) = h

pub behind_leave : (o : Open) (s : List Symbol) (cs : List Sort) → IsSorted (Leave o ∷ s) cs → IsSorted s cs
behind_leave o s cs (sorts.widens _ ds e h) = sorts.widens cs ds e (behind_leave o s ds h)
behind_leave o s cs (sorts.leaves h) = h
