-- Names and their places among the slots of a table.
use Rattle.std.proofs.Common.{◌≡◌, ℕ, zero, suc, ◌<◌, ◌+◌, Bool, true, false, cond, List, [], ◌∷◌, ◌++◌, length, take, set, get_or, filter, Option, Some, None, Result, Ok, Err, OnOk, OnErr, is_err, is_some, IsSome, IfSome, MatchOption, slice_get, rules, refl, sym, ap, ◌∙◌, arith}
use Rattle.std.proofs.lemmas.List.{length-take, take_more}
use Rattle.std.proofs.lemmas.Option.{slice_get_read}
use Rattle.std.specs.Cmp.Lexicographic.{bytes_decides, nat_list_eq_equiv}
use Rattle.js_value.specs.Same.{text_equal}
use Rattle.js_value.specs.declared.value.Value.{Value}
use Rattle.js_table.specs.Properties.{property_named, with_property, without}
use Rattle.js_table.specs.declared.index.Index.{Index}
use Rattle.js_table.specs.declared.property.Property.{Property}
use Rattle.std.specs.declared.boxed.Box.{Box}
use Rattle.js_table.specs.inner.Slots.{AreDistinct, IsIndexOf, Stands, is_named, later, or_at, or_old, place_of, present}

-- Names.

pub text_equal-sym : (x y : List ℕ) → text_equal x y ≡ text_equal y x
text_equal-sym x y = nat_list_eq_equiv.symm x y

pub text_equal-refl : (x : List ℕ) → text_equal x x ≡ true
text_equal-refl x = nat_list_eq_equiv.refl x

pub same_name : (x y : List ℕ) → text_equal x y ≡ true → x ≡ y
same_name x y e = (bytes_decides x y).0 e

-- Places.

or_at-later : (b : Bool) (p : Option ℕ) (n : Bool) (k : ℕ) (r : Option ℕ) → r ≡ or_at p n k → cond b (Some zero) (later r) ≡ or_at (cond b (Some zero) (later p)) n (suc k)
or_at-later true p n k r e = refl
or_at-later false (Some m) n k r e = ap later e
or_at-later false None true k r e = ap later e
or_at-later false None false k r e = ap later e

pub place_of-snoc : (x : List ℕ) (ss : List (Option Property)) (s : Option Property) → place_of x (ss ++ s ∷ []) ≡ or_at (place_of x ss) (is_named x s) (length ss)
place_of-snoc x [] s = refl
place_of-snoc x (t ∷ ss) s = or_at-later (is_named x t) (place_of x ss) (is_named x s) (length ss) (place_of x (ss ++ s ∷ [])) (place_of-snoc x ss s)

pub none_later : (b : Bool) (p : Option ℕ) → cond b (Some zero) (later p) ≡ None → (b ≡ false) × (p ≡ None)
none_later true p e = cc
none_later false None e = (refl, refl)
none_later false (Some n) e = cc

-- where the name isn't among the slots, no slot has it
pub unnamed_at : (x : List ℕ) (ss : List (Option Property)) (i : ℕ) (s : Option Property) → place_of x ss ≡ None → slice_get ss i ≡ Some s → is_named x s ≡ false
unnamed_at x [] i s e g = cc
unnamed_at x (t ∷ ss) zero s e g = let same : t ≡ s = cc in ap (is_named x) (sym same) ∙ (none_later (is_named x t) (place_of x ss) e).0
unnamed_at x (t ∷ ss) (suc i) s e g = unnamed_at x ss i s (none_later (is_named x t) (place_of x ss) e).1 g

at_zero : (b : Bool) (p : Option ℕ) → b ≡ true → cond b (Some zero) p ≡ Some zero
at_zero b p e = rw e refl

at_later : (b : Bool) (p : Option ℕ) (n : ℕ) → b ≡ false → p ≡ Some n → cond b (Some zero) (later p) ≡ Some (suc n)
at_later b p n e f = rw (e, f) refl

-- the first slot that has the name is its place
pub place_found : (x : List ℕ) (ss : List (Option Property)) (i : ℕ) (s : Option Property) → place_of x (take i ss) ≡ None → slice_get ss i ≡ Some s → is_named x s ≡ true → place_of x ss ≡ Some i
place_found x [] i s e g n = cc
place_found x (t ∷ ss) zero s e g n = let same : t ≡ s = cc in at_zero (is_named x t) (later (place_of x ss)) (ap (is_named x) same ∙ n)
place_found x (t ∷ ss) (suc i) s e g n =
    let before = none_later (is_named x t) (place_of x (take i ss)) e in
    at_later (is_named x t) (place_of x ss) i before.0 (place_found x ss i s before.1 g n)

split_place : (b : Bool) (p : Option ℕ) (i : ℕ) → cond b (Some zero) (later p) ≡ Some (suc i) → (b ≡ false) × (p ≡ Some i)
split_place true p i e = cc
split_place false None i e = cc
split_place false (Some n) i e = (refl, cc)

split_zero : (b : Bool) (p : Option ℕ) → cond b (Some zero) (later p) ≡ Some zero → b ≡ true
split_zero true p e = refl
split_zero false None e = cc
split_zero false (Some n) e = cc

stands_past : (x : List ℕ) (t : Option Property) (ss : List (Option Property)) (i : ℕ) → is_named x t ≡ false → Stands x ss i → Stands x (t ∷ ss) (suc i)
stands_past x None ss i e s = record { property = s.property; at = s.at; named = s.named; found = s.found }
stands_past x (Some p) ss i e s = record { property = s.property; at = s.at; named = s.named; found = rw e s.found }

stands_first : (x : List ℕ) (t : Option Property) (ss : List (Option Property)) → is_named x t ≡ true → Stands x (t ∷ ss) zero
stands_first x None ss e = cc
stands_first x (Some p) ss e = record { property = p; at = refl; named = e; found = rw e refl }

pub stands_at : (x : List ℕ) (ss : List (Option Property)) (i : ℕ) → place_of x ss ≡ Some i → Stands x ss i
stands_at x [] i e = cc
stands_at x (t ∷ ss) zero e = stands_first x t ss (split_zero (is_named x t) (place_of x ss) e)
stands_at x (t ∷ ss) (suc i) e =
    let parts = split_place (is_named x t) (place_of x ss) i e in
    stands_past x t ss i parts.0 (stands_at x ss i parts.1)

unnamed_past : (x : List ℕ) (t : Option Property) (ss : List (Option Property)) → is_named x t ≡ false → property_named x (present ss) ≡ None → property_named x (present (t ∷ ss)) ≡ None
unnamed_past x None ss e n = n
unnamed_past x (Some p) ss e n = rw e n

pub none_stands : (x : List ℕ) (ss : List (Option Property)) → place_of x ss ≡ None → property_named x (present ss) ≡ None
none_stands x [] e = refl
none_stands x (t ∷ ss) e =
    let parts = none_later (is_named x t) (place_of x ss) e in
    unnamed_past x t ss parts.0 (none_stands x ss parts.1)

-- Distinct names.

apart : (x a b : List ℕ) → text_equal x a ≡ true → text_equal b a ≡ false → text_equal x b ≡ false
apart x a b e f =
    let same : text_equal x b ≡ text_equal a b = nat_list_eq_equiv.congr x a b e in
    same ∙ text_equal-sym a b ∙ f

-- before a slot stands no other of its name
pub distinct_before : (x : List ℕ) (ss : List (Option Property)) (i : ℕ) (p : Property) → AreDistinct ss → slice_get ss i ≡ Some (Some p) → text_equal x p.name ≡ true → place_of x (take i ss) ≡ None
distinct_before x [] i p d g e = cc
distinct_before x (t ∷ ss) zero p d g e = refl
distinct_before x (None ∷ ss) (suc i) p d g e = ap later (distinct_before x ss i p d g e)
distinct_before x (Some q ∷ ss) (suc i) p d g e =
    let other : text_equal q.name p.name ≡ false = unnamed_at q.name ss i (Some p) d.0 g in
    rw (apart x p.name q.name e other) (ap later (distinct_before x ss i p d.1 g e))

-- Steps of the loops over the slots.

pub place_of-more : (x : List ℕ) (ss : List (Option Property)) (i : ℕ) (s : Option Property) → i < length ss → s ≡ get_or ss i s → place_of x (take (i + 1) ss) ≡ or_at (place_of x (take i ss)) (is_named x s) i
place_of-more x ss i s h e =
    ap (place_of x) (take_more ss i s h ∙ ap (λ t. take i ss ++ t ∷ []) (sym e))
    ∙ place_of-snoc x (take i ss) s
    ∙ ap (or_at (place_of x (take i ss)) (is_named x s)) (omega (arith, length-take i ss))

pub no_place-more : (x : List ℕ) (ss : List (Option Property)) (i : ℕ) (s : Option Property) → i < length ss → s ≡ get_or ss i s → place_of x (take i ss) ≡ None → is_named x s ≡ false → place_of x (take (i + 1) ss) ≡ None
no_place-more x ss i s h e none unnamed = place_of-more x ss i s h e ∙ rw (none, unnamed) refl

pub place_of-here : (x : List ℕ) (ss : List (Option Property)) (i : ℕ) (s : Option Property) → i < length ss → s ≡ get_or ss i s → place_of x (take i ss) ≡ None → is_named x s ≡ true → place_of x ss ≡ Some i
place_of-here x ss i s h e none named = place_found x ss i s none (slice_get_read ss (length ss) i s refl h e) named

or_at-put : (b : Bool) (q : Option ℕ) (i : ℕ) → (b ≡ true → q ≡ None) → cond b (Some i) q ≡ or_at q b i
or_at-put true None i none = refl
or_at-put true (Some n) i none = let never : Some n ≡ None = none refl in cc
or_at-put false None i none = refl
or_at-put false (Some n) i none = refl

or_old-put : (b : Bool) (q : Option ℕ) (i : ℕ) (g : Option ℕ) → (b ≡ true → q ≡ None) → cond b (Some i) (or_old q g) ≡ or_old (or_at q b i) g
or_old-put true None i g none = refl
or_old-put true (Some n) i g none = let never : Some n ≡ None = none refl in cc
or_old-put false None i g none = refl
or_old-put false (Some n) i g none = refl

-- a place more is written: `after` has it, and `before` had those of the slots in front
pub places-put : (x : List ℕ) (ss : List (Option Property)) (i : ℕ) (p : Property) (before after : Option ℕ) → AreDistinct ss → i < length ss → Some p ≡ get_or ss i (Some p)
    → before ≡ place_of x (take i ss) → after ≡ cond (text_equal p.name x) (Some i) before → after ≡ place_of x (take (i + 1) ss)
places-put x ss i p before after d h e b a =
    a ∙ rw (b, text_equal-sym p.name x) (or_at-put (text_equal x p.name) (place_of x (take i ss)) i (distinct_before x ss i p d (slice_get_read ss (length ss) i (Some p) refl h e)))
    ∙ sym (place_of-more x ss i (Some p) h e)

pub places-renumbered : (x : List ℕ) (ss : List (Option Property)) (i : ℕ) (p : Property) (old before after : Option ℕ) → AreDistinct ss → i < length ss → Some p ≡ get_or ss i (Some p)
    → before ≡ or_old (place_of x (take i ss)) old → after ≡ cond (text_equal p.name x) (Some i) before → after ≡ or_old (place_of x (take (i + 1) ss)) old
places-renumbered x ss i p old before after d h e b a =
    a ∙ rw (b, text_equal-sym p.name x) (or_old-put (text_equal x p.name) (place_of x (take i ss)) i old (distinct_before x ss i p d (slice_get_read ss (length ss) i (Some p) refl h e)))
    ∙ ap (λ q. or_old q old) (sym (place_of-more x ss i (Some p) h e))

or_at-none : (q : Option ℕ) (i : ℕ) → or_at q false i ≡ q
or_at-none None i = refl
or_at-none (Some n) i = refl

pub places-gap : (x : List ℕ) (ss : List (Option Property)) (i : ℕ) → i < length ss → None ≡ get_or ss i None → place_of x (take (i + 1) ss) ≡ place_of x (take i ss)
places-gap x ss i h e = place_of-more x ss i None h e ∙ or_at-none (place_of x (take i ss)) i

found-known : (q : Option ℕ) (old : Option ℕ) → or_old q old ≡ None → (q ≡ None) × (old ≡ None)
found-known None old e = (refl, e)
found-known (Some n) old e = cc

some_place : (x : List ℕ) (ss : List (Option Property)) (i : ℕ) (p : Property) (q : Option ℕ) → q ≡ place_of x ss → slice_get ss i ≡ Some (Some p) → text_equal x p.name ≡ true → is_some q ≡ true
some_place x ss i p None e g named = let other = unnamed_at x ss i (Some p) (sym e) g in cc
some_place x ss i p (Some n) e g named = refl

clash : false ≡ true → ⊥
clash e = cc

-- a name of the slots is in the map that knew them all
pub never_unknown : (ss : List (Option Property)) (i : ℕ) (p : Property) (old now : Option ℕ) → i < length ss → Some p ≡ get_or ss i (Some p) → is_some old ≡ is_some (place_of p.name ss)
    → now ≡ or_old (place_of p.name (take i ss)) old → now ≡ None → ⊥
never_unknown ss i p old now h e known is none =
    let parts = found-known (place_of p.name (take i ss)) old (sym is ∙ none) in
    let there = some_place p.name ss i p (place_of p.name ss) refl (slice_get_read ss (length ss) i (Some p) refl h e) (text_equal-refl p.name) in
    let gone : is_some old ≡ false = ap is_some parts.1 in
    absurd (clash (sym gone ∙ known ∙ there))

or_old-known : (q old : Option ℕ) → is_some old ≡ is_some q → or_old q old ≡ q
or_old-known None None e = refl
or_old-known None (Some n) e = cc
or_old-known (Some n) old e = refl

-- after the last slot each place is known
pub renumbered_all : (x : List ℕ) (ss : List (Option Property)) (old now : Option ℕ) → is_some old ≡ is_some (place_of x ss) → now ≡ or_old (place_of x ss) old → now ≡ place_of x ss
renumbered_all x ss old now known is = is ∙ or_old-known (place_of x ss) old known

pub some_read : (q : Option ℕ) (n : ℕ) → Some n ≡ q → IsSome q
some_read None n e = cc
some_read (Some m) n e = search rules

-- Changes of the slots, and the properties that they hold.

pub place-within : (x : List ℕ) (ss : List (Option Property)) (i : ℕ) → place_of x ss ≡ Some i → i < length ss
place-within x [] i e = cc
place-within x (t ∷ ss) zero e = search rules
place-within x (t ∷ ss) (suc i) e = let more = place-within x ss i (split_place (is_named x t) (place_of x ss) i e).1 in omega arith

abbrev pub with_value : Property → Value → Property
with_value p v = record { name = p.name; value = v; listed = p.listed }

pub present-write : (x : List ℕ) (ss : List (Option Property)) (i : ℕ) (p : Property) (v : Value) (listed : Bool) → place_of x ss ≡ Some i → slice_get ss i ≡ Some (Some p)
    → present (set ss i (Some (with_value p v))) ≡ with_property x v listed (present ss)
present-write x [] i p v l e g = cc
present-write x (None ∷ ss) zero p v l e g = cc
present-write x (Some q ∷ ss) zero p v l e g =
    let same : q ≡ p = cc in
    rw (split_zero (text_equal x q.name) (place_of x ss) e) (ap (λ r. with_value r v ∷ present ss) (sym same))
present-write x (None ∷ ss) (suc i) p v l e g = present-write x ss i p v l (split_place false (place_of x ss) i e).1 g
present-write x (Some q ∷ ss) (suc i) p v l e g =
    let parts = split_place (text_equal x q.name) (place_of x ss) i e in
    rw (parts.0) (ap (λ qs. q ∷ qs) (present-write x ss i p v l parts.1 g))

pub place_of-write : (y : List ℕ) (ss : List (Option Property)) (i : ℕ) (p : Property) (v : Value) → slice_get ss i ≡ Some (Some p) → place_of y (set ss i (Some (with_value p v))) ≡ place_of y ss
place_of-write y [] i p v g = cc
place_of-write y (t ∷ ss) zero p v g = let same : Some p ≡ t = cc in ap (λ s. cond (is_named y s) (Some zero) (later (place_of y ss))) same
place_of-write y (t ∷ ss) (suc i) p v g = ap (λ q. cond (is_named y t) (Some zero) (later q)) (place_of-write y ss i p v g)

pub distinct-write : (ss : List (Option Property)) (i : ℕ) (p : Property) (v : Value) → slice_get ss i ≡ Some (Some p) → AreDistinct ss → AreDistinct (set ss i (Some (with_value p v)))
distinct-write [] i p v g d = cc
distinct-write (None ∷ ss) zero p v g d = cc
distinct-write (Some q ∷ ss) zero p v g d = let same : q ≡ p = cc in (ap (λ r. place_of r.name ss) (sym same) ∙ d.0, d.1)
distinct-write (None ∷ ss) (suc i) p v g d = distinct-write ss i p v g d
distinct-write (Some q ∷ ss) (suc i) p v g d = (place_of-write q.name ss i p v g ∙ d.0, distinct-write ss i p v g d.1)

unnamed_first : (b : Bool) (p : Property) (o : Option Property) → cond b (Some p) o ≡ None → (b ≡ false) × (o ≡ None)
unnamed_first true p o e = cc
unnamed_first false p o e = (refl, e)

pub with_property-new : (x : List ℕ) (v : Value) (listed : Bool) (ps : List Property) → property_named x ps ≡ None → with_property x v listed ps ≡ ps ++ record { name = x; value = v; listed = listed } ∷ []
with_property-new x v l [] e = refl
with_property-new x v l (p ∷ ps) e =
    let parts = unnamed_first (text_equal x p.name) p (property_named x ps) e in
    rw (parts.0) (ap (λ qs. p ∷ qs) (with_property-new x v l ps parts.1))

pub present-snoc : (ss : List (Option Property)) (p : Property) → present (ss ++ Some p ∷ []) ≡ present ss ++ p ∷ []
present-snoc [] p = refl
present-snoc (None ∷ ss) p = present-snoc ss p
present-snoc (Some q ∷ ss) p = ap (λ qs. q ∷ qs) (present-snoc ss p)

pub distinct-snoc : (ss : List (Option Property)) (p : Property) → place_of p.name ss ≡ None → AreDistinct ss → AreDistinct (ss ++ Some p ∷ [])
distinct-snoc [] p e d = (refl, tt)
distinct-snoc (None ∷ ss) p e d = distinct-snoc ss p (none_later false (place_of p.name ss) e).1 d
distinct-snoc (Some q ∷ ss) p e d =
    let parts = none_later (text_equal p.name q.name) (place_of p.name ss) e in
    (place_of-snoc q.name ss (Some p) ∙ rw (d.0, text_equal-sym q.name p.name ∙ parts.0) refl, distinct-snoc ss p parts.1 d.1)

is_some-later : (q : Option ℕ) → is_some (later q) ≡ is_some q
is_some-later None = refl
is_some-later (Some n) = refl

some_either : (b : Bool) (p : Property) (q : Option ℕ) (o : Option Property) → is_some q ≡ is_some o → is_some (cond b (Some zero) (later q)) ≡ is_some (cond b (Some p) o)
some_either true p q o e = refl
some_either false p q o e = is_some-later q ∙ e

-- a name is found among the slots exactly where a property has it
pub is_some-place_of : (x : List ℕ) (ss : List (Option Property)) → is_some (place_of x ss) ≡ is_some (property_named x (present ss))
is_some-place_of x [] = refl
is_some-place_of x (None ∷ ss) = is_some-later (place_of x ss) ∙ is_some-place_of x ss
is_some-place_of x (Some p ∷ ss) = some_either (text_equal x p.name) p (place_of x ss) (property_named x (present ss)) (is_some-place_of x ss)

pub none_from : (q : Option ℕ) → is_some q ≡ false → q ≡ None
none_from None e = refl
none_from (Some n) e = cc

pub unnamed-place : (x : List ℕ) (ss : List (Option Property)) → property_named x (present ss) ≡ None → place_of x ss ≡ None
unnamed-place x ss e = none_from (place_of x ss) (is_some-place_of x ss ∙ ap is_some e)

-- Gaps.

pub without-none : (x : List ℕ) (ps : List Property) → property_named x ps ≡ None → without x ps ≡ ps
without-none x [] e = refl
without-none x (p ∷ ps) e =
    let parts = unnamed_first (text_equal x p.name) p (property_named x ps) e in
    rw (parts.0) (ap (λ qs. p ∷ qs) (without-none x ps parts.1))

pub without_unnamed : (x : List ℕ) (ss : List (Option Property)) → place_of x ss ≡ None → without x (present ss) ≡ present ss
without_unnamed x ss e = without-none x (present ss) (none_stands x ss e)

-- an equal name isn't there either
pub same_none : (x y : List ℕ) (ss : List (Option Property)) → text_equal x y ≡ true → place_of y ss ≡ None → place_of x ss ≡ None
same_none x y ss e n = ap (λ z. place_of z ss) (same_name x y e) ∙ n

pub present-clear : (x : List ℕ) (ss : List (Option Property)) (i : ℕ) → AreDistinct ss → place_of x ss ≡ Some i → present (set ss i None) ≡ without x (present ss)
present-clear x [] i d e = cc
present-clear x (None ∷ ss) zero d e = let none = split_zero false (place_of x ss) e in cc
present-clear x (Some q ∷ ss) zero d e =
    let named = split_zero (text_equal x q.name) (place_of x ss) e in
    rw named (sym (without_unnamed x ss (same_none x q.name ss named d.0)))
present-clear x (None ∷ ss) (suc i) d e = present-clear x ss i d (split_place false (place_of x ss) i e).1
present-clear x (Some q ∷ ss) (suc i) d e =
    let parts = split_place (text_equal x q.name) (place_of x ss) i e in
    rw (parts.0) (ap (λ qs. q ∷ qs) (present-clear x ss i d.1 parts.1))

cleared_first : (b : Bool) (p : Option ℕ) → (b ≡ true → p ≡ None) → later p ≡ cond b None (cond b (Some zero) (later p))
cleared_first true p none = ap later (none refl)
cleared_first false p none = refl

later-cond : (b : Bool) (p : Option ℕ) → later (cond b None p) ≡ cond b None (later p)
later-cond true p = refl
later-cond false p = refl

cleared_later : (b c : Bool) (p q : Option ℕ) → (b ≡ true → c ≡ true → ⊥) → p ≡ cond c None q → cond b (Some zero) (later p) ≡ cond c None (cond b (Some zero) (later q))
cleared_later true true p q never e = absurd (never refl refl)
cleared_later true false p q never e = refl
cleared_later false true p q never e = ap later e
cleared_later false false p q never e = ap later e

apart_twice : (x y q : List ℕ) → text_equal x q ≡ false → text_equal y q ≡ true → text_equal x y ≡ true → ⊥
apart_twice x y q other equal same = clash (sym other ∙ nat_list_eq_equiv.congr x y q same ∙ equal)

pub place_of-clear : (x y : List ℕ) (ss : List (Option Property)) (i : ℕ) → AreDistinct ss → place_of x ss ≡ Some i → place_of y (set ss i None) ≡ cond (text_equal x y) None (place_of y ss)
place_of-clear x y [] i d e = cc
place_of-clear x y (None ∷ ss) zero d e = let none = split_zero false (place_of x ss) e in cc
place_of-clear x y (Some q ∷ ss) zero d e =
    let named = split_zero (text_equal x q.name) (place_of x ss) e in
    let same : text_equal x y ≡ text_equal y q.name = nat_list_eq_equiv.congr x q.name y named ∙ text_equal-sym q.name y in
    rw same (cleared_first (text_equal y q.name) (place_of y ss) (λ b. same_none y q.name ss b d.0))
place_of-clear x y (None ∷ ss) (suc i) d e = ap later (place_of-clear x y ss i d (split_place false (place_of x ss) i e).1) ∙ later-cond (text_equal x y) (place_of y ss)
place_of-clear x y (Some q ∷ ss) (suc i) d e =
    let parts = split_place (text_equal x q.name) (place_of x ss) i e in
    cleared_later (text_equal y q.name) (text_equal x y) (place_of y (set ss i None)) (place_of y ss) (λ b c. apart_twice x y q.name parts.0 b c) (place_of-clear x y ss i d.1 parts.1)

none-clear : (x : List ℕ) (ss : List (Option Property)) (i : ℕ) → place_of x ss ≡ None → place_of x (set ss i None) ≡ None
none-clear x [] i e = refl
none-clear x (t ∷ ss) zero e = ap later (none_later (is_named x t) (place_of x ss) e).1
none-clear x (t ∷ ss) (suc i) e =
    let parts = none_later (is_named x t) (place_of x ss) e in
    rw (parts.0) (ap later (none-clear x ss i parts.1))

pub distinct-clear : (ss : List (Option Property)) (i : ℕ) → AreDistinct ss → AreDistinct (set ss i None)
distinct-clear [] i d = tt
distinct-clear (None ∷ ss) zero d = d
distinct-clear (Some q ∷ ss) zero d = d.1
distinct-clear (None ∷ ss) (suc i) d = distinct-clear ss i d
distinct-clear (Some q ∷ ss) (suc i) d = (none-clear q.name ss i d.0, distinct-clear ss i d.1)

pub present-filter : (ss : List (Option Property)) → present (filter is_some ss) ≡ present ss
present-filter [] = refl
present-filter (None ∷ ss) = present-filter ss
present-filter (Some p ∷ ss) = ap (λ qs. p ∷ qs) (present-filter ss)

pub is_some-filter : (x : List ℕ) (ss : List (Option Property)) → is_some (place_of x (filter is_some ss)) ≡ is_some (place_of x ss)
is_some-filter x ss = is_some-place_of x (filter is_some ss) ∙ ap (λ ps. is_some (property_named x ps)) (present-filter ss) ∙ sym (is_some-place_of x ss)

pub distinct-filter : (ss : List (Option Property)) → AreDistinct ss → AreDistinct (filter is_some ss)
distinct-filter [] d = tt
distinct-filter (None ∷ ss) d = distinct-filter ss d
distinct-filter (Some p ∷ ss) d = (none_from (place_of p.name (filter is_some ss)) (is_some-filter p.name ss ∙ ap is_some d.0), distinct-filter ss d.1)

-- What callers are told.

pub within_if : (x : List ℕ) (ss : List (Option Property)) (q : Option ℕ) → q ≡ place_of x ss → IfSome q (λ i. i < length ss)
within_if x ss None e = tt
within_if x ss (Some i) e = place-within x ss i (sym e)

pub stands_if : (x : List ℕ) (ss : List (Option Property)) (q : Option ℕ) → q ≡ place_of x ss → MatchOption q (property_named x (present ss) ≡ None) (λ i. Stands x ss i)
stands_if x ss None e = none_stands x ss (sym e)
stands_if x ss (Some i) e = stands_at x ss i (sym e)

-- Calls of the tables.

pub index-same : {A : Type 0} (o : Option (Box Index A)) (ss ts : List (Option Property)) → ((y : List ℕ) → place_of y ts ≡ place_of y ss) → IsIndexOf o ss → IsIndexOf o ts
index-same None ss ts e h = tt
index-same (Some b) ss ts e h = λ x. h x ∙ sym (e x)

abbrev Writes : List (Option Property) → ℕ → Value → List (Option Property) → Type 0
Writes ss i v new = (p : Property) → slice_get ss i ≡ Some (Some p) → new ≡ set ss i (Some (with_value p v))

pub write-keeps : {A : Type 0} (x : List ℕ) (ss : List (Option Property)) (i : ℕ) (v : Value) (new : List (Option Property)) (o : Option (Box Index A)) → AreDistinct ss → IsIndexOf o ss → Stands x ss i
    → Writes ss i v new → AreDistinct new × IsIndexOf o new
write-keeps x ss i v new o d h s w =
    rw (w s.property s.at) (distinct-write ss i s.property v s.at d, index-same o ss (set ss i (Some (with_value s.property v))) (λ y. place_of-write y ss i s.property v s.at) h)

pub write-view : (x : List ℕ) (ss : List (Option Property)) (i : ℕ) (v : Value) (listed : Bool) (new : List (Option Property)) → Some i ≡ place_of x ss → Stands x ss i
    → Writes ss i v new → present new ≡ with_property x v listed (present ss)
write-view x ss i v l new e s w = ap present (w s.property s.at) ∙ present-write x ss i s.property v l (sym e) s.at

pub on_ok : {A E P : Type 0} (r : Result A E) → is_err r ≡ false → OnOk r P → P
on_ok (Ok a) e p = p
on_ok (Err x) e p = cc

pub on_err : {A E P : Type 0} (r : Result A E) → is_err r ≡ true → OnErr r P → P
on_err (Ok a) e p = cc
on_err (Err x) e p = p

-- a place more behind the others
pub place-behind : (x : List ℕ) (ss : List (Option Property)) (p : Property) (before after : Option ℕ) → place_of p.name ss ≡ None → before ≡ place_of x ss → after ≡ cond (text_equal p.name x) (Some (length ss)) before
    → after ≡ place_of x (ss ++ Some p ∷ [])
place-behind x ss p before after none b a =
    a ∙ rw (b, text_equal-sym p.name x) (or_at-put (text_equal x p.name) (place_of x ss) (length ss) (λ e. same_none x p.name ss e none))
    ∙ sym (place_of-snoc x ss (Some p))

pub same_place : (x a b : List ℕ) (i j : ℕ) (q : Option ℕ) → a ≡ b → i ≡ j → cond (text_equal a x) (Some i) q ≡ cond (text_equal b x) (Some j) q
same_place x a b i j q e f = ap (λ y. cond (text_equal y x) (Some i) q) e ∙ ap (λ n. cond (text_equal b x) (Some n) q) f

pub on_ok_map : {A E P Q : Type 0} (r : Result A E) → (P → Q) → OnOk r P → OnOk r Q
on_ok_map (Ok a) f p = f p
on_ok_map (Err x) f p = tt

unnamed_from : (o : Option Property) → false ≡ is_some o → o ≡ None
unnamed_from None e = refl
unnamed_from (Some p) e = cc

-- a property more behind the others, whose name isn't among them
pub added-new : (x y : List ℕ) (v w : Value) (l : Bool) (ps qs : List Property) → y ≡ x → w ≡ v → qs ≡ ps → false ≡ is_some (property_named x ps)
    → qs ++ record { name = y; value = w; listed = l } ∷ [] ≡ with_property x v l ps
added-new x y v w l ps qs e f g none = rw (e, f, g) (sym (with_property-new x v l ps (unnamed_from (property_named x ps) none)))
