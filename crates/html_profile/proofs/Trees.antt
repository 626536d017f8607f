-- What is built of a page, step by step.
use Rattle.std.proofs.Common.{◌≡◌, ℕ, ◌+◌, ◌<◌, Bool, true, false, not, List, [], ◌∷◌, ◌++◌, length, map, get_or, drop, refl, sym, ap, ◌∙◌, append_assoc}
use Rattle.std.proofs.lemmas.Bool.{cond-true, cond-false}
use Rattle.std.proofs.lemmas.Str.{chars-encodes}
use Rattle.std.specs.List.{list_any, flat_map}
use Rattle.std.specs.Borrow.{Bor}
use Rattle.std.specs.Str.{bytes_eq, chars}
use Rattle.std.specs.Char.Escape.{encode_utf16}
use Rattle.mug_text.specs.Text.{IsText}
use Rattle.html_profile.specs.Names.{firsts}
use Rattle.html_profile.specs.Tree.{State, units, innermost, opened, element_of, script_of, handlers_of, name_at, with_element}
use Rattle.html_profile.specs.declared.piece.Tag.{Tag}
use Rattle.html_profile.specs.declared.tag.Attribute.{Attribute}
use Rattle.html_profile.proofs.Attributes.{cut_at}

-- the text of bytes has their units
pub units_are : {bytes text : List ℕ} → IsText bytes text → text ≡ units bytes
units_are is = is.units_are ∙ ap (flat_map encode_utf16) (sym (chars-encodes is.points is.scalars) ∙ ap chars (sym is.bytes_are))

not_true : (b : Bool) → not b ≡ true → b ≡ false
not_true true is = sym is
not_true false is = refl

not_false : (b : Bool) → not b ≡ false → b ≡ true
not_false true is = refl
not_false false is = sym is

module _ (attributes : List Attribute) (i : ℕ) (a : Attribute) (kept : List Attribute) (names : List (List ℕ)) (inside : i < length attributes) (here : a ≡ get_or attributes i a)
    (so_far : firsts [] attributes ≡ kept ++ firsts names (drop i attributes)) where
  next : firsts [] attributes ≡ kept ++ firsts names (a ∷ drop (i + 1) attributes)
  next = so_far ∙ ap (λ l. kept ++ firsts names l) (cut_at attributes i a inside here)

  pub kept_more : list_any (bytes_eq a.name) names ≡ false → firsts [] attributes ≡ (kept ++ a ∷ []) ++ firsts (a.name ∷ names) (drop (i + 1) attributes)
  kept_more other = next ∙ ap (λ l. kept ++ l) (cond-false _ _ _ other) ∙ sym (append_assoc kept (a ∷ []) (firsts (a.name ∷ names) (drop (i + 1) attributes)))

  pub kept_same : list_any (bytes_eq a.name) names ≡ true → firsts [] attributes ≡ kept ++ firsts (a.name ∷ names) (drop (i + 1) attributes)
  kept_same same = next ∙ ap (λ l. kept ++ l) (cond-true _ _ _ same)

abbrev pub pointed : List (Bor Attribute) → List Attribute
pointed xs = map (λ a. a.now) xs

pub pointed_more : (xs : List (Bor Attribute)) (x : Bor Attribute) → pointed (xs ++ x ∷ []) ≡ pointed xs ++ x.now ∷ []
pointed_more [] x = refl
pointed_more (y ∷ xs) x = ap (λ l. y.now ∷ l) (pointed_more xs x)

module _ (attributes : List Attribute) (i : ℕ) (a : Attribute) (kept after : List (Bor Attribute)) (name : List ℕ) (names : List (List ℕ)) (fresh : Bool) (inside : i < length attributes)
    (here : a ≡ get_or attributes i a) (so_far : firsts [] attributes ≡ pointed kept ++ firsts names (drop i attributes)) (name_is : name ≡ a.name)
    (fresh_is : fresh ≡ not (list_any (bytes_eq name) names)) where
  renamed : fresh ≡ not (list_any (bytes_eq a.name) names)
  renamed = fresh_is ∙ ap (λ n. not (list_any (bytes_eq n) names)) name_is

  pub firsts_more : (x : Bor Attribute) → x.now ≡ a → fresh ≡ true → after ≡ kept ++ x ∷ [] → firsts [] attributes ≡ pointed after ++ firsts (name ∷ names) (drop (i + 1) attributes)
  firsts_more x x_is new more =
      let other : list_any (bytes_eq a.name) names ≡ false = not_true _ (sym renamed ∙ new) in
      kept_more attributes i a (pointed kept) names inside here so_far other
      ∙ ap (λ n. (pointed kept ++ a ∷ []) ++ firsts (n ∷ names) (drop (i + 1) attributes)) (sym name_is)
      ∙ ap (λ b. (pointed kept ++ b ∷ []) ++ firsts (name ∷ names) (drop (i + 1) attributes)) (sym x_is)
      ∙ ap (λ l. l ++ firsts (name ∷ names) (drop (i + 1) attributes)) (sym (pointed_more kept x))
      ∙ ap (λ l. pointed l ++ firsts (name ∷ names) (drop (i + 1) attributes)) (sym more)

  pub firsts_same : fresh ≡ false → after ≡ kept → firsts [] attributes ≡ pointed after ++ firsts (name ∷ names) (drop (i + 1) attributes)
  firsts_same old same =
      let again : list_any (bytes_eq a.name) names ≡ true = not_false _ (sym renamed ∙ old) in
      kept_same attributes i a (pointed kept) names inside here so_far again
      ∙ ap (λ n. pointed kept ++ firsts (n ∷ names) (drop (i + 1) attributes)) (sym name_is)
      ∙ ap (λ l. pointed l ++ firsts (name ∷ names) (drop (i + 1) attributes)) (sym same)

-- a state that has a start tag's element, and all that it adds
pub added : (total : ℕ) (s t : State) (tag : Tag) → t.nodes ≡ s.nodes ++ element_of (innermost s.open_elements) tag ∷ [] → t.open_elements ≡ opened (length s.nodes) tag.name s.open_elements → t.words ≡ tag.text
    → t.scripts ≡ s.scripts ++ script_of total (length s.nodes) tag → t.handlers ≡ s.handlers ++ handlers_of total (length s.nodes) (firsts [] tag.attributes)
    → t.names ≡ s.names ++ map (name_at total (length s.nodes)) (firsts [] tag.attributes) → t ≡ with_element total s tag
added total s t tag nodes opens words scripts handlers names = λ i. record { nodes = nodes i; open_elements = opens i; words = words i; scripts = scripts i; handlers = handlers i; names = names i }
