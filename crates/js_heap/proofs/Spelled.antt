-- Names that numbers spell.
use Rattle.std.proofs.Common.{◌≡◌, ℕ, ◌<◌, ◌≤◌, ◌^◌, Bool, true, false, ◌&&◌, nat_lt, cond, List, codes, decimal, Option, Some, None, refl, sym, ap, ◌∙◌, arith}
use Rattle.std.proofs.lemmas.Bool.Decides.{nat_tests}
use Rattle.std.proofs.lemmas.Fmt.{decimal_is_IsNumeral}
use Rattle.std.specs.Option.{option_map_or}
use Rattle.std.specs.Fmt.{digits}
use Rattle.std.specs.Str.Parse.{digits_value}
use Rattle.js_value.specs.Same.{text_equal}
use Rattle.js_value.specs.declared.value.Value.{Value}
use Rattle.js_table.specs.Indices.{index_of}
use Rattle.js_table.specs.Properties.{with_property}
use Rattle.js_table.proofs.Places.{same_name}
use Rattle.js_table.proofs.ElementLemmas.{index_of-decimal}
use Rattle.js_heap.specs.Elements.{cut, length_in, raised, with_element}
use Rattle.js_heap.specs.World.{Property}

value_of : (n : ℕ) → n < 2 ^ 64 → digits_value 10 (decimal n) ≡ n
value_of n h = (decimal_is_IsNumeral n h).1

length_spelled : text_equal (decimal (digits_value 10 (codes "length"))) (codes "length") ≡ false
unfolding digits
length_spelled = refl

never_length : (n : ℕ) (b : Bool) → n < 2 ^ 64 → text_equal (decimal n) (codes "length") ≡ b → b ≡ false
never_length n false h e = refl
never_length n true h e =
    let same : decimal n ≡ codes "length" = same_name (decimal n) (codes "length") e in
    let number : n ≡ digits_value 10 (codes "length") = sym (value_of n h) ∙ ap (digits_value 10) same in
    sym e ∙ ap (λ k. text_equal (decimal k) (codes "length")) number ∙ length_spelled

unlength : (b : Bool) (ps qs : List Property) → b ≡ false → cond b ps qs ≡ qs
unlength b ps qs e = rw e refl

no_index : (b : Bool) (o : Option ℕ) → b ≡ false → cond b o None ≡ None
no_index b o e = rw e refl

unlisted : (b c : Bool) → b ≡ false → b && c ≡ false
unlisted b c e = rw e refl

index_none : (n : ℕ) → n < 2 ^ 64 → 0xFFFF_FFFF ≤ n → index_of (decimal n) ≡ None
index_none n h k =
    let large : nat_lt n 0xFFFF_FFFF ≡ false = grind (arith, nat_tests) in
    no_index (nat_lt (digits_value 10 (decimal n)) 0xFFFF_FFFF && text_equal (decimal n) (decimal (digits_value 10 (decimal n)))) (Some (digits_value 10 (decimal n)))
    (unlisted (nat_lt (digits_value 10 (decimal n)) 0xFFFF_FFFF) (text_equal (decimal n) (decimal (digits_value 10 (decimal n)))) (ap (λ m. nat_lt m 0xFFFF_FFFF) (value_of n h) ∙ large))

raised_by : (n : ℕ) (v : Value) (l : Bool) (ps : List Property) → n < 2 ^ 64 → with_element (decimal n) v l ps ≡ raised (index_of (decimal n)) (with_property (decimal n) v l ps)
raised_by n v l ps h =
    unlength (text_equal (decimal n) (codes "length")) (option_map_or (λ m. cut m ps) (length_in v) ps) (raised (index_of (decimal n)) (with_property (decimal n) v l ps))
    (never_length n (text_equal (decimal n) (codes "length")) h refl)

pub spelled-index : (n : ℕ) (v : Value) (l : Bool) (ps : List Property) → n < 2 ^ 64 → n < 0xFFFF_FFFF → with_element (decimal n) v l ps ≡ raised (Some n) (with_property (decimal n) v l ps)
spelled-index n v l ps h k = raised_by n v l ps h ∙ ap (λ o. raised o (with_property (decimal n) v l ps)) (index_of-decimal n k)

pub spelled-name : (n : ℕ) (v : Value) (l : Bool) (ps : List Property) → n < 2 ^ 64 → 0xFFFF_FFFF ≤ n → with_element (decimal n) v l ps ≡ with_property (decimal n) v l ps
spelled-name n v l ps h k = raised_by n v l ps h ∙ ap (λ o. raised o (with_property (decimal n) v l ps)) (index_none n h k)
