-- The text of an argument, before a comma or a parenthesis, is determined by the bytes.
use Rattle.std.proofs.Common.{◌≡◌, ◌≢◌, ℕ, ◌<◌, ◌≤◌, ◌^◌, inl, inr, List, [], ◌∷◌, ◌++◌, length, All, codes, decimal, Option, None, Some, MatchOption, Bor, refl, sym, ◌∙◌, ap, subst, arith, lit<}
use Rattle.std.specs.Str.Parse.{AllDigits}
use Rattle.std.proofs.lemmas.Fmt.{decimal_injective, decimal_is_IsNumeral}
use Rattle.std.proofs.lemmas.List.{append_cancel_left}
use Rattle.std.proofs.lemmas.List.Elements.{All-head, All-tail, All-nil, All-cons}
use Rattle.std.proofs.lemmas.Str.Parse.{digit_from_value}
use Rattle.mug_text.specs.declared.limits.TheConstants.{SAFE_END}
use Rattle.mugshot_cli.specs.ThinPage.inner.Parts.{EndsArgument, EndsDigits, HasArguments, IsDigit}
use Rattle.mugshot_cli.specs.ThinPage.Reading.{IsArgument, argument_text}
use Rattle.mugshot_cli.specs.declared.thin_page.reading.Argument.{Argument}
use Rattle.mugshot_cli.specs.declared.thin_page.reading.Argument.TheVariants.{Now, Rand, Number}
use Rattle.mugshot_cli.proofs.ThinPage.Joined.{Lists, Parts, joined_from_lists, lists_from_joined, other_front}

all_digit : (ds : List ℕ) → AllDigits 10 ds → All IsDigit ds
all_digit [] digits = All-nil IsDigit
all_digit (d ∷ ds) digits = let k = digit_from_value d digits.0 in All-cons IsDigit d ds (omega arith, omega arith) (all_digit ds digits.1)

decimal_digits : (n : ℕ) → n < SAFE_END → All IsDigit (decimal n)
decimal_digits n small = let wide : n < 2 ^ 64 = omega arith in all_digit (decimal n) (decimal_is_IsNumeral n wide).0.1

goes_on : (y : ℕ) (b m n : List ℕ) → All IsDigit (y ∷ b) → EndsDigits m → m ≡ (y ∷ b) ++ n → ⊥
goes_on y b m n digits ends e =
    let here : EndsDigits (y ∷ (b ++ n)) = subst EndsDigits e ends in
    let digit = All-head IsDigit y b digits in
    elim here [ inl below ↦ omega arith | inr above ↦ omega arith ]

-- the digits up to the first other byte are one spelling
pub same_digits : (a b m n : List ℕ) → All IsDigit a → All IsDigit b → EndsDigits m → EndsDigits n → a ++ m ≡ b ++ n → (a ≡ b) × (m ≡ n)
same_digits [] [] m n da db em en e = (refl, e)
same_digits [] (y ∷ b) m n da db em en e = absurd (goes_on y b m n db em e)
same_digits (x ∷ a) [] m n da db em en e = absurd (goes_on x a n m da en (sym e))
same_digits (x ∷ a) (y ∷ b) m n da db em en e =
    let heads : x ≡ y = cc in
    let tails : a ++ m ≡ b ++ n = cc in
    let both = same_digits a b m n (All-tail IsDigit x a da) (All-tail IsDigit y b db) em en tails in
    ((λ i. heads i ∷ both.0 i), both.1)

first_digit : (b : ℕ) (l ds m : List ℕ) → 0 < length ds → All IsDigit ds → b ∷ l ≡ ds ++ m → IsDigit b
first_digit b l [] m some digits e = absurd (omega arith)
first_digit b l (d ∷ ds) m some digits e = let heads : d ≡ b = cc in subst IsDigit heads (All-head IsDigit d ds digits)

-- a number begins with a digit
begins : (b : ℕ) (l : List ℕ) (n : ℕ) (m : List ℕ) → n < SAFE_END → b ∷ l ≡ decimal n ++ m → IsDigit b
begins b l n m small e = let wide : n < 2 ^ 64 = omega arith in first_digit b l (decimal n) m (decimal_is_IsNumeral n wide).0.0 (decimal_digits n small) e

-- behind a number no digit stands
abbrev pub Follows : Argument → List ℕ → Type 0
Follows Now m = Unit {0}
Follows Rand m = Unit {0}
Follows (Number n) m = EndsDigits m

pub ends_digits : (m : List ℕ) → EndsArgument m → EndsDigits m
ends_digits [] ends = tt
ends_digits (b ∷ m) (inl comma) = inl (omega arith)
ends_digits (b ∷ m) (inr close) = inl (omega arith)

pub follows_argument : (a : Argument) (m : List ℕ) → EndsArgument m → Follows a m
follows_argument Now m ends = tt
follows_argument Rand m ends = tt
follows_argument (Number n) m ends = ends_digits m ends

call_or_number : (b : ℕ) (l : List ℕ) (n : ℕ) (m : List ℕ) → 57 < b → n < SAFE_END → b ∷ l ≡ decimal n ++ m → ⊥
call_or_number b l n m above small e = let digit = begins b l n m small e in omega arith

-- an argument is determined by the bytes
pub same_argument : (a b : Argument) (m n : List ℕ) → IsArgument a → IsArgument b → Follows a m → Follows b n → argument_text a ++ m ≡ argument_text b ++ n → (a ≡ b) × (m ≡ n)
same_argument Now Now m n va vb fm fn e = (refl, append_cancel_left (codes "Date.now()") m n e)
same_argument Now Rand m n va vb fm fn e = absurd (other_front 68 77 _ _ (inl (lit< tt)) e)
same_argument Now (Number k) m n va vb fm fn e = absurd (call_or_number 68 _ k n (omega arith) vb e)
same_argument Rand Now m n va vb fm fn e = absurd (other_front 77 68 _ _ (inr (lit< tt)) e)
same_argument Rand Rand m n va vb fm fn e = (refl, append_cancel_left (codes "Math.random()") m n e)
same_argument Rand (Number k) m n va vb fm fn e = absurd (call_or_number 77 _ k n (omega arith) vb e)
same_argument (Number j) Now m n va vb fm fn e = absurd (call_or_number 68 _ j m (omega arith) va (sym e))
same_argument (Number j) Rand m n va vb fm fn e = absurd (call_or_number 77 _ j m (omega arith) va (sym e))
same_argument (Number j) (Number k) m n va vb fm fn e =
    let both = same_digits (decimal j) (decimal k) m n (decimal_digits j va) (decimal_digits k vb) fm fn e in
    (ap (λ (i : ℕ). Number i) (decimal_injective j k (omega arith) (omega arith) both.0), both.1)

-- a parenthesis ends the arguments
abbrev pub EndsCall : List ℕ → Type 0
EndsCall end = (more : List ℕ) × (end ≡ 41 ∷ more)

pub arguments : Parts argument_text IsArgument 44 EndsArgument EndsCall
arguments =
    record {
      front = λ a b m n va vb em en e. same_argument a b m n va vb (follows_argument a m em) (follows_argument b n en) e;
      parted = λ m. inl refl;
      ended = λ m ends. subst EndsArgument (sym ends.1) (inr refl);
      apart = λ a m valid ends. other_front 44 41 _ _ (inr (lit< tt)) ends.1;
    }

pub listed : (bytes : List ℕ) (xs : List Argument) (more : List ℕ) → HasArguments bytes xs more → Lists argument_text 44 bytes xs (41 ∷ more)
listed bytes xs more has = lists_from_joined argument_text 44 bytes xs (41 ∷ more) has.some has.is

pub has_arguments : (bytes : List ℕ) (xs : List Argument) (more : List ℕ) → length xs ≤ 8 → All IsArgument xs → Lists argument_text 44 bytes xs (41 ∷ more) → HasArguments bytes xs more
has_arguments bytes xs more few valid lists =
    let both = joined_from_lists argument_text 44 bytes xs (41 ∷ more) lists in record { some = both.0; few = few; valid = valid; is = both.1 }

-- an argument whose end is looked for
pub argument_ended : (bytes : List ℕ) (a : Argument) (more : List ℕ) (r : Option (Argument × Bor (List ℕ))) → IsArgument a → Follows a more → bytes ≡ argument_text a ++ more
    → MatchOption r (EndsArgument more → ⊥) (λ pair. EndsArgument more × (pair.0 ≡ a) × (pair.1.now ≡ more))
    → MatchOption r ((b : Argument) (m : List ℕ) → IsArgument b → EndsArgument m → bytes ≢ argument_text b ++ m) (λ pair. IsArgument pair.0 × EndsArgument pair.1.now × (bytes ≡ argument_text pair.0 ++ pair.1.now))
argument_ended bytes a more None valid follow is none =
    λ b m vb ends e.
    let same = same_argument b a m more vb valid (follows_argument b m ends) follow (sym e ∙ is) in none (subst EndsArgument same.1 ends)
argument_ended bytes a more (Some pair) valid follow is found =
    (subst IsArgument (sym found.1) valid, subst EndsArgument (sym found.2) found.0, is ∙ (λ i. argument_text (sym found.1 i) ++ sym found.2 i))

-- neither a call nor a number stands in front
pub no_argument : (bytes digits more : List ℕ) → ((m : List ℕ) → bytes ≢ codes "Date.now()" ++ m) → ((m : List ℕ) → bytes ≢ codes "Math.random()" ++ m)
    → bytes ≡ digits ++ more → All IsDigit digits → EndsDigits more → ((n : ℕ) → n < SAFE_END → digits ≢ decimal n)
    → (a : Argument) (m : List ℕ) → IsArgument a → EndsArgument m → bytes ≢ argument_text a ++ m
no_argument bytes digits more no_now no_rand is are ends none Now m valid follow e = no_now m e
no_argument bytes digits more no_now no_rand is are ends none Rand m valid follow e = no_rand m e
no_argument bytes digits more no_now no_rand is are ends none (Number n) m valid follow e =
    none n valid (same_digits digits (decimal n) more m are (decimal_digits n valid) ends (ends_digits m follow) (sym is ∙ e)).0
