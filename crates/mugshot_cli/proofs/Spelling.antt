-- Words, and the commands that they spell.
use Rattle.std.proofs.Common.{◌≡◌, inl, inr, ℕ, ◌-◌, ◌<◌, ◌≤◌, List, [], ◌∷◌, length, take, drop, get_or, map, refl, sym, ◌∙◌, ap, subst, arith, decimal, codes}
use Rattle.std.proofs.lemmas.Fmt.{decimal_injective}
use Rattle.std.proofs.lemmas.List.{take_all}
use Rattle.input_log.specs.declared.item.TheConstants.{STEPS_LIMIT}
use Rattle.mugshot_cli.specs.Command.{AreFiles, AreSteps, Spells}
use Rattle.mugshot_cli.specs.inner.Commands.{HasFiles}
use Rattle.mugshot_cli.specs.declared.command.Command.{Command}
use Rattle.mugshot_cli.specs.declared.command.Command.TheVariants as command

-- words give one budget
pub one_budget : (words : List (List ℕ)) (m n : ℕ) → AreSteps words m → AreSteps words n → m ≡ n
one_budget words m n (inl (none, is_m)) (inl (none', is_n)) = is_m ∙ sym is_n
one_budget words m n (inl (none, is_m)) (inr (some, low, high)) = absurd (let e : [] ≡ codes "--steps" ∷ decimal n ∷ [] = sym none ∙ some in cc)
one_budget words m n (inr (some, low, high)) (inl (none, is_n)) = absurd (let e : [] ≡ codes "--steps" ∷ decimal m ∷ [] = sym none ∙ some in cc)
one_budget words m n (inr (some, low, high)) (inr (some', low', high')) =
    let e : codes "--steps" ∷ decimal m ∷ [] ≡ codes "--steps" ∷ decimal n ∷ [] = sym some ∙ some' in
    let same : decimal m ≡ decimal n = cc in
    decimal_injective m n (omega arith) (omega arith) same

pub same_files : (words : List (List ℕ)) (p q a b s t : List ℕ) (m n : ℕ) → AreFiles words p a s m → AreFiles words q b t n → m ≡ n
same_files words p q a b s t m n one other =
    let e : p ∷ a ∷ s ∷ one.option ≡ q ∷ b ∷ t ∷ other.option = sym one.is ∙ other.is in
    let same : one.option ≡ other.option = cc in
    one_budget other.option m n (subst (λ (w : List (List ℕ)). AreSteps w m) same one.steps_are) other.steps_are

-- the words behind the first, and behind the first three
pub all_behind : {A : Type 0} (xs : List A) (first : A) → 1 ≤ length xs → first ≡ get_or xs 0 first → xs ≡ first ∷ take (length xs - 1) (drop 1 xs)
all_behind [] first some is = absurd (omega arith)
all_behind (x ∷ xs) first some is = λ i. sym is i ∷ sym (take_all (length (x ∷ xs) - 1) xs (omega arith)) i

pub behind_three : {A : Type 0} (xs : List A) → take (length xs - 3) (drop 3 xs) ≡ drop 3 xs
behind_three [] = refl
behind_three (x ∷ []) = refl
behind_three (x ∷ y ∷ []) = refl
behind_three (x ∷ y ∷ z ∷ xs) = take_all (length (x ∷ y ∷ z ∷ xs) - 3) xs (omega arith)

-- words of an option and a budget
pub budget_there : {A : Type 0} (f : A → List ℕ) (xs : List A) (option spelled : A) (n : ℕ) → 2 ≤ length xs → length xs < 3 → option ≡ get_or xs 0 option → spelled ≡ get_or xs 1 spelled
    → f option ≡ codes "--steps" → f spelled ≡ decimal n → (1 ≤ n) × (n ≤ STEPS_LIMIT) → AreSteps (map f xs) n
budget_there f [] option spelled n least below one two is_option is_n fits = absurd (omega arith)
budget_there f (x ∷ []) option spelled n least below one two is_option is_n fits = absurd (omega arith)
budget_there f (x ∷ y ∷ []) option spelled n least below one two is_option is_n fits = inr ((λ i. (ap f (sym one) ∙ is_option) i ∷ (ap f (sym two) ∙ is_n) i ∷ []), fits.0, fits.1)
budget_there f (x ∷ y ∷ z ∷ xs) option spelled n least below one two is_option is_n fits = absurd (omega arith)

-- numbers that one word spells
pub one_number : (word : List ℕ) (m n : ℕ) → m ≤ STEPS_LIMIT → n ≤ STEPS_LIMIT → word ≡ decimal m → word ≡ decimal n → m ≡ n
one_number word m n small fits spells_m spells_n = decimal_injective m n (omega arith) (omega arith) (sym spells_m ∙ spells_n)

-- three words whose further ones give no budget name no files
pub no_files : {A : Type 0} (f : A → List ℕ) (xs tail : List A) (c : Command) → 3 ≤ length xs → tail ≡ drop 3 xs → ((n : ℕ) → AreSteps (map f tail) n → ⊥) → HasFiles (map f xs) c → ⊥
no_files f [] tail c long is none files = omega arith
no_files f (x ∷ []) tail c long is none files = omega arith
no_files f (x ∷ y ∷ []) tail c long is none files = omega arith
no_files f (x ∷ y ∷ z ∷ xs) tail (command.List session) long is none files = files
no_files f (x ∷ y ∷ z ∷ xs) tail (command.Replay session) long is none files = files
no_files f (x ∷ y ∷ z ∷ xs) tail (command.Capture page arrivals session steps) long is none files =
    let e : f x ∷ f y ∷ f z ∷ map f xs ≡ page ∷ arrivals ∷ session ∷ files.option = files.is in
    let same : map f xs ≡ files.option = cc in
    none steps (subst (λ (w : List (List ℕ)). AreSteps w steps) (sym (ap (map f) is ∙ same)) files.steps_are)

-- words that begin with `capture` and name no files spell nothing
pub no_capture : {A : Type 0} (f : A → List ℕ) (xs tail : List A) (c : Command) (first : A) → xs ≡ first ∷ tail → f first ≡ codes "capture" → ((c : Command) → HasFiles (map f tail) c → ⊥) → Spells (map f xs) c → ⊥
no_capture f xs tail (command.List session) first is name none spells =
    let e : codes "capture" ∷ map f tail ≡ codes "list" ∷ session ∷ [] = ap (λ (w : List ℕ). w ∷ map f tail) (sym name) ∙ sym (ap (map f) is) ∙ spells.0 in cc
no_capture f xs tail (command.Replay session) first is name none spells =
    let e : codes "capture" ∷ map f tail ≡ codes "replay" ∷ session ∷ [] = ap (λ (w : List ℕ). w ∷ map f tail) (sym name) ∙ sym (ap (map f) is) ∙ spells.0 in cc
no_capture f xs tail (command.Capture page arrivals session steps) first is name none (files, same, are) =
    let e : f first ∷ map f tail ≡ codes "capture" ∷ files = sym (ap (map f) is) ∙ same in
    let rest : map f tail ≡ files = cc in
    none (command.Capture page arrivals session steps) (subst (λ (w : List (List ℕ)). AreFiles w page arrivals session steps) (sym rest) are)

-- a budget that was read is in its range
pub budget_fits : (words : List (List ℕ)) (page arrivals session : List ℕ) (steps : ℕ) → Spells words (command.Capture page arrivals session steps) → (1 ≤ steps) × (steps ≤ STEPS_LIMIT)
budget_fits words page arrivals session steps (files, same, are) = of_steps are.option are.steps_are
  where
    of_steps : (option : List (List ℕ)) → AreSteps option steps → (1 ≤ steps) × (steps ≤ STEPS_LIMIT)
    of_steps option (inl (none, is)) = (omega arith, omega arith)
    of_steps option (inr (some, low, high)) = (low, high)
