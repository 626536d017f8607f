-- Lists that are written with a separator between each two, and read from the front.
use Rattle.std.proofs.Common.{◌≡◌, ◌≢◌, ℕ, ◌<◌, ◌⊎◌, inl, inr, List, [], ◌∷◌, ◌++◌, length, get_or, map, flat_map, All, refl, sym, ◌∙◌, ap, subst, arith, append_assoc, length-append}
use Rattle.std.proofs.lemmas.List.Elements.{All-head, All-tail, All-nil, All-push}
use Rattle.mugshot_cli.specs.ThinPage.Reading.{joined}

-- bytes that begin otherwise are others
pub other_front : (b c : ℕ) (l m : List ℕ) → (b < c) ⊎ (c < b) → b ∷ l ≡ c ∷ m → ⊥
other_front b c l m (inl less) e = let h : b ≡ c = ap (λ (l : List ℕ). get_or l 0 0) e in omega arith
other_front b c l m (inr more) e = let h : b ≡ c = ap (λ (l : List ℕ). get_or l 0 0) e in omega arith

pub nonempty : (b : ℕ) (l : List ℕ) → [] ≡ b ∷ l → ⊥
nonempty b l e = cc

-- what stands behind one of them: the others, each behind a separator, and then `end`
abbrev pub behind : {A : Type 0} → (A → List ℕ) → ℕ → List A → List ℕ → List ℕ
behind text separator [] end = end
behind text separator (x ∷ xs) end = separator ∷ (text x ++ behind text separator xs end)

-- the bytes are this list, with `end` behind it
abbrev pub Lists : {A : Type 0} → (A → List ℕ) → ℕ → List ℕ → List A → List ℕ → Type 0
Lists text separator bytes [] end = ⊥
Lists text separator bytes (x ∷ xs) end = bytes ≡ text x ++ behind text separator xs end

flat : {A : Type 0} (text : A → List ℕ) (separator : ℕ) (xs : List A) (end : List ℕ) → flat_map (λ t. separator ∷ t) (map text xs) ++ end ≡ behind text separator xs end
flat text separator [] end = refl
flat text separator (x ∷ xs) end =
    append_assoc (separator ∷ text x) (flat_map (λ t. separator ∷ t) (map text xs)) end ∙ ap (λ (l : List ℕ). separator ∷ (text x ++ l)) (flat text separator xs end)

first_and_others : {A : Type 0} (text : A → List ℕ) (separator : ℕ) (x : A) (xs : List A) (end : List ℕ) → joined separator (map text (x ∷ xs)) ++ end ≡ text x ++ behind text separator xs end
first_and_others text separator x xs end =
    append_assoc (text x) (flat_map (λ t. separator ∷ t) (map text xs)) end ∙ ap (λ (l : List ℕ). text x ++ l) (flat text separator xs end)

pub lists_from_joined : {A : Type 0} (text : A → List ℕ) (separator : ℕ) (bytes : List ℕ) (xs : List A) (end : List ℕ) → xs ≢ [] → bytes ≡ joined separator (map text xs) ++ end → Lists text separator bytes xs end
lists_from_joined text separator bytes [] end some is = absurd (some refl)
lists_from_joined text separator bytes (x ∷ xs) end some is = is ∙ first_and_others text separator x xs end

pub joined_from_lists : {A : Type 0} (text : A → List ℕ) (separator : ℕ) (bytes : List ℕ) (xs : List A) (end : List ℕ) → Lists text separator bytes xs end → (xs ≢ []) × (bytes ≡ joined separator (map text xs) ++ end)
joined_from_lists text separator bytes [] end h = absurd h
joined_from_lists text separator bytes (x ∷ xs) end h = ((λ e. cc), h ∙ sym (first_and_others text separator x xs end))

-- texts that are told apart from the front, before a separator or an end
pub record Parts {A : Type 0} (text : A → List ℕ) (Is : A → Type 0) (separator : ℕ) (Follows End : List ℕ → Type 0) : Type 0 where
  pub front : (a b : A) (m n : List ℕ) → Is a → Is b → Follows m → Follows n → text a ++ m ≡ text b ++ n → (a ≡ b) × (m ≡ n)
  pub parted : (m : List ℕ) → Follows (separator ∷ m)
  pub ended : (m : List ℕ) → End m → Follows m
  pub apart : (a : A) (m : List ℕ) → Is a → End (separator ∷ (text a ++ m)) → ⊥

follows : {A : Type 0} {text : A → List ℕ} {Is : A → Type 0} {separator : ℕ} {Follows End : List ℕ → Type 0}
    → Parts text Is separator Follows End → (xs : List A) (end : List ℕ) → End end → Follows (behind text separator xs end)
follows parts [] end ends = parts.ended end ends
follows {A} {text} {Is} {separator} parts (x ∷ xs) end ends = parts.parted (text x ++ behind text separator xs end)

same_behind : {A : Type 0} {text : A → List ℕ} {Is : A → Type 0} {separator : ℕ} {Follows End : List ℕ → Type 0}
    → Parts text Is separator Follows End → (xs ys : List A) (m n : List ℕ) → All Is xs → All Is ys → End m → End n
    → behind text separator xs m ≡ behind text separator ys n → (xs ≡ ys) × (m ≡ n)
same_behind parts [] [] m n vx vy em en e = (refl, e)
same_behind {A} {text} {Is} {separator} {Follows} {End} parts [] (y ∷ ys) m n vx vy em en e =
    absurd (parts.apart y (behind text separator ys n) (All-head Is y ys vy) (subst End e em))
same_behind {A} {text} {Is} {separator} {Follows} {End} parts (x ∷ xs) [] m n vx vy em en e =
    absurd (parts.apart x (behind text separator xs m) (All-head Is x xs vx) (subst End (sym e) en))
same_behind {A} {text} {Is} {separator} {Follows} {End} parts (x ∷ xs) (y ∷ ys) m n vx vy em en e =
    let tails : text x ++ behind text separator xs m ≡ text y ++ behind text separator ys n = cc in
    let first = parts.front x y _ _ (All-head Is x xs vx) (All-head Is y ys vy) (follows parts xs m em) (follows parts ys n en) tails in
    let others = same_behind parts xs ys m n (All-tail Is x xs vx) (All-tail Is y ys vy) em en first.1 in
    ((λ i. first.0 i ∷ others.0 i), others.1)

-- bytes are one list at most
pub same_list : {A : Type 0} {text : A → List ℕ} {Is : A → Type 0} {separator : ℕ} {Follows End : List ℕ → Type 0}
    → Parts text Is separator Follows End → (bytes : List ℕ) (xs ys : List A) (m n : List ℕ) → All Is xs → All Is ys → End m → End n
    → Lists text separator bytes xs m → Lists text separator bytes ys n → (xs ≡ ys) × (m ≡ n)
same_list parts bytes [] ys m n vx vy em en lx ly = absurd lx
same_list parts bytes (x ∷ xs) [] m n vx vy em en lx ly = absurd ly
same_list {A} {text} {Is} {separator} parts bytes (x ∷ xs) (y ∷ ys) m n vx vy em en lx ly =
    let first = parts.front x y _ _ (All-head Is x xs vx) (All-head Is y ys vy) (follows parts xs m em) (follows parts ys n en) (sym lx ∙ ly) in
    let others = same_behind parts xs ys m n (All-tail Is x xs vx) (All-tail Is y ys vy) em en first.1 in
    ((λ i. first.0 i ∷ others.0 i), others.1)

-- ---- reading on

-- the rest is this list, where these items stand before it
pub record GoesOn {A : Type 0} (text : A → List ℕ) (Is : A → Type 0) (separator : ℕ) (done : List A) (rest : List ℕ) (xs : List A) (end : List ℕ) : Type 0 where
  pub others : List A
  pub valid : All Is others
  pub is : xs ≡ done ++ others
  pub lists : Lists text separator rest others end

-- the bytes begin with these items, each before a separator, and the rest stands behind them
pub record Reached {A : Type 0} (text : A → List ℕ) (Is : A → Type 0) (separator : ℕ) (End : List ℕ → Type 0) (bytes : List ℕ) (done : List A) (rest : List ℕ) : Type 0 where
  pub valid : All Is done
  pub are : (xs : List A) (end : List ℕ) → Lists text separator rest xs end → Lists text separator bytes (done ++ xs) end
  pub only : (xs : List A) (end : List ℕ) → All Is xs → End end → Lists text separator bytes xs end → GoesOn text Is separator done rest xs end

pub reached_none : {A : Type 0} {text : A → List ℕ} {Is : A → Type 0} {separator : ℕ} {End : List ℕ → Type 0} (bytes : List ℕ) → Reached text Is separator End bytes [] bytes
reached_none {A} {text} {Is} bytes =
    record { valid = All-nil Is; are = λ xs end lists. lists; only = λ xs end valid ends lists. record { others = xs; valid = valid; is = refl; lists = lists } }

pub reached_more : {A : Type 0} {text : A → List ℕ} {Is : A → Type 0} {separator : ℕ} {Follows End : List ℕ → Type 0}
    → Parts text Is separator Follows End → (bytes : List ℕ) (done : List A) (rest : List ℕ) (a : A) (next : List ℕ)
    → Reached text Is separator End bytes done rest → Is a → (End (separator ∷ next) → ⊥) → rest ≡ text a ++ separator ∷ next
    → Reached text Is separator End bytes (done ++ a ∷ []) next
reached_more {A} {text} {Is} {separator} {Follows} {End} parts bytes done rest a next so_far valid more is =
    record { valid = All-push Is done a so_far.valid valid; are = are; only = only }
  where
    are : (xs : List A) (end : List ℕ) → Lists text separator next xs end → Lists text separator bytes ((done ++ a ∷ []) ++ xs) end
    are [] end lists = absurd lists
    are (x ∷ xs) end lists =
        let rests : Lists text separator rest (a ∷ x ∷ xs) end = is ∙ ap (λ (l : List ℕ). text a ++ separator ∷ l) lists in
        subst (λ (l : List A). Lists text separator bytes l end) (sym (append_assoc done (a ∷ []) (x ∷ xs))) (so_far.are (a ∷ x ∷ xs) end rests)

    on : (xs : List A) (end : List ℕ) → End end → (others : List A) → All Is others → xs ≡ done ++ others → Lists text separator rest others end → GoesOn text Is separator (done ++ a ∷ []) next xs end
    on xs end ends [] vs whole lists = absurd lists
    on xs end ends (b ∷ []) vs whole lists =
        let same = parts.front a b _ _ valid (All-head Is b [] vs) (parts.parted next) (parts.ended end ends) (sym is ∙ lists) in
        absurd (more (subst End (sym same.1) ends))
    on xs end ends (b ∷ x ∷ others) vs whole lists =
        let same = parts.front a b _ _ valid (All-head Is b (x ∷ others) vs) (parts.parted next) (parts.parted (text x ++ behind text separator others end)) (sym is ∙ lists) in
        let nexts : next ≡ text x ++ behind text separator others end = let h = same.1 in cc in
        let wholes : xs ≡ (done ++ a ∷ []) ++ (x ∷ others) =
        whole ∙ ap (λ (c : A). done ++ c ∷ x ∷ others) (sym same.0) ∙ sym (append_assoc done (a ∷ []) (x ∷ others)) in
        record { others = x ∷ others; valid = All-tail Is b (x ∷ others) vs; is = wholes; lists = nexts }

    only : (xs : List A) (end : List ℕ) → All Is xs → End end → Lists text separator bytes xs end → GoesOn text Is separator (done ++ a ∷ []) next xs end
    only xs end vs ends lists = let goes = so_far.only xs end vs ends lists in on xs end ends goes.others goes.valid goes.is goes.lists

-- the last item
pub reached_end : {A : Type 0} {text : A → List ℕ} {Is : A → Type 0} {separator : ℕ} {End : List ℕ → Type 0} (bytes : List ℕ) (done : List A) (rest : List ℕ) (a : A) (end : List ℕ)
    → Reached text Is separator End bytes done rest → Is a → rest ≡ text a ++ end
    → All Is (done ++ a ∷ []) × Lists text separator bytes (done ++ a ∷ []) end
reached_end {A} {text} {Is} bytes done rest a end so_far valid is = (All-push Is done a so_far.valid valid, so_far.are (a ∷ []) end is)

-- no item stands there
pub not_begun : {A : Type 0} {text : A → List ℕ} {Is : A → Type 0} {separator : ℕ} {Follows End : List ℕ → Type 0}
    → Parts text Is separator Follows End → (bytes : List ℕ) (done : List A) (rest : List ℕ) → Reached text Is separator End bytes done rest
    → ((a : A) (m : List ℕ) → Is a → Follows m → rest ≢ text a ++ m) → (xs : List A) (end : List ℕ) → All Is xs → End end → Lists text separator bytes xs end → ⊥
not_begun {A} {text} {Is} {separator} {Follows} {End} parts bytes done rest so_far none xs end vs ends lists =
    let goes = so_far.only xs end vs ends lists in begins goes.others goes.valid goes.lists
  where
    begins : (others : List A) → All Is others → Lists text separator rest others end → ⊥
    begins [] vs lists = lists
    begins (x ∷ others) vs lists = none x _ (All-head Is x others vs) (follows parts others end ends) lists

-- an item stands there, and behind it neither a separator nor an end
pub not_behind : {A : Type 0} {text : A → List ℕ} {Is : A → Type 0} {separator : ℕ} {Follows End : List ℕ → Type 0}
    → Parts text Is separator Follows End → (bytes : List ℕ) (done : List A) (rest : List ℕ) (a : A) (more : List ℕ) → Reached text Is separator End bytes done rest
    → Is a → Follows more → rest ≡ text a ++ more → (End more → ⊥) → ((m : List ℕ) → more ≢ separator ∷ m) → (xs : List A) (end : List ℕ) → All Is xs → End end → Lists text separator bytes xs end → ⊥
not_behind {A} {text} {Is} {separator} {Follows} {End} parts bytes done rest a more so_far valid follow is no_end no_more xs end vs ends lists =
    let goes = so_far.only xs end vs ends lists in stops goes.others goes.valid goes.lists
  where
    stops : (others : List A) → All Is others → Lists text separator rest others end → ⊥
    stops [] vs lists = lists
    stops (x ∷ []) vs lists =
        let same = parts.front a x _ _ valid (All-head Is x [] vs) follow (parts.ended end ends) (sym is ∙ lists) in
        no_end (subst End (sym same.1) ends)
    stops (x ∷ y ∷ others) vs lists =
        let same = parts.front a x _ _ valid (All-head Is x (y ∷ others) vs) follow (parts.parted (text y ++ behind text separator others end)) (sym is ∙ lists) in
        no_more _ same.1

-- a list is longer than what stands before the rest
pub longer : {A : Type 0} {text : A → List ℕ} {Is : A → Type 0} {separator : ℕ} {End : List ℕ → Type 0} (bytes : List ℕ) (done : List A) (rest : List ℕ)
    → Reached text Is separator End bytes done rest → (xs : List A) (end : List ℕ) → All Is xs → End end → Lists text separator bytes xs end → length done < length xs
longer {A} {text} {Is} {separator} bytes done rest so_far xs end vs ends lists =
    let goes = so_far.only xs end vs ends lists in more goes.others goes.is goes.lists
  where
    more : (others : List A) → xs ≡ done ++ others → Lists text separator rest others end → length done < length xs
    more [] is lists = absurd lists
    more (x ∷ others) is lists = omega (arith, ap (λ (l : List A). length l) is, length-append done (x ∷ others))
