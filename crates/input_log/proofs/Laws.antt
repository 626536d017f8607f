-- Items are told apart by their bytes.
use Rattle.std.proofs.Common.{◌≡◌, ℕ, ◌<◌, ◌^◌, List, [], ◌∷◌, ◌++◌, length, refl, sym, ◌∙◌, ap, arith, append_assoc}
use Rattle.std.specs.Int.{to_be_bytes, from_be_bytes, w32, w64}
use Rattle.std.proofs.lemmas.Nat.{from_be_bytes-to_be_bytes_4, from_be_bytes-to_be_bytes_8}
use Rattle.mug_text.specs.Text.{utf8_of}
use Rattle.mug_text.proofs.Texts.{same_text}
use Rattle.input_log.specs.Items.{IsItem, encoding, sized}
use Rattle.input_log.specs.inner.Heads.{head_parts}
use Rattle.input_log.specs.declared.item.LogItem.{LogItem}
use Rattle.input_log.specs.declared.item.LogItem.TheVariants.{Head, Load, Now, Rand}

-- fronts of one length are equal, and so is what follows them
pub same_fronts : (xs ys r s : List ℕ) → length xs ≡ length ys → xs ++ r ≡ ys ++ s → (xs ≡ ys) × (r ≡ s)
same_fronts [] [] r s sizes same = (refl, same)
same_fronts [] (y ∷ ys) r s sizes same = absurd (omega arith)
same_fronts (x ∷ xs) [] r s sizes same = absurd (omega arith)
same_fronts (x ∷ xs) (y ∷ ys) r s sizes same =
    let heads : x ≡ y = cc in
    let tails : xs ++ r ≡ ys ++ s = cc in
    let both = same_fronts xs ys r s (omega arith) tails in
    ((λ i. heads i ∷ both.0 i), both.1)

pub same_words : (n m : ℕ) (r s : List ℕ) → n < 2 ^ 32 → m < 2 ^ 32 → to_be_bytes w32 n ++ r ≡ to_be_bytes w32 m ++ s → (n ≡ m) × (r ≡ s)
same_words n m r s fits_n fits_m same =
    let both = same_fronts (to_be_bytes w32 n) (to_be_bytes w32 m) r s refl same in
    (sym (from_be_bytes-to_be_bytes_4 n fits_n) ∙ ap (from_be_bytes w32) both.0 ∙ from_be_bytes-to_be_bytes_4 m fits_m, both.1)

pub same_longs : (n m : ℕ) (r s : List ℕ) → n < 2 ^ 64 → m < 2 ^ 64 → to_be_bytes w64 n ++ r ≡ to_be_bytes w64 m ++ s → (n ≡ m) × (r ≡ s)
same_longs n m r s fits_n fits_m same =
    let both = same_fronts (to_be_bytes w64 n) (to_be_bytes w64 m) r s refl same in
    (sym (from_be_bytes-to_be_bytes_8 n fits_n) ∙ ap (from_be_bytes w64) both.0 ∙ from_be_bytes-to_be_bytes_8 m fits_m, both.1)

pub same_sized : (xs ys r s : List ℕ) → length xs < 2 ^ 32 → length ys < 2 ^ 32 → sized xs ++ r ≡ sized ys ++ s → (xs ≡ ys) × (r ≡ s)
same_sized xs ys r s fits_x fits_y same =
    let counts = same_words (length xs) (length ys) (xs ++ r) (ys ++ s) fits_x fits_y
    (sym (append_assoc (to_be_bytes w32 (length xs)) xs r) ∙ same ∙ append_assoc (to_be_bytes w32 (length ys)) ys s) in
    same_fronts xs ys r s counts.0 counts.1

-- a head's bytes, in front of the rest
pub head_bytes : (base : List ℕ) (budget : ℕ) (page rest : List ℕ) → encoding (Head base budget page) ++ rest ≡ 0 ∷ head_parts (utf8_of base) budget page rest
head_bytes base budget page rest =
    ap (λ (l : List ℕ). 0 ∷ l)
    (append_assoc (sized (utf8_of base)) (to_be_bytes w64 budget ++ sized page) rest
    ∙ ap (λ (l : List ℕ). sized (utf8_of base) ++ l) (append_assoc (to_be_bytes w64 budget) (sized page) rest))

-- bytes that are equal have equal parts
pub same_parts : (text : List ℕ) (budget : ℕ) (page r text' : List ℕ) (budget' : ℕ) (page' s : List ℕ) → length text < 2 ^ 32 → length text' < 2 ^ 32
    → budget < 2 ^ 64 → budget' < 2 ^ 64 → length page < 2 ^ 32 → length page' < 2 ^ 32
    → head_parts text budget page r ≡ head_parts text' budget' page' s → (text ≡ text') × (budget ≡ budget') × (page ≡ page') × (r ≡ s)
same_parts text budget page r text' budget' page' s ft ft' fu fu' fp fp' same =
    let texts = same_sized text text' (to_be_bytes w64 budget ++ (sized page ++ r)) (to_be_bytes w64 budget' ++ (sized page' ++ s)) ft ft' same in
    let budgets = same_longs budget budget' (sized page ++ r) (sized page' ++ s) fu fu' texts.1 in
    let pages = same_sized page page' r s fp fp' budgets.1 in
    (texts.0, budgets.0, pages.0, pages.1)

-- no item's bytes are a prefix of another's
pub same_item : (a b : LogItem) (r s : List ℕ) → IsItem a → IsItem b → encoding a ++ r ≡ encoding b ++ s → (a ≡ b) × (r ≡ s)
same_item (Head base budget page) (Head base' budget' page') r s va vb same =
    let inner : 0 ∷ head_parts (utf8_of base) budget page r ≡ 0 ∷ head_parts (utf8_of base') budget' page' s = sym (head_bytes base budget page r) ∙ same ∙ head_bytes base' budget' page' s in
    let behind : head_parts (utf8_of base) budget page r ≡ head_parts (utf8_of base') budget' page' s = cc in
    let parts = same_parts (utf8_of base) budget page r (utf8_of base') budget' page' s va.0.sized vb.0.sized (omega arith) (omega arith) (omega arith) (omega arith) behind in
    let bases = same_text base base' va.0.units vb.0.units va.0.well_formed vb.0.well_formed parts.0 in
    ((λ i. Head (bases i) (parts.1 i) (parts.2 i)), parts.3)
same_item (Load t) (Load t') r s va vb same =
    let e : to_be_bytes w64 t ++ r ≡ to_be_bytes w64 t' ++ s = cc in
    let both = same_longs t t' r s (omega arith) (omega arith) e in
    (ap Load both.0, both.1)
same_item (Now t) (Now t') r s va vb same =
    let e : to_be_bytes w64 t ++ r ≡ to_be_bytes w64 t' ++ s = cc in
    let both = same_longs t t' r s (omega arith) (omega arith) e in
    (ap Now both.0, both.1)
same_item (Rand t) (Rand t') r s va vb same =
    let e : to_be_bytes w32 t ++ r ≡ to_be_bytes w32 t' ++ s = cc in
    let both = same_words t t' r s va vb e in
    (ap Rand both.0, both.1)
same_item (Head base budget page) (Load t) r s va vb same = cc
same_item (Head base budget page) (Now t) r s va vb same = cc
same_item (Head base budget page) (Rand t) r s va vb same = cc
same_item (Load t) (Head base budget page) r s va vb same = cc
same_item (Load t) (Now u) r s va vb same = cc
same_item (Load t) (Rand u) r s va vb same = cc
same_item (Now t) (Head base budget page) r s va vb same = cc
same_item (Now t) (Load u) r s va vb same = cc
same_item (Now t) (Rand u) r s va vb same = cc
same_item (Rand t) (Head base budget page) r s va vb same = cc
same_item (Rand t) (Load u) r s va vb same = cc
same_item (Rand t) (Now u) r s va vb same = cc
