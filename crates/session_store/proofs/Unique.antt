-- In the same bytes recovery finds one thing.
use Rattle.std.proofs.Common.{◌≡◌, ◌≢◌, ℕ, ◌<◌, ◌^◌, List, [], ◌∷◌, ◌++◌, length, map, All, refl, sym, ◌∙◌, ap, subst, append_assoc}
use Rattle.std.proofs.lemmas.List.Elements.{All-head, All-tail}
use Rattle.input_log.specs.declared.item.LogItem.{LogItem}
use Rattle.input_log.proofs.Laws.{same_fronts, same_sized}
use Rattle.log_frames.specs.Frames.{OpensFrame, frame, opened}
use Rattle.session_store.specs.Session.{AreLaterItems, AreItems, HasHeader, IsLog, MayComeNext, items_of, magic, payload_of}
use Rattle.session_store.specs.Recovery.{Broken, Found, HasFrames, IsBroken, IsWhole, NoHeader, Recovers, Whole, place_after}
use Rattle.session_store.proofs.Frames.{later_frames, same_items}

-- the items of a frame behind the first
abbrev Later : List LogItem → Type 0
Later items = AreItems items × AreLaterItems items

abbrev Fits : List LogItem → Type 0
Fits items = length (payload_of items) < 2 ^ 32

-- no open, whole frame of such items stands there
abbrev Stops : (List LogItem → Type 0) → List ℕ → Type 0
Stops P bytes = (payload rest : List ℕ) → OpensFrame bytes payload rest → (items : List LogItem) → P items → payload ≢ payload_of items

same_frame : (p q r s : List ℕ) → length p < 2 ^ 32 → length q < 2 ^ 32 → 1 ∷ (frame p ++ r) ≡ 1 ∷ (frame q ++ s) → (p ≡ q) × (r ≡ s)
same_frame p q r s fits_p fits_q same =
    let behind : frame p ++ r ≡ frame q ++ s = cc in
    same_sized p q r s fits_p fits_q behind

one_frame : (bytes p q r s : List ℕ) → OpensFrame bytes p r → OpensFrame bytes q s → p ≡ q
one_frame bytes p q r s a b = (same_frame p q r s a.sized b.sized (sym a.is ∙ b.is)).0

opened_first : (p : List ℕ) (ps : List (List ℕ)) (rest : List ℕ) → opened (p ∷ ps) ++ rest ≡ 1 ∷ (frame p ++ (opened ps ++ rest))
opened_first p ps rest = ap (λ (l : List ℕ). 1 ∷ l) (append_assoc (frame p) (opened ps) rest)

some_behind : (ps : List (List ℕ)) (rest : List ℕ) → rest ≢ [] → opened ps ++ rest ≢ []
some_behind [] rest some = some
some_behind (p ∷ ps) rest some = λ e. cc

-- frames don't go on where they stop
goes_on : (P : List LogItem → Type 0) (bytes : List ℕ) (x : List LogItem) (xs : List (List LogItem)) (rest : List ℕ) → Stops P bytes → P x → Fits x → rest ≢ []
    → bytes ≡ opened (map payload_of (x ∷ xs)) ++ rest → ⊥
goes_on P bytes x xs rest stops may fits some is =
    stops (payload_of x) (opened (map payload_of xs) ++ rest)
    (record { sized = fits; gate = some_behind (map payload_of xs) rest some; is = is ∙ opened_first (payload_of x) (map payload_of xs) rest }) x may refl

-- the first frames are the same, and so is what follows them
same_first : (x y : List LogItem) (ps qs : List (List ℕ)) (r s : List ℕ) → AreItems x → AreItems y → Fits x → Fits y
    → opened (payload_of x ∷ ps) ++ r ≡ opened (payload_of y ∷ qs) ++ s → (x ≡ y) × (opened ps ++ r ≡ opened qs ++ s)
same_first x y ps qs r s valid_x valid_y fits_x fits_y same =
    let both = same_frame (payload_of x) (payload_of y) (opened ps ++ r) (opened qs ++ s) fits_x fits_y (sym (opened_first (payload_of x) ps r) ∙ same ∙ opened_first (payload_of y) qs s) in
    (same_items x y valid_x valid_y both.0, both.1)

same_later : (xs ys : List (List LogItem)) (r s : List ℕ) → All Later xs → All Later ys → All Fits xs → All Fits ys → r ≢ [] → s ≢ [] → Stops Later r → Stops Later s
    → opened (map payload_of xs) ++ r ≡ opened (map payload_of ys) ++ s → (xs ≡ ys) × (r ≡ s)
same_later [] [] r s later_x later_y fits_x fits_y some_r some_s stops_r stops_s same = (refl, same)
same_later [] (y ∷ ys) r s later_x later_y fits_x fits_y some_r some_s stops_r stops_s same =
    absurd (goes_on Later r y ys s stops_r (All-head Later y ys later_y) (All-head Fits y ys fits_y) some_s same)
same_later (x ∷ xs) [] r s later_x later_y fits_x fits_y some_r some_s stops_r stops_s same =
    absurd (goes_on Later s x xs r stops_s (All-head Later x xs later_x) (All-head Fits x xs fits_x) some_r (sym same))
same_later (x ∷ xs) (y ∷ ys) r s later_x later_y fits_x fits_y some_r some_s stops_r stops_s same =
    let first = same_first x y (map payload_of xs) (map payload_of ys) r s (All-head Later x xs later_x).0 (All-head Later y ys later_y).0 (All-head Fits x xs fits_x) (All-head Fits y ys fits_y) same in
    let others = same_later xs ys r s (All-tail Later x xs later_x) (All-tail Later y ys later_y) (All-tail Fits x xs fits_x) (All-tail Fits y ys fits_y) some_r some_s stops_r stops_s first.1 in
    ((λ i. first.0 i ∷ others.0 i), others.1)

same_log : (xs ys : List (List LogItem)) (r s : List ℕ) → IsLog xs → IsLog ys → All Fits xs → All Fits ys → r ≢ [] → s ≢ [] → Stops (MayComeNext xs) r → Stops (MayComeNext ys) s
    → opened (map payload_of xs) ++ r ≡ opened (map payload_of ys) ++ s → (xs ≡ ys) × (r ≡ s)
same_log [] [] r s log_x log_y fits_x fits_y some_r some_s stops_r stops_s same = (refl, same)
same_log [] (y ∷ ys) r s log_x log_y fits_x fits_y some_r some_s stops_r stops_s same = absurd (goes_on (MayComeNext []) r y ys s stops_r log_y.0 (All-head Fits y ys fits_y) some_s same)
same_log (x ∷ xs) [] r s log_x log_y fits_x fits_y some_r some_s stops_r stops_s same = absurd (goes_on (MayComeNext []) s x xs r stops_s log_x.0 (All-head Fits x xs fits_x) some_r (sym same))
same_log (x ∷ xs) (y ∷ ys) r s log_x log_y fits_x fits_y some_r some_s stops_r stops_s same =
    let first = same_first x y (map payload_of xs) (map payload_of ys) r s log_x.0.0 log_y.0.0 (All-head Fits x xs fits_x) (All-head Fits y ys fits_y) same in
    let others = same_later xs ys r s (later_frames x [] xs log_x.1) (later_frames y [] ys log_y.1) (All-tail Fits x xs fits_x) (All-tail Fits y ys fits_y) some_r some_s stops_r stops_s first.1 in
    ((λ i. first.0 i ∷ others.0 i), others.1)

-- frames that stop are all that the bytes have
same_frames : (bytes : List ℕ) (xs ys : List (List LogItem)) (r s : List ℕ) → HasFrames bytes xs r → HasFrames bytes ys s → Stops (MayComeNext xs) r → Stops (MayComeNext ys) s → (xs ≡ ys) × (r ≡ s)
same_frames bytes xs ys r s has_x has_y stops_r stops_s =
    same_log xs ys r s has_x.log has_y.log has_x.sized has_y.sized has_x.gate has_y.gate stops_r stops_s
    (same_fronts magic magic (opened (map payload_of xs) ++ r) (opened (map payload_of ys) ++ s) refl (sym has_x.is ∙ has_y.is)).1

stops_broken : (bytes : List ℕ) (at : ℕ) (payload : List ℕ) → (broken : IsBroken bytes at payload) → Stops (MayComeNext broken.frames) broken.rest
stops_broken bytes at payload broken found behind opens items follows same =
    broken.unread items follows (one_frame broken.rest payload found broken.after behind broken.opens opens ∙ same)

stops_whole : (bytes : List ℕ) (items : List LogItem) (end : ℕ) → (whole : IsWhole bytes items end) → Stops (MayComeNext whole.frames) whole.rest
stops_whole bytes items end whole found behind opens others follows same = whole.ends found behind opens

header_of : (bytes : List ℕ) (frames : List (List LogItem)) (rest : List ℕ) → HasFrames bytes frames rest → HasHeader bytes
header_of bytes [] [] has = absurd (has.gate refl)
header_of bytes [] (gate ∷ rest) has = record { gate = gate; rest = rest; is = has.is }
header_of bytes (x ∷ xs) rest has = record { gate = 1; rest = (frame (payload_of x) ++ opened (map payload_of xs)) ++ rest; is = has.is }

one_broken : (bytes : List ℕ) (at at' : ℕ) (p q : List ℕ) → IsBroken bytes at p → IsBroken bytes at' q → Broken at p ≡ Broken at' q
one_broken bytes at at' p q a b =
    let same = same_frames bytes a.frames b.frames a.rest b.rest a.has b.has (stops_broken bytes at p a) (stops_broken bytes at' q b) in
    let places : at ≡ at' = a.place ∙ ap place_after same.0 ∙ sym b.place in
    let opens : OpensFrame b.rest p a.after = subst (λ (l : List ℕ). OpensFrame l p a.after) same.1 a.opens in
    let payloads = one_frame b.rest p q a.after b.after opens b.opens in
    λ i. Broken (places i) (payloads i)

one_whole : (bytes : List ℕ) (items others : List LogItem) (end end' : ℕ) → IsWhole bytes items end → IsWhole bytes others end' → Whole items end ≡ Whole others end'
one_whole bytes items others end end' a b =
    let same = same_frames bytes a.frames b.frames a.rest b.rest a.has b.has (stops_whole bytes items end a) (stops_whole bytes others end' b) in
    let inside : items ≡ others = a.items_are ∙ ap items_of same.0 ∙ sym b.items_are in
    let places : end ≡ end' = a.place ∙ ap place_after same.0 ∙ sym b.place in
    λ i. Whole (inside i) (places i)

not_both : (bytes : List ℕ) (items : List LogItem) (at end : ℕ) (payload : List ℕ) → IsBroken bytes at payload → IsWhole bytes items end → ⊥
not_both bytes items at end payload a b =
    let same = same_frames bytes a.frames b.frames a.rest b.rest a.has b.has (stops_broken bytes at payload a) (stops_whole bytes items end b) in
    b.ends payload a.after (subst (λ (l : List ℕ). OpensFrame l payload a.after) same.1 a.opens)

pub one_found : (bytes : List ℕ) (a b : Found) → Recovers bytes a → Recovers bytes b → a ≡ b
one_found bytes NoHeader NoHeader a b = refl
one_found bytes NoHeader (Broken at payload) a b = absurd (a (header_of bytes b.frames b.rest b.has))
one_found bytes NoHeader (Whole items end) a b = absurd (a (header_of bytes b.frames b.rest b.has))
one_found bytes (Broken at payload) NoHeader a b = absurd (b (header_of bytes a.frames a.rest a.has))
one_found bytes (Broken at payload) (Broken at' payload') a b = one_broken bytes at at' payload payload' a b
one_found bytes (Broken at payload) (Whole items end) a b = absurd (not_both bytes items at end payload a b)
one_found bytes (Whole items end) NoHeader a b = absurd (b (header_of bytes a.frames a.rest a.has))
one_found bytes (Whole items end) (Broken at payload) a b = absurd (not_both bytes items at end payload b a)
one_found bytes (Whole items end) (Whole others end') a b = one_whole bytes items others end end' a b
